use Rattle.rsp_cli.proofs.Carried.{carried}
use Rattle.rsp_cli.proofs.program.carry_out.Goals as goal

pub returns-clause-worked : goal.returns-clause-worked
returns-clause-worked g c = (
  g.W.Write.contents c.answer_request-ended.result.sink.inner,
  carried (g.F.FileStore.same c.args.files.now) g.S.ScriptRunner.out_of g.S.ScriptRunner.image_of c.args.asked.now (record {
    before = g.F.FileStore.content c.args.files.now;
    after = g.F.FileStore.content c.answer_request-ended.new.files;
    input = g.R.Read.remaining c.args.input;
    output = g.W.Write.contents c.args.output;
    written = g.W.Write.contents c.answer_request-ended.result.sink.inner;
  }) c.answer_request-ended.result.result c.status_after.result (c.in_default.ensures.address, c.in_default.ensures.inputs) c.status_after.ensures c.answer_request-ended.ensures.work,
)
