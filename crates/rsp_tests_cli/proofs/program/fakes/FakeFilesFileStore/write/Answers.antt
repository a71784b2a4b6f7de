use Rattle.std.proofs.Common.{option_map, string_bytes, sym, ◌∙◌}
use Rattle.rsp_tests_cli.proofs.Files.{others}
use Rattle.rsp_tests_cli.proofs.program.fakes.FakeFilesFileStore.write.Goals as goal

pub returns-clause-others : goal.returns-clause-others
returns-clause-others c = rw (c.in-Ok-Ok.ensures.ok, c.in-Ok-Ok.ensures'.items) (others (option_map string_bytes c.args.self.now.saved_name) c.args.name.now c.args.self.now.saved.items c.args.bytes.now c.args.self.now.read_fault c.args.self.now.image.now (sym c.may_save.ensures ∙ c.if-not-may_save.false))
