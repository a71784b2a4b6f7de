use Rattle.std.proofs.Common.{◌+◌, ◌*◌, [], ap, ◌∙◌, refl, arith}
use Rattle.std.proofs.lemmas.List.{length-set}
use Rattle.rsp_memory.specs.Memory.{word_at}
use Rattle.rsp_c.specs.ToC.{c_line}
use Rattle.rsp_c.proofs.Lines.{lines-none, lines-more, ended-more}
use Rattle.rsp_c.proofs.texts.fill_lines.Goals as goal

pub loop-i-init : goal.loop-i-init
loop-i-init c = record { value = lines-none c.args.imem.now c.args.address 0 [] refl; ended = λ k d h. absurd (omega (arith, h)); len = refl }

pub loop-i-preserved : goal.loop-i-preserved
loop-i-preserved c =
    let at = c.args.address + 4 * c.loop-i.i in
    let i = c.loop-i.invariant in
    record {
      value = lines-more c.args.imem.now c.args.address c.loop-i.i c.loop-i.lines c.line_of.result (omega (arith, i.len)) i.value
          (c.line_of.ensures.value ∙ ap (λ w. c_line w at) (c.word.ensures ∙ ap (λ a. word_at c.args.imem.now a) c.from.ensures));
      ended = ended-more c.loop-i.i c.loop-i.lines c.line_of.result (omega (arith, i.len)) i.ended c.line_of.ensures.ended;
      len = length-set c.loop-i.lines c.loop-i.i c.line_of.result ∙ i.len;
    }
