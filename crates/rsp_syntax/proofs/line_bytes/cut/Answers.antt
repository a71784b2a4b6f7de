use Rattle.std.proofs.Common.{ap, ◌∙◌, sym, ◌+◌, ◌-◌, length, take, drop, arith, ◌≡◌}
use Rattle.std.specs.Prelude.{Some}
use Rattle.std.proofs.lemmas.List.{take_all, length-drop}
use Rattle.rsp_syntax.proofs.Cuts.{cut_here, cut_none}
use Rattle.rsp_syntax.proofs.line_bytes.cut.Goals as goal

pub returns-then-is_at : goal.returns-then-is_at
returns-then-is_at c =
    let text = c.args.text.now in
    let at = c.loop-at.at in
    ap (λ t. Some (take at text, t)) (take_all (length text - (at + 1)) (drop (at + 1) text) (omega (arith, length-drop (at + 1) text)))
    ∙ sym (cut_here c.args.boundary text at (omega arith) c.loop-at.invariant (cc))

pub returns : goal.returns
returns c =
    let whole : take c.loop-at.at c.args.text.now ≡ c.args.text.now = take_all c.loop-at.at c.args.text.now (omega arith) in
    sym (cut_none c.args.boundary c.args.text.now (rw whole at c.loop-at.invariant))
