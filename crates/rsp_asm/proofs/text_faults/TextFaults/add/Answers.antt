use Rattle.std.proofs.Common.{sym, ap, ◌∙◌, ◌++◌, take, arith}
use Rattle.rsp_asm.specs.TextFaults.{reported}
use Rattle.rsp_asm.proofs.FaultWalk.{one_more, none_more}
use Rattle.rsp_asm.proofs.text_faults.TextFaults.add.Goals as goal
use Rattle.rsp_asm.proofs.text_faults.TextFaults.add.Goals.{then-len-lt-LIMIT+in_ok-push, else-len-lt-LIMIT}

pub returns-after-len-lt-LIMIT-clause-first : goal.returns-after-len-lt-LIMIT-clause-first
returns-after-len-lt-LIMIT-clause-first c =
    let first = c.args.self.now.first.items in
    let length_is = c.len.ensures in
    let limit = ap (λ found. take 20 (first ++ reported c.args.number found)) c.in-Some.is in
    elim c.if-len-lt-LIMIT.branch [
      | then-len-lt-LIMIT+in_ok-push w ↦
          let below = w.if-len-lt-LIMIT.true in
          ap (λ s. s.first.items) w.self-is ∙ w.in_ok-push.ensures.items ∙ one_more first c.args.number c.in-Some.kind (omega (arith, below, length_is)) ∙ sym limit
      | else-len-lt-LIMIT w ↦
          let full = w.if-len-lt-LIMIT.false in
          ap (λ s. s.first.items) w.self-is ∙ none_more first (reported c.args.number c.args.found) c.requires.few (omega (arith, full, length_is))
    ]
