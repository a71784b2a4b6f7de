-- Reads that change nothing.
use Rattle.std.proofs.Common.{◌≡◌, ◌≢◌, ℕ, ◌%◌, true, false, ap, cond}
use Rattle.std.proofs.lemmas.Grind.{common_steps}
use Rattle.std.proofs.Common.{arith}
use Rattle.std.specs.Prelude.{nat_eq}
use Rattle.rsp_regs.specs.Sp.{after_read}
use Rattle.rsp_machine.specs.State.{State}
use Rattle.rsp_machine.specs.Host.{register_read}

pub read-others : (n : ℕ) (s : State) → n % 16 ≢ 7 → register_read n s ≡ s
unfolding after_read
read-others n s h =
    let f : nat_eq (n % 16) 7 ≡ false = grind (arith, common_steps) in
    ap (λ b. let t : State = record s { sp = cond b (record s.sp { semaphore = true }) s.sp } in t) f

pub ruleset hosts = (read-others)
