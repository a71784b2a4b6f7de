use Rattle.std.proofs.Common.{◌≡◌, ℕ, ◌<◌, ◌∙◌, ap, sym, get_or, take, replicate, length, arith}
use Rattle.std.proofs.lemmas.List.{take-replicate, length-replicate}
use Rattle.std.proofs.lemmas.Bool.Decides.{nat_tests}
use Rattle.rsp_regs.proofs.Pairs.{image_byte-run, image_byte-past}
use Rattle.rsp_regs.proofs.transfer.run_or_zeros.Goals as goal

pub returns-then-is_empty-clause-bytes : goal.returns-then-is_empty-clause-bytes
returns-then-is_empty-clause-bytes c = λ k h.
    let z : length c.run-run.result.now ≡ 0 = grind (arith, nat_tests) in
    let n = c.min-room.result in
    let zeros : take n (replicate {A = ℕ} 4096 0) ≡ replicate {A = ℕ} n 0 = take-replicate n 4096 0 (omega arith) in
    let in_zeros : k < length (take n (replicate {A = ℕ} 4096 0)) = h in
    let in_room : k < n = omega (arith, in_zeros, ap length zeros, length-replicate {A = ℕ} n 0) in
    image_byte-past c.args.rdram.now c.args.dram k n _ c.run-run.ensures.value z (omega arith) in_room ∙ ap (λ xs. get_or xs k 0) (sym zeros)

pub returns-else-is_empty-clause-bytes : goal.returns-else-is_empty-clause-bytes
returns-else-is_empty-clause-bytes c = λ k h.
    image_byte-run c.args.rdram.now c.args.dram c.min-room.result k _ (omega (arith, c.run-run.ensures.within.at_most)) c.run-run.ensures.value h
