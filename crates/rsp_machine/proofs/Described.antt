-- A described DMA is the one that the write does.
use Rattle.std.proofs.Common.{◌≡◌, ℕ, ◌<◌, ◌/◌, ◌%◌, ◌==◌, Bool, true, false, refl, ap, ◌∙◌, Some, None, arith}
use Rattle.std.specs.Prelude.{if◌then◌else◌}
use Rattle.rsp_numbers.specs.Numbers.{bit_set}
use Rattle.rsp_regs.specs.Sp.{Sp, IsSp, transfer, dmem_from_rdram, imem_from_rdram, rdram_from_bank, after_register_write}
use Rattle.rsp_regs.specs.Dma.{pairs, first_rows, copied_in}
use Rattle.rsp_regs.specs.Described.{dma_of}
use Rattle.rsp_machine.specs.State.{State}
use Rattle.rsp_machine.specs.Host.{moved_in, moved_out}
use Rattle.rsp_machine.specs.DescribedDmas.{described_pairs, moved_as_described, DescribedDmasMove}

-- bit 12 of SP_MEM_ADDR, which has no higher bit, is the bank
bank_bit : (m : ℕ) → m < 8192 → bit_set m 12 ≡ (m / 4096 == 1)
bank_bit m h =
    let low : m / 4096 % 2 ≡ m / 4096 = omega arith in
    ap (λ k. k == 1) low

same_pairs : (to v : ℕ) (s : Sp) → pairs (transfer v s) ≡ described_pairs (dma_of to v s)
unfolding first_rows
same_pairs to v s = refl

in_moved : (v : ℕ) (s : State) → IsSp s.sp → moved_in v s ≡ moved_as_described (dma_of 0 v s.sp) s
unfolding dmem_from_rdram imem_from_rdram
in_moved v s is =
    rw (← bank_bit s.sp.memory is.kept.memory.0, ← same_pairs 0 v s.sp) (by (bit_set s.sp.memory 12))
  where
    by : (b : Bool) → record s { dmem = if b then s.dmem else copied_in s.rdram s.dmem (pairs (transfer v s.sp)); imem = if b then copied_in s.rdram s.imem (pairs (transfer v s.sp)) else s.imem }
        ≡ (if b then record s { imem = copied_in s.rdram s.imem (pairs (transfer v s.sp)) } else record s { dmem = copied_in s.rdram s.dmem (pairs (transfer v s.sp)) })
    by true = refl
    by false = refl

out_moved : (v : ℕ) (s : State) → IsSp s.sp → moved_out v s ≡ moved_as_described (dma_of 1 v s.sp) s
unfolding rdram_from_bank
out_moved v s is = rw (← bank_bit s.sp.memory is.kept.memory.0, ← same_pairs 1 v s.sp) refl

pub described_moves : DescribedDmasMove
described_moves n v s d is e = by (n % 16 == 2) (n % 16 == 3) e
  where
    by : (x y : Bool) → (if x then Some (dma_of 0 v s.sp) else if y then Some (dma_of 1 v s.sp) else None) ≡ Some d
        → record (if x then moved_in v s else if y then moved_out v s else s) { sp = after_register_write n v s.sp }
        ≡ record (moved_as_described d s) { sp = after_register_write n v s.sp }
    by true y f =
        let same : dma_of 0 v s.sp ≡ d = cc in
        ap (λ (t : State). record t { sp = after_register_write n v s.sp }) (in_moved v s is ∙ ap (λ a. moved_as_described a s) same)
    by false true f =
        let same : dma_of 1 v s.sp ≡ d = cc in
        ap (λ (t : State). record t { sp = after_register_write n v s.sp }) (out_moved v s is ∙ ap (λ a. moved_as_described a s) same)
    by false false f = absurd cc
