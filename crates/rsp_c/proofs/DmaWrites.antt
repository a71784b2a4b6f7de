-- A write of an SP register by a host that moves the bytes of its DMA itself.
use Rattle.std.proofs.Common.{◌≡◌, ◌<◌, ◌⊎◌, inl, inr, ℕ, ◌%◌, ◌==◌, ◌||◌, Bool, true, false, refl, sym, ap, subst, ◌∙◌, Option, Some, None, arith}
use Rattle.std.proofs.lemmas.Bool.{eqb-true}
use Rattle.std.proofs.lemmas.Bool.Decides.{nat_tests}
use Rattle.std.specs.Prelude.{if◌then◌else◌, unwrap_or}
use Rattle.rsp_regs.specs.Sp.{Sp, AreSpRanges, transfer, after_dma, after_register_write}
use Rattle.rsp_regs.specs.Dma.{copied_in}
use Rattle.rsp_regs.specs.Described.{no_dma, dma_of, described}
use Rattle.rsp_regs.specs.declared.dma.Dma.{Dma}
use Rattle.rsp_regs.specs.declared.parts.SpParts.{SpParts}
use Rattle.rsp_machine.specs.State.{State}
use Rattle.rsp_machine.specs.Host.{moved_in, moved_out, register_written}
use Rattle.rsp_machine.specs.Registers.{is_whole, sp_fault}
use Rattle.rsp_machine.specs.DescribedDmas.{moved_as_described}
use Rattle.rsp_machine.proofs.Described.{described_moves}
use Rattle.rsp_c.specs.DmaWrites.{dma_written}
use Rattle.rsp_c.specs.Laws.{DmaWritesAreWrites}

-- values of SP registers in their ranges are those of a machine
whole_is : (step limit n : ℕ) → n < limit → n % step ≡ 0 → is_whole step limit n ≡ true
whole_is step limit n h e = grind (arith, nat_tests)

pub parts_fit : (p : SpParts) → AreSpRanges p.memory p.dram p.skip → sp_fault p ≡ None
parts_fit p is = rw (
  whole_is 8 8192 p.memory is.memory.0 is.memory.1,
  whole_is 8 16777216 p.dram is.dram.0 is.dram.1,
  whole_is 8 4096 p.skip is.skip.0 is.skip.1,
) refl

-- a write with the memories as they were changes the registers alone
bytes_left : (a b : Bool) (v : ℕ) (q : Sp) (s : State)
    → record (record (if a then moved_in v s else if b then moved_out v s else s) { sp = q }) { dmem = s.dmem; imem = s.imem; rdram = s.rdram } ≡ record s { sp = q }
bytes_left true b v q s = refl
bytes_left false true v q s = refl
bytes_left false false v q s = refl

written : (n v : ℕ) (s : State) → dma_written n v s ≡ record s { sp = after_register_write n v s.sp }
written n v s = bytes_left (n % 16 == 2) (n % 16 == 3) v (after_register_write n v s.sp) s

-- a write without a DMA
not_moved : (a b : Bool) (x y : Dma) (v : ℕ) (q : Sp) (s : State) → (if a then Some x else if b then Some y else None) ≡ None
    → record (if a then moved_in v s else if b then moved_out v s else s) { sp = q } ≡ record s { sp = q }
not_moved true b x y v q s e = cc
not_moved false true x y v q s e = cc
not_moved false false x y v q s e = refl

pub without_dma : (n v : ℕ) (s : State) → described n v s.sp ≡ None → register_written n v s ≡ dma_written n v s
without_dma n v s e =
    not_moved (n % 16 == 2) (n % 16 == 3) (dma_of 0 v s.sp) (dma_of 1 v s.sp) v (after_register_write n v s.sp) s e ∙ sym (written n v s)

-- a write with one
two_or_three : (k : ℕ) (b c : Bool) (x y d : Dma) → (k == 2) ≡ b → (k == 3) ≡ c → (if b then Some x else if c then Some y else None) ≡ Some d → (k ≡ 2) ⊎ (k ≡ 3)
two_or_three k true c x y d e f h = inl (eqb-true k 2 e)
two_or_three k false true x y d e f h = inr (eqb-true k 3 f)
two_or_three k false false x y d e f h = cc

length_case : (k : ℕ) (x y z w : Sp) → (k ≡ 2) ⊎ (k ≡ 3) → (if k == 0 then x else if k == 1 then y else if k == 2 || k == 3 then z else w) ≡ z
length_case k x y z w (inl e) = subst (λ j. (if j == 0 then x else if j == 1 then y else if j == 2 || j == 3 then z else w) ≡ z) (sym e) refl
length_case k x y z w (inr e) = subst (λ j. (if j == 0 then x else if j == 1 then y else if j == 2 || j == 3 then z else w) ≡ z) (sym e) refl

length_write : (n v : ℕ) (q : Sp) (d : Dma) → described n v q ≡ Some d → after_register_write n v q ≡ after_dma (transfer v q) q
unfolding after_register_write
length_write n v q d e = length_case (n % 16) _ _ (after_dma (transfer v q) q) _ (two_or_three (n % 16) (n % 16 == 2) (n % 16 == 3) (dma_of 0 v q) (dma_of 1 v q) d refl refl e)

pub with_dma : (n v : ℕ) (s : State) (d : Dma) → described n v s.sp ≡ Some d → dma_written n v s ≡ record s { sp = after_dma (transfer v s.sp) s.sp }
with_dma n v s d e = written n v s ∙ ap (λ (q : Sp). record s { sp = q }) (length_write n v s.sp d e)

-- copying the bytes changes no register
apart : (out imem : Bool) (d : Dma) (q : Sp) (s : State) → d.to_rdram == 1 ≡ out → d.bank == 1 ≡ imem → moved_as_described d (record s { sp = q }) ≡ record (moved_as_described d s) { sp = q }
apart true imem d q s e f = rw e refl
apart false true d q s e f = rw (e, f) refl
apart false false d q s e f = rw (e, f) refl

nothing_moved : (s : State) → moved_as_described no_dma s ≡ s
unfolding copied_in
nothing_moved s = refl

pub dma_writes_are_writes : DmaWritesAreWrites
dma_writes_are_writes n v s is = by (described n v s.sp) refl
  where
    q : Sp
    q = after_register_write n v s.sp

    by : (o : Option Dma) → described n v s.sp ≡ o → moved_as_described (unwrap_or o no_dma) (dma_written n v s) ≡ register_written n v s
    by None e = nothing_moved (dma_written n v s) ∙ sym (without_dma n v s e)
    by (Some d) e =
        ap (moved_as_described d) (written n v s) ∙ apart (d.to_rdram == 1) (d.bank == 1) d q s refl refl ∙ sym (described_moves n v s d is.sp e)

pub ruleset dma_writes = (parts_fit, without_dma, with_dma, dma_writes_are_writes)
