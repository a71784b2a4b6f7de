-- Vector loads as lists of pairs: a byte or a lane of a register, and the address of the byte that it takes.
-- Sources: Nintendo's RSP Programmer's Guide, chapter on vector unit instructions; the N64brew Wiki's page "Reality Signal Processor/CPU Core".
-- That LTV's rule also holds for an odd element, and at an address that isn't a multiple of 16, is our choice.
use Rattle.std.specs.Prelude.{ℕ, ◌≡◌, ◌⊎◌, ◌+◌, ◌-◌, ◌*◌, ◌/◌, ◌%◌, min, List, slice_set}
use Rattle.std.specs.List.{fold}
use Rattle.rsp_memory.specs.Memory.{byte_at}
use Rattle.rsp_lanes.specs.Lanes.{with_register_byte}
use Rattle.rsp_decode.specs.declared.inst.Inst.{Inst}
use Rattle.rsp_decode.specs.declared.inst.Inst.TheVariants.{VectorLoad}
use Rattle.rsp_decode.specs.declared.vector.VectorLoadOp.{VectorLoadOp}
use Rattle.rsp_decode.specs.declared.vector.VectorLoadOp.TheVariants.{Lbv, Lsv, Llv, Ldv, Lqv, Lrv, Lpv, Luv, Lhv, Lfv, Ltv}
use Rattle.rsp_loadstore.specs.File.{vector, with_vector}
use Rattle.rsp_loadstore.specs.Pairs.{for_each, quadword_start, doubleword_start, upper_half, wrapped_address, group_start}

-- one pair: a byte of a register takes the byte at an address, or a lane takes that byte times a factor; the address is
-- modulo 4096
pub data Load : Type 0 where
  to_byte : (register byte address : ℕ) → Load
  to_lane : (register lane factor address : ℕ) → Load

-- the registers after one pair is applied
unfoldable pub loaded : List ℕ → List (List ℕ) → Load → List (List ℕ)
loaded memory file (to_byte r i a) = with_vector file r (with_register_byte (vector file r) i (byte_at memory a))
loaded memory file (to_lane r i f a) = with_vector file r (slice_set (vector file r) i (byte_at memory a * f))

-- the registers after the pairs are applied in order
unfoldable pub after_load : List ℕ → List (List ℕ) → List Load → List (List ℕ)
after_load memory file ps = fold (loaded memory) file ps

-- The pairs of each load, by its register vt, its element e and its address a. LBV, LSV, LLV and LDV load 1, 2, 4 and 8
-- bytes, LQV those from a to the end of a's quadword, LRV those of the quadword before a, and none goes past register
-- byte 15. LPV and LUV load a lane from each byte, LHV from every second, LFV four lanes from every fourth. LTV loads a
-- lane of each of the eight registers of a group.
-- x - y is 0 if y is greater than x. The second argument of `wrapped_address` counts modulo 16, so 16 - e is -e there.
unfoldable pub load_pairs : VectorLoadOp → ℕ → ℕ → ℕ → List Load
load_pairs Lbv vt e a = for_each (min 1 (16 - e)) (λ k. to_byte vt (e + k) (a + k))
load_pairs Lsv vt e a = for_each (min 2 (16 - e)) (λ k. to_byte vt (e + k) (a + k))
load_pairs Llv vt e a = for_each (min 4 (16 - e)) (λ k. to_byte vt (e + k) (a + k))
load_pairs Ldv vt e a = for_each (min 8 (16 - e)) (λ k. to_byte vt (e + k) (a + k))
load_pairs Lqv vt e a = for_each (min (16 - a % 16) (16 - e)) (λ k. to_byte vt (e + k) (a + k))
load_pairs Lrv vt e a = for_each (a % 16 - e) (λ k. to_byte vt (16 - a % 16 + e + k) (quadword_start a + k))
load_pairs Lpv vt e a = for_each 8 (λ j. to_lane vt j 256 (wrapped_address a (16 - e + j)))
load_pairs Luv vt e a = for_each 8 (λ j. to_lane vt j 128 (wrapped_address a (16 - e + j)))
load_pairs Lhv vt e a = for_each 8 (λ j. to_lane vt j 128 (wrapped_address a (16 - e + 2 * j)))
load_pairs Lfv vt e a = for_each 4 (λ j. to_lane vt (e / 2 + j) 128 (wrapped_address a (4 * j)))
load_pairs Ltv vt e a = for_each 16 (λ k. to_byte (group_start vt + (e / 2 + k / 2) % 8) k (doubleword_start a + (k + e + upper_half a) % 16))

-- the elements of LFV are 0 and 8
abbrev pub IsLoadElement : VectorLoadOp → ℕ → Type 0
IsLoadElement Lfv e = (e ≡ 0) ⊎ (e ≡ 8)
IsLoadElement _ e = Unit {0}

-- the registers after a vector load at the address a; another instruction changes none
unfoldable pub file_after_load : Inst → ℕ → List ℕ → List (List ℕ) → List (List ℕ)
file_after_load (VectorLoad op f) a memory file = after_load memory file (load_pairs op f.vt f.element a)
file_after_load _ a memory file = file
