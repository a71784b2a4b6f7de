-- Registers that stay as they were, but for some.
use Rattle.std.specs.Prelude.{ℕ, ◌≡◌, ◌&&◌, nat_lt, nat_eq, Bool, true, false, ◌||◌, List, [], ◌∷◌, map}
use Rattle.std.specs.List.{list_all, range_with_len}
use Rattle.rsp_decode.specs.declared.inst.Inst.{Inst}
use Rattle.rsp_scalar.specs.Registers.{register, with_register}
use Rattle.rsp_loadstore.specs.File.{vector, with_vector}
use Rattle.rsp_machine.specs.State.{State, IsState}
use Rattle.rsp_microcode.specs.Reads.{after_writes}
use Rattle.rsp_microcode.specs.Runs.{address_after_words}
use Rattle.rsp_microcode.specs.Frames.{of_rows, with_parts, spare_scalar, spare_vector}

-- the scalar registers `before`, but with those of these numbers from `after`
abbrev pub registers_but : List ℕ → List ℕ → List ℕ → List ℕ
registers_but ns before after = after_writes with_register (map (λ n. (n, register after n)) ns) before

-- the vector registers `before`, but with those of these numbers from `after`
abbrev pub vectors_but : List ℕ → List (List ℕ) → List (List ℕ) → List (List ℕ)
vectors_but ns before after = after_writes with_vector (map (λ n. (n, vector after n)) ns) before

abbrev pub is_among : ℕ → List ℕ → Bool
is_among n [] = false
is_among n (m ∷ ms) = nat_eq n m || is_among n ms

abbrev pub are_numbers : List ℕ → Bool
are_numbers ns = list_all (λ n. nat_lt n 32) ns

-- the instructions write no scalar registers but these, and no vector registers but those
abbrev pub write_only : List ℕ → List ℕ → List Inst → Bool
write_only ns ms code =
    (are_numbers ns && are_numbers ms)
    && (list_all (λ n. is_among n ns || spare_scalar n code) (range_with_len 1 31) && list_all (λ n. is_among n ms || spare_vector n code) (range_with_len 0 32))

-- what instructions don't write is as it was
pub record Spares (code : List Inst) (s t : State) : Type 0 where
  pub scalars : (n : ℕ) → spare_scalar n code ≡ true → register t.registers n ≡ register s.registers n
  pub vectors : (n : ℕ) → spare_vector n code ≡ true → vector t.vectors n ≡ vector s.vectors n

-- s with pc p and npc q, and with the parts of t that the instructions may change; of the registers only these
abbrev pub with_written_at : ℕ → ℕ → List Inst → List ℕ → List ℕ → State → State → State
with_written_at p q code ns ms s t = record (with_parts (of_rows code) s t) {
  pc = p;
  npc = q;
  registers = registers_but ns s.registers t.registers;
  vectors = vectors_but ms s.vectors t.vectors;
}

-- the same after the words
abbrev pub with_written : List ℕ → List Inst → List ℕ → List ℕ → State → State → State
with_written words code ns ms s t = with_written_at (address_after_words words s.pc) (address_after_words words s.npc) code ns ms s t

-- so the registers are those of the start, but for the ones that they write
abbrev pub KeptBut : Type 0
KeptBut = (code : List Inst) (s t : State) → IsState s → IsState t → Spares code s t → (ns ms : List ℕ) → write_only ns ms code ≡ true
    → (t.registers ≡ registers_but ns s.registers t.registers) × (t.vectors ≡ vectors_but ms s.vectors t.vectors)
