-- What straight microcode leaves as it was: computed from the instructions alone.
use Rattle.std.specs.Prelude.{ℕ, ◌≡◌, ◌≤◌, ◌+◌, ◌==◌, nat_lt, nat_le, not, Bool, true, false, ◌||◌, if◌then◌else◌, List, [], ◌∷◌}
use Rattle.std.specs.List.{list_all}
use Rattle.rsp_decode.specs.declared.inst.Inst.{Inst}
use Rattle.rsp_machine.specs.Footprint.{footprint, scalar_in, vectors_in}
use Rattle.rsp_machine.specs.declared.footprint.Footprint.{Footprint}
use Rattle.rsp_machine.specs.declared.footprint.Footprint.TheVariants as of
use Rattle.rsp_machine.specs.State.{State}
use Rattle.rsp_scalar.specs.Registers.{register}
use Rattle.rsp_loadstore.specs.File.{vector}
use Rattle.rsp_microcode.specs.Runs.{branches, goes_on, ran_through}

-- the parts of the state that instructions may change, besides pc and npc
pub record Touch : Type 0 where
  pub registers : Bool
  pub vectors : Bool
  pub accumulators : Bool
  pub flags : Bool
  pub divider : Bool
  pub dmem : Bool

abbrev pub nothing : Touch
nothing = record { registers = false; vectors = false; accumulators = false; flags = false; divider = false; dmem = false }

-- the parts that a footprint names; a logic instruction writes the flags as they were
abbrev pub parts_in : Footprint → Touch
parts_in (of.Register n) = record nothing { registers = true }
parts_in (of.Sp n) = record nothing { registers = true }
parts_in (of.Bytes a) = record nothing { dmem = true }
parts_in (of.Vector n) = record nothing { vectors = true }
parts_in (of.Group n) = record nothing { vectors = true }
parts_in (of.Product n) = record nothing { vectors = true; accumulators = true }
parts_in (of.Low n) = record nothing { vectors = true; accumulators = true; flags = true }
parts_in (of.Sum n) = record nothing { vectors = true; accumulators = true; flags = true }
parts_in (of.Choice n) = record nothing { vectors = true; accumulators = true; flags = true }
parts_in (of.Clip n) = record nothing { vectors = true; accumulators = true; flags = true }
parts_in (of.Divide n) = record nothing { vectors = true; accumulators = true; divider = true }
parts_in of.Flags = record nothing { flags = true }
parts_in _ = nothing

-- the parts that an instruction touches
abbrev pub of_row : Inst → Touch
of_row i = parts_in (footprint i 0)

abbrev pub both : Touch → Touch → Touch
both a b = record {
  registers = a.registers || b.registers;
  vectors = a.vectors || b.vectors;
  accumulators = a.accumulators || b.accumulators;
  flags = a.flags || b.flags;
  divider = a.divider || b.divider;
  dmem = a.dmem || b.dmem;
}

abbrev pub of_rows : List Inst → Touch
of_rows [] = nothing
of_rows (i ∷ is) = both (of_row i) (of_rows is)

-- s, with pc, npc and these parts of t
abbrev pub with_parts : Touch → State → State → State
with_parts k s t = record s {
  pc = t.pc;
  npc = t.npc;
  registers = if k.registers then t.registers else s.registers;
  vectors = if k.vectors then t.vectors else s.vectors;
  accumulators = if k.accumulators then t.accumulators else s.accumulators;
  flags = if k.flags then t.flags else s.flags;
  divider = if k.divider then t.divider else s.divider;
  dmem = if k.dmem then t.dmem else s.dmem;
}

-- instructions that go on, branches and jumps
abbrev pub stays : Inst → Bool
stays i = goes_on i || branches i

abbrev pub all_stay : List Inst → Bool
all_stay is = list_all stays is

-- all that no instruction may change is as it was
abbrev pub Frame : Type 0
Frame = (code : List Inst) (s : State) → all_stay code ≡ true → ran_through code s ≡ with_parts (of_rows code) s (ran_through code s)

-- the scalar register that an instruction writes; 0 if it writes none
abbrev pub register_of : Inst → ℕ
register_of i = scalar_in (footprint i 0)

abbrev pub scalars_below : ℕ → List Inst → Bool
scalars_below bound is = list_all (λ i. nat_lt (register_of i) bound) is

-- the instructions don't write scalar register n
abbrev pub spare_scalar : ℕ → List Inst → Bool
spare_scalar n is = list_all (λ i. not (register_of i == n)) is

-- such a register is as it was
abbrev pub ScalarsSpared : Type 0
ScalarsSpared = (code : List Inst) (n : ℕ) (s : State) → all_stay code ≡ true → spare_scalar n code ≡ true
    → register (ran_through code s).registers n ≡ register s.registers n

-- the vector registers that an instruction may write: the first of them, and how many
abbrev pub vectors_of : Inst → ℕ × ℕ
vectors_of i = vectors_in (footprint i 0)

-- an instruction doesn't write vector register n
abbrev pub spares_vector : ℕ → Inst → Bool
spares_vector n i = nat_lt n (vectors_of i).0 || nat_le ((vectors_of i).0 + (vectors_of i).1) n

abbrev pub spare_vector : ℕ → List Inst → Bool
spare_vector n is = list_all (spares_vector n) is

abbrev pub vectors_below : ℕ → List Inst → Bool
vectors_below bound is = list_all (λ i. nat_le ((vectors_of i).0 + (vectors_of i).1) bound) is

-- such a register is as it was
abbrev pub VectorsSpared : Type 0
VectorsSpared = (code : List Inst) (n : ℕ) (s : State) → all_stay code ≡ true → spare_vector n code ≡ true
    → vector (ran_through code s).vectors n ≡ vector s.vectors n

-- and so are vector registers from a bound on, if the instructions write none of them
abbrev pub VectorsAbove : Type 0
VectorsAbove = (code : List Inst) (bound n : ℕ) (s : State) → all_stay code ≡ true → vectors_below bound code ≡ true → bound ≤ n
    → vector (ran_through code s).vectors n ≡ vector s.vectors n

-- and scalar registers from a bound on, if the instructions write none of them
abbrev pub ScalarsAbove : Type 0
ScalarsAbove = (code : List Inst) (bound n : ℕ) (s : State) → all_stay code ≡ true → scalars_below bound code ≡ true → bound ≤ n
    → register (ran_through code s).registers n ≡ register s.registers n
