-- What a step changed, as C sees it.
use Rattle.std.specs.Prelude.{ℕ, ◌≡◌, ◌+◌, ◌*◌, ◌/◌, List, [], ◌∷◌, replicate, Bool, if◌then◌else◌}
use Rattle.rsp_memory.specs.Memory.{word_at, byte_at, bytes_at}
use Rattle.rsp_machine.specs.State.{State, IsState}
use Rattle.rsp_machine.specs.Step.{step_of}
use Rattle.rsp_machine.specs.Footprints.{IsPastQuadwords}
use Rattle.rsp_machine.specs.Writes.{writes_of}
use Rattle.rsp_machine.specs.declared.writes.Writes.{Writes}
use Rattle.rsp_machine.specs.declared.step.StepEnd.TheVariants.{Done}
use Rattle.rsp_debug.specs.Traces.{entry_made_of}
use Rattle.rsp_c.specs.declared.changes.RspChanges.{RspChanges}
use Rattle.rsp_c.specs.ToC.{c_accumulators, c_divider}

-- of a store sixteen bytes of DMEM from an address on, and the next sixteen; else 0
abbrev pub quadwords_of : Bool → ℕ → List ℕ → List (List ℕ)
quadwords_of stored a dmem =
    if stored then bytes_at dmem a 16 ∷ bytes_at dmem (a + 16) 16 ∷ [] else replicate 16 0 ∷ replicate 16 0 ∷ []

-- what a step of a word at an address changed, by what it writes, which ended in the state t
abbrev pub changes_by : ℕ → ℕ → Writes → State → RspChanges
changes_by pc word writes t = record {
  traced = entry_made_of pc word writes t;
  pc = t.pc;
  npc = t.npc;
  divider = c_divider t.divider;
  quadword = writes.address / 16 * 16;
  accumulators = c_accumulators t.accumulators;
  bytes = quadwords_of writes.stored (writes.address / 16 * 16) t.dmem;
}

-- what a step from s to t changed
abbrev pub c_changes : State → State → RspChanges
c_changes s t = changes_by s.pc (word_at s.imem s.pc) (writes_of s) t

-- The changes of a store from s to t have the quadword with its address after the step, and the next one; the step leaves all other bytes of DMEM.
pub record ShowsStore (c : RspChanges) (s t : State) : Type 0 where
  pub bytes : c.bytes ≡ bytes_at t.dmem c.quadword 16 ∷ bytes_at t.dmem (c.quadword + 16) 16 ∷ []
  pub others : (x : ℕ) → IsPastQuadwords c.quadword x → byte_at t.dmem x ≡ byte_at s.dmem x

abbrev pub ChangesShowStores : Type 0
ChangesShowStores = (s : State) → IsState s → (step_of s).0 ≡ Done →
    let t = (step_of s).1 in
    let c = c_changes s t in
    c.traced.stored ≡ 1 → ShowsStore c s t
