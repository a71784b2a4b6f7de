-- Entries of a trace, one after the other, and what the entry of a store shows.
use Rattle.std.proofs.Common.{◌≡◌, ℕ, ◌+◌, ◌<◌, List, [], ◌∷◌, ◌++◌, length, take, drop, map, refl, ap, sym, ◌∙◌, arith, Bool, true, false}
use Rattle.std.specs.Prelude.{slice_set, if◌then◌else◌}
use Rattle.std.specs.List.{range_with_len}
use Rattle.std.proofs.lemmas.List.{take_more_set, drop-set-lt, drop-drop}
use Rattle.std.proofs.lemmas.List.FromFn.{map-range_with_len_more}
use Rattle.rsp_memory.specs.Memory.{word_at}
use Rattle.rsp_machine.specs.State.{State}
use Rattle.rsp_machine.specs.Laws.{steps_of}
use Rattle.rsp_machine.specs.Writes.{writes_of}
use Rattle.rsp_machine.specs.declared.writes.Writes.{Writes}
use Rattle.rsp_machine.proofs.Footprints.{writes_hold}
use Rattle.rsp_machine.proofs.LoopSteps.{steps-add}
use Rattle.rsp_debug.specs.declared.trace_entry.TraceEntry.{TraceEntry}
use Rattle.rsp_debug.specs.Traces.{step_entry, entry_made_of, EntriesShowStores, trace_of}

-- no entries
pub trace-none : (s : State) (out : List TraceEntry) → take 0 out ≡ trace_of 0 s
unfolding trace_of
trace-none s out = refl

-- one entry more
pub trace-more : (k : ℕ) (s : State) (out : List TraceEntry) (entry : TraceEntry) → k < length out → take k out ≡ trace_of k s
    → entry ≡ step_entry (steps_of k s) (steps_of (k + 1) s) → take (k + 1) (slice_set out k entry) ≡ trace_of (k + 1) s
unfolding trace_of
trace-more k s out entry h e same =
    take_more_set out k entry h ∙ ap (λ xs. xs ++ entry ∷ []) e
    ∙ ap (λ x. map (λ i. step_entry (steps_of i s) (steps_of (i + 1) s)) (range_with_len 0 k) ++ x ∷ []) same
    ∙ sym (map-range_with_len_more (λ i. step_entry (steps_of i s) (steps_of (i + 1) s)) 0 k k (omega arith))

-- the further entries stay
pub rest-more : (k : ℕ) (out old : List TraceEntry) (entry : TraceEntry) → drop k out ≡ drop k old → drop (k + 1) (slice_set out k entry) ≡ drop (k + 1) old
rest-more k out old entry e =
    drop-set-lt (k + 1) out k entry (omega arith) ∙ sym (drop-drop 1 k out) ∙ ap (drop 1) e ∙ drop-drop 1 k old

-- the entry of a step
pub entry-is : (k j pc word : ℕ) (writes : Writes) (s m t : State) (entry : TraceEntry) → entry ≡ entry_made_of pc word writes t
    → pc ≡ m.pc → word ≡ word_at m.imem m.pc → writes ≡ writes_of m → m ≡ steps_of k s → t ≡ steps_of j m → j ≡ 1
    → entry ≡ step_entry (steps_of k s) (steps_of (k + 1) s)
entry-is k j pc word writes s m t entry e p w f there next one =
    let after : t ≡ steps_of (k + 1) s = next ∙ ap (λ i. steps_of i m) one ∙ ap (λ (x : State). steps_of 1 x) there ∙ sym (steps-add k 1 s) in
    let made : entry ≡ step_entry m t = e ∙ rw (p, w, f) refl in
    made ∙ rw (after, there) refl

-- the entry of a store
pub is_stored : (b : Bool) → ◌≡◌ {A = ℕ} (if b then 1 else 0) 1 → b ≡ true
is_stored true e = refl
is_stored false e = cc

pub stores_shown : EntriesShowStores
stores_shown s h done stored = (writes_hold s h done).bytes (is_stored (writes_of s).stored stored)
