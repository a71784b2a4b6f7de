-- Which states the records of steps undo to.
use Rattle.std.proofs.Common.{◌≡◌, inl, inr, ℕ, zero, suc, ◌+◌, ◌<◌, ◌≤◌, Bool, true, false, not, List, length, drop, get_or, refl, sym, ap, ◌∙◌, arith, add-one, Option}
use Rattle.std.specs.Prelude.{◌↔◌, slice_get, unwrap_or, IsSome, IfSome}
use Rattle.std.specs.Bool.{then_some}
use Rattle.std.proofs.lemmas.Bool.{cases_lt}
use Rattle.std.proofs.lemmas.Option.{get_or_from_slice_get, unwrap_or-slice_get}
use Rattle.std.proofs.lemmas.List.{ext_get_or, get_or-drop, length-drop}
use Rattle.rsp_machine.specs.State.{State}
use Rattle.rsp_machine.specs.Step.{step_of}
use Rattle.rsp_machine.specs.Laws.{steps_of, done_steps, done_of}
use Rattle.rsp_machine.specs.Undo.{Saved, blank, record_of, after_step_from, record_at, undone}
use Rattle.rsp_machine.specs.Footprint.{makes_no_dma}
use Rattle.rsp_machine.specs.Transfers.{starts_dma_at}
use Rattle.rsp_machine.specs.Loop.{AreDone, AreRecorded, HasRecorded, HaveRecorded, LoopEnd}
use Rattle.rsp_machine.specs.declared.step.StepEnd.TheVariants.{Done}
use Rattle.rsp_machine.proofs.LoopSteps.{done_few, is_done, never-refuses}
use Rattle.rsp_machine.proofs.Undo.{record-dma, record-back}

-- the steps one after the other
pub steps-more : (i : ℕ) (s : State) → steps_of (i + 1) s ≡ (step_of (steps_of i s)).1
unfolding steps_of
steps-more i s = rw add-one refl

-- where all are Done, each is
done_within : (n : ℕ) (s : State) → done_of n s ≤ n
unfolding done_of
done_within zero s = omega arith
done_within (suc n) s = omega (arith, done_within n s, done_few (step_of (steps_of n s)).0)

pub done-each : (k : ℕ) (s : State) → done_of k s ≡ k → (i : ℕ) → i < k → (step_of (steps_of i s)).0 ≡ Done
unfolding done_of
done-each zero s d i h = absurd (omega (arith, h))
done-each (suc k) s d i h =
    let bound = done_within k s in let one = done_few (step_of (steps_of k s)).0 in
    elim (cases_lt i k) [
      | inl l ↦ done-each k s (omega (arith, d, bound, one)) i l
      | inr r ↦
          let last : i ≡ k = omega (arith, r, h) in
          ap (λ j. (step_of (steps_of j s)).0) last ∙ sym (is_done (step_of (steps_of k s)).0 (omega (arith, d, bound, one)))
    ]

-- the records of k steps from s
abbrev pub HaveSaved : ℕ → State → List Saved → List Saved → Type 0
HaveSaved k s old new = HaveRecorded record_of (λ n. n) k s old new

record_is : (s : State) (rs : List Saved) (i : ℕ) (h : HasRecorded record_of s (slice_get rs i)) → record_at rs i ≡ after_step_from record_of s h.before
record_is s rs i h = get_or_from_slice_get rs i (after_step_from record_of s h.before) blank h.told

module _ (k : ℕ) (s : State) (old new : List Saved) (a : HaveSaved k s old new) (done : done_of k s ≡ k) where
  pub recorded-which : (i : ℕ) → i < k → makes_no_dma (record_at new i).footprint ≡ not (starts_dma_at (steps_of i s))
  recorded-which i h =
      let told = a.told (λ i j e. e) i h in
      ap (λ r. makes_no_dma r.footprint) (record_is (steps_of i s) new i told) ∙ record-dma (steps_of i s) told.before (done-each k s done i h)

  pub recorded-back : (i : ℕ) → i < k → starts_dma_at (steps_of i s) ≡ false → undone (record_at new i) (steps_of (i + 1) s) ≡ steps_of i s
  recorded-back i h none =
      let told = a.told (λ i j e. e) i h in
      rw (record_is (steps_of i s) new i told, steps-more i s) (record-back (steps_of i s) told.before told.ranged (done-each k s done i h) none)

-- the further records stay
pub recorded-rest : (k : ℕ) (s : State) (old new : List Saved) → HaveSaved k s old new → drop k new ≡ drop k old
recorded-rest k s old new a =
    let same : (j : ℕ) → k ≤ j → get_or new j blank ≡ get_or old j blank =
    λ j h. sym (unwrap_or-slice_get new j blank) ∙ ap (λ o. unwrap_or o blank) (a.rest j (λ i l e. absurd (omega (arith, h, l, e)))) ∙ unwrap_or-slice_get old j blank in
    ext_get_or blank (drop k new) (drop k old) (omega (arith, length-drop k new, length-drop k old, a.len))
    (λ i h. get_or-drop k new i blank ∙ same (k + i) (omega arith) ∙ sym (get_or-drop k old i blank))

-- all that a run with records promises
pub are-recorded : (k : ℕ) (s t : State) (old new : List Saved) → k ≤ length old → AreDone k s t → HaveSaved k s old new → ((i : ℕ) → i + 1 < k → true ≡ true → starts_dma_at (steps_of i s) ≡ false) → AreRecorded k s t old new
are-recorded k s t old new within made told before = record {
  within = within;
  made = made;
  before = λ i h. before i h refl;
  which = recorded-which k s old new told made.done;
  back = recorded-back k s old new told made.done;
  rest = recorded-rest k s old new told;
  len = told.len;
}

-- one step
pub recorded-none : (k : ℕ) (s t : State) → k ≡ 0 → t ≡ steps_of k s → t ≡ s
unfolding steps_of
recorded-none k s t e there = there ∙ ap (λ i. steps_of i s) e

pub recorded-one : (k : ℕ) (s t : State) → k ≡ 1 → done_of k s ≡ k → t ≡ steps_of k s → (Done ≡ (step_of s).0) × (t ≡ (step_of s).1)
unfolding steps_of
recorded-one k s t e done there = (sym (done-each k s done 0 (omega (arith, e))), there ∙ ap (λ i. steps_of i s) e)

-- none, where no test ends or refuses
pub none-stuck : (k : ℕ) (s t : State) → k ≡ 0 → LoopEnd true (λ pc word changes_memory. false) (λ op register. false) k s t → done_steps (step_of t).0 ≡ 0
none-stuck k s t e (inl stuck) = stuck
none-stuck k s t e (inr (inl refused)) = never-refuses t _ refused
none-stuck k s t e (inr (inr last)) = absurd (omega (arith, last.0, e))

-- the record of one step, given back if it undoes the step
given_by : (c dma : Bool) (x : Saved) (s t : State) → c ≡ not dma → (dma ≡ false → undone x t ≡ s)
    → (IsSome (then_some c x) ↔ ((Done ≡ Done) × (dma ≡ false))) × IfSome (then_some c x) (λ r. undone r t ≡ s)
given_by c true x s t e h = rw e ((λ no. cc, λ no. cc), tt)
given_by c false x s t e h = rw e ((λ _. (refl, refl), λ _. refl), h refl)

pub given-one : (s t : State) (old rs : List Saved) (d : Saved) (b : Bool) (o : Option Saved) → d ≡ blank → b ≡ makes_no_dma (get_or rs 0 d).footprint → o ≡ then_some b (get_or rs 0 d) → AreRecorded 1 s t old rs
    → (IsSome o ↔ ((Done ≡ Done) × (starts_dma_at s ≡ false))) × IfSome o (λ r. undone r t ≡ s)
unfolding steps_of
given-one s t old rs d b o start can given all = rw given (given_by b (starts_dma_at s) (get_or rs 0 d) s t
    (can ∙ ap (λ (x : Saved). makes_no_dma (get_or rs 0 x).footprint) start ∙ all.which 0 (omega arith))
    (λ none. rw (start, all.made.state) (all.back 0 (omega arith) none)))
