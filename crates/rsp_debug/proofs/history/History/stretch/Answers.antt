use Rattle.std.proofs.Common.{◌≡◌, ◌<◌, ◌≤◌, ◌+◌, ◌-◌, ◌∙◌, ℕ, zero, suc, Bool, true, false, List, [], ◌++◌, length, take, drop, min, ap, refl, sym, subst, arith}
use Rattle.std.specs.List.{refill}
use Rattle.std.proofs.lemmas.List.{length-take, length-drop}
use Rattle.rsp_machine.specs.Undo.{Saved}
use Rattle.rsp_machine.specs.Loop.{AreRecorded}
use Rattle.rsp_debug.specs.History.{history_after_steps}
use Rattle.rsp_debug.specs.HistoryRing.{Records, backwards, entries_before, states_before}
use Rattle.rsp_debug.proofs.Ring.{turned, length-put}
use Rattle.rsp_debug.proofs.DoneSteps.{made-after}
use Rattle.rsp_debug.proofs.HistoryRecords.{past-unkept, IsStretch, stretch-kept, stretch-cleared, written-items}
use Rattle.rsp_debug.proofs.history.History.stretch.Goals.{then-self-depth, else-self-depth, then-can_undo_steps, else-can_undo_steps}
use Rattle.rsp_debug.proofs.history.History.stretch.Goals as goal

some_made : (k : ℕ) (b : Bool) → b ≡ false → (k ≡ 0 → b ≡ true) → 0 < k
some_made zero b e none = let no : false ≡ true = sym e ∙ none refl in cc
some_made (suc k) b e none = omega arith

pub returns-then-depth-eq0-clause-after : goal.returns-then-depth-eq0-clause-after
returns-then-depth-eq0-clause-after g c = made-after c.steps_until.result c.args.machine.now c.steps_until.new.self c.steps_until.ensures.made.done c.steps_until.ensures.made.state

pub returns-clause-after : goal.returns-clause-after
returns-clause-after g c =
    made-after c.steps_recorded_until-made.result c.args.machine.now c.steps_recorded_until-made.new.self c.steps_recorded_until-made.ensures.recorded.made.done c.steps_recorded_until-made.ensures.recorded.made.state

pub returns-then-depth-eq0-clause-past : goal.returns-then-depth-eq0-clause-past
returns-then-depth-eq0-clause-past g c =
    let i = c.self.inside in
    let none : length i.slots.items ≡ 0 = sym c.len-depth.ensures.len ∙ c.if-depth-eq0.true in
    let empty : entries_before i.next i.count i.slots.items ≡ [] = ap (λ n. entries_before i.next n i.slots.items) (let z : i.count ≡ 0 = omega (arith, none, c.self.invariant.1) in z) in
    past-unkept c.steps_until.result c.args.self.now.depth c.args.machine.now c.steps_until.new.self c.args.self.now.newest
    (ap (λ (r : Records). r.depth) (sym c.self.view_is) ∙ none) (ap (λ (r : Records). r.newest) (sym c.self.view_is) ∙ empty)

pub returns-clause-past : goal.returns-clause-past
returns-clause-past g c =
    let i = c.self.inside in let xs = i.slots.items in let ls = c.make_contiguous.result.now in let a = c.if-self-depth.first in let m = c.min-room.result in
    let e = c.steps_recorded_until-made.ensures.recorded in let k = c.steps_recorded_until-made.result in let ys = c.steps_recorded_until-made.new.records in let s = c.args.machine.now in let t = c.steps_recorded_until-made.new.self in
    let depth = c.len-depth.ensures.len in let same = c.make_contiguous.ensures.value in
    let below : a ≤ length xs = elim c.if-self-depth.branch [
      | then-self-depth w ↦ omega (arith, w.first-is)
      | else-self-depth w ↦ omega (arith, w.first-is, c.self.invariant.0)
    ] in
    let turn : backwards a xs ≡ backwards i.next xs = elim c.if-self-depth.branch [
      | then-self-depth w ↦ ap (λ j. backwards j xs) w.first-is ∙ turned xs i.next (w.if-self-depth.true ∙ depth)
      | else-self-depth w ↦ ap (λ j. backwards j xs) w.first-is
    ] in
    let room : a + m ≤ length xs = omega (arith, c.min-room.ensures, below, depth) in
    let cut : a + m - a ≡ m = omega arith in
    let entries : take (a + m - a) (drop a ls) ≡ take m (drop a xs) = ap (λ l. take (a + m - a) (drop a l)) same ∙ ap (λ j. take j (drop a xs)) cut in
    let h : IsStretch a m k i.count s t xs ys = record { room = room; held = c.self.invariant.1; recorded = subst (λ (old : List Saved). AreRecorded k s t old ys) entries e } in
    let len : length ys ≡ m = h.recorded.len ∙ omega (arith, length-take m (drop a xs), length-drop a xs, room) in
    let zs = refill (length xs) xs (take a ls ++ (ys ++ drop (a + m - a) (drop a ls))) in
    let put = take a ls ++ (ys ++ drop (a + m - a) (drop a ls)) in
    let whole : length put ≡ length xs = ap length (written-items a m (a + m - a) xs ls ys put same cut refl) ∙ length-put a m xs ys room len in
    let items : zs ≡ take a xs ++ (ys ++ drop (a + m) xs) = written-items a m (a + m - a) xs ls ys zs same cut (c.make_contiguous.ensures.same_len put whole) in
    let made : states_before t (entries_before (a + k) c.if-can_undo_steps.self zs) ≡ history_after_steps k (length xs) s (states_before s (entries_before a i.count xs)) =
    elim c.if-can_undo_steps.branch [
      | then-can_undo_steps w ↦ stretch-kept a m k i.count c.if-can_undo_steps.self s t xs ys zs h items (w.self-is ∙ w.min-self-inside.ensures ∙ ap (min (i.count + k)) depth) (λ some. sym w.if-can_undo_steps.true ∙ c.can_undo_steps.ensures.last some)
      | else-can_undo_steps w ↦ stretch-cleared a m k i.count c.if-can_undo_steps.self s t xs ys zs h w.self-is (some_made k c.can_undo_steps.result w.if-can_undo_steps.false c.can_undo_steps.ensures.none)
          (sym w.if-can_undo_steps.false ∙ c.can_undo_steps.ensures.last (some_made k c.can_undo_steps.result w.if-can_undo_steps.false c.can_undo_steps.ensures.none))
    ] in
    made ∙ ap (λ l. history_after_steps k (length xs) s (states_before s (take i.count l))) turn ∙ ap (λ (r : Records). history_after_steps k r.depth s (states_before s r.newest)) c.self.view_is
