-- What a step has come to.
use Rattle.std.proofs.Common.{◌≡◌, ℕ, ◌/◌, List, [], ◌∷◌, length, ap, sym, ◌∙◌, Bool, true, false, Option, Some, None}
use Rattle.std.specs.Prelude.{◌==◌, ◌&&◌, option_map}
use Rattle.std.proofs.lemmas.Bool.{and_parts, eqb-true}
use Rattle.rsp_machine.specs.State.{State}
use Rattle.rsp_debug.specs.declared.snapshot.Snapshot.{Snapshot}
use Rattle.rsp_debug.specs.declared.stop.Reason.TheVariants.{Watched, Break}
use Rattle.rsp_debug.specs.Stops.{is_break, when, first_of}
use Rattle.rsp_debug.specs.Breaks.{break_count}
use Rattle.rsp_debug.specs.Snapshots.{differs}
use Rattle.rsp_debug.specs.Runs.{hit_in}
use Rattle.rsp_debug.proofs.BreakTable.{empty-break}
use Rattle.rsp_debug.proofs.WatchChanges.{differs-empty}

hit_by : (b : List Bool) (snapshots : List (Option Snapshot)) (s : State) (o : Option ℕ) (x : Bool) → differs snapshots s.dmem ≡ o → is_break b s.pc ≡ x
    → hit_in b snapshots s ≡ first_of (option_map Watched o ∷ when x Break ∷ [])
hit_by b snapshots s o x d e = ap (λ o. first_of (option_map Watched o ∷ when (is_break b s.pc) Break ∷ [])) d ∙ ap (λ x. first_of (option_map Watched o ∷ when x Break ∷ [])) e

pub break-hit : (b : List Bool) (snapshots : List (Option Snapshot)) (s : State) → differs snapshots s.dmem ≡ None → is_break b s.pc ≡ true → Some Break ≡ hit_in b snapshots s
break-hit b snapshots s d e = sym (hit_by b snapshots s None true d e)

pub nothing-hit : (b : List Bool) (snapshots : List (Option Snapshot)) (s : State) → differs snapshots s.dmem ≡ None → is_break b s.pc ≡ false → None ≡ hit_in b snapshots s
nothing-hit b snapshots s d e = sym (hit_by b snapshots s None false d e)

pub unbroken-hit : (b : List Bool) (snapshots : List (Option Snapshot)) (s : State) → differs snapshots s.dmem ≡ None → break_count b ≡ 0 → None ≡ hit_in b snapshots s
unbroken-hit b snapshots s d none = nothing-hit b snapshots s d (empty-break b (s.pc / 4) none)

-- where there is neither a breakpoint nor a watch
pub untested-hit : (b : List Bool) (snapshots : List (Option Snapshot)) (s : State) → (break_count b == 0) && (length snapshots == 0) ≡ true → None ≡ hit_in b snapshots s
untested-hit b snapshots s e = let none = and_parts _ _ e in unbroken-hit b snapshots s (differs-empty snapshots s.dmem (eqb-true _ _ none.1)) (eqb-true _ _ none.0)

pub ruleset hits = (break-hit, nothing-hit, unbroken-hit)
