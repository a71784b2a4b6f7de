-- Watches and what changed.
use Rattle.std.proofs.Common.{◌≡◌, ℕ, suc, ◌<◌, ◌+◌, List, [], ◌∷◌, length, map, get_or, refl, ap, sym, ◌∙◌, arith, Bool, true, false, cond, not, Option, Some, None}
use Rattle.std.specs.Prelude.{bytes_eq, option_map, All, IsNone}
use Rattle.std.specs.List.{position_from}
use Rattle.std.proofs.lemmas.List.{length-map, get_or-map}
use Rattle.std.proofs.lemmas.List.FromFn.{fill_by_all}
use Rattle.std.proofs.lemmas.Slice.Eq.{bytes_eq-Decides}
use Rattle.std.proofs.lemmas.Iterator.Adapters.{position_from-zero}
use Rattle.rsp_debug.specs.declared.stop.Watch.{Watch}
use Rattle.rsp_debug.specs.declared.snapshot.Snapshot.{Snapshot}
use Rattle.rsp_debug.specs.Stops.{watched, is_changed, changed_watch}
use Rattle.rsp_debug.specs.Snapshots.{snapshot_of, is_other, differs, watches_of}

-- a watch whose bytes are still those of its snapshot, and what then changes
not_not : (b : Bool) → not b ≡ false → b ≡ true
not_not true e = refl
not_not false e = cc

unlike : (now next : List ℕ) (one : Option Snapshot) → is_other now one ≡ false → is_other next one ≡ is_changed now next (option_map (λ h. h.watch) one)
unlike now next None e = refl
unlike now next (Some h) e =
    let same : h.bytes.items ≡ watched h.watch now = (bytes_eq-Decides h.bytes.items (watched h.watch now)).0 (not_not _ e) in
    ap (λ bytes. not (bytes_eq bytes (watched h.watch next))) same

neither : (b : Bool) (k : ℕ) (o : Option ℕ) → cond b (Some k) o ≡ None → (b ≡ false) × (o ≡ None)
neither true k o e = cc
neither false k o e = (refl, e)

since_from : (now next : List ℕ) (k : ℕ) (snapshots : List (Option Snapshot)) → position_from (is_other now) k snapshots ≡ None
    → position_from (is_other next) k snapshots ≡ position_from (is_changed now next) k (watches_of snapshots)
since_from now next k [] e = refl
since_from now next k (h ∷ snapshots) e =
    let none = neither (is_other now h) k (position_from (is_other now) (k + 1) snapshots) e in
    ap (λ b. cond b (Some k) (position_from (is_other next) (k + 1) snapshots)) (unlike now next h none.0)
    ∙ ap (cond (is_changed now next (option_map (λ h. h.watch) h)) (Some k)) (since_from now next (k + 1) snapshots none.1)

pub differs-since : (snapshots : List (Option Snapshot)) (now next : List ℕ) → differs snapshots now ≡ None → differs snapshots next ≡ changed_watch (watches_of snapshots) now next
unfolding differs changed_watch
differs-since snapshots now next e =
    position_from-zero (is_other next) snapshots ∙ since_from now next 0 snapshots (sym (position_from-zero (is_other now) snapshots) ∙ e) ∙ sym (position_from-zero (is_changed now next) (watches_of snapshots))

-- snapshots of watches as they are
fresh : (dmem : List ℕ) (watch : Option Watch) → is_other dmem (snapshot_of dmem watch) ≡ false
fresh dmem None = refl
fresh dmem (Some w) = ap not ((bytes_eq-Decides (watched w dmem) (watched w dmem)).1 refl)

fresh_from : (k : ℕ) (watches : List (Option Watch)) (dmem : List ℕ) → position_from (is_other dmem) k (map (snapshot_of dmem) watches) ≡ None
fresh_from k [] dmem = refl
fresh_from k (w ∷ watches) dmem = ap (λ b. cond b (Some k) (position_from (is_other dmem) (k + 1) (map (snapshot_of dmem) watches))) (fresh dmem w) ∙ fresh_from (k + 1) watches dmem

differs-fresh : (watches : List (Option Watch)) (dmem : List ℕ) → differs (map (snapshot_of dmem) watches) dmem ≡ None
unfolding differs
differs-fresh watches dmem = position_from-zero (is_other dmem) (map (snapshot_of dmem) watches) ∙ fresh_from 0 watches dmem

watches-of : (watches : List (Option Watch)) (dmem : List ℕ) → watches_of (map (snapshot_of dmem) watches) ≡ watches
watches-of [] dmem = refl
watches-of (None ∷ watches) dmem = ap (λ l. None ∷ l) (watches-of watches dmem)
watches-of (Some w ∷ watches) dmem = ap (λ l. Some w ∷ l) (watches-of watches dmem)

pub eight-mapped : {X Y : Type 0} (f : X → Y) (xs : List X) (d : X) → length xs ≡ 8
    → f (get_or xs 0 d) ∷ f (get_or xs 1 d) ∷ f (get_or xs 2 d) ∷ f (get_or xs 3 d) ∷ f (get_or xs 4 d) ∷ f (get_or xs 5 d) ∷ f (get_or xs 6 d) ∷ f (get_or xs 7 d) ∷ [] ≡ map f xs
eight-mapped f xs d e =
    sym (fill_by_all (λ k. f (get_or xs k d)) (map f xs) 8 (f d) (length-map xs f ∙ e) (λ k h. get_or-map f xs k d (f d) (omega (arith, e))))

-- where there is no snapshot, nothing differs
pub differs-empty : (snapshots : List (Option Snapshot)) (dmem : List ℕ) → length snapshots ≡ 0 → differs snapshots dmem ≡ None
unfolding differs
differs-empty [] dmem e = refl
differs-empty (h ∷ snapshots) dmem e = absurd (omega arith)

-- where there is no watch, none has changed
no_watch : (before dmem : List ℕ) (watch : Option Watch) → IsNone watch → is_changed before dmem watch ≡ false
no_watch before dmem None h = refl
no_watch before dmem (Some w) h = cc

none_from : (k : ℕ) (watches : List (Option Watch)) (before dmem : List ℕ) → ((i : ℕ) → i < length watches → IsNone (get_or watches i None)) → position_from (is_changed before dmem) k watches ≡ None
none_from k [] before dmem none = refl
none_from k (w ∷ watches) before dmem none =
    ap (λ b. cond b (Some k) (position_from (is_changed before dmem) (k + 1) watches)) (no_watch before dmem w (none 0 (omega arith)))
    ∙ none_from (k + 1) watches before dmem (λ i h. none (suc i) (omega (arith, h)))

changed-none : (watches : List (Option Watch)) (before dmem : List ℕ) → All IsNone watches → changed_watch [] before dmem ≡ changed_watch watches before dmem
unfolding changed_watch
changed-none watches before dmem none = sym (position_from-zero (is_changed before dmem) watches ∙ none_from 0 watches before dmem (λ i h. none i None h))

-- what a run with some watches compares with: their bytes as they are, or nothing if there is no watch
pub record AreSnapshots (watches : List (Option Watch)) (dmem : List ℕ) (snapshots : List (Option Snapshot)) : Type 0 where
  pub same : differs snapshots dmem ≡ None
  pub changed : (before next : List ℕ) → changed_watch (watches_of snapshots) before next ≡ changed_watch watches before next

pub no-snapshots : (watches : List (Option Watch)) (dmem : List ℕ) → All IsNone watches → AreSnapshots watches dmem []
no-snapshots watches dmem none = record { same = differs-empty [] dmem refl; changed = λ before next. changed-none watches before next none }

pub snapshots-of : (watches : List (Option Watch)) (dmem bytes : List ℕ) (snapshots : List (Option Snapshot)) → snapshots ≡ map (snapshot_of bytes) watches → bytes ≡ dmem → AreSnapshots watches dmem snapshots
snapshots-of watches dmem bytes snapshots is now =
    rw (is, now) (record { same = differs-fresh watches dmem; changed = λ before next. ap (λ l. changed_watch l before next) (watches-of watches dmem) })
