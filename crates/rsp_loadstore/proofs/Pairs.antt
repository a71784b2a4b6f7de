-- One more pair.
use Rattle.std.proofs.Common.{◌≡◌, ℕ, ◌+◌, List, map, refl, sym, ap, ◌∙◌, arith}
use Rattle.std.specs.List.{range_with_len, fold}
use Rattle.std.proofs.lemmas.List.{map-id}
use Rattle.std.proofs.lemmas.List.Sums.{fold_push}
use Rattle.std.proofs.lemmas.List.FromFn.{map-range_with_len_more}
use Rattle.rsp_memory.proofs.Wraps.{with_byte-wrapped}
use Rattle.rsp_loadstore.specs.Pairs.{for_each}
use Rattle.rsp_loadstore.specs.Loads.{Load, loaded, after_load}
use Rattle.rsp_loadstore.specs.Stores.{Store, stored, after_store}

-- a fold over f of the numbers below i
pub fold_map_more : {A B : Type 0} (step : B → A → B) (s : B) (f : ℕ → A) (i : ℕ)
    → fold step s (map f (range_with_len 0 (i + 1))) ≡ step (fold step s (map f (range_with_len 0 i))) (f i)
fold_map_more step s f i = ap (fold step s) (map-range_with_len_more f 0 i i (omega arith)) ∙ fold_push step s (map f (range_with_len 0 i)) (f i)

-- and over the numbers
pub fold_more : {B : Type 0} (step : B → ℕ → B) (s : B) (i : ℕ) → fold step s (range_with_len 0 (i + 1)) ≡ step (fold step s (range_with_len 0 i)) i
fold_more step s i = ap (fold step s) (sym (map-id (range_with_len 0 (i + 1)))) ∙ fold_map_more step s (λ n. n) i ∙ ap (λ ns. step (fold step s ns) i) (map-id (range_with_len 0 i))

pub load_none : (m : List ℕ) (s : List (List ℕ)) (f : ℕ → Load) → after_load m s (for_each 0 f) ≡ s
unfolding after_load for_each
load_none m s f = refl

pub load_more : (m : List ℕ) (s : List (List ℕ)) (f : ℕ → Load) (i : ℕ)
    → after_load m s (for_each (i + 1) f) ≡ loaded m (after_load m s (for_each i f)) (f i)
unfolding after_load for_each
load_more m s f i = fold_map_more (loaded m) s f i

pub store_none : (file : List (List ℕ)) (s : List ℕ) (f : ℕ → Store) → after_store file s (for_each 0 f) ≡ s
unfolding after_store for_each
store_none file s f = refl

pub store_more : (file : List (List ℕ)) (s : List ℕ) (f : ℕ → Store) (i : ℕ)
    → after_store file s (for_each (i + 1) f) ≡ stored file (after_store file s (for_each i f)) (f i)
unfolding after_store for_each
store_more file s f i = fold_map_more (stored file) s f i

pub ruleset stores = (store_none, store_more, with_byte-wrapped)
