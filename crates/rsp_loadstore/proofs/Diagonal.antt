-- Lanes that eight registers take one after the other, from any of the eight on.
use Rattle.std.proofs.Common.{◌≡◌, ◌≢◌, ℕ, zero, suc, ◌+◌, ◌-◌, ◌%◌, ◌<◌, ◌≤◌, List, [], ◌++◌, set, get_or, map, refl, sym, ap, ◌∙◌, arith}
use Rattle.std.specs.List.{range_with_len, fold}
use Rattle.std.proofs.lemmas.List.{set_comm, get_or-set_other}
use Rattle.std.proofs.lemmas.List.Sums.{fold-append}
use Rattle.rsp_lanes.proofs.Kit.{below_eight}
use Rattle.rsp_loadstore.proofs.Pairs.{fold_more}
use Rattle.rsp_loadstore.specs.File.{vector, with_vector}
use Rattle.rsp_loadstore.specs.TransposedLanes.{with_diagonal_lane, with_diagonal}

-- steps that can be exchanged can be done in another order
module _ {X : Type 0} (step : X → ℕ → X) (exchanged : (s : X) (i j : ℕ) → i ≢ j → step (step s i) j ≡ step (step s j) i) where
  one_past : (s : X) (x i n : ℕ) → x < i → fold step (step s x) (range_with_len i n) ≡ step (fold step s (range_with_len i n)) x
  one_past s x i zero h = refl
  one_past s x i (suc n) h = ap (λ s. fold step s (range_with_len (i + 1) n)) (exchanged s x i (λ e. omega arith)) ∙ one_past (step s i) x (i + 1) n (omega arith)

  all_past : (s : X) (i n j m : ℕ) → i + n ≤ j → fold step (fold step s (range_with_len i n)) (range_with_len j m) ≡ fold step (fold step s (range_with_len j m)) (range_with_len i n)
  all_past s i zero j m h = refl
  all_past s i (suc n) j m h =
      all_past (step s i) (i + 1) n j m (omega arith) ∙ ap (λ s. fold step s (range_with_len (i + 1) n)) (one_past s i j m (omega arith))

  -- eight of them from the one at `half` on
  pub turned_steps : (s : X) (half : ℕ) → half < 8 → fold step s (range_with_len 0 8) ≡ fold step s (map (λ i. (half + i) % 8) (range_with_len 0 8))
  turned_steps s half h =
      ap (fold step s) (below_eight (λ half. range_with_len 0 8 ≡ range_with_len 0 half ++ range_with_len half (8 - half)) refl refl refl refl refl refl refl refl half h)
      ∙ fold-append step s (range_with_len 0 half) (range_with_len half (8 - half))
      ∙ all_past s 0 half half (8 - half) (omega arith)
      ∙ sym (fold-append step s (range_with_len half (8 - half)) (range_with_len 0 half))
      ∙ ap (fold step s) (below_eight (λ half. range_with_len half (8 - half) ++ range_with_len 0 half ≡ map (λ i. (half + i) % 8) (range_with_len 0 8)) refl refl refl refl refl refl refl refl half h)

other_register : (file : List (List ℕ)) (n k : ℕ) (v : List ℕ) → k ≢ n → vector (with_vector file n v) k ≡ vector file k
unfolding with_vector vector
other_register file n k v h = get_or-set_other file n k v [] h

other_write : (file : List (List ℕ)) (n k : ℕ) (v w : List ℕ) → n ≢ k → with_vector (with_vector file n v) k w ≡ with_vector (with_vector file k w) n v
unfolding with_vector
other_write file n k v w h = set_comm file n k v w h

lanes_exchanged : (lanes : List ℕ) (first half : ℕ) (file : List (List ℕ)) (l k : ℕ) → l ≢ k
    → with_diagonal_lane lanes first half (with_diagonal_lane lanes first half file l) k ≡ with_diagonal_lane lanes first half (with_diagonal_lane lanes first half file k) l
lanes_exchanged lanes first half file l k h =
    let lane : List ℕ → ℕ → List ℕ = λ v j. set v j (get_or lanes j 0) in
    let i : ℕ = (l + 8 - half) % 8 in
    let j : ℕ = (k + 8 - half) % 8 in
    let apart : first + l ≢ first + k = λ e. h (omega arith) in
    let back : first + k ≢ first + l = λ e. h (omega arith) in
    rw (other_register file (first + l) (first + k) (lane (vector file (first + l)) i) back, other_register file (first + k) (first + l) (lane (vector file (first + k)) j) apart)
    (other_write file (first + l) (first + k) (lane (vector file (first + l)) i) (lane (vector file (first + k)) j) apart)

pub diagonal_by_lanes : (lanes : List ℕ) (first half : ℕ) (file : List (List ℕ)) → half < 8
    → with_diagonal lanes first half file 8 ≡ fold (with_diagonal_lane lanes first half) file (map (λ i. (half + i) % 8) (range_with_len 0 8))
unfolding with_diagonal
diagonal_by_lanes lanes first half file h = turned_steps (with_diagonal_lane lanes first half) (lanes_exchanged lanes first half) file half h

pub diagonal_none : (lanes : List ℕ) (first half : ℕ) (file : List (List ℕ)) → with_diagonal lanes first half file 0 ≡ file
unfolding with_diagonal
diagonal_none lanes first half file = refl

pub diagonal_more : (lanes : List ℕ) (first half : ℕ) (file : List (List ℕ)) (n : ℕ)
    → with_diagonal lanes first half file (n + 1) ≡ with_diagonal_lane lanes first half (with_diagonal lanes first half file n) n
unfolding with_diagonal
diagonal_more lanes first half file n = fold_more (with_diagonal_lane lanes first half) file n

pub ruleset diagonals = (diagonal_none, diagonal_more)
