-- Files that are read or written register by register.
use Rattle.std.proofs.Common.{◌≡◌, ◌<◌, ◌+◌, ℕ, List, [], length, arith, sym, ◌∙◌, inl, inr}
use Rattle.std.specs.Prelude.{slice_index_or}
use Rattle.std.proofs.lemmas.List.{ext_get_or, length-set, get_or-set_same, get_or-set_other}
use Rattle.std.proofs.lemmas.Bool.{cases_eq}
use Rattle.rsp_loadstore.specs.File.{vector, with_vector}

pub length-with_vector : (file : List (List ℕ)) (n : ℕ) (v : List ℕ) → length (with_vector file n v) ≡ length file
unfolding with_vector
length-with_vector file n v = length-set file n v

-- one register more is as in a list of lanes
pub more-registers : (file lanes : List (List ℕ)) (n : ℕ) (v : List ℕ) → n < length file → v ≡ slice_index_or lanes n []
    → ((k : ℕ) → k < n → vector file k ≡ slice_index_or lanes k []) → (k : ℕ) → k < n + 1 → vector (with_vector file n v) k ≡ slice_index_or lanes k []
unfolding vector with_vector
more-registers file lanes n v below e all k h = elim (cases_eq k n) [
  | inl same ↦ rw (same, get_or-set_same file n v [] below) e
  | inr ne ↦ get_or-set_other file n k v [] ne ∙ all k (omega arith)
]

-- all are
pub all-registers : (file lanes : List (List ℕ)) → length file ≡ 32 → length lanes ≡ 32
    → ((k : ℕ) → k < 32 → vector file k ≡ slice_index_or lanes k []) → file ≡ lanes
unfolding vector
all-registers file lanes e f all = ext_get_or [] file lanes (e ∙ sym f) (λ k h. all k (omega arith))
