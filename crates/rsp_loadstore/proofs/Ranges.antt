-- The ranges of the vector registers at the start and after a write.
use Rattle.std.proofs.Common.{◌≡◌, ◌<◌, ℕ, zero, suc, List, [], length, replicate, slice_index, arith, refl, sym, subst, ◌∙◌, inl, inr}
use Rattle.std.proofs.Math.ListN.{set}
use Rattle.std.proofs.lemmas.List.{get_or-replicate, length-set, get_or-set_same, get_or-set_other}
use Rattle.std.proofs.lemmas.Bool.{cases_eq}
use Rattle.rsp_lanes.specs.Lanes.{each_lane, IsVector}
use Rattle.rsp_loadstore.specs.File.{IsFile, vector}

zeros : (n i : ℕ) → slice_index (replicate n 0) i < 65536
zeros zero i = omega arith
zeros (suc n) zero = omega arith
zeros (suc n) (suc i) = zeros n i

zero_lanes : IsVector (each_lane (λ _. 0))
unfolding each_lane
zero_lanes = (refl, zeros 8)

pub file_of_zeros : (v : List ℕ) → v ≡ each_lane (λ _. 0) → IsFile (replicate 32 v)
unfolding vector
file_of_zeros v e =
    let k = subst IsVector (sym e) zero_lanes in
    record { count = refl; registers = λ n h. rw (get_or-replicate 32 n v [] h) k }

registers_set : (file : List (List ℕ)) (n : ℕ) (v : List ℕ) → n < length file → IsVector v → ((i : ℕ) → i < 32 → IsVector (vector file i)) → (i : ℕ) → i < 32 → IsVector (vector (set file n v) i)
unfolding vector
registers_set file n v below k all i h =
    elim (cases_eq i n) [
      | inl e ↦ rw (e, get_or-set_same file n v [] below) k
      | inr ne ↦ rw (get_or-set_other file n i v [] ne) (all i h)
    ]

pub file_set : (file : List (List ℕ)) (n : ℕ) (v : List ℕ) → n < 32 → IsVector v → IsFile file → IsFile (set file n v)
file_set file n v below k f = record {
  count = length-set file n v ∙ f.count;
  registers = registers_set file n v (omega arith) k f.registers;
}
