-- What is read of the registers after writes.
use Rattle.std.proofs.Common.{◌≡◌, ℕ, ◌<◌, ◌≤◌, List, [], ◌∷◌, length, length-set, true, false, not, refl, ap, ◌∙◌, arith, inl, inr}
use Rattle.std.specs.Prelude.{if◌then◌else◌, ◌==◌, nat_lt}
use Rattle.std.proofs.lemmas.Bool.{cases_eq, eq-eqb, ne_eqb, and_parts, ltb-true, not-true}
use Rattle.std.proofs.lemmas.List.{get_or-set_same, get_or-set_other}
use Rattle.std.specs.List.{list_all}
use Rattle.rsp_lanes.specs.Lanes.{each_lane}
use Rattle.rsp_lanes.proofs.Kit.{lane_of}
use Rattle.rsp_scalar.specs.Registers.{register, with_register}
use Rattle.rsp_loadstore.specs.File.{vector, with_vector}
use Rattle.rsp_microcode.specs.Reads.{Write, VectorReads, ScalarReads, LaneReads, last_written}

-- one write of a vector register
pub one_vector : (file : List (List ℕ)) (k n : ℕ) (v : List ℕ) → length file ≡ 32 → k < 32 → vector (with_vector file k v) n ≡ (if n == k then v else vector file n)
unfolding vector with_vector
one_vector file k n v l h = elim (cases_eq n k) [
  | inl e ↦ rw (eq-eqb n k e, e) (get_or-set_same file k v [] (omega arith))
  | inr ne ↦ rw (ne_eqb n k ne) (get_or-set_other file k n v [] ne)
]

pub length-with_vector : (file : List (List ℕ)) (k : ℕ) (v : List ℕ) → length (with_vector file k v) ≡ length file
unfolding with_vector
length-with_vector file k v = length-set file k v

pub vector_reads : VectorReads
vector_reads [] file n l h = refl
vector_reads (w ∷ ws) file n l h =
    let parts = and_parts _ _ h in
    vector_reads ws (with_vector file w.0 w.1) n (length-with_vector file w.0 w.1 ∙ l) parts.1
    ∙ ap (last_written ws n) (one_vector file w.0 n w.1 l (ltb-true _ _ parts.0))

-- one write of a scalar register
pub one_scalar : (r : List ℕ) (k n v : ℕ) → length r ≡ 32 → k < 32 → not (n == 0) ≡ true → register (with_register r k v) n ≡ (if n == k then v else register r n)
one_scalar r k n v l h z = elim (cases_eq k 0) [
  | inl e ↦ rw (e, not-true (n == 0) z) refl
  | inr ne ↦ rw (ne_eqb k 0 ne) (elim (cases_eq n k) [
    | inl e ↦ rw (eq-eqb n k e, e) (get_or-set_same r k v 0 (omega arith))
    | inr d ↦ rw (ne_eqb n k d) (get_or-set_other r k n v 0 d)
  ])
]

pub length-with_register : (r : List ℕ) (k v : ℕ) → length (with_register r k v) ≡ length r
length-with_register r k v = elim (cases_eq k 0) [
  | inl e ↦ rw (eq-eqb k 0 e) refl
  | inr ne ↦ rw (ne_eqb k 0 ne) (length-set r k v)
]

pub scalar_reads : ScalarReads
scalar_reads [] r n l h z = refl
scalar_reads (w ∷ ws) r n l h z =
    let parts = and_parts _ _ h in
    scalar_reads ws (with_register r w.0 w.1) n (length-with_register r w.0 w.1 ∙ l) parts.1 z
    ∙ ap (last_written ws n) (one_scalar r w.0 n w.1 l (ltb-true _ _ parts.0) z)

pub lane_reads : LaneReads
lane_reads f i h = lane_of 0 f (each_lane f) refl i h

-- a register that none of the writes is to, since all are to registers below a bound
pub unwritten : {X : Type 0} (ws : List (Write X)) (bound n : ℕ) (v : X) → list_all (λ w. nat_lt w.0 bound) ws ≡ true → bound ≤ n → last_written ws n v ≡ v
unwritten [] bound n v h le = refl
unwritten (w ∷ ws) bound n v h le =
    let parts = and_parts _ _ h in
    let lt : w.0 < bound = ltb-true _ _ parts.0 in
    let e : (n == w.0) ≡ false = ne_eqb n w.0 (λ q. absurd (omega arith)) in
    rw e (unwritten ws bound n v parts.1 le)
