-- A step of Newton's method.
use Rattle.std.proofs.Common.{◌≡◌, ℕ, ℤ, pos, negsuc, ◌+ℤ◌, ◌*ℤ◌, List, [], ◌∷◌, get_or, map, Some, refl, ap, sym, subst, ◌∙◌, arith}
use Rattle.std.specs.Prelude.{◌-ℤ◌}
use Rattle.std.proofs.lemmas.Int.{ints}
use Rattle.rsp_numbers.specs.Numbers.{s48}
use Rattle.rsp_numbers.proofs.Wrap.{s48_is}
use Rattle.rsp_decode.specs.Table.Words.{inst_of, row_of}
use Rattle.rsp_decode.specs.declared.vector.VectorMultiplyOp.TheVariants.{Vmudl, Vmudh, Vmadm, Vmadn, Vmadh}
use Rattle.rsp_divide.specs.Quotients.{reciprocal_of}
use Rattle.rsp_lanes.specs.Lanes.{each_lane, selected, IsVector}
use Rattle.rsp_lanes.proofs.Kit.{lane_of}
use Rattle.rsp_multiply.specs.Laws.{SumsOfProducts}
use Rattle.rsp_multiply.specs.MultiplyRules.{signed_times_65536}
use Rattle.rsp_scalar.specs.Flow.{address_after}
use Rattle.rsp_loadstore.specs.File.{vector}
use Rattle.rsp_machine.specs.State.{State, IsState}
use Rattle.rsp_machine.specs.Laws.{steps_of}
use Rattle.rsp_microcode.specs.Runs.{ran_through}
use Rattle.rsp_microcode.specs.Multiplies.{Term, term, summed, sum_writes}
use Rattle.rsp_microcode.specs.Pieces.{Piece, sums, rows, code_of, after_pieces}
use Rattle.rsp_microcode.specs.Fixed.{fixed, limited, fixed_product, plus_times}
use Rattle.rsp_microcode.specs.Reciprocals.{reciprocal_code}
use Rattle.rsp_routines.specs.Reciprocal.{improved, IsHalfReciprocal, HasConstants, ImprovesReciprocal}
use Rattle.rsp_routines.proofs.ReciprocalBound.{near_reciprocal}
use Rattle.rsp_microcode.proofs.Registers.{vector_reads}
use Rattle.rsp_microcode.proofs.Frames.{vectors_spared}
use Rattle.rsp_microcode.proofs.Pieces.{pieces, addresses_run, pieces_run}
use Rattle.rsp_microcode.proofs.Fixed.{fixed_range, fixed_sum, fixed_times}
use Rattle.rsp_microcode.proofs.FixedProducts.{fixed_product as product_is}
use Rattle.rsp_microcode.proofs.Reciprocals.{reciprocals}

abbrev times_estimate : List Term
times_estimate = term Vmudl 6 2 4 0 ∷ term Vmadm 6 1 4 0 ∷ term Vmadn 6 2 3 0 ∷ term Vmadh 5 1 3 0 ∷ term Vmadn 6 0 0 0 ∷ []

abbrev from_two : List Term
from_two = term Vmudh 9 8 8 9 ∷ term Vmadn 10 6 8 10 ∷ term Vmadh 9 5 8 10 ∷ term Vmadn 10 0 0 0 ∷ []

abbrev times_rest : List Term
times_rest = term Vmudl 12 4 10 0 ∷ term Vmadm 12 3 10 0 ∷ term Vmadn 12 4 9 0 ∷ term Vmadh 11 3 9 0 ∷ term Vmadn 12 0 0 0 ∷ []

abbrev code : List Piece
code = rows (reciprocal_code 3 4 1 2 0) ∷ sums times_estimate ∷ sums from_two ∷ sums times_rest ∷ []

abbrev words : List ℕ
words =
    0x4b0100f2 ∷ 0x4b020131 ∷ 0x4b0000f2 ∷ 0x4a041184 ∷ 0x4a04098d ∷ 0x4a03118e ∷ 0x4a03094f ∷ 0x4a00018e ∷ 0x4b284247 ∷
    0x4b48328e ∷ 0x4b482a4f ∷ 0x4a00028e ∷ 0x4a0a2304 ∷ 0x4a0a1b0d ∷ 0x4a09230e ∷ 0x4a091acf ∷ 0x4a00030e ∷ []

decoded : map inst_of words ≡ map Some (code_of code)
unfolding inst_of row_of
decoded = refl

-- two less twice a number, which never wraps
abbrev rest_so_far : List ℕ → List ℕ → List ℕ → ℕ → ℤ
rest_so_far k h l i = plus_times (pos 0 +ℤ signed_times_65536 (get_or k i 0) (get_or (selected k 9) i 0)) h l k 10 i

rest_is : (k h l : List ℕ) → HasConstants k → IsVector h → IsVector l → rest_so_far k h l 0 ≡ pos 131072 -ℤ pos 2 *ℤ fixed h l 0
rest_is k h l const is_h is_l =
    let one : get_or (selected k 9) 0 0 ≡ 1 = lane_of 0 (λ _. get_or k 1 0) (selected k 9) refl 0 (omega arith) ∙ const.one in
    rw (one, const.two) (fixed_times (pos 131072) h l k 10 0 is_h is_l (omega arith) ∙ rw const.minus_two (doubled (fixed h l 0)))
  where
    doubled : (z : ℤ) → pos 131072 +ℤ z *ℤ negsuc 1 ≡ pos 131072 -ℤ pos 2 *ℤ z
    doubled z = omega (arith, ints)

in_range : (h l : List ℕ) → IsVector h → IsVector l → s48 (pos 131072 -ℤ pos 2 *ℤ fixed h l 0) ≡ pos 131072 -ℤ pos 2 *ℤ fixed h l 0
in_range h l is_h is_l = let r = fixed_range h l 0 is_h is_l in s48_is _ _ 0 0 refl (omega (arith, ints)) (omega (arith, ints))

-- the three sums, from the state that the divide instructions left
from_estimate : SumsOfProducts → (u : State) → IsState u → u.npc ≡ address_after u.pc → vector u.vectors 0 ≡ each_lane (λ _. 0) → HasConstants (vector u.vectors 8)
    → (t : State) → t ≡ after_pieces (sums times_estimate ∷ sums from_two ∷ sums times_rest ∷ []) u
    → fixed (vector t.vectors 11) (vector t.vectors 12) 0 ≡ improved (fixed (vector u.vectors 1) (vector u.vectors 2) 0) (fixed (vector u.vectors 3) (vector u.vectors 4) 0)
from_estimate law u is next zero const t e =
    let p = summed times_estimate u in
    let d = summed from_two p in
    let v = is.vectors.registers in
    let is_p = (pieces law (sums times_estimate ∷ []) u is next refl tt).1.vectors in
    let is_d = (pieces law (sums times_estimate ∷ sums from_two ∷ []) u is next refl tt).1.vectors in
    let w = is_p.registers in
    let y = is_d.registers in
    let read_p = λ (n : ℕ). vector_reads (sum_writes times_estimate u.vectors) u.vectors n is.vectors.count refl in
    let read_d = λ (n : ℕ). vector_reads (sum_writes from_two p.vectors) p.vectors n is_p.count refl in
    let read_t = λ (n : ℕ). ap (λ (x : State). vector x.vectors n) e ∙ vector_reads (sum_writes times_rest d.vectors) d.vectors n is_d.count refl in
    let p0 : vector p.vectors 0 ≡ each_lane (λ _. 0) = read_p 0 ∙ zero in
    let p8 : vector p.vectors 8 ≡ vector u.vectors 8 = read_p 8 in
    let const_p : HasConstants (vector p.vectors 8) = subst HasConstants (sym p8) const in
    let product : fixed (vector p.vectors 5) (vector p.vectors 6) 0 ≡ fixed_product (fixed (vector u.vectors 1) (vector u.vectors 2) 0) (fixed (vector u.vectors 3) (vector u.vectors 4) 0) =
    product_is _ _ _ _ _ _ _ (v 1 (omega arith)) (v 2 (omega arith)) (v 3 (omega arith)) (v 4 (omega arith)) zero (read_p 5) (read_p 6) 0 (omega arith) in
    let two : fixed (vector d.vectors 9) (vector d.vectors 10) 0 ≡ limited (pos 131072 -ℤ pos 2 *ℤ fixed (vector p.vectors 5) (vector p.vectors 6) 0) =
    fixed_sum (rest_so_far (vector p.vectors 8) (vector p.vectors 5) (vector p.vectors 6)) _ _ _ p0 (read_d 9) (read_d 10) 0 (omega arith)
    ∙ ap limited (ap s48 (rest_is _ _ _ const_p (w 5 (omega arith)) (w 6 (omega arith))) ∙ in_range _ _ (w 5 (omega arith)) (w 6 (omega arith))) in
    let d3 : vector d.vectors 3 ≡ vector u.vectors 3 = read_d 3 ∙ read_p 3 in
    let d4 : vector d.vectors 4 ≡ vector u.vectors 4 = read_d 4 ∙ read_p 4 in
    product_is (vector d.vectors 3) (vector d.vectors 4) (vector d.vectors 9) (vector d.vectors 10) (vector d.vectors 0) (vector t.vectors 11) (vector t.vectors 12)
    (y 3 (omega arith)) (y 4 (omega arith)) (y 9 (omega arith)) (y 10 (omega arith)) (read_d 0 ∙ p0) (read_t 11) (read_t 12) 0 (omega arith)
    ∙ ap (λ a. fixed_product (fixed a (vector d.vectors 4) 0) (fixed (vector d.vectors 9) (vector d.vectors 10) 0)) d3
    ∙ ap (λ a. fixed_product (fixed (vector u.vectors 3) a 0) (fixed (vector d.vectors 9) (vector d.vectors 10) 0)) d4
    ∙ ap (fixed_product (fixed (vector u.vectors 3) (vector u.vectors 4) 0)) (two ∙ ap (λ z. limited (pos 131072 -ℤ pos 2 *ℤ z)) product)

pub improves : SumsOfProducts → ImprovesReciprocal words
improves law s is at zero const =
    let end = pieces_run law words code decoded refl s is at tt in
    let halves = reciprocal_code 3 4 1 2 0 in
    let u = ran_through halves s in
    let run = pieces law (rows halves ∷ []) s is at.next refl tt in
    let addresses = addresses_run halves s refl at.next in
    let kept = λ (n : ℕ). vectors_spared halves n s refl in
    let u1 : vector u.vectors 1 ≡ vector s.vectors 1 = kept 1 refl in
    let u2 : vector u.vectors 2 ≡ vector s.vectors 2 = kept 2 refl in
    let estimate = reciprocals 3 4 1 2 0 s is (omega arith) (omega arith) (omega arith) (omega arith) u refl in
    let x = fixed (vector s.vectors 1) (vector s.vectors 2) 0 in
    let range = fixed_range (vector s.vectors 1) (vector s.vectors 2) 0 (is.vectors.registers 1 (omega arith)) (is.vectors.registers 2 (omega arith)) in
    let result : fixed (vector (steps_of 17 s).vectors 11) (vector (steps_of 17 s).vectors 12) 0 ≡ improved x (reciprocal_of x) =
    from_estimate law u run.1 (addresses.1 ∙ ap address_after (sym addresses.0)) (kept 0 refl ∙ zero) (subst HasConstants (sym (kept 8 refl)) const) (steps_of 17 s) end.ran
    ∙ rw (u1, u2) (ap (improved x) estimate) in
    record {
      reciprocal = result;
      bound = λ other. subst (IsHalfReciprocal x) (sym result) (near_reciprocal x range.0 range.1 other);
      others = end.others [] (3 ∷ 4 ∷ 5 ∷ 6 ∷ 9 ∷ 10 ∷ 11 ∷ 12 ∷ []) refl;
    }
