-- A square root by a step of Newton's method.
use Rattle.std.proofs.Common.{◌≡◌, ℕ, ◌+◌, ◌*◌, ◌/◌, ◌%◌, ◌^◌, ◌<◌, ℤ, pos, negsuc, ◌+ℤ◌, ◌*ℤ◌, List, [], ◌∷◌, get_or, map, Some, inl, inr, refl, ap, sym, subst, ◌∙◌, arith}
use Rattle.std.specs.Prelude.{◌-ℤ◌, ◌≤ℤ◌}
use Rattle.std.proofs.lemmas.Int.{ints, clamps}
use Rattle.std.proofs.lemmas.Bool.{cases_lt}
use Rattle.rsp_numbers.specs.Numbers.{s16, s32, s48, floor_div}
use Rattle.rsp_numbers.proofs.Signed.{s32_small, s32_large}
use Rattle.rsp_numbers.proofs.Wrap.{s48_is}
use Rattle.rsp_decode.specs.Table.Words.{inst_of, row_of}
use Rattle.rsp_decode.specs.declared.vector.VectorMultiplyOp.TheVariants.{Vmudl, Vmudn, Vmadm, Vmadn, Vmadh}
use Rattle.rsp_divide.specs.Quotients.{inverse_root_of}
use Rattle.rsp_lanes.specs.Lanes.{each_lane, selected, IsVector}
use Rattle.rsp_lanes.proofs.Kit.{lane_of}
use Rattle.rsp_multiply.specs.Laws.{SumsOfProducts}
use Rattle.rsp_multiply.specs.MultiplyRules.{unsigned_over_65536, signed_by_unsigned, unsigned_by_signed}
use Rattle.rsp_scalar.specs.Flow.{address_after}
use Rattle.rsp_loadstore.specs.File.{vector}
use Rattle.rsp_machine.specs.State.{State, IsState}
use Rattle.rsp_machine.specs.Laws.{steps_of}
use Rattle.rsp_microcode.specs.Runs.{ran_through}
use Rattle.rsp_microcode.specs.Multiplies.{Term, term, summed, sum_writes}
use Rattle.rsp_microcode.specs.Pieces.{Piece, sums, rows, code_of, after_pieces}
use Rattle.rsp_microcode.specs.Fixed.{fixed, limited, fixed_product}
use Rattle.rsp_microcode.specs.Reciprocals.{root_code}
use Rattle.rsp_routines.specs.Root.{improved_root, HasRootConstants, TakesRoots}
use Rattle.rsp_routines.proofs.RootBound.{rooted_near}
use Rattle.rsp_microcode.proofs.Registers.{vector_reads}
use Rattle.rsp_microcode.proofs.Frames.{vectors_spared}
use Rattle.rsp_microcode.proofs.Pieces.{pieces, addresses_run, pieces_run}
use Rattle.rsp_microcode.proofs.Fixed.{fixed_parts, fixed_range, fixed_sum}
use Rattle.rsp_microcode.proofs.FixedProducts.{fixed_product as product_is}
use Rattle.rsp_microcode.proofs.Reciprocals.{roots}

abbrev times_inverse : List Term
times_inverse = term Vmudl 6 2 4 0 ∷ term Vmadm 6 1 4 0 ∷ term Vmadn 6 2 3 0 ∷ term Vmadh 5 1 3 0 ∷ term Vmadn 6 0 0 0 ∷ []

abbrev times_again : List Term
times_again = term Vmudl 10 6 4 0 ∷ term Vmadm 10 5 4 0 ∷ term Vmadn 10 6 3 0 ∷ term Vmadh 9 5 3 0 ∷ term Vmadn 10 0 0 0 ∷ []

abbrev from_three : List Term
from_three = term Vmudn 10 9 8 10 ∷ term Vmadm 9 8 8 9 ∷ term Vmadn 10 0 0 0 ∷ []

abbrev times_rest : List Term
times_rest = term Vmudl 12 6 10 0 ∷ term Vmadm 12 5 10 0 ∷ term Vmadn 12 6 9 0 ∷ term Vmadh 11 5 9 0 ∷ term Vmadn 12 0 0 0 ∷ []

abbrev over_128 : List Term
over_128 = term Vmudl 12 12 8 11 ∷ term Vmadm 11 11 8 11 ∷ term Vmadn 12 0 0 0 ∷ []

abbrev all_sums : List Piece
all_sums = sums times_inverse ∷ sums times_again ∷ sums from_three ∷ sums times_rest ∷ sums over_128 ∷ []

abbrev code : List Piece
code = rows (root_code 3 4 1 2 0) ∷ all_sums

abbrev words : List ℕ
words =
    0x4b0100f6 ∷ 0x4b020135 ∷ 0x4b0000f6 ∷ 0x4a041184 ∷ 0x4a04098d ∷ 0x4a03118e ∷ 0x4a03094f ∷ 0x4a00018e ∷ 0x4a043284 ∷
    0x4a042a8d ∷ 0x4a03328e ∷ 0x4a032a4f ∷ 0x4a00028e ∷ 0x4b484a86 ∷ 0x4b28424d ∷ 0x4a00028e ∷ 0x4a0a3304 ∷ 0x4a0a2b0d ∷
    0x4a09330e ∷ 0x4a092acf ∷ 0x4a00030e ∷ 0x4b686304 ∷ 0x4b685acd ∷ 0x4a00030e ∷ []

decoded : map inst_of words ≡ map Some (code_of code)
unfolding inst_of row_of
decoded = refl

-- the high half of a number that isn't negative
high_half : (a b n : ℕ) → a < 65536 → b < 65536 → s32 (a * 65536 + b) ≡ pos n → a ≡ n / 65536
high_half a b n h k e = elim (cases_lt (a * 65536 + b) (2 ^ 31)) [
  | inl l ↦ let f = sym (s32_small (a * 65536 + b) l) ∙ e in let g : a * 65536 + b ≡ n = omega (arith, ints, f) in omega arith
  | inr m ↦ let f = sym (s32_large (a * 65536 + b) m (omega arith)) ∙ e in absurd (omega (arith, ints, f))
]

-- 98304 less twice a high half, which never wraps
abbrev rest_so_far : List ℕ → List ℕ → ℕ → ℤ
rest_so_far k h i = (pos 0 +ℤ unsigned_by_signed (get_or h i 0) (get_or (selected k 10) i 0)) +ℤ signed_by_unsigned (get_or k i 0) (get_or (selected k 9) i 0)

rest_is : (k h : List ℕ) → HasRootConstants k → rest_so_far k h 0 ≡ pos 98304 -ℤ pos 2 *ℤ pos (get_or h 0 0)
rest_is k h const =
    let two : get_or (selected k 10) 0 0 ≡ 65534 = lane_of 0 (λ _. get_or k 2 0) (selected k 10) refl 0 (omega arith) ∙ const.minus_two in
    let half : get_or (selected k 9) 0 0 ≡ 32768 = lane_of 0 (λ _. get_or k 1 0) (selected k 9) refl 0 (omega arith) ∙ const.half in
    rw (two, half, const.three) (less (get_or h 0 0))
  where
    less : (n : ℕ) → (pos 0 +ℤ pos n *ℤ negsuc 1) +ℤ pos 98304 ≡ pos 98304 -ℤ pos 2 *ℤ pos n
    less n = omega (arith, ints)

rest_in_range : (n : ℕ) → n < 65536 → s48 (pos 98304 -ℤ pos 2 *ℤ pos n) ≡ pos 98304 -ℤ pos 2 *ℤ pos n
rest_in_range n h = s48_is _ _ 0 0 refl (omega (arith, ints)) (omega (arith, ints))

-- a number times 512 / 65536
abbrev part_so_far : List ℕ → List ℕ → List ℕ → ℕ → ℤ
part_so_far k h l i = (pos 0 +ℤ unsigned_over_65536 (get_or l i 0) (get_or (selected k 11) i 0)) +ℤ signed_by_unsigned (get_or h i 0) (get_or (selected k 11) i 0)

floored : (z q : ℤ) (r : ℕ) → r < 128 → z ≡ q *ℤ pos 128 +ℤ pos r → q ≡ floor_div z 128
floored (pos n) (pos m) r h e = omega (arith, ints)
floored (pos n) (negsuc m) r h e = absurd (omega (arith, ints))
floored (negsuc n) (pos m) r h e = absurd (omega (arith, ints))
floored (negsuc n) (negsuc m) r h e = omega (arith, ints)

parted : (z x : ℤ) (b : ℕ) → b < 65536 → z ≡ x *ℤ pos 65536 +ℤ pos b → (pos 0 +ℤ pos (b * 512 / 65536)) +ℤ x *ℤ pos 512 ≡ floor_div z 128
parted z x b h e = floored z _ (b % 128) (omega arith) (omega (arith, ints))

part_is : (k h l : List ℕ) → HasRootConstants k → IsVector h → IsVector l → part_so_far k h l 0 ≡ floor_div (fixed h l 0) 128
part_is k h l const is_h is_l =
    let part : get_or (selected k 11) 0 0 ≡ 512 = lane_of 0 (λ _. get_or k 3 0) (selected k 11) refl 0 (omega arith) ∙ const.part in
    rw part (parted (fixed h l 0) (s16 (get_or h 0 0)) (get_or l 0 0) (is_l.1 0) (fixed_parts (get_or h 0 0) (get_or l 0 0) (is_h.1 0) (is_l.1 0)))

part_in_range : (z : ℤ) → negsuc 2147483647 ≤ℤ z → z ≤ℤ pos 2147483647 → limited (s48 (floor_div z 128)) ≡ floor_div z 128
part_in_range (pos n) h k = ap limited (s48_is (pos (n / 128)) (pos (n / 128)) 0 0 refl (omega (arith, ints)) (omega (arith, ints))) ∙ omega (arith, ints, clamps)
part_in_range (negsuc n) h k = ap limited (s48_is (negsuc (n / 128)) (negsuc (n / 128)) 0 0 refl (omega (arith, ints)) (omega (arith, ints))) ∙ omega (arith, ints, clamps)

-- the five sums, from the state that the divide instructions left
from_inverse : SumsOfProducts → (u : State) → IsState u → u.npc ≡ address_after u.pc → vector u.vectors 0 ≡ each_lane (λ _. 0) → HasRootConstants (vector u.vectors 8)
    → (t : State) → t ≡ after_pieces all_sums u
    → let x = fixed (vector u.vectors 1) (vector u.vectors 2) 0 in let q = fixed (vector u.vectors 3) (vector u.vectors 4) 0 in
    (half : ℕ) → fixed_product (fixed_product x q) q ≡ pos half → fixed (vector t.vectors 11) (vector t.vectors 12) 0 ≡ improved_root x q
from_inverse law u is next zero const t e half half_is =
    let p = summed times_inverse u in
    let a = summed times_again p in
    let d = summed from_three a in
    let w = summed times_rest d in
    let v = is.vectors.registers in
    let is_p = (pieces law (sums times_inverse ∷ []) u is next refl tt).1.vectors in
    let is_a = (pieces law (sums times_inverse ∷ sums times_again ∷ []) u is next refl tt).1.vectors in
    let is_d = (pieces law (sums times_inverse ∷ sums times_again ∷ sums from_three ∷ []) u is next refl tt).1.vectors in
    let is_w = (pieces law (sums times_inverse ∷ sums times_again ∷ sums from_three ∷ sums times_rest ∷ []) u is next refl tt).1.vectors in
    let vp = is_p.registers in
    let va = is_a.registers in
    let vd = is_d.registers in
    let vw = is_w.registers in
    let read_p = λ (n : ℕ). vector_reads (sum_writes times_inverse u.vectors) u.vectors n is.vectors.count refl in
    let read_a = λ (n : ℕ). vector_reads (sum_writes times_again p.vectors) p.vectors n is_p.count refl in
    let read_d = λ (n : ℕ). vector_reads (sum_writes from_three a.vectors) a.vectors n is_a.count refl in
    let read_w = λ (n : ℕ). vector_reads (sum_writes times_rest d.vectors) d.vectors n is_d.count refl in
    let read_t = λ (n : ℕ). ap (λ (x : State). vector x.vectors n) e ∙ vector_reads (sum_writes over_128 w.vectors) w.vectors n is_w.count refl in
    let p0 : vector p.vectors 0 ≡ each_lane (λ _. 0) = read_p 0 ∙ zero in
    let a0 : vector a.vectors 0 ≡ each_lane (λ _. 0) = read_a 0 ∙ p0 in
    let d0 : vector d.vectors 0 ≡ each_lane (λ _. 0) = read_d 0 ∙ a0 in
    let w0 : vector w.vectors 0 ≡ each_lane (λ _. 0) = read_w 0 ∙ d0 in
    let a8 : vector a.vectors 8 ≡ vector u.vectors 8 = read_a 8 ∙ read_p 8 in
    let w8 : vector w.vectors 8 ≡ vector u.vectors 8 = read_w 8 ∙ read_d 8 ∙ a8 in
    let x = fixed (vector u.vectors 1) (vector u.vectors 2) 0 in
    let q = fixed (vector u.vectors 3) (vector u.vectors 4) 0 in
    let first : fixed (vector p.vectors 5) (vector p.vectors 6) 0 ≡ fixed_product x q =
    product_is _ _ _ _ _ _ _ (v 1 (omega arith)) (v 2 (omega arith)) (v 3 (omega arith)) (v 4 (omega arith)) zero (read_p 5) (read_p 6) 0 (omega arith) in
    let p3 : vector p.vectors 3 ≡ vector u.vectors 3 = read_p 3 in
    let p4 : vector p.vectors 4 ≡ vector u.vectors 4 = read_p 4 in
    let second : fixed (vector a.vectors 9) (vector a.vectors 10) 0 ≡ fixed_product (fixed_product x q) q =
    product_is _ _ _ _ _ _ _ (vp 5 (omega arith)) (vp 6 (omega arith)) (vp 3 (omega arith)) (vp 4 (omega arith)) p0 (read_a 9) (read_a 10) 0 (omega arith)
    ∙ rw (p3, p4) (ap (λ z. fixed_product z q) first) in
    let high : get_or (vector a.vectors 9) 0 0 ≡ half / 65536 = high_half (get_or (vector a.vectors 9) 0 0) (get_or (vector a.vectors 10) 0 0) half ((va 9 (omega arith)).1 0) ((va 10 (omega arith)).1 0) (second ∙ half_is) in
    let third : fixed (vector d.vectors 9) (vector d.vectors 10) 0 ≡ limited (pos 98304 -ℤ pos 2 *ℤ pos (half / 65536)) =
    fixed_sum (rest_so_far (vector a.vectors 8) (vector a.vectors 9)) _ _ _ a0 (read_d 9) (read_d 10) 0 (omega arith)
    ∙ ap limited (ap s48 (rest_is (vector a.vectors 8) (vector a.vectors 9) (subst HasRootConstants (sym a8) const)) ∙ rest_in_range (get_or (vector a.vectors 9) 0 0) ((va 9 (omega arith)).1 0) ∙ ap (λ n. pos 98304 -ℤ pos 2 *ℤ pos n) high) in
    let d5 : vector d.vectors 5 ≡ vector p.vectors 5 = read_d 5 ∙ read_a 5 in
    let d6 : vector d.vectors 6 ≡ vector p.vectors 6 = read_d 6 ∙ read_a 6 in
    let fourth : fixed (vector w.vectors 11) (vector w.vectors 12) 0 ≡ fixed_product (fixed_product x q) (limited (pos 98304 -ℤ pos 2 *ℤ pos (half / 65536))) =
    product_is _ _ _ _ _ _ _ (vd 5 (omega arith)) (vd 6 (omega arith)) (vd 9 (omega arith)) (vd 10 (omega arith)) d0 (read_w 11) (read_w 12) 0 (omega arith)
    ∙ rw (d5, d6) (ap (λ z. fixed_product z (fixed (vector d.vectors 9) (vector d.vectors 10) 0)) first ∙ ap (fixed_product (fixed_product x q)) third) in
    fixed_sum (part_so_far (vector w.vectors 8) (vector w.vectors 11) (vector w.vectors 12)) _ _ _ w0 (read_t 11) (read_t 12) 0 (omega arith)
    ∙ ap (λ z. limited (s48 z)) (part_is (vector w.vectors 8) (vector w.vectors 11) (vector w.vectors 12) (subst HasRootConstants (sym w8) const) (vw 11 (omega arith)) (vw 12 (omega arith)))
    ∙ (let range = fixed_range (vector w.vectors 11) (vector w.vectors 12) 0 (vw 11 (omega arith)) (vw 12 (omega arith)) in part_in_range _ range.0 range.1)
    ∙ ap (λ z. floor_div z 128) fourth
    ∙ sym (ap (λ z. floor_div (fixed_product (fixed_product x q) (limited (pos 98304 -ℤ pos 2 *ℤ floor_div z 65536))) 128) half_is)

not_negative : (z : ℤ) → pos 0 ≤ℤ z → (n : ℕ) × (z ≡ pos n)
not_negative (pos n) h = (n, refl)
not_negative (negsuc n) h = absurd (omega (arith, ints))

pub takes_root : SumsOfProducts → TakesRoots words
takes_root law s is at zero const =
    let end = pieces_run law words code decoded refl s is at tt in
    let halves = root_code 3 4 1 2 0 in
    let u = ran_through halves s in
    let run = pieces law (rows halves ∷ []) s is at.next refl tt in
    let addresses = addresses_run halves s refl at.next in
    let kept = λ (n : ℕ). vectors_spared halves n s refl in
    let u1 : vector u.vectors 1 ≡ vector s.vectors 1 = kept 1 refl in
    let u2 : vector u.vectors 2 ≡ vector s.vectors 2 = kept 2 refl in
    let inverse = roots 3 4 1 2 0 s is (omega arith) (omega arith) (omega arith) (omega arith) u refl in
    let x = fixed (vector s.vectors 1) (vector s.vectors 2) 0 in
    let same : fixed (vector u.vectors 1) (vector u.vectors 2) 0 ≡ x = ap (λ a. fixed a (vector u.vectors 2) 0) u1 ∙ ap (λ b. fixed (vector s.vectors 1) b 0) u2 in
    let range = fixed_range (vector s.vectors 1) (vector s.vectors 2) 0 (is.vectors.registers 1 (omega arith)) (is.vectors.registers 2 (omega arith)) in
    let from = λ (half : ℕ) (f : fixed_product (fixed_product x (inverse_root_of x)) (inverse_root_of x) ≡ pos half).
    from_inverse law u run.1 (addresses.1 ∙ ap address_after (sym addresses.0)) (kept 0 refl ∙ zero) (subst HasRootConstants (sym (kept 8 refl)) const) (steps_of 24 s) end.ran half (rw (same, inverse) f)
    ∙ ap (λ y. improved_root y (fixed (vector u.vectors 3) (vector u.vectors 4) 0)) same ∙ ap (improved_root x) inverse in
    let of = λ (n : ℕ) (f : x ≡ pos n). rooted_near n (omega (arith, ints)) in
    let result = λ (n : ℕ) (f : x ≡ pos n). from (of n f).half (subst (λ (y : ℤ). fixed_product (fixed_product y (inverse_root_of y)) (inverse_root_of y) ≡ pos (of n f).half) (sym f) (of n f).half_is) in
    record {
      root = λ h. let n = not_negative x h in result n.0 n.1;
      bound = λ n f. ((of n f).root, result n f ∙ ap (λ y. improved_root y (inverse_root_of y)) f ∙ (of n f).root_is, (of n f).near);
      others = end.others [] (3 ∷ 4 ∷ 5 ∷ 6 ∷ 9 ∷ 10 ∷ 11 ∷ 12 ∷ []) refl;
    }
