-- The dot product of two vectors of eight numbers.
use Rattle.std.proofs.Common.{◌≡◌, ℕ, ◌+◌, ◌*◌, ◌^◌, ◌<◌, ℤ, pos, ◌+ℤ◌, ◌*ℤ◌, List, [], ◌∷◌, length, get_or, map, Some, refl, ap, sym, subst, ◌∙◌, arith, inl, inr}
use Rattle.std.proofs.Math.IntN.{+ℤ_idl}
use Rattle.std.proofs.lemmas.Int.{ints}
use Rattle.std.proofs.lemmas.Bool.{cases_lt}
use Rattle.rsp_numbers.specs.Numbers.{s16, s32, s48, number, high, middle, low, join}
use Rattle.rsp_numbers.proofs.Signed.{s32_small, s32_large}
use Rattle.rsp_numbers.proofs.Wrap.{s48_is, s48_differs}
use Rattle.rsp_decode.specs.declared.inst.Inst.{Inst}
use Rattle.rsp_decode.specs.declared.inst.Inst.TheVariants.{ReadAccumulator}
use Rattle.rsp_decode.specs.declared.vector.VectorMultiplyOp.TheVariants.{Vmudh, Vmudm, Vmadm, Vmadn, Vmadh}
use Rattle.rsp_decode.specs.Table.Words.{inst_of, row_of}
use Rattle.rsp_lanes.specs.Lanes.{each_lane, selected, IsVector}
use Rattle.rsp_lanes.proofs.Kit.{lane_of}
use Rattle.rsp_lanes.proofs.Products.{high_vector}
use Rattle.rsp_acc.proofs.Rejoined.{parts_again}
use Rattle.rsp_multiply.specs.Laws.{SumsOfProducts}
use Rattle.rsp_multiply.specs.MultiplyRules.{signed_by_unsigned, signed_times_65536, sar_results}
use Rattle.rsp_loadstore.specs.File.{vector, with_vector}
use Rattle.rsp_machine.specs.State.{State, IsState}
use Rattle.rsp_machine.specs.Step.{executed, instruction_effect}
use Rattle.rsp_machine.specs.Vector.{reads_accumulator}
use Rattle.rsp_microcode.specs.Runs.{ran_through}
use Rattle.rsp_microcode.specs.Multiplies.{Term, term, summed, sum_writes}
use Rattle.rsp_microcode.specs.Pieces.{Piece, sums, rows, code_of}
use Rattle.rsp_microcode.specs.Fixed.{limited}
use Rattle.rsp_microcode.proofs.Registers.{vector_reads, length-with_vector}
use Rattle.rsp_microcode.proofs.RangesOfParts.{sixteen_small, wraps}
use Rattle.rsp_microcode.proofs.Fixed.{itself, fixed_parts, fixed_sum}
use Rattle.rsp_microcode.proofs.Pieces.{pieces_run}
use Rattle.rsp_routines.proofs.Products.{IsBelow, below}
use Rattle.rsp_routines.specs.Dot.{product, DotsNumbers}

abbrev words : List ℕ
words =
    0x4a0208c7 ∷ 0x4b0318dd ∷ 0x4b24211d ∷ 0x4b04f985 ∷ 0x4b03f94f ∷ 0x4b24f98d ∷ 0x4b23f94f ∷ 0x4b44f98d ∷ 0x4b43f94f ∷
    0x4b64f98d ∷ 0x4b63f94f ∷ 0x4b84f98d ∷ 0x4b83f94f ∷ 0x4ba4f98d ∷ 0x4ba3f94f ∷ 0x4bc4f98d ∷ 0x4bc3f94f ∷ 0x4be4f98d ∷
    0x4be3f94f ∷ 0x4a00018e ∷ []

abbrev first : List Term
first = term Vmudh 3 1 2 0 ∷ []

abbrev halves : List Inst
halves = ReadAccumulator (record { vd = 3; vs = 3; vt = 3; element = 8 }) ∷ ReadAccumulator (record { vd = 4; vs = 4; vt = 4; element = 9 }) ∷ []

abbrev terms : List Term
terms =
    term Vmudm 6 31 4 8 ∷ term Vmadh 5 31 3 8
    ∷ term Vmadm 6 31 4 9 ∷ term Vmadh 5 31 3 9
    ∷ term Vmadm 6 31 4 10 ∷ term Vmadh 5 31 3 10
    ∷ term Vmadm 6 31 4 11 ∷ term Vmadh 5 31 3 11
    ∷ term Vmadm 6 31 4 12 ∷ term Vmadh 5 31 3 12
    ∷ term Vmadm 6 31 4 13 ∷ term Vmadh 5 31 3 13
    ∷ term Vmadm 6 31 4 14 ∷ term Vmadh 5 31 3 14
    ∷ term Vmadm 6 31 4 15 ∷ term Vmadh 5 31 3 15
    ∷ term Vmadn 6 0 0 0 ∷ []

abbrev code : List Piece
code = sums first ∷ rows halves ∷ sums terms ∷ []

decoded : map inst_of words ≡ map Some (code_of code)
unfolding inst_of row_of
decoded = refl

-- a product, by the high and the middle sixteen bits of its accumulator
signed_is : (n i j : ℕ) (p : ℤ) → n < 2 ^ 32 → IsBelow p → pos n +ℤ pos (i * 2 ^ 32) ≡ p +ℤ pos (j * 2 ^ 32) → s32 n ≡ p
signed_is n i j p h b e =
    let b0 = b.low in
    let b1 = b.high in
    elim (cases_lt n (2 ^ 31)) [
      | inl l ↦ s32_small n l ∙ omega (arith, ints)
      | inr l ↦ s32_large n l h ∙ omega (arith, ints)
    ]

parted : (h m l i j : ℕ) (p : ℤ) → l < 65536 → pos (h * 2 ^ 32 + m * 2 ^ 16 + l) +ℤ pos (i * 2 ^ 48) ≡ p *ℤ pos 65536 +ℤ pos (j * 2 ^ 48)
    → pos (h * 65536 + m) +ℤ pos (i * 2 ^ 32) ≡ p +ℤ pos (j * 2 ^ 32)
parted h m l i j p ls g = omega (arith, ints)

joined_is : (h m l : ℕ) (p : ℤ) → h < 65536 → m < 65536 → l < 65536 → IsBelow p → s48 (pos (h * 2 ^ 32 + m * 2 ^ 16 + l)) ≡ p *ℤ pos 65536 → s32 (h * 65536 + m) ≡ p
joined_is h m l p hs ms ls b e =
    let d = s48_differs (pos (h * 2 ^ 32 + m * 2 ^ 16 + l)) in
    let g : pos (h * 2 ^ 32 + m * 2 ^ 16 + l) +ℤ pos (d.0 * 2 ^ 48) ≡ p *ℤ pos 65536 +ℤ pos (d.1 * 2 ^ 48) = d.2 ∙ ap (λ y. y +ℤ pos (d.1 * 2 ^ 48)) e in
    signed_is (h * 65536 + m) d.0 d.1 p (omega arith) b (parted h m l d.0 d.1 p ls g)

halves_are : (p : ℤ) → IsBelow p → s32 (high (s48 (p *ℤ pos 65536)) * 65536 + middle (s48 (p *ℤ pos 65536))) ≡ p
unfolding join high middle low
halves_are p b =
    let b0 = b.low in
    let b1 = b.high in
    let z = p *ℤ pos 65536 in
    let x = s48 z in
    let exact : x ≡ z = s48_is z z 0 0 refl (omega (arith, ints)) (omega (arith, ints)) in
    let again = parts_again x (wraps z) in
    let h = high x in
    let m = middle x in
    let l = low x in
    let hs : h < 65536 = sixteen_small _ in
    let ms : m < 65536 = sixteen_small _ in
    let ls : l < 65536 = sixteen_small _ in
    joined_is h m l p hs ms ls b (again ∙ exact)

-- one lane for all, of both halves: it adds the number that they make
abbrev pair : ℤ → List ℕ → List ℕ → List ℕ → ℕ → ℕ → ℤ
pair z m h u k i = (z +ℤ signed_by_unsigned (get_or u i 0) (get_or (selected m k) i 0)) +ℤ signed_times_65536 (get_or u i 0) (get_or (selected h k) i 0)

plain : (z a : ℤ) (m : ℕ) → (z +ℤ s16 1 *ℤ pos m) +ℤ (s16 1 *ℤ a) *ℤ pos 65536 ≡ z +ℤ (a *ℤ pos 65536 +ℤ pos m)
plain z a m = omega (arith, ints)

pair_is : (z : ℤ) (m h u : List ℕ) (k e i : ℕ) → i < 8 → IsVector m → IsVector h → get_or u i 0 ≡ 1
    → selected m k ≡ each_lane (λ _. get_or m e 0) → selected h k ≡ each_lane (λ _. get_or h e 0)
    → pair z m h u k i ≡ z +ℤ s32 (get_or h e 0 * 65536 + get_or m e 0)
pair_is z m h u k e i l is_m is_h one p q =
    let a : get_or (selected m k) i 0 ≡ get_or m e 0 = lane_of 0 (λ _. get_or m e 0) (selected m k) p i l in
    let b : get_or (selected h k) i 0 ≡ get_or h e 0 = lane_of 0 (λ _. get_or h e 0) (selected h k) q i l in
    rw (one, a, b) (plain z (s16 (get_or h e 0)) (get_or m e 0)) ∙ ap (λ y. z +ℤ y) (sym (fixed_parts (get_or h e 0) (get_or m e 0) (is_h.1 e) (is_m.1 e)))

abbrev so_far : List ℕ → List ℕ → List ℕ → ℕ → ℤ
so_far m h u i =
    pair (pair (pair (pair (pair (pair (pair (pair (pos 0) m h u 8 i) m h u 9 i) m h u 10 i) m h u 11 i) m h u 12 i) m h u 13 i) m h u 14 i) m h u 15 i

abbrev total : (ℕ → ℤ) → ℤ
total q = (((((((pos 0 +ℤ q 0) +ℤ q 1) +ℤ q 2) +ℤ q 3) +ℤ q 4) +ℤ q 5) +ℤ q 6) +ℤ q 7

whole_sum : (m h u : List ℕ) (q : ℕ → ℤ) (i : ℕ) → i < 8 → IsVector m → IsVector h → get_or u i 0 ≡ 1 → ((e : ℕ) → e < 8 → s32 (get_or h e 0 * 65536 + get_or m e 0) ≡ q e)
    → so_far m h u i ≡ total q
whole_sum m h u q i l is_m is_h one is =
    let next = λ (z y : ℤ) (same : z ≡ y) (k e : ℕ) (a : selected m k ≡ each_lane (λ _. get_or m e 0)) (b : selected h k ≡ each_lane (λ _. get_or h e 0)) (c : s32 (get_or h e 0 * 65536 + get_or m e 0) ≡ q e).
    ap (λ x. pair x m h u k i) same ∙ pair_is y m h u k e i l is_m is_h one a b ∙ ap (λ x. y +ℤ x) c in
    let s0 = next (pos 0) (pos 0) refl 8 0 refl refl (is 0 (omega arith)) in
    let s1 = next (pair (pos 0) m h u 8 i) ((pos 0) +ℤ q 0) s0 9 1 refl refl (is 1 (omega arith)) in
    let s2 = next (pair (pair (pos 0) m h u 8 i) m h u 9 i) (((pos 0) +ℤ q 0) +ℤ q 1) s1 10 2 refl refl (is 2 (omega arith)) in
    let s3 = next (pair (pair (pair (pos 0) m h u 8 i) m h u 9 i) m h u 10 i) ((((pos 0) +ℤ q 0) +ℤ q 1) +ℤ q 2) s2 11 3 refl refl (is 3 (omega arith)) in
    let s4 = next (pair (pair (pair (pair (pos 0) m h u 8 i) m h u 9 i) m h u 10 i) m h u 11 i) (((((pos 0) +ℤ q 0) +ℤ q 1) +ℤ q 2) +ℤ q 3) s3 12 4 refl refl (is 4 (omega arith)) in
    let s5 = next (pair (pair (pair (pair (pair (pos 0) m h u 8 i) m h u 9 i) m h u 10 i) m h u 11 i) m h u 12 i) ((((((pos 0) +ℤ q 0) +ℤ q 1) +ℤ q 2) +ℤ q 3) +ℤ q 4) s4 13 5 refl refl (is 5 (omega arith)) in
    let s6 = next (pair (pair (pair (pair (pair (pair (pos 0) m h u 8 i) m h u 9 i) m h u 10 i) m h u 11 i) m h u 12 i) m h u 13 i) (((((((pos 0) +ℤ q 0) +ℤ q 1) +ℤ q 2) +ℤ q 3) +ℤ q 4) +ℤ q 5) s5 14 6 refl refl (is 6 (omega arith)) in
    let s7 = next (pair (pair (pair (pair (pair (pair (pair (pos 0) m h u 8 i) m h u 9 i) m h u 10 i) m h u 11 i) m h u 12 i) m h u 13 i) m h u 14 i) ((((((((pos 0) +ℤ q 0) +ℤ q 1) +ℤ q 2) +ℤ q 3) +ℤ q 4) +ℤ q 5) +ℤ q 6) s6 15 7 refl refl (is 7 (omega arith)) in
    s7

in_range : (q : ℕ → ℤ) → ((e : ℕ) → e < 8 → IsBelow (q e)) → s48 (total q) ≡ total q
in_range q b =
    let l0 = (b 0 (omega arith)).low in
    let h0 = (b 0 (omega arith)).high in
    let l1 = (b 1 (omega arith)).low in
    let h1 = (b 1 (omega arith)).high in
    let l2 = (b 2 (omega arith)).low in
    let h2 = (b 2 (omega arith)).high in
    let l3 = (b 3 (omega arith)).low in
    let h3 = (b 3 (omega arith)).high in
    let l4 = (b 4 (omega arith)).low in
    let h4 = (b 4 (omega arith)).high in
    let l5 = (b 5 (omega arith)).low in
    let h5 = (b 5 (omega arith)).high in
    let l6 = (b 6 (omega arith)).low in
    let h6 = (b 6 (omega arith)).high in
    let l7 = (b 7 (omega arith)).low in
    let h7 = (b 7 (omega arith)).high in
    s48_is _ _ 0 0 refl (omega (arith, ints)) (omega (arith, ints))

without_0 : (q : ℕ → ℤ) → total q ≡ ((((((q 0 +ℤ q 1) +ℤ q 2) +ℤ q 3) +ℤ q 4) +ℤ q 5) +ℤ q 6) +ℤ q 7
without_0 q = ap (λ z. ((((((z +ℤ q 1) +ℤ q 2) +ℤ q 3) +ℤ q 4) +ℤ q 5) +ℤ q 6) +ℤ q 7) (+ℤ_idl (q 0))

-- the registers between: the halves of the products
abbrev read_out : State → State
read_out s = ran_through halves (summed first s)

middle_halves : (s : State) → IsState s → (vector (read_out s).vectors 3 ≡ sar_results 8 (summed first s).accumulators) × (vector (read_out s).vectors 4 ≡ sar_results 9 (summed first s).accumulators)
    × ((read_out s).vectors ≡ with_vector (with_vector (summed first s).vectors 3 (sar_results 8 (summed first s).accumulators)) 4 (sar_results 9 (summed first s).accumulators))
unfolding executed instruction_effect reads_accumulator
middle_halves s is =
    let x = (summed first s).accumulators in
    let count : length (summed first s).vectors ≡ 32 = length-with_vector s.vectors 3 _ ∙ is.vectors.count in
    (vector_reads ((3, sar_results 8 x) ∷ (4, sar_results 9 x) ∷ []) (summed first s).vectors 3 count refl, vector_reads ((3, sar_results 8 x) ∷ (4, sar_results 9 x) ∷ []) (summed first s).vectors 4 count refl, refl)

kept : (s : State) → IsState s → (vector (read_out s).vectors 0 ≡ vector s.vectors 0) × (vector (read_out s).vectors 31 ≡ vector s.vectors 31) × (length (read_out s).vectors ≡ 32)
unfolding executed instruction_effect reads_accumulator
kept s is =
    let x = (summed first s).accumulators in
    let count : length (summed first s).vectors ≡ 32 = length-with_vector s.vectors 3 _ ∙ is.vectors.count in
    let read = λ (n : ℕ). vector_reads ((3, sar_results 8 x) ∷ (4, sar_results 9 x) ∷ []) (summed first s).vectors n count refl in
    let before = λ (n : ℕ). vector_reads (sum_writes first s.vectors) s.vectors n is.vectors.count refl in
    (read 0 ∙ before 0, read 31 ∙ before 31, length-with_vector _ 4 _ ∙ length-with_vector _ 3 _ ∙ length-with_vector s.vectors 3 _ ∙ is.vectors.count)

abbrev accumulated : List ℕ → List ℕ → ℕ → ℤ
accumulated a b i = s48 (signed_times_65536 (get_or a i 0) (get_or (selected b 0) i 0) +ℤ pos 0)

are_halves : (a b : List ℕ) → IsVector a → IsVector b → (e : ℕ) → e < 8
    → s32 (get_or (sar_results 8 (each_lane (accumulated a b))) e 0 * 65536 + get_or (sar_results 9 (each_lane (accumulated a b))) e 0) ≡ product a b e
unfolding sar_results
are_halves a b is_a is_b e h =
    let xs = each_lane (accumulated a b) in
    let p = product a b e in
    let x : number xs e ≡ s48 (p *ℤ pos 65536) = lane_of (pos 0) (accumulated a b) xs refl e h ∙ rw (itself b e h) (ap s48 (plus_none (p *ℤ pos 65536))) in
    let hi : get_or (sar_results 8 xs) e 0 ≡ high (number xs e) = lane_of 0 (λ i. high (number xs i)) (sar_results 8 xs) refl e h in
    let mid : get_or (sar_results 9 xs) e 0 ≡ middle (number xs e) = lane_of 0 (λ i. middle (number xs i)) (sar_results 9 xs) refl e h in
    rw (hi, mid, x) (halves_are p (below (get_or a e 0) (get_or b e 0) (is_a.1 e) (is_b.1 e)))
  where
    plus_none : (z : ℤ) → z +ℤ pos 0 ≡ z
    plus_none z = omega (arith, ints)

sar_vector : (e : ℕ) (xs : List ℤ) → e ≡ 8 → IsVector (sar_results e xs)
unfolding sar_results high
sar_vector e xs q = rw q (high_vector _ (λ i. sixteen_small _))

sar_vector_9 : (xs : List ℤ) → IsVector (sar_results 9 xs)
unfolding sar_results middle
sar_vector_9 xs = high_vector _ (λ i. sixteen_small _)

pub dots : SumsOfProducts → DotsNumbers words
dots law s is at zero ones =
    let end = pieces_run law words code decoded refl s is at tt in
    let a = vector s.vectors 1 in
    let b = vector s.vectors 2 in
    let w = read_out s in
    let xs = (summed first s).accumulators in
    let v = is.vectors.registers in
    let mids = middle_halves s is in
    let same = kept s is in
    let read = λ (n : ℕ). ap (λ (t : State). vector t.vectors n) end.ran ∙ vector_reads (sum_writes terms w.vectors) w.vectors n same.2 refl in
    let is_h = subst IsVector (sym mids.0) (sar_vector 8 xs refl) in
    let is_m = subst IsVector (sym mids.1) (sar_vector_9 xs) in
    let numbers : (e : ℕ) → e < 8 → s32 (get_or (vector w.vectors 3) e 0 * 65536 + get_or (vector w.vectors 4) e 0) ≡ product a b e =
    λ e h. rw (mids.0, mids.1) (are_halves a b (v 1 (omega arith)) (v 2 (omega arith)) e h) in
    let one = λ (i : ℕ) (h : i < 8). lane_of 0 (λ _. 1) (vector w.vectors 31) (same.1 ∙ ones) i h in
    record {
      result = λ i h.
          fixed_sum (so_far (vector w.vectors 4) (vector w.vectors 3) (vector w.vectors 31)) (vector w.vectors 0) _ _ (same.0 ∙ zero) (read 5) (read 6) i h
          ∙ ap (λ z. limited (s48 z)) (whole_sum _ _ _ (product a b) i h is_m is_h (one i h) numbers)
          ∙ ap limited (in_range (product a b) (λ e h. below (get_or a e 0) (get_or b e 0) ((v 1 (omega arith)).1 e) ((v 2 (omega arith)).1 e)) ∙ without_0 (product a b));
      others = end.others [] (3 ∷ 4 ∷ 5 ∷ 6 ∷ []) refl;
    }
