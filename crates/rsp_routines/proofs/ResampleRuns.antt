-- Samples between samples.
use Rattle.std.proofs.Common.{◌≡◌, ℕ, suc, ◌+◌, ◌-◌, ◌*◌, ◌^◌, ◌<◌, ℤ, pos, negsuc, ◌+ℤ◌, ◌*ℤ◌, List, [], ◌∷◌, length, get_or, bit_or, map, Some, refl, ap, sym, ◌∙◌, arith}
use Rattle.std.specs.Prelude.{◌≤ℤ◌, ◌<ℤ◌}
use Rattle.std.proofs.Math.IntN.{one, *ℤ_comm, *ℤ-one, suc_ℤ-*ℤ}
use Rattle.std.proofs.lemmas.Int.{ints}
use Rattle.std.proofs.lemmas.Nat.{or_shifted}
use Rattle.rsp_numbers.specs.Numbers.{s16, s48, sixteen_bits, clamp16, floor_div}
use Rattle.rsp_numbers.proofs.Wrap.{s48_is}
use Rattle.rsp_decode.specs.declared.inst.Inst.{Inst}
use Rattle.rsp_decode.specs.declared.inst.Inst.TheVariants.{VectorLogic}
use Rattle.rsp_decode.specs.declared.vector.VectorMultiplyOp.TheVariants.{Vmudm, Vmadm}
use Rattle.rsp_decode.specs.declared.vector.VectorLogicOp.TheVariants as logic
use Rattle.rsp_compare.specs.declared.logic.LogicOp.TheVariants.{Vnor}
use Rattle.rsp_decode.specs.Table.Words.{inst_of, row_of}
use Rattle.rsp_lanes.specs.Lanes.{each_lane, selected, IsVector}
use Rattle.rsp_lanes.specs.Outcome.{results_of, flags_after}
use Rattle.rsp_lanes.specs.declared.flags.Flags.{Flags}
use Rattle.rsp_lanes.proofs.Kit.{lane_of, each_same}
use Rattle.rsp_lanes.proofs.FlagLanes.{whole}
use Rattle.rsp_acc.specs.Parts.{clamp_of}
use Rattle.rsp_acc.specs.declared.parts.Clamp.TheVariants.{Signed}
use Rattle.rsp_compare.specs.Logic.{logic_rule}
use Rattle.rsp_multiply.specs.Laws.{SumsOfProducts}
use Rattle.rsp_multiply.specs.MultiplyRules.{signed_by_unsigned}
use Rattle.rsp_multiply.proofs.Signs.{mixed}
use Rattle.rsp_loadstore.specs.File.{vector}
use Rattle.rsp_machine.specs.State.{State, IsState}
use Rattle.rsp_machine.specs.Step.{executed, instruction_effect}
use Rattle.rsp_machine.specs.Vector.{ruled}
use Rattle.rsp_machine.specs.Laws.{steps_of}
use Rattle.rsp_microcode.specs.Runs.{address_after_words}
use Rattle.rsp_microcode.specs.Kept.{vectors_but}
use Rattle.rsp_microcode.specs.Multiplies.{Term, term, sum_writes}
use Rattle.rsp_microcode.specs.Pieces.{Piece, sums, rows, code_of}
use Rattle.rsp_microcode.proofs.Registers.{vector_reads, length-with_vector}
use Rattle.rsp_microcode.proofs.Fixed.{itself}
use Rattle.rsp_microcode.proofs.Pieces.{pieces_run}
use Rattle.rsp_routines.specs.Resample.{between, ResamplesSound}

abbrev words : List ℕ
words = 0x4a0019ab ∷ 0x4a060905 ∷ 0x4b05090d ∷ 0x4a03110d ∷ []

abbrev inverting : Inst
inverting = VectorLogic logic.Vnor (record { vd = 6; vs = 3; vt = 0; element = 0 })

abbrev terms : List Term
terms = term Vmudm 4 1 6 0 ∷ term Vmadm 4 1 5 8 ∷ term Vmadm 4 2 3 0 ∷ []

abbrev code : List Piece
code = rows (inverting ∷ []) ∷ sums terms ∷ []

decoded : map inst_of words ≡ map Some (code_of code)
unfolding inst_of row_of
decoded = refl

-- a number or 0 is the number, so VNOR is 65535 less it
or_zero : (n : ℕ) → bit_or n 0 ≡ n
or_zero n = ap (λ m. bit_or m 0) (let e : n ≡ n * 2 ^ 0 = omega arith in e) ∙ or_shifted n 0 0 (omega arith) ∙ omega arith

abbrev rest : List ℕ → List ℕ
rest f = each_lane (λ i. 65535 - get_or f i 0)

inverted : (f z : List ℕ) (g : Flags) → z ≡ each_lane (λ _. 0) → results_of (logic_rule Vnor) f (selected z 0) g ≡ rest f
unfolding results_of
inverted f z g zero = each_same _ _ (λ i h. rw (itself z i h, lane_of 0 (λ _. 0) z zero i h, or_zero (get_or f i 0)) refl)

kept_flags : (f z : List ℕ) (s : State) → IsState s → flags_after (logic_rule Vnor) f (selected z 0) s.flags ≡ s.flags
unfolding flags_after
kept_flags f z s is = let k = is.flags in sym (whole s.flags k.carry k.differ k.compare k.clip k.extra)

-- a times g, and once more
once_more : (a : ℤ) (g : ℕ) → a *ℤ pos g +ℤ a *ℤ pos 1 ≡ a *ℤ pos (g + 1)
unfolding one
once_more a g =
    ap (λ z. a *ℤ pos g +ℤ z) (*ℤ-one a) ∙ ap (λ z. z +ℤ a) (*ℤ_comm a (pos g)) ∙ sym (suc_ℤ-*ℤ (pos g) a)
    ∙ *ℤ_comm (pos (suc g)) a ∙ ap (λ n. a *ℤ pos n) (let e : suc g ≡ g + 1 = omega arith in e)

record IsSmall (z : ℤ) : Type 0 where
  low : negsuc (2 ^ 31 - 1) ≤ℤ z
  high : z <ℤ pos (2 ^ 31)

small : (a b : ℕ) → a < 65536 → b < 65536 → IsSmall (s16 a *ℤ pos b)
small a b h k = let p = mixed a b h k in record { low = p.low; high = p.high }

in_range : (p q r : ℤ) → IsSmall p → IsSmall q → IsSmall r → s48 (((pos 0 +ℤ p) +ℤ q) +ℤ r) ≡ (p +ℤ q) +ℤ r
in_range p q r a b c =
    let a0 = a.low in
    let a1 = a.high in
    let b0 = b.low in
    let b1 = b.high in
    let c0 = c.low in
    let c1 = c.high in
    s48_is _ _ 0 0 (omega (arith, ints)) (omega (arith, ints)) (omega (arith, ints))

-- the addends of a lane
abbrev so_far : List ℕ → List ℕ → List ℕ → List ℕ → List ℕ → ℕ → ℤ
so_far a b f g u i =
    ((pos 0 +ℤ signed_by_unsigned (get_or a i 0) (get_or (selected g 0) i 0)) +ℤ signed_by_unsigned (get_or a i 0) (get_or (selected u 8) i 0))
    +ℤ signed_by_unsigned (get_or b i 0) (get_or (selected f 0) i 0)

lane : (a b f u : List ℕ) → IsVector a → IsVector b → IsVector f → get_or u 0 0 ≡ 1 → (i : ℕ) → i < 8
    → clamp_of Signed (s48 (so_far a b f (rest f) u i)) ≡ sixteen_bits (between (s16 (get_or a i 0)) (s16 (get_or b i 0)) (get_or f i 0))
unfolding clamp_of
lane a b f u is_a is_b is_f unit i h =
    let n = get_or f i 0 in
    let bound = is_f.1 i in
    let p : get_or (selected u 8) i 0 ≡ 1 = lane_of 0 (λ _. get_or u 0 0) (selected u 8) refl i h ∙ unit in
    let q : get_or (selected (rest f) 0) i 0 ≡ 65535 - n = itself (rest f) i h ∙ lane_of 0 (λ i. 65535 - get_or f i 0) (rest f) refl i h in
    let e : 65535 - n + 1 ≡ 65536 - n = omega arith in
    rw (p, q, itself f i h) (ap (λ z. sixteen_bits (clamp16 (floor_div z 65536))) (
    in_range _ _ _ (small (get_or a i 0) (65535 - n) (is_a.1 i) (omega arith)) (small (get_or a i 0) 1 (is_a.1 i) (omega arith)) (small (get_or b i 0) n (is_b.1 i) bound)
    ∙ ap (λ z. z +ℤ s16 (get_or b i 0) *ℤ pos n) (once_more (s16 (get_or a i 0)) (65535 - n) ∙ ap (λ m. s16 (get_or a i 0) *ℤ pos m) e)
    ))

-- the state after the VNOR
abbrev begun : State → State
begun s = executed inverting s

pub resamples : SumsOfProducts → ResamplesSound words
unfolding executed instruction_effect ruled
resamples law s is at zero unit =
    let end = pieces_run law words code decoded refl s is at tt in
    let u = begun s in
    let v = is.vectors.registers in
    let count : length u.vectors ≡ 32 = length-with_vector s.vectors 6 _ ∙ is.vectors.count in
    let first = λ (n : ℕ). vector_reads ((6, results_of (logic_rule Vnor) (vector s.vectors 3) (selected (vector s.vectors 0) 0) s.flags) ∷ []) s.vectors n is.vectors.count refl in
    let six : vector u.vectors 6 ≡ rest (vector s.vectors 3) = first 6 ∙ inverted (vector s.vectors 3) (vector s.vectors 0) s.flags zero in
    let four = ap (λ (t : State). vector t.vectors 4) end.ran ∙ vector_reads (sum_writes terms u.vectors) u.vectors 4 count refl in
    record {
      samples = λ i h. lane_of 0 _ _ four i h ∙ rw (first 1, first 2, first 3, first 5, six) (lane _ _ _ (vector s.vectors 5) (v 1 (omega arith)) (v 2 (omega arith)) (v 3 (omega arith)) unit i h);
      others = let all = end.others [] (4 ∷ 6 ∷ []) refl in
          let flags = ap (λ (t : State). t.flags) end.ran ∙ kept_flags (vector s.vectors 3) (vector s.vectors 0) s is in
          all ∙ ap (λ (f : Flags). let y : State = record s {
            pc = address_after_words words s.pc;
            npc = address_after_words words s.npc;
            vectors = vectors_but (4 ∷ 6 ∷ []) s.vectors (steps_of 4 s).vectors;
            accumulators = (steps_of 4 s).accumulators;
            flags = f;
          } in y) flags;
    }
