-- A filter of four coefficients.
use Rattle.std.proofs.Common.{◌≡◌, ℕ, ◌+◌, ◌*◌, ◌/◌, ◌%◌, ◌^◌, ◌<◌, ℤ, pos, ◌+ℤ◌, ◌*ℤ◌, List, [], ◌∷◌, length, get_or, map, take, Some, refl, ap, sym, subst, ◌∙◌, arith, inl, inr}
use Rattle.std.specs.Prelude.{int_lt}
use Rattle.std.proofs.lemmas.Int.{ints}
use Rattle.rsp_numbers.specs.Numbers.{s32, s48, sixteen_bits, clamp16, floor_div}
use Rattle.rsp_numbers.proofs.Wrap.{s48_is}
use Rattle.rsp_decode.specs.declared.inst.Inst.{Inst}
use Rattle.rsp_decode.specs.declared.inst.Inst.TheVariants.{Immediate, BranchSign}
use Rattle.rsp_decode.specs.declared.vector.VectorMultiplyOp.TheVariants.{Vmulf, Vmacf}
use Rattle.rsp_decode.specs.declared.scalar.ImmediateOp.TheVariants.{Addiu}
use Rattle.rsp_decode.specs.declared.scalar.BranchSignOp.TheVariants.{Bgtz}
use Rattle.rsp_decode.specs.Table.Words.{inst_of, row_of}
use Rattle.rsp_memory.specs.Memory.{half_at}
use Rattle.rsp_lanes.specs.Lanes.{each_lane, selected, IsVector}
use Rattle.rsp_lanes.proofs.Kit.{lane_of, each_same, length_each}
use Rattle.rsp_acc.specs.Parts.{clamp_of}
use Rattle.rsp_acc.specs.declared.parts.Clamp.TheVariants.{Signed}
use Rattle.rsp_multiply.specs.Laws.{SumsOfProducts}
use Rattle.rsp_multiply.specs.MultiplyRules.{rounded, fraction}
use Rattle.rsp_scalar.specs.Registers.{register}
use Rattle.rsp_scalar.specs.Flow.{address_after}
use Rattle.rsp_loadstore.specs.File.{IsFile, vector, with_vector}
use Rattle.rsp_machine.specs.State.{State, IsState}
use Rattle.rsp_machine.specs.Step.{executed, instruction_effect, computes, jumps}
use Rattle.rsp_machine.specs.Vector.{loads_vector}
use Rattle.rsp_machine.specs.Laws.{steps_of}
use Rattle.rsp_microcode.specs.Runs.{ran_through}
use Rattle.rsp_microcode.specs.Lanes.{lqv, lanes_at, with_lanes, HasBytes}
use Rattle.rsp_microcode.specs.Loads.{WholeLoad, load}
use Rattle.rsp_microcode.specs.Multiplies.{Term, term, sum_writes}
use Rattle.rsp_microcode.specs.Pieces.{takes, sums, puts, rows, after_pieces}
use Rattle.rsp_microcode.specs.Loops.{Loop, loop_code, round_of, HandsOn}
use Rattle.rsp_microcode.specs.Buffers.{IsFilled}
use Rattle.rsp_microcode.proofs.Registers.{vector_reads}
use Rattle.rsp_microcode.proofs.Listings.{listed}
use Rattle.rsp_microcode.proofs.LoadRuns.{file_written}
use Rattle.rsp_microcode.proofs.Bytes.{has_bytes, lanes_are, same_lanes}
use Rattle.rsp_microcode.proofs.Buffers.{filled_none, filled_one}
use Rattle.rsp_microcode.proofs.Joins.{ran_others}
use Rattle.rsp_routines.proofs.Products.{IsBelow, below}
use Rattle.rsp_routines.specs.Areas.{vectors_for}
use Rattle.rsp_routines.specs.Filter.{filtered, IsFilter, Filters, FiltersSound}
use Rattle.rsp_routines.proofs.Bytes.{lane_half}
use Rattle.rsp_routines.proofs.RightLoads.{lrv}
use Rattle.rsp_routines.proofs.Unaligned.{whole_loads}
use Rattle.rsp_routines.proofs.Tailed.{tailed_words, tailed, more, buffer_of}

abbrev loads : List WholeLoad
loads = load 1 0 1 ∷ []

-- the addresses of the other three vectors, their loads, and the count
abbrev addresses : List Inst
addresses = Immediate Addiu 6 1 2 ∷ Immediate Addiu 7 1 4 ∷ Immediate Addiu 8 1 6 ∷ []

abbrev others : List Inst
others = lqv 2 0 6 ∷ lrv 2 1 6 ∷ lqv 3 0 7 ∷ lrv 3 1 7 ∷ lqv 4 0 8 ∷ lrv 4 1 8 ∷ []

abbrev counts : List Inst
counts = Immediate Addiu 4 4 0xfff0 ∷ Immediate Addiu 1 1 16 ∷ []

abbrev terms : List Term
terms = term Vmulf 5 1 6 8 ∷ term Vmacf 5 2 6 9 ∷ term Vmacf 5 3 6 10 ∷ term Vmacf 5 4 6 11 ∷ []

abbrev loop : Loop
loop = record {
  words =
      0xc8212000 ∷ 0x24260002 ∷ 0x24270004 ∷ 0x24280006 ∷ 0xc8c22000 ∷ 0xc8c22801 ∷ 0xc8e32000 ∷ 0xc8e32801 ∷ 0xc9042000 ∷ 0xc9042801 ∷
      0x2484fff0 ∷ 0x24210010 ∷ 0x4b060940 ∷ 0x4b261148 ∷ 0x4b461948 ∷ 0x4b662148 ∷ 0xe8652000 ∷ 0x1c80ffee ∷ 0x24630010 ∷ [];
  pieces = takes loads ∷ rows addresses ∷ rows others ∷ rows counts ∷ sums terms ∷ puts 5 0 3 ∷ [];
  branch = BranchSign Bgtz 4 0xffee;
  slot = Immediate Addiu 3 3 16;
}

decoded : map inst_of loop.words ≡ map Some (loop_code loop)
unfolding inst_of row_of
decoded = refl

-- eight samples: the addends so far, and the sum, which never wraps
abbrev so_far : List ℕ → List ℕ → List ℕ → List ℕ → List ℕ → ℕ → ℤ
so_far w x y z c i =
    (((pos 0 +ℤ rounded (get_or w i 0) (get_or (selected c 8) i 0)) +ℤ fraction (get_or x i 0) (get_or (selected c 9) i 0))
    +ℤ fraction (get_or y i 0) (get_or (selected c 10) i 0)) +ℤ fraction (get_or z i 0) (get_or (selected c 11) i 0)

in_range : (p q r s : ℤ) → IsBelow p → IsBelow q → IsBelow r → IsBelow s
    → s48 ((((pos 0 +ℤ (pos 2 *ℤ p +ℤ pos 32768)) +ℤ pos 2 *ℤ q) +ℤ pos 2 *ℤ r) +ℤ pos 2 *ℤ s) ≡ (((pos 2 *ℤ p +ℤ pos 32768) +ℤ pos 2 *ℤ q) +ℤ pos 2 *ℤ r) +ℤ pos 2 *ℤ s
in_range p q r s a b c d =
    let a0 = a.low in
    let a1 = a.high in
    let b0 = b.low in
    let b1 = b.high in
    let c0 = c.low in
    let c1 = c.high in
    let d0 = d.low in
    let d1 = d.high in
    s48_is _ _ 0 0 (omega (arith, ints)) (omega (arith, ints)) (omega (arith, ints))

abbrev samples : List ℕ → List ℕ → List ℕ → List ℕ → List ℕ → List ℕ
samples w x y z c = each_lane (λ i. filtered (get_or w i 0) (get_or x i 0) (get_or y i 0) (get_or z i 0) c)

all_lanes : (w x y z c : List ℕ) → IsVector w → IsVector x → IsVector y → IsVector z → IsVector c → each_lane (λ i. clamp_of Signed (s48 (so_far w x y z c i))) ≡ samples w x y z c
unfolding clamp_of
all_lanes w x y z c is_w is_x is_y is_z is_c = each_same _ _ (λ i h.
    let pick = λ (e : ℕ) (q : selected c (8 + e) ≡ each_lane (λ _. get_or c e 0)). lane_of 0 (λ _. get_or c e 0) (selected c (8 + e)) q i h in
    rw (pick 0 refl, pick 1 refl, pick 2 refl, pick 3 refl) (ap (λ z. sixteen_bits (clamp16 (floor_div z 65536))) (in_range _ _ _ _
    (below (get_or w i 0) (get_or c 0 0) (is_w.1 i) (is_c.1 0)) (below (get_or x i 0) (get_or c 1 0) (is_x.1 i) (is_c.1 1))
    (below (get_or y i 0) (get_or c 2 0) (is_y.1 i) (is_c.1 2)) (below (get_or z i 0) (get_or c 3 0) (is_z.1 i) (is_c.1 3)))))

-- the state after the loads at the three addresses
abbrev with_three : State → State
with_three w =
    let r = w.registers in
    let at = λ (n : ℕ). lanes_at w.dmem (register r n) in
    let file = with_vector (with_vector (with_vector w.vectors 2 (at 6)) 3 (at 7)) 4 (at 8) in
    let two : State = record w { pc = address_after w.npc; npc = address_after (address_after w.npc) } in
    let four : State = record two { pc = address_after two.npc; npc = address_after (address_after two.npc) } in
    record four { pc = address_after four.npc; npc = address_after (address_after four.npc); vectors = file }

three_loads : (w : State) → IsFile w.vectors → HasBytes w.dmem → register w.registers 6 + 16 < 2 ^ 32 → register w.registers 7 + 16 < 2 ^ 32 → register w.registers 8 + 16 < 2 ^ 32
    → ran_through others w ≡ with_three w
three_loads w is bytes a6 a7 a8 =
    let r = w.registers in
    let at = λ (n : ℕ). lanes_at w.dmem (register r n) in
    let f2 = with_vector w.vectors 2 (at 6) in
    let f3 = with_vector f2 3 (at 7) in
    let is2 : IsFile f2 = file_written w.vectors 2 (at 6) (omega arith) (lanes_are w.dmem _ bytes) is in
    let is3 : IsFile f3 = file_written f2 3 (at 7) (omega arith) (lanes_are w.dmem _ bytes) is2 in
    let w2 : State = record w { pc = address_after w.npc; npc = address_after (address_after w.npc); vectors = f2 } in
    let w3 : State = record w2 { pc = address_after w2.npc; npc = address_after (address_after w2.npc); vectors = f3 } in
    ap (λ (x : State). executed (lrv 4 1 8) (executed (lqv 4 0 8) (executed (lrv 3 1 7) (executed (lqv 3 0 7) x)))) (whole_loads 2 6 w is bytes (omega arith) a6)
    ∙ ap (λ (x : State). executed (lrv 4 1 8) (executed (lqv 4 0 8) x)) (whole_loads 3 7 w2 is2 bytes (omega arith) a7)
    ∙ whole_loads 4 8 w3 is3 bytes (omega arith) a8

-- vector k of the samples from the one j later on, of the filtered ones, and what holds after k rounds
abbrev later : State → ℕ → ℕ → List ℕ
later s k j = lanes_at s.dmem (register s.registers 1 + 16 * k + 2 * j)

abbrev mixture : State → ℕ → List ℕ
mixture s k = samples (later s k 0) (later s k 1) (later s k 2) (later s k 3) (vector s.vectors 6)

record Holds (s : State) (k : ℕ) (t : State) : Type 0 where
  one : register t.registers 1 ≡ register s.registers 1 + 16 * k
  three : register t.registers 3 ≡ register s.registers 3 + 16 * k
  four : (register t.registers 4 + 16 * k) % 2 ^ 32 ≡ register s.registers 4
  filled : IsFilled (mixture s) s.dmem t.dmem (register s.registers 3) k

-- the scalar registers after a round, the one that the branch reads, the address of the store, and those of the loads
counted : (t : State) → length t.registers ≡ 32 →
    let r = t.registers in
    let q = (round_of loop t).registers in
    let w = (after_pieces (take 2 loop.pieces) t).registers in
    (register q 1 ≡ (register r 1 + 16) % 2 ^ 32) × (register q 3 ≡ (register r 3 + 16) % 2 ^ 32) × (register q 4 ≡ (register r 4 + 4294967280) % 2 ^ 32)
    × (register (after_pieces loop.pieces t).registers 4 ≡ (register r 4 + 4294967280) % 2 ^ 32)
    × (register (after_pieces (take 5 loop.pieces) t).registers 3 ≡ register r 3)
    × (register w 6 ≡ (register r 1 + 2) % 2 ^ 32) × (register w 7 ≡ (register r 1 + 4) % 2 ^ 32) × (register w 8 ≡ (register r 1 + 6) % 2 ^ 32)
    × (register w 3 ≡ register r 3) × (length w ≡ 32)
unfolding executed instruction_effect computes jumps loads_vector
counted t n =
    let e = listed t.registers n in
    let q = λ (i : ℕ) (r : List ℕ). register (round_of loop (record t { registers = r })).registers i in
    let w = λ (i : ℕ) (r : List ℕ). register (after_pieces (take 2 loop.pieces) (record t { registers = r })).registers i in (
      ap (q 1) e,
      ap (q 3) e,
      ap (q 4) e,
      ap (λ (r : List ℕ). register (after_pieces loop.pieces (record t { registers = r })).registers 4) e,
      ap (λ (r : List ℕ). register (after_pieces (take 5 loop.pieces) (record t { registers = r })).registers 3) e,
      ap (w 6) e,
      ap (w 7) e,
      ap (w 8) e,
      ap (w 3) e,
      ap (λ (r : List ℕ). length (after_pieces (take 2 loop.pieces) (record t { registers = r })).registers) e,
    )

-- what the rest of a round stores
abbrev ended : State → State
ended w = executed loop.slot (executed loop.branch (after_pieces (rows counts ∷ sums terms ∷ puts 5 0 3 ∷ []) w))

store_of : (w : State) → length w.registers ≡ 32 → IsFile w.vectors → (ended w).dmem
    ≡ with_lanes w.dmem (register w.registers 3 + 16 * 0) (samples (vector w.vectors 1) (vector w.vectors 2) (vector w.vectors 3) (vector w.vectors 4) (vector w.vectors 6))
unfolding executed instruction_effect computes jumps
store_of w n is =
    let v = is.registers in
    ap (λ (r : List ℕ). (ended (record w { registers = r })).dmem) (listed w.registers n)
    ∙ ap (with_lanes w.dmem (register w.registers 3 + 16 * 0)) (
    vector_reads (sum_writes terms w.vectors) w.vectors 5 is.count refl
    ∙ all_lanes _ _ _ _ _ (v 1 (omega arith)) (v 2 (omega arith)) (v 3 (omega arith)) (v 4 (omega arith)) (v 6 (omega arith))
    )

same_store : (m : List ℕ) (a b : ℕ) (w w' x x' y y' z z' c c' : List ℕ) → a ≡ b → w ≡ w' → x ≡ x' → y ≡ y' → z ≡ z' → c ≡ c'
    → with_lanes m a (samples w x y z c) ≡ with_lanes m b (samples w' x' y' z' c')
same_store m a b w w' x x' y y' z z' c c' p q r s t u = rw (p, q, r, s, t, u) refl

stored : (t : State) → IsState t → register t.registers 1 < 8192 → (round_of loop t).dmem
    ≡ with_lanes t.dmem (register t.registers 3 + 16 * 0) (samples (lanes_at t.dmem (register t.registers 1 + 16 * 0)) (lanes_at t.dmem (register t.registers 1 + 2)) (lanes_at t.dmem (register t.registers 1 + 4)) (lanes_at t.dmem (register t.registers 1 + 6)) (vector t.vectors 6))
unfolding executed instruction_effect computes
stored t is low =
    let r = t.registers in
    let bytes = has_bytes t.dmem is.dmem in
    let q = counted t is.registers.count in
    let w = after_pieces (take 2 loop.pieces) t in
    let a6 : register w.registers 6 ≡ register r 1 + 2 = q.5 ∙ omega arith in
    let a7 : register w.registers 7 ≡ register r 1 + 4 = q.6 ∙ omega arith in
    let a8 : register w.registers 8 ≡ register r 1 + 6 = q.7 ∙ omega arith in
    let lanes = λ (a : ℕ). lanes_are t.dmem a bytes in
    let at = λ (n : ℕ). lanes_at t.dmem (register w.registers n) in
    let f1 = with_vector t.vectors 1 (lanes_at t.dmem (register r 1 + 16 * 0)) in
    let is1 : IsFile f1 = file_written t.vectors 1 _ (omega arith) (lanes _) is.vectors in
    let is2 : IsFile (with_vector f1 2 (at 6)) = file_written f1 2 _ (omega arith) (lanes _) is1 in
    let is3 : IsFile (with_vector (with_vector f1 2 (at 6)) 3 (at 7)) = file_written _ 3 _ (omega arith) (lanes _) is2 in
    let is4 : IsFile (with_vector (with_vector (with_vector f1 2 (at 6)) 3 (at 7)) 4 (at 8)) = file_written _ 4 _ (omega arith) (lanes _) is3 in
    let all = three_loads w is1 bytes (omega arith) (omega arith) (omega arith) in
    let read = λ (n : ℕ). vector_reads ((1, lanes_at t.dmem (register r 1 + 16 * 0)) ∷ (2, at 6) ∷ (3, at 7) ∷ (4, at 8) ∷ []) t.vectors n is.vectors.count refl in
    ap (λ (x : State). (ended x).dmem) all ∙ store_of (with_three w) q.9 is4
    ∙ same_store t.dmem _ _ _ _ _ _ _ _ _ _ _ _ (ap (λ n. n + 16 * 0) q.8) (read 1) (read 2 ∙ ap (lanes_at t.dmem) a6) (read 3 ∙ ap (lanes_at t.dmem) a7) (read 4 ∙ ap (lanes_at t.dmem) a8) (read 6)

-- what a round reads is what was there at the start
spared : (f : ℕ → List ℕ) (m t : List ℕ) (b c n k j : ℕ) → IsFilter b c n → k < vectors_for n → j < 4 → IsFilled f m t c k → lanes_at t (b + 16 * k + 2 * j) ≡ lanes_at m (b + 16 * k + 2 * j)
spared f m t b c n k j entered h l filled =
    let p = entered.source.ends in
    let q = entered.target.begins in
    same_lanes m t (b + 16 * k + 2 * j) (λ x g. filled.outside (b + 16 * k + 2 * j + x) (elim entered.spares [
      | inl below ↦ omega arith
      | inr above ↦ omega arith
    ]))

one_round : (s u : State) → IsFilter (register s.registers 1) (register s.registers 3) (register s.registers 4) → vector u.vectors 6 ≡ vector s.vectors 6
    → HandsOn loop u (vectors_for (register s.registers 4)) (Holds s)
one_round s u entered coefficients k t h is spares holds =
    let b = register s.registers 1 in
    let c = register s.registers 3 in
    let n = register s.registers 4 in
    let e1 = holds.one in
    let e3 = holds.three in
    let e4 = holds.four in
    let to = buffer_of c n entered.target in
    let fa = entered.source.aligned in
    let fe = entered.source.ends in
    let ta = to.aligned in
    let ti = to.inside in
    let most = entered.target.ends in
    let q = counted t is.registers.count in
    let read = λ (j : ℕ) (l : j < 4). spared (mixture s) s.dmem t.dmem b c n k j entered h l holds.filled in
    let x0 : lanes_at t.dmem (register t.registers 1 + 16 * 0) ≡ later s k 0 = ap (lanes_at t.dmem) (omega arith) ∙ read 0 (omega arith) in
    let x1 : lanes_at t.dmem (register t.registers 1 + 2) ≡ later s k 1 = ap (lanes_at t.dmem) (omega arith) ∙ read 1 (omega arith) in
    let x2 : lanes_at t.dmem (register t.registers 1 + 4) ≡ later s k 2 = ap (lanes_at t.dmem) (omega arith) ∙ read 2 (omega arith) in
    let x3 : lanes_at t.dmem (register t.registers 1 + 6) ≡ later s k 3 = ap (lanes_at t.dmem) (omega arith) ∙ read 3 (omega arith) in
    let at : register t.registers 3 + 16 * 0 ≡ c + 16 * k = omega arith in
    let same : vector t.vectors 6 ≡ vector s.vectors 6 = spares.vectors 6 refl ∙ coefficients in
    let memory : (round_of loop t).dmem ≡ with_lanes t.dmem (c + 16 * k) (mixture s k) =
    stored t is (omega arith) ∙ same_store t.dmem _ _ _ _ _ _ _ _ _ _ _ _ at x0 x1 x2 x3 same in (
      ((omega arith, tt), (ap (λ x. x % 16) q.4 ∙ omega arith, tt)),
      ap (λ x. int_lt (pos 0) (s32 x)) q.3 ∙ more (register t.registers 4) n k h (omega arith) (is.registers.words 4) e4,
      record {
        one = q.0 ∙ omega arith;
        three = q.1 ∙ omega arith;
        four = let e = q.2 in omega arith;
        filled = subst (λ m. IsFilled (mixture s) s.dmem m c (k + 1)) (sym memory) (filled_one (mixture s) s.dmem t.dmem c (vectors_for n) k to h is.dmem.count (length_each _) holds.filled);
      },
    )

-- one filtered sample
one_sample : (s : State) (i : ℕ) → get_or (mixture s (i / 8)) (i % 8) 0
    ≡ filtered (half_at s.dmem (register s.registers 1 + 2 * i)) (half_at s.dmem (register s.registers 1 + 2 * (i + 1))) (half_at s.dmem (register s.registers 1 + 2 * (i + 2))) (half_at s.dmem (register s.registers 1 + 2 * (i + 3))) (vector s.vectors 6)
one_sample s i =
    let b = register s.registers 1 in
    let at = λ (j : ℕ). lane_half s.dmem (b + 16 * (i / 8) + 2 * j) (i % 8) (omega arith) in
    let x0 = at 0 ∙ ap (half_at s.dmem) (let e : b + 16 * (i / 8) + 2 * 0 + 2 * (i % 8) ≡ b + 2 * i = omega arith in e) in
    let x1 = at 1 ∙ ap (half_at s.dmem) (let e : b + 16 * (i / 8) + 2 * 1 + 2 * (i % 8) ≡ b + 2 * (i + 1) = omega arith in e) in
    let x2 = at 2 ∙ ap (half_at s.dmem) (let e : b + 16 * (i / 8) + 2 * 2 + 2 * (i % 8) ≡ b + 2 * (i + 2) = omega arith in e) in
    let x3 = at 3 ∙ ap (half_at s.dmem) (let e : b + 16 * (i / 8) + 2 * 3 + 2 * (i % 8) ≡ b + 2 * (i + 3) = omega arith in e) in
    lane_of 0 _ (mixture s (i / 8)) refl (i % 8) (omega arith) ∙ rw (x0, x1, x2, x3) refl

pub filters : SumsOfProducts → FiltersSound (tailed_words loop)
filters law s is at entered =
    let r = s.registers in
    let n = register r 4 in
    let t = steps_of (2 + (vectors_for n * 19 + 1)) s in
    let end = tailed law loop decoded refl refl refl (mixture s) s is at entered.target (λ _. Holds s) (λ u ok b.
    let same = b.ran.spares in
    let e1 : register u.registers 1 ≡ register r 1 = same.scalars 1 refl in
    let e3 : register u.registers 3 ≡ register r 3 = same.scalars 3 refl in
    let e4 : register u.registers 4 ≡ register r 4 = same.scalars 4 refl in
    let small = is.registers.words 4 in
    record {
      start = record { one = omega arith; three = omega arith; four = omega arith; filled = subst (λ m. IsFilled (mixture s) s.dmem m (register r 3) 0) (sym b.memory) (filled_none (mixture s) s.dmem (register r 3)) };
      each = one_round s u entered (same.vectors 6 refl);
      filled = λ w holds. holds.filled;
    }) in
    let done : Filters (tailed_words loop) s t (register r 1) (register r 3) n = record {
      samples = λ i h. end.halves i h ∙ one_sample s i;
      outside = end.outside;
      others = ran_others (tailed_words loop) _ s t is at.next end.ran (1 ∷ 3 ∷ 4 ∷ 5 ∷ 6 ∷ 7 ∷ 8 ∷ []) (1 ∷ 2 ∷ 3 ∷ 4 ∷ 5 ∷ 30 ∷ []) refl;
    } in
    subst (λ k. Filters (tailed_words loop) s (steps_of k s) (register r 1) (register r 3) n) (omega arith) done
