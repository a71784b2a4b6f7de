-- The dot product of two buffers.
use Rattle.std.proofs.Common.{◌≡◌, ℕ, suc, ◌+◌, ◌-◌, ◌*◌, ◌/◌, ◌%◌, ◌^◌, ◌<◌, ◌≤◌, ℤ, pos, negsuc, ◌+ℤ◌, ◌*ℤ◌, List, [], ◌∷◌, ◌++◌, length, get_or, map, not, Some, nat_lt, refl, ap, sym, subst, ◌∙◌, arith, inl, inr}
use Rattle.std.specs.Prelude.{◌≤ℤ◌, ◌<ℤ◌, int_lt}
use Rattle.std.proofs.lemmas.Int.{ints}
use Rattle.std.proofs.lemmas.Bool.{cases_lt, lt-ltb, le-ltb}
use Rattle.rsp_numbers.specs.Numbers.{s16, s32, s48, number, high, middle, low, join, modulo}
use Rattle.rsp_numbers.proofs.Signed.{s32_small, s32_large}
use Rattle.rsp_numbers.proofs.Wrap.{s48_is, s48_same, s48_differs}
use Rattle.rsp_decode.specs.declared.inst.Inst.{Inst}
use Rattle.rsp_decode.specs.declared.inst.Inst.TheVariants.{Register, Immediate, BranchSign, VectorLogic, Multiply, ReadAccumulator}
use Rattle.rsp_decode.specs.declared.scalar.RegisterOp.TheVariants.{Addu}
use Rattle.rsp_decode.specs.declared.scalar.ImmediateOp.TheVariants.{Addiu}
use Rattle.rsp_decode.specs.declared.scalar.BranchSignOp.TheVariants.{Bgez}
use Rattle.rsp_decode.specs.declared.vector.VectorLogicOp.TheVariants as logic
use Rattle.rsp_compare.specs.declared.logic.LogicOp.TheVariants.{Vand}
use Rattle.rsp_decode.specs.declared.vector.VectorMultiplyOp.TheVariants.{Vmudh, Vmudm, Vmadm, Vmadh}
use Rattle.rsp_multiply.specs.declared.op.MultiplyOp.TheVariants as op
use Rattle.rsp_decode.specs.Table.Words.{inst_of, row_of}
use Rattle.rsp_lanes.specs.Lanes.{each_lane, selected, IsVector}
use Rattle.rsp_lanes.specs.Outcome.{results_of}
use Rattle.rsp_lanes.specs.declared.flags.Flags.{Flags}
use Rattle.rsp_lanes.proofs.Kit.{lane_of, each_same, length_each}
use Rattle.rsp_lanes.proofs.Products.{high_vector}
use Rattle.rsp_acc.proofs.Rejoined.{parts_again}
use Rattle.rsp_compare.specs.Logic.{logic_rule}
use Rattle.rsp_multiply.specs.Laws.{SumsOfProducts}
use Rattle.rsp_multiply.specs.MultiplyRules.{signed_by_unsigned, signed_times_65536, sar_results, accumulators_after}
use Rattle.rsp_scalar.specs.Registers.{register}
use Rattle.rsp_scalar.specs.Flow.{address_after}
use Rattle.rsp_loadstore.specs.File.{vector, with_vector}
use Rattle.rsp_machine.specs.State.{State, IsState}
use Rattle.rsp_machine.specs.Step.{executed, instruction_effect, computes, jumps}
use Rattle.rsp_machine.specs.Vector.{ruled, multiplies, reads_accumulator}
use Rattle.rsp_machine.specs.Laws.{steps_of}
use Rattle.rsp_microcode.specs.Runs.{IsAt, ran_through}
use Rattle.rsp_microcode.specs.Lanes.{lanes_at}
use Rattle.rsp_microcode.specs.Reads.{Write, after_writes}
use Rattle.rsp_microcode.specs.Loads.{WholeLoad, load}
use Rattle.rsp_microcode.specs.Multiplies.{Term, term, summed, sum_writes}
use Rattle.rsp_microcode.specs.Pieces.{Piece, takes, sums, rows, code_of, after_pieces}
use Rattle.rsp_microcode.specs.Loops.{Loop, loop_code, round_of, HandsOn}
use Rattle.rsp_microcode.specs.Blocks.{Ran}
use Rattle.rsp_microcode.proofs.Registers.{vector_reads, length-with_vector}
use Rattle.rsp_microcode.proofs.Listings.{listed}
use Rattle.rsp_microcode.proofs.RangesOfParts.{sixteen_small, wraps}
use Rattle.rsp_microcode.proofs.Fixed.{itself, fixed_parts}
use Rattle.rsp_microcode.proofs.Pieces.{pieces_run}
use Rattle.rsp_microcode.proofs.Loops.{loops}
use Rattle.rsp_microcode.proofs.Blocks.{steps_after, first_block}
use Rattle.rsp_microcode.proofs.Joins.{blocks_join, ran_at, ran_others, pieces_ran, loop_ran}
use Rattle.rsp_routines.specs.DotBuffers.{IsDot, DotsAll, DotsBuffers}
use Rattle.rsp_routines.proofs.RightLoads.{lrv, ended_at, right_loads}
use Rattle.rsp_routines.proofs.Tails.{zeros, tail_at}
use Rattle.rsp_routines.proofs.DotSums.{over, lane_product, vector_of, part, all_parts}

-- the start: the ends of the buffers, zeros, and the tails
abbrev before_words : List ℕ
before_words = 0x00242821 ∷ 0x00443021 ∷ 0x4a000068 ∷ 0x4a0000a8 ∷ 0x4a0000c7 ∷ 0xc8a12800 ∷ 0xc8c22800 ∷ []

abbrev scalars : List Inst
scalars = Register Addu (record { rd = 5; rs = 1; rt = 4 }) ∷ Register Addu (record { rd = 6; rs = 2; rt = 4 }) ∷ []

abbrev cleared : List Inst
cleared = VectorLogic logic.Vand (record { vd = 1; vs = 0; vt = 0; element = 0 }) ∷ VectorLogic logic.Vand (record { vd = 2; vs = 0; vt = 0; element = 0 }) ∷ []

abbrev none : List Term
none = term Vmudh 3 0 0 0 ∷ []

abbrev ends : List Inst
ends = lrv 1 0 5 ∷ lrv 2 0 6 ∷ []

abbrev before : List Piece
before = rows scalars ∷ rows cleared ∷ sums none ∷ rows ends ∷ []

before_decoded : map inst_of before_words ≡ map Some (code_of before)
unfolding inst_of row_of
before_decoded = refl

abbrev loads : List WholeLoad
loads = load 1 0 1 ∷ load 2 0 2 ∷ []

abbrev loop : Loop
loop = record {
  words = 0x4a0208cf ∷ 0xc8212000 ∷ 0xc8422000 ∷ 0x2484fff0 ∷ 0x24210010 ∷ 0x0481fffa ∷ 0x24420010 ∷ [];
  pieces = rows (Multiply Vmadh (record { vd = 3; vs = 1; vt = 2; element = 0 }) ∷ []) ∷ takes loads ∷ rows (Immediate Addiu 4 4 0xfff0 ∷ Immediate Addiu 1 1 16 ∷ []) ∷ [];
  branch = BranchSign Bgez 4 0xfffa;
  slot = Immediate Addiu 2 2 16;
}

loop_decoded : map inst_of loop.words ≡ map Some (loop_code loop)
unfolding inst_of row_of
loop_decoded = refl

-- the end: the halves of the sums of the lanes, their sum, and its halves
abbrev after_words : List ℕ
after_words =
    0x4b0318dd ∷ 0x4b24211d ∷ 0x4b04f985 ∷ 0x4b03f94f ∷ 0x4b24f98d ∷ 0x4b23f94f ∷ 0x4b44f98d ∷ 0x4b43f94f ∷ 0x4b64f98d ∷
    0x4b63f94f ∷ 0x4b84f98d ∷ 0x4b83f94f ∷ 0x4ba4f98d ∷ 0x4ba3f94f ∷ 0x4bc4f98d ∷ 0x4bc3f94f ∷ 0x4be4f98d ∷ 0x4be3f94f ∷
    0x4b25295d ∷ 0x4b46319d ∷ []

abbrev halves : List Inst
halves = ReadAccumulator (record { vd = 3; vs = 3; vt = 3; element = 8 }) ∷ ReadAccumulator (record { vd = 4; vs = 4; vt = 4; element = 9 }) ∷ []

abbrev terms : List Term
terms =
    term Vmudm 6 31 4 8 ∷ term Vmadh 5 31 3 8
    ∷ term Vmadm 6 31 4 9 ∷ term Vmadh 5 31 3 9
    ∷ term Vmadm 6 31 4 10 ∷ term Vmadh 5 31 3 10
    ∷ term Vmadm 6 31 4 11 ∷ term Vmadh 5 31 3 11
    ∷ term Vmadm 6 31 4 12 ∷ term Vmadh 5 31 3 12
    ∷ term Vmadm 6 31 4 13 ∷ term Vmadh 5 31 3 13
    ∷ term Vmadm 6 31 4 14 ∷ term Vmadh 5 31 3 14
    ∷ term Vmadm 6 31 4 15 ∷ term Vmadh 5 31 3 15 ∷ []

abbrev results : List Inst
results = ReadAccumulator (record { vd = 5; vs = 5; vt = 5; element = 9 }) ∷ ReadAccumulator (record { vd = 6; vs = 6; vt = 6; element = 10 }) ∷ []

abbrev after : List Piece
after = rows halves ∷ sums terms ∷ rows results ∷ []

after_decoded : map inst_of after_words ≡ map Some (code_of after)
unfolding inst_of row_of
after_decoded = refl

-- what holds after k rounds
abbrev sums_of : State → ℕ → List ℤ
sums_of s k = each_lane (λ i. s48 (part s.dmem (register s.registers 1) (register s.registers 2) (register s.registers 4) k i *ℤ pos 65536))

record Holds (s : State) (k : ℕ) (t : State) : Type 0 where
  one : register t.registers 1 ≡ register s.registers 1 + 16 * k
  two : register t.registers 2 ≡ register s.registers 2 + 16 * k
  four : (register t.registers 4 + 16 * k) % 2 ^ 32 ≡ register s.registers 4
  memory : t.dmem ≡ s.dmem
  left : vector t.vectors 1 ≡ vector_of s.dmem (register s.registers 1) (register s.registers 4) k
  right : vector t.vectors 2 ≡ vector_of s.dmem (register s.registers 2) (register s.registers 4) k
  sums : t.accumulators ≡ sums_of s k

-- the first block
summing : (s : State) → State
summing s = summed none (ran_through (scalars ++ cleared) s)

cleared_is : (z : List ℕ) (f : Flags) → z ≡ each_lane (λ _. 0) → results_of (logic_rule Vand) z (selected z 0) f ≡ zeros
unfolding results_of
cleared_is z f e = each_same _ _ (λ i h. rw (itself z i h, lane_of 0 (λ _. 0) z e i h) refl)

record Summed (s u : State) : Type 0 where
  one : vector u.vectors 1 ≡ zeros
  two : vector u.vectors 2 ≡ zeros
  count : length u.vectors ≡ 32
  five : register u.registers 5 ≡ (register s.registers 1 + register s.registers 4) % 2 ^ 32
  six : register u.registers 6 ≡ (register s.registers 2 + register s.registers 4) % 2 ^ 32
  memory : u.dmem ≡ s.dmem
  sums : u.accumulators ≡ sums_of s 0

nothing : (z : List ℕ) → z ≡ each_lane (λ _. 0) → each_lane (λ i. s48 (signed_times_65536 (get_or z i 0) (get_or (selected z 0) i 0) +ℤ pos 0)) ≡ each_lane (λ i. s48 (pos 0 *ℤ pos 65536))
nothing z e = each_same _ _ (λ i h. rw (itself z i h, lane_of 0 (λ _. 0) z e i h) refl)

is_summed : (s : State) → IsState s → vector s.vectors 0 ≡ each_lane (λ _. 0) → Summed s (summing s)
unfolding summing executed instruction_effect computes ruled
is_summed s is clear =
    let r = s.registers in
    let e = listed r is.registers.count in
    let z = vector s.vectors 0 in
    let w1 = results_of (logic_rule Vand) z (selected z 0) s.flags in
    let w = ran_through (scalars ++ cleared) s in
    let f1 = with_vector s.vectors 1 w1 in
    let first = λ (n : ℕ). vector_reads ((1, w1) ∷ []) s.vectors n is.vectors.count refl in
    let z1 : vector f1 0 ≡ each_lane (λ _. 0) = first 0 ∙ clear in
    let count : length w.vectors ≡ 32 = length-with_vector _ 2 _ ∙ length-with_vector s.vectors 1 _ ∙ is.vectors.count in
    let second = λ (n : ℕ). vector_reads ((2, vector w.vectors 2) ∷ []) f1 n (length-with_vector s.vectors 1 _ ∙ is.vectors.count) refl in
    let last = λ (n : ℕ). vector_reads (sum_writes none w.vectors) w.vectors n count refl in
    record {
      one = last 1 ∙ vector_reads ((2, _) ∷ []) f1 1 (length-with_vector s.vectors 1 _ ∙ is.vectors.count) refl ∙ first 1 ∙ cleared_is z s.flags clear;
      two = last 2 ∙ vector_reads ((2, _) ∷ []) f1 2 (length-with_vector s.vectors 1 _ ∙ is.vectors.count) refl ∙ cleared_is (vector f1 0) _ z1;
      count = length-with_vector w.vectors 3 _ ∙ count;
      five = ap (λ (r : List ℕ). register (summing (record s { registers = r })).registers 5) e;
      six = ap (λ (r : List ℕ). register (summing (record s { registers = r })).registers 6) e;
      memory = refl;
      sums = nothing (vector w.vectors 0) (vector_reads ((2, _) ∷ []) f1 0 (length-with_vector s.vectors 1 _ ∙ is.vectors.count) refl ∙ z1);
    }

record Started (s u : State) : Type 0 where
  ran : Ran before_words (code_of before) s u
  left : vector u.vectors 1 ≡ tail_at s.dmem (register s.registers 1 + register s.registers 4)
  right : vector u.vectors 2 ≡ tail_at s.dmem (register s.registers 2 + register s.registers 4)
  memory : u.dmem ≡ s.dmem
  sums : u.accumulators ≡ sums_of s 0

started : SumsOfProducts → (s : State) → IsState s → IsAt before_words s → vector s.vectors 0 ≡ each_lane (λ _. 0)
    → register s.registers 1 + register s.registers 4 < 2 ^ 32 → register s.registers 2 + register s.registers 4 < 2 ^ 32 → Started s (steps_of 7 s)
unfolding summing
started law s is at clear a1 a2 =
    let end = pieces_run law before_words before before_decoded refl s is at tt in
    let y = summing s in
    let f = is_summed s is clear in
    let e5 : register y.registers 5 ≡ register s.registers 1 + register s.registers 4 = f.five ∙ omega arith in
    let e6 : register y.registers 6 ≡ register s.registers 2 + register s.registers 4 = f.six ∙ omega arith in
    let x = tail_of y 1 5 in
    let z = tail_of y 2 6 in
    let y1 : State = record y { pc = y.npc; npc = address_after y.npc; vectors = with_vector y.vectors 1 x } in
    let two : vector y1.vectors 2 ≡ vector y.vectors 2 = vector_reads ((1, x) ∷ []) y.vectors 2 f.count refl in
    let made = end.ran ∙ ap (executed (lrv 2 0 6)) (right_loads 1 0 5 y f.count (ap length f.one ∙ length_each _) (omega arith) (omega arith) (omega arith))
    ∙ right_loads 2 0 6 y1 (length-with_vector y.vectors 1 x ∙ f.count) (ap length two ∙ ap length f.two ∙ length_each _) (omega arith) (omega arith) (omega arith) in
    record {
      ran = pieces_ran before_words before s _ at.next end;
      left = ap (λ (t : State). vector t.vectors 1) made ∙ vector_reads ((1, x) ∷ (2, _) ∷ []) y.vectors 1 f.count refl ∙ ap (λ v. ended_at v y.dmem (register y.registers 5 + 16 * 0)) f.one ∙ ap (λ m. tail_at m (register y.registers 5 + 16 * 0)) f.memory ∙ ap (tail_at s.dmem) (omega arith);
      right = ap (λ (t : State). vector t.vectors 2) made ∙ vector_reads ((1, x) ∷ (2, _) ∷ []) y.vectors 2 f.count refl ∙ ap (λ v. ended_at v y.dmem (register y.registers 6 + 16 * 0)) (two ∙ f.two) ∙ ap (λ m. tail_at m (register y.registers 6 + 16 * 0)) f.memory ∙ ap (tail_at s.dmem) (omega arith);
      memory = ap (λ (t : State). t.dmem) made ∙ f.memory;
      sums = ap (λ (t : State). t.accumulators) made ∙ f.sums;
    }
  where
    tail_of : (y : State) (n base : ℕ) → List ℕ
    tail_of y n base = ended_at (vector y.vectors n) y.dmem (register y.registers base + 16 * 0)

-- a round
counted : (t : State) → length t.registers ≡ 32 →
    let r = t.registers in
    let q = (round_of loop t).registers in
    (register q 1 ≡ (register r 1 + 16) % 2 ^ 32) × (register q 2 ≡ (register r 2 + 16) % 2 ^ 32) × (register q 4 ≡ (register r 4 + 4294967280) % 2 ^ 32)
    × (register (after_pieces loop.pieces t).registers 4 ≡ (register r 4 + 4294967280) % 2 ^ 32)
unfolding executed instruction_effect computes jumps multiplies
counted t n =
    let e = listed t.registers n in
    let q = λ (i : ℕ) (r : List ℕ). register (round_of loop (record t { registers = r })).registers i in
    (ap (q 1) e, ap (q 2) e, ap (q 4) e, ap (λ (r : List ℕ). register (after_pieces loop.pieces (record t { registers = r })).registers 4) e)

made : (t : State) → IsState t →
    let x = round_of loop t in
    (vector x.vectors 1 ≡ lanes_at t.dmem (register t.registers 1 + 16 * 0)) × (vector x.vectors 2 ≡ lanes_at t.dmem (register t.registers 2 + 16 * 0))
    × (x.accumulators ≡ accumulators_after op.Vmadh (vector t.vectors 1) (selected (vector t.vectors 2) 0) t.accumulators) × (x.dmem ≡ t.dmem)
unfolding executed instruction_effect computes jumps multiplies
made t is =
    let writes : List ℕ → List (Write (List ℕ)) = λ c. (3, c) ∷ (1, lanes_at t.dmem (register t.registers 1 + 16 * 0)) ∷ (2, lanes_at t.dmem (register t.registers 2 + 16 * 0)) ∷ [] in
    (vector_reads (writes _) t.vectors 1 is.vectors.count refl, vector_reads (writes _) t.vectors 2 is.vectors.count refl, refl, refl)

wrapped : (p t : ℤ) → s48 (s48 (p *ℤ pos 65536) +ℤ t *ℤ pos 65536) ≡ s48 ((p +ℤ t) *ℤ pos 65536)
wrapped p t = let d = s48_differs (p *ℤ pos 65536) in s48_same _ _ d.1 d.0 (omega (arith, ints, d.2))

added : (a b : List ℕ) (xs : List ℤ) (p : ℕ → ℤ) → xs ≡ each_lane (λ i. s48 (p i *ℤ pos 65536))
    → accumulators_after op.Vmadh a (selected b 0) xs ≡ each_lane (λ i. s48 ((p i +ℤ lane_product a b i) *ℤ pos 65536))
unfolding accumulators_after
added a b xs p e = each_same _ _ (λ i h. rw (lane_of (pos 0) (λ i. s48 (p i *ℤ pos 65536)) xs e i h, itself b i h) (wrapped (p i) (lane_product a b i)))

more : (r n k : ℕ) → k < n / 16 + 1 → n < 4096 → r < 2 ^ 32 → (r + 16 * k) % 2 ^ 32 ≡ n
    → not (int_lt (s32 ((r + 4294967280) % 2 ^ 32)) (pos 0)) ≡ nat_lt (k + 1) (n / 16 + 1)
more r n k h small word e = elim (cases_lt (k + 1) (n / 16 + 1)) [
  | inl lt ↦
      let q : (r + 4294967280) % 2 ^ 32 < 2147483648 = omega arith in
      rw (s32_small ((r + 4294967280) % 2 ^ 32) q, lt-ltb (k + 1) (n / 16 + 1) lt, le-ltb ((r + 4294967280) % 2 ^ 32) 0 (omega arith)) refl
  | inr ge ↦
      let q : 2147483648 ≤ (r + 4294967280) % 2 ^ 32 = omega arith in
      rw (s32_large ((r + 4294967280) % 2 ^ 32) q (omega arith), le-ltb (k + 1) (n / 16 + 1) ge) refl
]

same_scalars : (t : State) → (after_pieces (rows (Multiply Vmadh (record { vd = 3; vs = 1; vt = 2; element = 0 }) ∷ []) ∷ []) t).registers ≡ t.registers
unfolding executed instruction_effect multiplies
same_scalars t = refl

one_round : (s u : State) → IsDot (register s.registers 1) (register s.registers 2) (register s.registers 4) → HandsOn loop u (register s.registers 4 / 16 + 1) (Holds s)
one_round s u entered k t h is spares holds =
    let a = register s.registers 1 in
    let b = register s.registers 2 in
    let n = register s.registers 4 in
    let e1 = holds.one in
    let e2 = holds.two in
    let e4 = holds.four in
    let fa = entered.first_area.aligned in
    let fb = entered.second_area.aligned in
    let la = entered.first_area.begins in
    let lb = entered.second_area.begins in
    let most = entered.first_area.short in
    let q = counted t is.registers.count in
    let m = made t is in
    let a1 : register t.registers 1 % 16 ≡ 0 = omega arith in
    let a2 : register t.registers 2 % 16 ≡ 0 = omega arith in
    let at = λ (c d : ℕ) (e : c + 16 * 0 ≡ d). ap (lanes_at t.dmem) e ∙ ap (λ m. lanes_at m d) holds.memory in
    let last : k + 1 ≡ suc k = omega arith in (
      ((ap (λ r. register r 1 % 16) (same_scalars t) ∙ a1, (ap (λ r. register r 2 % 16) (same_scalars t) ∙ a2, tt)), tt),
      ap (λ x. not (int_lt (s32 x) (pos 0))) q.3 ∙ more (register t.registers 4) n k h most (is.registers.words 4) e4,
      subst (λ j. Holds s j (round_of loop t)) (sym last) (record {
        one = q.0 ∙ omega arith;
        two = q.1 ∙ omega arith;
        four = let e = q.2 in omega arith;
        memory = m.3 ∙ holds.memory;
        left = m.0 ∙ at (register t.registers 1) (a + 16 * k) (omega arith);
        right = m.1 ∙ at (register t.registers 2) (b + 16 * k) (omega arith);
        sums = m.2 ∙ ap (λ v. accumulators_after op.Vmadh v (selected (vector t.vectors 2) 0) t.accumulators) holds.left
            ∙ ap (λ v. accumulators_after op.Vmadh (vector_of s.dmem a n k) (selected v 0) t.accumulators) holds.right
            ∙ added (vector_of s.dmem a n k) (vector_of s.dmem b n k) t.accumulators (part s.dmem a b n k) holds.sums;
      }),
    )

-- the end: a number by its parts, modulo 2^32
modulo_is : (z : ℤ) (n i j : ℕ) → n < 2 ^ 32 → pos n +ℤ pos (i * 2 ^ 32) ≡ z +ℤ pos (j * 2 ^ 32) → n ≡ modulo z (2 ^ 32)
modulo_is (pos a) n i j h e = omega (arith, ints)
modulo_is (negsuc a) n i j h e = omega (arith, ints)

record Parts (x : ℤ) : Type 0 where
  up : ℕ
  down : ℕ
  equal : pos ((high x * 65536 + middle x) * 65536 + low x) +ℤ pos (up * 2 ^ 48) ≡ x +ℤ pos (down * 2 ^ 48)
  highs : high x < 65536
  middles : middle x < 65536
  lows : low x < 65536

parts_of : (z : ℤ) → Parts (s48 z)
unfolding join high middle low
parts_of z =
    let x = s48 z in
    let again = parts_again x (wraps z) in
    let n = high x * 2 ^ 32 + middle x * 2 ^ 16 + low x in
    let d = s48_differs (pos n) in
    let e : (high x * 65536 + middle x) * 65536 + low x ≡ n = omega arith in
    record {
      up = d.0;
      down = d.1;
      equal = ap (λ k. pos k +ℤ pos (d.0 * 2 ^ 48)) e ∙ d.2 ∙ ap (λ y. y +ℤ pos (d.1 * 2 ^ 48)) again;
      highs = sixteen_small _;
      middles = sixteen_small _;
      lows = sixteen_small _;
    }

-- the two halves of a lane's sum, and the sum, differ by a multiple of 2^32
record Near (v z : ℤ) : Type 0 where
  up : ℕ
  down : ℕ
  equal : v +ℤ pos (up * 2 ^ 32) ≡ z +ℤ pos (down * 2 ^ 32)
  least : negsuc (2 ^ 31 - 1) ≤ℤ v
  most : v <ℤ pos (2 ^ 31)

signed_near : (n i j : ℕ) (z : ℤ) → n < 2 ^ 32 → pos n +ℤ pos (i * 2 ^ 32) ≡ z +ℤ pos (j * 2 ^ 32) → Near (s32 n) z
signed_near n i j z h e = elim (cases_lt n (2 ^ 31)) [
  | inl l ↦ let q = s32_small n l in record { up = i; down = j; equal = omega (arith, ints); least = omega (arith, ints); most = omega (arith, ints) }
  | inr l ↦ let q = s32_large n l h in record { up = i + 1; down = j; equal = omega (arith, ints); least = omega (arith, ints); most = omega (arith, ints) }
]

halves_near : (z : ℤ) → Near (s32 (high (s48 (z *ℤ pos 65536)) * 65536 + middle (s48 (z *ℤ pos 65536)))) z
halves_near z =
    let x = s48 (z *ℤ pos 65536) in
    let p = parts_of (z *ℤ pos 65536) in
    let d = s48_differs (z *ℤ pos 65536) in
    let hs = p.highs in
    let ms = p.middles in
    shrunk (high x * 65536 + middle x) (low x) p.up p.down d.0 d.1 x z p.lows (omega arith) p.equal d.2
  where
    shrunk : (n l i j k q : ℕ) (x z : ℤ) → l < 65536 → n < 2 ^ 32 → pos (n * 65536 + l) +ℤ pos (i * 2 ^ 48) ≡ x +ℤ pos (j * 2 ^ 48) → z *ℤ pos 65536 +ℤ pos (k * 2 ^ 48) ≡ x +ℤ pos (q * 2 ^ 48) → Near (s32 n) z
    shrunk n l i j k q x z h b e f = signed_near n (i + q) (j + k) z b (omega (arith, ints))

-- the sum of the eight, as VMUDM, VMADH and so on make it
abbrev pair_on : List ℕ → List ℕ → List ℕ → ℕ → ℕ → ℤ → ℤ
pair_on m h u k i z = signed_by_unsigned (get_or u i 0) (get_or (selected m k) i 0) +ℤ (signed_times_65536 (get_or u i 0) (get_or (selected h k) i 0) +ℤ z)

plain : (z a : ℤ) (m : ℕ) → s16 1 *ℤ pos m +ℤ ((s16 1 *ℤ a) *ℤ pos 65536 +ℤ z) ≡ (a *ℤ pos 65536 +ℤ pos m) +ℤ z
plain z a m = omega (arith, ints)

pair_is : (z : ℤ) (m h u : List ℕ) (k e i : ℕ) → i < 8 → IsVector m → IsVector h → get_or u i 0 ≡ 1
    → selected m k ≡ each_lane (λ _. get_or m e 0) → selected h k ≡ each_lane (λ _. get_or h e 0)
    → pair_on m h u k i z ≡ s32 (get_or h e 0 * 65536 + get_or m e 0) +ℤ z
pair_is z m h u k e i l is_m is_h one p q =
    let a : get_or (selected m k) i 0 ≡ get_or m e 0 = lane_of 0 (λ _. get_or m e 0) (selected m k) p i l in
    let b : get_or (selected h k) i 0 ≡ get_or h e 0 = lane_of 0 (λ _. get_or h e 0) (selected h k) q i l in
    rw (one, a, b) (plain z (s16 (get_or h e 0)) (get_or m e 0)) ∙ ap (λ y. y +ℤ z) (sym (fixed_parts (get_or h e 0) (get_or m e 0) (is_h.1 e) (is_m.1 e)))

abbrev whole_of : List ℕ → List ℕ → List ℕ → ℕ → ℤ
whole_of m h u i =
    pair_on m h u 8 i (pair_on m h u 9 i (pair_on m h u 10 i (pair_on m h u 11 i (pair_on m h u 12 i (pair_on m h u 13 i (pair_on m h u 14 i (pair_on m h u 15 i (pos 0))))))))

abbrev eight_of : (ℕ → ℤ) → ℤ
eight_of v = v 0 +ℤ (v 1 +ℤ (v 2 +ℤ (v 3 +ℤ (v 4 +ℤ (v 5 +ℤ (v 6 +ℤ (v 7 +ℤ (pos 0))))))))

whole_sum : (m h u : List ℕ) (i : ℕ) → i < 8 → IsVector m → IsVector h → get_or u i 0 ≡ 1 → whole_of m h u i ≡ eight_of (λ e. s32 (get_or h e 0 * 65536 + get_or m e 0))
whole_sum m h u i l is_m is_h one =
    let next = λ (z y : ℤ) (same : z ≡ y) (k e : ℕ) (a : selected m k ≡ each_lane (λ _. get_or m e 0)) (b : selected h k ≡ each_lane (λ _. get_or h e 0)).
    ap (pair_on m h u k i) same ∙ pair_is y m h u k e i l is_m is_h one a b in
    let s7 = next (pos 0) (pos 0) refl 15 7 refl refl in
    let s6 = next (pair_on m h u 15 i (pos 0)) (s32 (get_or h 7 0 * 65536 + get_or m 7 0) +ℤ (pos 0)) s7 14 6 refl refl in
    let s5 = next (pair_on m h u 14 i (pair_on m h u 15 i (pos 0))) (s32 (get_or h 6 0 * 65536 + get_or m 6 0) +ℤ (s32 (get_or h 7 0 * 65536 + get_or m 7 0) +ℤ (pos 0))) s6 13 5 refl refl in
    let s4 = next (pair_on m h u 13 i (pair_on m h u 14 i (pair_on m h u 15 i (pos 0)))) (s32 (get_or h 5 0 * 65536 + get_or m 5 0) +ℤ (s32 (get_or h 6 0 * 65536 + get_or m 6 0) +ℤ (s32 (get_or h 7 0 * 65536 + get_or m 7 0) +ℤ (pos 0)))) s5 12 4 refl refl in
    let s3 = next (pair_on m h u 12 i (pair_on m h u 13 i (pair_on m h u 14 i (pair_on m h u 15 i (pos 0))))) (s32 (get_or h 4 0 * 65536 + get_or m 4 0) +ℤ (s32 (get_or h 5 0 * 65536 + get_or m 5 0) +ℤ (s32 (get_or h 6 0 * 65536 + get_or m 6 0) +ℤ (s32 (get_or h 7 0 * 65536 + get_or m 7 0) +ℤ (pos 0))))) s4 11 3 refl refl in
    let s2 = next (pair_on m h u 11 i (pair_on m h u 12 i (pair_on m h u 13 i (pair_on m h u 14 i (pair_on m h u 15 i (pos 0)))))) (s32 (get_or h 3 0 * 65536 + get_or m 3 0) +ℤ (s32 (get_or h 4 0 * 65536 + get_or m 4 0) +ℤ (s32 (get_or h 5 0 * 65536 + get_or m 5 0) +ℤ (s32 (get_or h 6 0 * 65536 + get_or m 6 0) +ℤ (s32 (get_or h 7 0 * 65536 + get_or m 7 0) +ℤ (pos 0)))))) s3 10 2 refl refl in
    let s1 = next (pair_on m h u 10 i (pair_on m h u 11 i (pair_on m h u 12 i (pair_on m h u 13 i (pair_on m h u 14 i (pair_on m h u 15 i (pos 0))))))) (s32 (get_or h 2 0 * 65536 + get_or m 2 0) +ℤ (s32 (get_or h 3 0 * 65536 + get_or m 3 0) +ℤ (s32 (get_or h 4 0 * 65536 + get_or m 4 0) +ℤ (s32 (get_or h 5 0 * 65536 + get_or m 5 0) +ℤ (s32 (get_or h 6 0 * 65536 + get_or m 6 0) +ℤ (s32 (get_or h 7 0 * 65536 + get_or m 7 0) +ℤ (pos 0))))))) s2 9 1 refl refl in
    let s0 = next (pair_on m h u 9 i (pair_on m h u 10 i (pair_on m h u 11 i (pair_on m h u 12 i (pair_on m h u 13 i (pair_on m h u 14 i (pair_on m h u 15 i (pos 0)))))))) (s32 (get_or h 1 0 * 65536 + get_or m 1 0) +ℤ (s32 (get_or h 2 0 * 65536 + get_or m 2 0) +ℤ (s32 (get_or h 3 0 * 65536 + get_or m 3 0) +ℤ (s32 (get_or h 4 0 * 65536 + get_or m 4 0) +ℤ (s32 (get_or h 5 0 * 65536 + get_or m 5 0) +ℤ (s32 (get_or h 6 0 * 65536 + get_or m 6 0) +ℤ (s32 (get_or h 7 0 * 65536 + get_or m 7 0) +ℤ (pos 0)))))))) s1 8 0 refl refl in
    s0

record Total (y z : ℤ) : Type 0 where
  up : ℕ
  down : ℕ
  equal : y +ℤ pos (up * 2 ^ 32) ≡ z +ℤ pos (down * 2 ^ 32)
  fits : s48 y ≡ y

total_near : (v z : ℕ → ℤ) → ((e : ℕ) → e < 8 → Near (v e) (z e)) → Total (eight_of v) (over z)
total_near v z n =
    let n0 = n 0 (omega arith) in
    let e0 = n0.equal in
    let l0 = n0.least in
    let m0 = n0.most in
    let n1 = n 1 (omega arith) in
    let e1 = n1.equal in
    let l1 = n1.least in
    let m1 = n1.most in
    let n2 = n 2 (omega arith) in
    let e2 = n2.equal in
    let l2 = n2.least in
    let m2 = n2.most in
    let n3 = n 3 (omega arith) in
    let e3 = n3.equal in
    let l3 = n3.least in
    let m3 = n3.most in
    let n4 = n 4 (omega arith) in
    let e4 = n4.equal in
    let l4 = n4.least in
    let m4 = n4.most in
    let n5 = n 5 (omega arith) in
    let e5 = n5.equal in
    let l5 = n5.least in
    let m5 = n5.most in
    let n6 = n 6 (omega arith) in
    let e6 = n6.equal in
    let l6 = n6.least in
    let m6 = n6.most in
    let n7 = n 7 (omega arith) in
    let e7 = n7.equal in
    let l7 = n7.least in
    let m7 = n7.most in
    record {
      up = n0.up + n1.up + n2.up + n3.up + n4.up + n5.up + n6.up + n7.up;
      down = n0.down + n1.down + n2.down + n3.down + n4.down + n5.down + n6.down + n7.down;
      equal = omega (arith, ints);
      fits = s48_is _ _ 0 0 refl (omega (arith, ints)) (omega (arith, ints));
    }

result_is : (y z : ℤ) → Total y z → middle (s48 y) * 65536 + low (s48 y) ≡ modulo z (2 ^ 32)
result_is y z t =
    let p = parts_of y in
    let e = p.equal in
    let ms = p.middles in
    let ls = p.lows in
    shrunk (high (s48 y)) (middle (s48 y)) (low (s48 y)) p.up p.down t.up t.down (s48 y) y z ms ls e t.fits t.equal
  where
    shrunk : (h m l i j k q : ℕ) (x y z : ℤ) → m < 65536 → l < 65536 → pos ((h * 65536 + m) * 65536 + l) +ℤ pos (i * 2 ^ 48) ≡ x +ℤ pos (j * 2 ^ 48) → x ≡ y
        → y +ℤ pos (k * 2 ^ 32) ≡ z +ℤ pos (q * 2 ^ 32) → m * 65536 + l ≡ modulo z (2 ^ 32)
    shrunk h m l i j k q x y z a b e f g = modulo_is z (m * 65536 + l) (h + i * 65536 + k) (j * 65536 + q) (omega arith) (omega (arith, ints))

abbrev after_halves : State → State
after_halves v = ran_through halves v

halved : (v : State) → IsState v → (vector (after_halves v).vectors 3 ≡ sar_results 8 v.accumulators) × (vector (after_halves v).vectors 4 ≡ sar_results 9 v.accumulators)
    × (vector (after_halves v).vectors 31 ≡ vector v.vectors 31) × (length (after_halves v).vectors ≡ 32)
unfolding executed instruction_effect reads_accumulator
halved v is =
    let x = v.accumulators in
    let read = λ (n : ℕ). vector_reads ((3, sar_results 8 x) ∷ (4, sar_results 9 x) ∷ []) v.vectors n is.vectors.count refl in
    (read 3, read 4, read 31, length-with_vector _ 4 _ ∙ length-with_vector v.vectors 3 _ ∙ is.vectors.count)

read_out : (x : State) → length x.vectors ≡ 32 → (vector (ran_through results x).vectors 5 ≡ sar_results 9 x.accumulators) × (vector (ran_through results x).vectors 6 ≡ sar_results 10 x.accumulators)
unfolding executed instruction_effect reads_accumulator
read_out x count =
    let read = λ (n : ℕ). vector_reads ((5, sar_results 9 x.accumulators) ∷ (6, sar_results 10 x.accumulators) ∷ []) x.vectors n count refl in
    (read 5, read 6)

lanes_near : (xs : List ℤ) (p : ℕ → ℤ) → xs ≡ each_lane (λ i. s48 (p i *ℤ pos 65536)) → (e : ℕ) → e < 8 → Near (s32 (get_or (sar_results 8 xs) e 0 * 65536 + get_or (sar_results 9 xs) e 0)) (p e)
unfolding sar_results
lanes_near xs p same e h =
    let x : number xs e ≡ s48 (p e *ℤ pos 65536) = lane_of (pos 0) (λ i. s48 (p i *ℤ pos 65536)) xs same e h in
    let hi : get_or (sar_results 8 xs) e 0 ≡ high (s48 (p e *ℤ pos 65536)) = lane_of 0 (λ i. high (number xs i)) (sar_results 8 xs) refl e h ∙ ap high x in
    let mid : get_or (sar_results 9 xs) e 0 ≡ middle (s48 (p e *ℤ pos 65536)) = lane_of 0 (λ i. middle (number xs i)) (sar_results 9 xs) refl e h ∙ ap middle x in
    subst (λ n. Near (s32 n) (p e)) (sym (rw (hi, mid) refl)) (halves_near (p e))

lanes_read : (f : ℕ → ℤ) (i : ℕ) → i < 8 → get_or (sar_results 9 (each_lane f)) i 0 * 65536 + get_or (sar_results 10 (each_lane f)) i 0 ≡ middle (f i) * 65536 + low (f i)
unfolding sar_results
lanes_read f i h =
    let xs = each_lane f in
    let x : number xs i ≡ f i = lane_of (pos 0) f xs refl i h in
    let mid : get_or (sar_results 9 xs) i 0 ≡ middle (f i) = lane_of 0 (λ i. middle (number xs i)) (sar_results 9 xs) refl i h ∙ ap middle x in
    let lo : get_or (sar_results 10 xs) i 0 ≡ low (f i) = lane_of 0 (λ i. low (number xs i)) (sar_results 10 xs) refl i h ∙ ap low x in
    rw (mid, lo) refl

sar_8 : (xs : List ℤ) → IsVector (sar_results 8 xs)
unfolding sar_results high
sar_8 xs = high_vector _ (λ i. sixteen_small _)

sar_9 : (xs : List ℤ) → IsVector (sar_results 9 xs)
unfolding sar_results middle
sar_9 xs = high_vector _ (λ i. sixteen_small _)

-- what the last block leaves, from a state whose accumulators hold sums of lanes
long : (w : State) → length w.vectors ≡ 32 → length (summed terms w).vectors ≡ 32
long w count = long_after (sum_writes terms w.vectors) w.vectors ∙ count
  where
    long_after : (ws : List (Write (List ℕ))) (file : List (List ℕ)) → length (after_writes with_vector ws file) ≡ length file
    long_after [] file = refl
    long_after (x ∷ ws) file = long_after ws (with_vector file x.0 x.1) ∙ length-with_vector file x.0 x.1

ended : SumsOfProducts → (v : State) → IsState v → IsAt after_words v → vector v.vectors 31 ≡ each_lane (λ _. 1) → (p : ℕ → ℤ) → v.accumulators ≡ each_lane (λ i. s48 (p i *ℤ pos 65536))
    → (i : ℕ) → i < 8 → get_or (vector (steps_of 20 v).vectors 5) i 0 * 65536 + get_or (vector (steps_of 20 v).vectors 6) i 0 ≡ modulo (over p) (2 ^ 32)
ended law v is at ones p same i h =
    let end = pieces_run law after_words after after_decoded refl v is at tt in
    let w = after_halves v in
    let x = summed terms w in
    let f = halved v is in
    let out = read_out x (long w f.3) in
    let five = ap (λ (t : State). vector t.vectors 5) end.ran ∙ out.0 in
    let six = ap (λ (t : State). vector t.vectors 6) end.ran ∙ out.1 in
    let is_h = subst IsVector (sym f.0) (sar_8 v.accumulators) in
    let is_m = subst IsVector (sym f.1) (sar_9 v.accumulators) in
    let one = lane_of 0 (λ _. 1) (vector w.vectors 31) (f.2 ∙ ones) i h in
    let near = λ (e : ℕ) (l : e < 8). subst (λ n. Near (s32 n) (p e)) (sym (rw (f.0, f.1) refl)) (lanes_near v.accumulators p same e l) in
    let sum = whole_of (vector w.vectors 4) (vector w.vectors 3) (vector w.vectors 31) in
    rw (five, six) (lanes_read (λ i. s48 (sum i)) i h)
    ∙ ap (λ z. middle (s48 z) * 65536 + low (s48 z)) (whole_sum (vector w.vectors 4) (vector w.vectors 3) (vector w.vectors 31) i h is_m is_h one)
    ∙ result_is _ (over p) (total_near (λ e. s32 (get_or (vector w.vectors 3) e 0 * 65536 + get_or (vector w.vectors 4) e 0)) p near)

pub dots_buffers : SumsOfProducts → DotsBuffers (before_words ++ (loop.words ++ after_words))
dots_buffers law s is at clear ones entered =
    let a = register s.registers 1 in
    let b = register s.registers 2 in
    let n = register s.registers 4 in
    let rounds = n / 16 + 1 in
    let la = entered.first_area.begins in
    let lb = entered.second_area.begins in
    let short = entered.first_area.short in
    let small = is.registers.words 4 in
    let words = before_words ++ (loop.words ++ after_words) in
    let u = steps_of 7 s in
    let st = started law s is (first_block before_words (loop.words ++ after_words) s at) clear (omega arith) (omega arith) in
    let at_u = ran_at before_words (loop.words ++ after_words) _ s u at st.ran in
    let same = st.ran.spares in
    let e1 : register u.registers 1 ≡ a = same.scalars 1 refl in
    let e2 : register u.registers 2 ≡ b = same.scalars 2 refl in
    let e4 : register u.registers 4 ≡ n = same.scalars 4 refl in
    let start : Holds s 0 u = record { one = omega arith; two = omega arith; four = omega arith; memory = st.memory; left = st.left; right = st.right; sums = st.sums } in
    let mid = loops law loop loop_decoded refl u st.ran.ranges (first_block loop.words after_words u at_u) rounds (omega arith) (Holds s) start (one_round s u entered) in
    let v = steps_of (rounds * 7) u in
    let ran_v = loop_ran loop rounds (Holds s) u v at_u.next mid in
    let at_v = ran_at loop.words after_words _ u v at_u ran_v in
    let last = pieces_run law after_words after after_decoded refl v mid.ranges at_v tt in
    let t = steps_of 20 v in
    let holds = mid.holds in
    let units : vector v.vectors 31 ≡ each_lane (λ _. 1) = mid.spares.vectors 31 refl ∙ same.vectors 31 refl ∙ ones in
    let ran = blocks_join before_words (loop.words ++ after_words) _ _ s u t st.ran (blocks_join loop.words after_words _ _ u v t ran_v (pieces_ran after_words after v t at_v.next last)) in
    let done : DotsAll words s t a b n = record {
      result = λ i h. ended law v mid.ranges at_v units (part s.dmem a b n rounds) holds.sums i h ∙ ap (λ z. modulo z (2 ^ 32)) (all_parts s.dmem a b n entered);
      others = ran_others words _ s t is at.next ran (1 ∷ 2 ∷ 4 ∷ 5 ∷ 6 ∷ []) (1 ∷ 2 ∷ 3 ∷ 4 ∷ 5 ∷ 6 ∷ []) refl;
    } in
    subst (λ k. DotsAll words s (steps_of k s) a b n) (omega arith)
    (subst (λ x. DotsAll words s x a b n) (sym (steps_after 7 (rounds * 7 + 20) s ∙ steps_after (rounds * 7) 20 u)) done)
