-- Loops with two exits.
use Rattle.std.proofs.Common.{◌≡◌, ℕ, ◌+◌, ◌*◌, ◌-◌, ◌%◌, ◌<◌, List, ◌++◌, length, length-append, map, Some, true, false, refl, ap, sym, subst, ◌∙◌, arith}
use Rattle.std.specs.Prelude.{◌==◌}
use Rattle.std.proofs.lemmas.Bool.{and_parts, ltb-true}
use Rattle.std.proofs.lemmas.Bool.Decides.{nat_tests}
use Rattle.rsp_decode.specs.declared.inst.Inst.{Inst}
use Rattle.rsp_decode.specs.Table.Words.{inst_of}
use Rattle.rsp_multiply.specs.Laws.{SumsOfProducts}
use Rattle.rsp_scalar.specs.Flow.{address_after}
use Rattle.rsp_machine.specs.State.{State, IsState}
use Rattle.rsp_machine.specs.Laws.{steps_of}
use Rattle.rsp_microcode.specs.Runs.{IsAt, address_after_words}
use Rattle.rsp_microcode.specs.Frames.{of_rows, with_parts}
use Rattle.rsp_microcode.specs.Kept.{Spares}
use Rattle.rsp_microcode.specs.Pieces.{code_of, AreAligned}
use Rattle.rsp_microcode.specs.Loops.{Loop, loop_code, round_of}
use Rattle.rsp_microcode.specs.Blocks.{Ran}
use Rattle.rsp_microcode.specs.Branches.{is_block, offset_of, turns, AfterBlock}
use Rattle.rsp_microcode.specs.Exits.{Exits, exits_words, exits_code, words_back, has_exits, GoesRound, ExitsRun}
use Rattle.rsp_microcode.proofs.Runs.{rounds_kept}
use Rattle.rsp_microcode.proofs.Frames.{chained, unchanged}
use Rattle.rsp_microcode.proofs.Blocks.{steps_after, first_block}
use Rattle.rsp_microcode.proofs.Joins.{ran_at, spares_joined, frames_joined}
use Rattle.rsp_microcode.proofs.Loops.{address_is, lengths, both_same}
use Rattle.rsp_microcode.proofs.Branches.{block_runs}

-- what steps inside the loop leave
record Within (code : List Inst) (s t : State) : Type 0 where
  ranges : IsState t
  next : t.npc ≡ address_after t.pc
  spares : Spares code s t
  frame : t ≡ with_parts (of_rows code) s t

within_same : (code : List Inst) (s : State) → IsState s → s.npc ≡ address_after s.pc → Within code s s
within_same code s is next = record { ranges = is; next = next; spares = record { scalars = λ i h. refl; vectors = λ i h. refl }; frame = unchanged (of_rows code) s }

within_block : (l : Loop) (s t : State) → AfterBlock l s t → Within (loop_code l) s t
within_block l s t a = record { ranges = a.ranges; next = a.next; spares = a.spares; frame = a.frame }

within_both : (a b : List Inst) (s t u : State) → Within a s t → Within b t u → Within (a ++ b) s u
within_both a b s t u p q = record { ranges = q.ranges; next = q.next; spares = spares_joined a b s t u p.spares q.spares; frame = frames_joined a b s t u p.frame q.frame }

within_then : (code : List Inst) (s t u : State) → Within code s t → Within code t u → Within code s u
within_then code s t u p q = record {
  ranges = q.ranges;
  next = q.next;
  spares = record { scalars = λ i h. q.spares.scalars i h ∙ p.spares.scalars i h; vectors = λ i h. q.spares.vectors i h ∙ p.spares.vectors i h };
  frame = chained (of_rows code) (of_rows code) s t u p.frame q.frame ∙ ap (λ k. with_parts k s u) (both_same (of_rows code));
}

-- what holds after k whole rounds
record Stands (e : Exits) (s : State) (Holds : ℕ → State → Type 0) (k : ℕ) (t : State) : Type 0 where
  holds : Holds k t
  within : Within (exits_code e) s t
  pc : t.pc ≡ s.pc

stand_again : (e : Exits) (s t : State) → IsAt (exits_words e) s → Within (exits_code e) s t → t.pc ≡ s.pc → IsAt (exits_words e) t
stand_again e s t at p pc = record {
  goes = ap (λ (x : State). x.sp.halted) p.frame ∙ at.goes;
  runs = ap (λ (x : State). x.sp.single_step) p.frame ∙ at.runs;
  next = p.next;
  stand = let imem = ap (λ (x : State). x.imem) p.frame in rw (pc, imem) at.stand;
}

alike : (a b : ℕ) → (a == b) ≡ true → a ≡ b
alike a b h = grind (arith, nat_tests)

-- what the loop is, besides its registers
record Shape (e : Exits) : Type 0 where
  first : map inst_of e.first.words ≡ map Some (loop_code e.first)
  last : map inst_of e.last.words ≡ map Some (loop_code e.last)
  first_block : is_block e.first ≡ true
  last_block : is_block e.last ≡ true
  out : offset_of e.first.branch ≡ length (code_of e.last.pieces) + 3
  back : offset_of e.last.branch ≡ 65536 - words_back e
  short : words_back e < 1000
  first_words : length e.first.words ≡ length (code_of e.first.pieces) + 2
  last_words : length e.last.words ≡ length (code_of e.last.pieces) + 2

shape_of : (e : Exits) → map inst_of e.first.words ≡ map Some (loop_code e.first) → map inst_of e.last.words ≡ map Some (loop_code e.last) → has_exits e ≡ true → Shape e
shape_of e d1 d2 test =
    let p0 = and_parts _ _ test in
    let p1 = and_parts _ _ p0.0 in
    let p2 = and_parts _ _ p0.1 in
    let p3 = and_parts _ _ p2.1 in
    record {
      first = d1;
      last = d2;
      first_block = p1.0;
      last_block = p1.1;
      out = alike _ _ p2.0;
      back = alike _ _ p3.0;
      short = ltb-true _ _ p3.1;
      first_words = lengths e.first.words (code_of e.first.pieces) e.first.branch e.first.slot d1;
      last_words = lengths e.last.words (code_of e.last.pieces) e.last.branch e.last.slot d2;
    }

-- the first block, of which the branch is taken or not
first_runs : SumsOfProducts → (e : Exits) → Shape e → (t : State) → IsState t → IsAt (exits_words e) t → AreAligned e.first.pieces t → AfterBlock e.first t (steps_of (length e.first.words) t)
first_runs law e shape t is at aligned = block_runs law e.first shape.first shape.first_block t is (first_block e.first.words e.last.words t at) aligned

-- both blocks, if the first branch isn't taken
record Twice (e : Exits) (t u v : State) : Type 0 where
  pc : u.pc ≡ address_after_words e.first.words t.pc
  small : u.pc < 4096
  block : AfterBlock e.last u v
  ran : v ≡ round_of e.last (round_of e.first t)
  turns : turns e.last u ≡ turns e.last (round_of e.first t)
  within : Within (exits_code e) t v

both_run : SumsOfProducts → (e : Exits) → Shape e → (t : State) → IsState t → IsAt (exits_words e) t → AreAligned e.first.pieces t → turns e.first t ≡ false
    → AreAligned e.last.pieces (round_of e.first t)
    → let u = steps_of (length e.first.words) t in Twice e t u (steps_of (length e.last.words) u)
both_run law e shape t is at aligned passes more =
    let u = steps_of (length e.first.words) t in
    let v = steps_of (length e.last.words) u in
    let a = first_runs law e shape t is at aligned in
    let ran = a.passed passes in
    let at_u = ran_at e.first.words e.last.words (loop_code e.first) t u at ran in
    let b = block_runs law e.last shape.last shape.last_block u a.ranges at_u (subst (AreAligned e.last.pieces) (sym a.ran) more) in
    record {
      pc = ran.pc;
      small = a.ranges.pc.0;
      block = b;
      ran = b.ran ∙ ap (round_of e.last) a.ran;
      turns = ap (turns e.last) a.ran;
      within = within_both (loop_code e.first) (loop_code e.last) t u v (within_block e.first t u a) (within_block e.last u v b);
    }

-- the address after the loop
after_loop : (e : Exits) → Shape e → (p : ℕ) → p < 4096 → address_after_words (exits_words e) p ≡ (p + 4 * (length e.first.words + length e.last.words)) % 4096
after_loop e shape p h = address_is (exits_words e) p h ∙ ap (λ n. (p + 4 * n) % 4096) (length-append e.first.words e.last.words)

-- a whole round
goes_round : SumsOfProducts → (e : Exits) → Shape e → (s : State) → s.pc < 4096 → IsAt (exits_words e) s → (n : ℕ) (Holds : ℕ → State → Type 0) → GoesRound e s n Holds
    → (k : ℕ) (t : State) → k < n → Stands e s Holds k t → Stands e s Holds (k + 1) (steps_of (length e.first.words + length e.last.words) t)
goes_round law e shape s small at n Holds each k t lt is =
    let r = each k t lt is.within.ranges is.within.spares is.holds in
    let u = steps_of (length e.first.words) t in
    let v = steps_of (length e.last.words) u in
    let two = both_run law e shape t is.within.ranges (stand_again e s t at is.within is.pc) r.0 r.1 r.2 in
    let turned = two.block.turned (two.turns ∙ r.3) in
    let here = two.pc ∙ address_is e.first.words t.pc (omega (arith, is.pc, small)) in
    let back : v.pc ≡ s.pc = turned ∙ omega (arith, here, is.pc, small, shape.back, shape.short, shape.first_words) in
    subst (Stands e s Holds (k + 1)) (sym (steps_after (length e.first.words) (length e.last.words) t)) (record {
      holds = subst (Holds (k + 1)) (sym two.ran) r.4;
      within = within_then (exits_code e) s t v is.within two.within;
      pc = back;
    })

-- the end by the first branch
leaves_by_first : SumsOfProducts → (e : Exits) → Shape e → (s t : State) → s.pc < 4096 → IsAt (exits_words e) s → Within (exits_code e) s t → t.pc ≡ s.pc
    → AreAligned e.first.pieces t → turns e.first t ≡ true
    → (steps_of (length e.first.words) t ≡ round_of e.first t) × Ran (exits_words e) (exits_code e) s (steps_of (length e.first.words) t)
leaves_by_first law e shape s t small at within same aligned taken =
    let u = steps_of (length e.first.words) t in
    let a = first_runs law e shape t within.ranges (stand_again e s t at within same) aligned in
    let inside = within_both (loop_code e.first) (loop_code e.last) t u u (within_block e.first t u a) (within_same (loop_code e.last) u a.ranges a.next) in
    let all = within_then (exits_code e) s t u within inside in (
      a.ran,
      record {
        ranges = a.ranges;
        pc = a.turned taken ∙ omega (arith, same, shape.out, shape.first_words, shape.last_words) ∙ sym (after_loop e shape s.pc small);
        npc = a.next;
        spares = all.spares;
        frame = all.frame;
      },
    )

-- and by the last one
leaves_by_last : SumsOfProducts → (e : Exits) → Shape e → (s t : State) → s.pc < 4096 → IsAt (exits_words e) s → Within (exits_code e) s t → t.pc ≡ s.pc
    → AreAligned e.first.pieces t → turns e.first t ≡ false → AreAligned e.last.pieces (round_of e.first t) → turns e.last (round_of e.first t) ≡ false
    → let v = steps_of (length e.first.words + length e.last.words) t in (v ≡ round_of e.last (round_of e.first t)) × Ran (exits_words e) (exits_code e) s v
leaves_by_last law e shape s t small at within same aligned passes more ends =
    let u = steps_of (length e.first.words) t in
    let v = steps_of (length e.last.words) u in
    let two = both_run law e shape t within.ranges (stand_again e s t at within same) aligned passes more in
    let last = two.block.passed (two.turns ∙ ends) in
    let all = within_then (exits_code e) s t v within two.within in
    let here = two.pc ∙ address_is e.first.words t.pc (omega (arith, same, small)) in
    let end = last.pc ∙ address_is e.last.words u.pc two.small in
    let ran : Ran (exits_words e) (exits_code e) s v = record {
      ranges = last.ranges;
      pc = end ∙ omega (arith, here, same) ∙ sym (after_loop e shape s.pc small);
      npc = last.npc;
      spares = all.spares;
      frame = all.frame;
    } in
    subst (λ (x : State). (x ≡ round_of e.last (round_of e.first t)) × Ran (exits_words e) (exits_code e) s x) (sym (steps_after (length e.first.words) (length e.last.words) t)) (two.ran, ran)

pub exits_run : SumsOfProducts → ExitsRun
exits_run law e d1 d2 test s is at n Holds start each =
    let shape = shape_of e d1 d2 test in
    let small = is.pc.0 in
    let size = length e.first.words + length e.last.words in
    let t = steps_of (n * size) s in
    let begin : Stands e s Holds 0 s = record { holds = start; within = within_same (exits_code e) s is at.next; pc = refl } in
    let end : Stands e s Holds n t = rounds_kept size n (Stands e s Holds) s begin (goes_round law e shape s small at n Holds each) in
    record {
      holds = end.holds;
      ranges = end.within.ranges;
      spares = end.within.spares;
      by_first = leaves_by_first law e shape s t small at end.within end.pc;
      by_last = leaves_by_last law e shape s t small at end.within end.pc;
    }
