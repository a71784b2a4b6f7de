-- Blocks that are joined.
use Rattle.std.proofs.Common.{◌≡◌, ℕ, ◌*◌, ◌/◌, ◌%◌, List, [], ◌∷◌, ◌++◌, Bool, true, false, ◌||◌, not, refl, ap, sym, ◌∙◌}
use Rattle.std.specs.Prelude.{◌==◌}
use Rattle.std.specs.List.{list_all, range_with_len}
use Rattle.std.proofs.lemmas.Bool.{and_parts}
use Rattle.rsp_decode.specs.declared.inst.Inst.{Inst}
use Rattle.rsp_scalar.specs.Flow.{address_after}
use Rattle.rsp_machine.specs.State.{State, IsState}
use Rattle.rsp_microcode.specs.Runs.{address_after_words}
use Rattle.rsp_microcode.specs.Frames.{Touch, both, of_row, of_rows, with_parts, register_of, spares_vector}
use Rattle.rsp_microcode.specs.Kept.{Spares, with_written}
use Rattle.rsp_microcode.specs.Pieces.{Piece, code_of, AfterPieces}
use Rattle.rsp_microcode.specs.Loops.{Loop, loop_code, AfterLoop}
use Rattle.rsp_microcode.specs.Calls.{routine_code}
use Rattle.rsp_microcode.specs.Blocks.{Ran, BlocksJoin, RanAt, RanOthers, RanReturns}
use Rattle.rsp_microcode.proofs.Frames.{chained}
use Rattle.rsp_microcode.proofs.Kept.{changed_is}
use Rattle.rsp_microcode.proofs.Pieces.{placed}
use Rattle.rsp_microcode.proofs.Blocks.{next_block}

or_joined : (a b c : Bool) → ((a || b) || c) ≡ (a || (b || c))
or_joined true b c = refl
or_joined false b c = refl

both_joined : (a b c : Touch) → both (both a b) c ≡ both a (both b c)
both_joined a b c = rw (
  or_joined a.registers b.registers c.registers,
  or_joined a.vectors b.vectors c.vectors,
  or_joined a.accumulators b.accumulators c.accumulators,
  or_joined a.flags b.flags c.flags,
  or_joined a.divider b.divider c.divider,
  or_joined a.dmem b.dmem c.dmem,
) refl

rows_joined : (c d : List Inst) → of_rows (c ++ d) ≡ both (of_rows c) (of_rows d)
rows_joined [] d = refl
rows_joined (i ∷ is) d = ap (both (of_row i)) (rows_joined is d) ∙ sym (both_joined (of_row i) (of_rows is) (of_rows d))

pub all_parts : (p : Inst → Bool) (a b : List Inst) → list_all p (a ++ b) ≡ true → (list_all p a ≡ true) × (list_all p b ≡ true)
all_parts p [] b h = (refl, h)
all_parts p (i ∷ is) b h =
    let parts = and_parts (p i) (list_all p (is ++ b)) h in
    let more = all_parts p is b parts.1 in
    (rw (parts.0, more.0) refl, more.1)

addresses_joined : (a b : List ℕ) (p : ℕ) → address_after_words (a ++ b) p ≡ address_after_words b (address_after_words a p)
addresses_joined [] b p = refl
addresses_joined (w ∷ ws) b p = addresses_joined ws b (address_after p)

pub spares_joined : (a b : List Inst) (s t u : State) → Spares a s t → Spares b t u → Spares (a ++ b) s u
spares_joined a b s t u p q = record {
  scalars = λ n h. let parts = all_parts (λ i. not (register_of i == n)) a b h in q.scalars n parts.1 ∙ p.scalars n parts.0;
  vectors = λ n h. let parts = all_parts (spares_vector n) a b h in q.vectors n parts.1 ∙ p.vectors n parts.0;
}

pub frames_joined : (a b : List Inst) (s t u : State) → t ≡ with_parts (of_rows a) s t → u ≡ with_parts (of_rows b) t u → u ≡ with_parts (of_rows (a ++ b)) s u
frames_joined a b s t u p q = chained (of_rows a) (of_rows b) s t u p q ∙ ap (λ k. with_parts k s u) (sym (rows_joined a b))

pub blocks_join : BlocksJoin
blocks_join a b c d s t u p q = record {
  ranges = q.ranges;
  pc = q.pc ∙ ap (address_after_words b) p.pc ∙ sym (addresses_joined a b s.pc);
  npc = q.npc;
  spares = spares_joined c d s t u p.spares q.spares;
  frame = frames_joined c d s t u p.frame q.frame;
}

pub ran_at : RanAt
ran_at a b c s t at p = next_block a b s t at p.pc p.npc (ap (λ (x : State). x.imem) p.frame) (ap (λ (x : State). x.sp) p.frame)

pub ran_others : RanOthers
ran_others words code s t is next p ns ms only =
    changed_is _ _ code s t is p.ranges p.spares p.pc
    (p.npc ∙ ap address_after p.pc ∙ sym (placed words s.pc) ∙ ap (address_after_words words) (sym next)) p.frame ns ms only

pub ran_returns : RanReturns
ran_returns words code r s t u is p spare q ns ms only =
    let end = q.others (range_with_len 1 31) (range_with_len 0 32) refl in
    let back = ap (λ n. n / 4 % 1024 * 4) (p.spares.scalars 31 spare) in
    changed_is _ _ (code ++ routine_code r) s u is q.ranges (spares_joined code (routine_code r) s t u p.spares q.spares)
    (ap (λ (x : State). x.pc) end ∙ back) (ap (λ (x : State). x.npc) end ∙ ap address_after back)
    (frames_joined code (routine_code r) s t u p.frame q.frame) ns ms only

-- pc and npc of a state whose other parts are known
ran_of : (words : List ℕ) (code : List Inst) (s t : State) → s.npc ≡ address_after s.pc → IsState t → Spares code s t → t ≡ with_parts (of_rows code) s t
    → t ≡ with_written words code (range_with_len 1 31) (range_with_len 0 32) s t → Ran words code s t
ran_of words code s t next is spares frame all =
    let pc : t.pc ≡ address_after_words words s.pc = ap (λ (x : State). x.pc) all in
    record {
      ranges = is;
      pc = pc;
      npc = ap (λ (x : State). x.npc) all ∙ ap (address_after_words words) next ∙ placed words s.pc ∙ ap address_after (sym pc);
      spares = spares;
      frame = frame;
    }

pub pieces_ran : (words : List ℕ) (ps : List Piece) (s t : State) → s.npc ≡ address_after s.pc → AfterPieces words ps s t → Ran words (code_of ps) s t
pieces_ran words ps s t next end = ran_of words (code_of ps) s t next end.ranges end.spares end.frame (end.others (range_with_len 1 31) (range_with_len 0 32) refl)

pub loop_ran : (l : Loop) (n : ℕ) (Holds : ℕ → State → Type 0) (s t : State) → s.npc ≡ address_after s.pc → AfterLoop l n Holds s t → Ran l.words (loop_code l) s t
loop_ran l n Holds s t next end = ran_of l.words (loop_code l) s t next end.ranges end.spares end.frame (end.others (range_with_len 1 31) (range_with_len 0 32) refl)
