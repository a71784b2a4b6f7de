-- A row of bytes from RDRAM.
use Rattle.std.proofs.Common.{◌≡◌, ℕ, ◌+◌, List, [], ◌∷◌, ◌++◌, length, map, Some, refl, ap, sym, subst, ◌∙◌, arith}
use Rattle.rsp_decode.specs.declared.inst.Inst.TheVariants.{MoveSp, Shift, BranchEqual}
use Rattle.rsp_decode.specs.declared.scalar.BranchEqualOp.TheVariants.{Bne}
use Rattle.rsp_decode.specs.declared.scalar.MoveOp.TheVariants.{From}
use Rattle.rsp_decode.specs.declared.scalar.ShiftOp.TheVariants.{Sll}
use Rattle.rsp_decode.specs.Table.Words.{inst_of, row_of}
use Rattle.rsp_memory.specs.Memory.{byte_at}
use Rattle.rsp_multiply.specs.Laws.{SumsOfProducts}
use Rattle.rsp_regs.specs.Sp.{read_value}
use Rattle.rsp_scalar.specs.Registers.{register}
use Rattle.rsp_machine.specs.State.{State, IsState}
use Rattle.rsp_machine.specs.Step.{executed, instruction_effect, moves_sp}
use Rattle.rsp_machine.specs.Laws.{steps_of}
use Rattle.rsp_microcode.specs.Runs.{IsAt, address_after_words}
use Rattle.rsp_microcode.specs.Kept.{registers_but}
use Rattle.rsp_microcode.specs.Pieces.{rows, after_pieces}
use Rattle.rsp_microcode.specs.Loops.{Loop, loop_code, HandsOn, AfterLoop}
use Rattle.rsp_microcode.specs.Transfers.{fetch_code, with_addresses}
use Rattle.rsp_routines.specs.FetchRow.{FetchesRow, FetchesRows}
use Rattle.rsp_microcode.proofs.Listings.{listed}
use Rattle.rsp_microcode.proofs.Blocks.{steps_after, both_stand, first_block}
use Rattle.rsp_microcode.proofs.Loops.{loops}
use Rattle.rsp_microcode.proofs.Transfers.{fetch_runs}

abbrev moves : List ℕ
moves = 0x40810000 ∷ 0x40820800 ∷ 0x40831000 ∷ []

moves_decoded : map inst_of moves ≡ map Some (fetch_code 1 2 3)
unfolding inst_of row_of
moves_decoded = refl

-- the wait, which is a loop of one round, since a transfer is done at once
abbrev pub wait : Loop
wait = record { words = 0x40043000 ∷ 0x1480fffe ∷ 0x00000000 ∷ []; pieces = rows (MoveSp From 4 6 ∷ []) ∷ []; branch = BranchEqual Bne 4 0 0xfffe; slot = Shift Sll 0 0 0 }

decoded : map inst_of wait.words ≡ map Some (loop_code wait)
unfolding inst_of row_of
decoded = refl

abbrev pub Nothing : ℕ → State → Type 0
Nothing k t = Unit {0}

-- register 6 reads 0, and so does scalar register 0
ready : (t : State) → length t.registers ≡ 32 → let r = (after_pieces wait.pieces t).registers in (register r 4 ≡ 0) × (register r 0 ≡ register t.registers 0)
unfolding executed instruction_effect moves_sp read_value
ready t n =
    let p = λ (i : ℕ) (r : List ℕ). register (after_pieces wait.pieces (record t { registers = r })).registers i in
    let e = listed t.registers n in
    (ap (p 4) e, ap (p 0) e)

one_round : (s : State) → HandsOn wait s 1 Nothing
one_round s k t h is spares holds =
    let r = ready t is.registers.count in
    let zero = is.registers.zero in
    let e : k ≡ 0 = omega arith in
    (tt, rw (r.0, r.1, zero, e) refl, tt)

-- three steps over the wait
pub waits : SumsOfProducts → (s : State) → IsState s → IsAt wait.words s → AfterLoop wait 1 Nothing s (steps_of 3 s)
waits law s is at = loops law wait decoded refl s is at 1 (omega arith) Nothing tt (one_round s)

pub fetches : SumsOfProducts → FetchesRows (moves ++ wait.words)
fetches law s is at row =
    let r = s.registers in
    let first = fetch_runs moves 1 2 3 moves_decoded s is (first_block moves wait.words s at) row in
    let u = steps_of 3 s in
    let end = waits law u first.ranges (first.at wait.words (both_stand moves wait.words s.pc s.imem at.stand).1) in
    let t = steps_of 3 u in
    let last = end.others (4 ∷ []) [] refl in
    let same = ap (λ (x : State). x.dmem) last in
    subst (λ (x : State). FetchesRow (moves ++ wait.words) s x (register r 1) (register r 2) (register r 3)) (sym (steps_after 3 3 s)) (record {
      bytes = λ i h. ap (λ m. byte_at m (register r 1 + i)) same ∙ first.bytes i h;
      outside = λ x h. ap (λ m. byte_at m x) same ∙ first.outside x h;
      others = tidy s t _ _ _ _ _ _ _ (last ∙ ap (λ (x : State). let y : State = record x {
        pc = address_after_words wait.words x.pc;
        npc = address_after_words wait.words x.npc;
        registers = registers_but (4 ∷ []) x.registers t.registers;
      } in y) first.others);
    })
  where
    tidy : (s t : State) (p q : ℕ) (r m : List ℕ) (u v w : ℕ) → t ≡ record s { pc = p; npc = q; registers = r; dmem = m; sp = record s.sp { memory = u; dram = v; skip = w } }
        → t ≡ record s { pc = p; npc = q; registers = r; dmem = t.dmem; sp = with_addresses s.sp t.sp }
    tidy s t p q r m u v w e = subst (λ (y : State). y ≡ record s { pc = p; npc = q; registers = r; dmem = y.dmem; sp = with_addresses s.sp y.sp }) (sym e) refl
