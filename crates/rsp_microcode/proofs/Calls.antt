-- Calls.
use Rattle.std.proofs.Common.{◌≡◌, ℕ, ◌*◌, ◌/◌, ◌%◌, List, [], ◌∷◌, length, true, refl, ap, sym, subst, ◌∙◌, arith}
use Rattle.std.proofs.lemmas.Bool.{and_parts}
use Rattle.std.proofs.lemmas.List.{length-map}
use Rattle.rsp_decode.specs.declared.inst.Inst.{Inst}
use Rattle.rsp_decode.specs.declared.inst.Inst.TheVariants.{JumpRegister, Jump}
use Rattle.rsp_decode.specs.declared.scalar.JumpOp.TheVariants.{Jal}
use Rattle.rsp_decode.specs.Table.Words.{inst_of}
use Rattle.rsp_multiply.specs.Laws.{SumsOfProducts}
use Rattle.rsp_scalar.specs.Registers.{register, with_register}
use Rattle.rsp_scalar.specs.Flow.{address_after}
use Rattle.rsp_loadstore.specs.File.{vector}
use Rattle.rsp_machine.specs.State.{State, IsState}
use Rattle.rsp_machine.specs.Step.{executed, instruction_effect, jumps}
use Rattle.rsp_machine.specs.Laws.{steps_of}
use Rattle.rsp_microcode.specs.Runs.{goes_on, ran_through, address_after_words}
use Rattle.rsp_microcode.specs.Frames.{of_rows, with_parts, all_stay}
use Rattle.rsp_microcode.specs.Kept.{Spares}
use Rattle.rsp_microcode.specs.Pieces.{code_of, after_pieces}
use Rattle.rsp_microcode.specs.Calls.{routine_code, return_of, AfterRoutine, RoutineRuns, call_code, AfterCall, CallRuns}
use Rattle.rsp_microcode.proofs.Runs.{gone, with_branch, ran_on}
use Rattle.rsp_microcode.proofs.Registers.{one_scalar}
use Rattle.rsp_microcode.proofs.Frames.{framed, scalars_spared, vectors_spared}
use Rattle.rsp_microcode.proofs.Ranges.{ranges}
use Rattle.rsp_microcode.proofs.Kept.{changed_is}
use Rattle.rsp_microcode.proofs.Pieces.{pieces, pieces_straight, stay_all}
use Rattle.rsp_microcode.proofs.Loops.{stays_all, fit_all}

-- a jump to register 31, and a jump that links
returned : (s : State) → executed (JumpRegister 31) s ≡ record s { pc = s.npc; npc = return_of s }
unfolding executed instruction_effect jumps
returned s = refl

called : (target : ℕ) (s : State) → executed (Jump Jal target) s ≡ record s { pc = s.npc; npc = target * 4 % 4096; registers = with_register s.registers 31 (address_after s.npc) }
unfolding executed instruction_effect jumps
called target s = refl

pub routine_run : SumsOfProducts → RoutineRuns
routine_run law r decoded test s ok at aligned =
    let p0 = and_parts _ _ test in
    let p1 = and_parts _ _ p0.0 in
    let p2 = and_parts _ _ p0.1 in
    let code = code_of r.pieces in
    let all_code = routine_code r in
    let straight = pieces_straight r.pieces p1.0 in
    let run = (pieces law r.pieces s ok at.next p1.0 aligned).0 in
    let u = after_pieces r.pieces s in
    let v = executed (JumpRegister 31) u in
    let x = executed r.slot v in
    let made : steps_of (length r.words) s ≡ x =
    with_branch r.words code (JumpRegister 31) r.slot s decoded straight.0 refl p2.0 at ∙ ap (λ y. executed r.slot (executed (JumpRegister 31) y)) run in
    let same : ran_through all_code s ≡ x = ran_on code (JumpRegister 31 ∷ r.slot ∷ []) s ∙ ap (λ y. executed r.slot (executed (JumpRegister 31) y)) run in
    let all = stays_all code (JumpRegister 31) r.slot straight.0 refl p2.0 in
    let fit = fit_all code (JumpRegister 31) r.slot straight.1 refl p2.1 in
    let g = gone r.slot v p2.0 in
    let link : register u.registers 31 ≡ register s.registers 31 = ap (λ (y : State). register y.registers 31) (sym run) ∙ scalars_spared code 31 s (stay_all code straight.0) p1.1 in
    let pc : x.pc ≡ return_of s = g.pc ∙ ap (λ (y : State). y.npc) (returned u) ∙ ap (λ n. n / 4 % 1024 * 4) link in
    let kept : IsState x = subst IsState same (ranges all_code s all fit ok) in
    let spares : Spares all_code s x = record {
      scalars = λ i h. ap (λ (y : State). register y.registers i) (sym same) ∙ scalars_spared all_code i s all h;
      vectors = λ i h. ap (λ (y : State). vector y.vectors i) (sym same) ∙ vectors_spared all_code i s all h;
    } in
    let frame : x ≡ with_parts (of_rows all_code) s x = subst (λ (y : State). y ≡ with_parts (of_rows all_code) s y) same (framed all_code s all) in
    subst (AfterRoutine r s) (sym made) (record {
      ran = refl;
      ranges = kept;
      spares = spares;
      frame = frame;
      others = changed_is _ _ all_code s x ok kept spares pc (g.npc ∙ ap address_after (sym g.pc) ∙ ap address_after pc) frame;
    })

slot_stays : (i : Inst) → goes_on i ≡ true → all_stay (i ∷ []) ≡ true
slot_stays i h = rw h refl

two_addresses : (ws : List ℕ) (p : ℕ) → length ws ≡ 2 → address_after_words ws p ≡ address_after (address_after p)
two_addresses [] p e = absurd (omega arith)
two_addresses (a ∷ []) p e = absurd (omega arith)
two_addresses (a ∷ b ∷ []) p e = refl
two_addresses (a ∷ b ∷ c ∷ ws) p e = absurd (omega arith)

returns : (p : ℕ) → p % 4 ≡ 0 → address_after (address_after p) / 4 % 1024 * 4 ≡ address_after (address_after p)
returns p h = omega arith

pub call_runs : CallRuns
call_runs words target slot decoded test spare s ok at =
    let p = and_parts _ _ test in
    let code = call_code target slot in
    let v = executed (Jump Jal target) s in
    let x = executed slot v in
    let made : steps_of (length words) s ≡ x = with_branch words [] (Jump Jal target) slot s decoded refl refl p.0 at in
    let g = gone slot v p.0 in
    let call = called target s in
    let stay = stays_all [] (Jump Jal target) slot refl refl p.0 in
    let fit = fit_all [] (Jump Jal target) slot refl refl p.1 in
    let pc : x.pc ≡ target * 4 % 4096 = g.pc ∙ ap (λ (y : State). y.npc) call in
    let link : register x.registers 31 ≡ address_after s.npc =
    scalars_spared (slot ∷ []) 31 v (slot_stays slot p.0) spare ∙ ap (λ (y : State). register y.registers 31) call
    ∙ one_scalar s.registers 31 31 (address_after s.npc) ok.registers.count (omega arith) refl in
    let two : address_after_words words s.pc ≡ address_after (address_after s.pc) = two_addresses words s.pc (sym (length-map words inst_of) ∙ ap length decoded) in
    subst (AfterCall words target slot s) (sym made) (record {
      ran = refl;
      ranges = ranges code s stay fit ok;
      spares = record { scalars = λ i h. scalars_spared code i s stay h; vectors = λ i h. vectors_spared code i s stay h };
      at = λ ws stand. record {
        goes = ap (λ (y : State). y.sp.halted) (framed code s stay) ∙ at.goes;
        runs = ap (λ (y : State). y.sp.single_step) (framed code s stay) ∙ at.runs;
        next = g.npc ∙ ap address_after (sym g.pc);
        stand = let e = ap (λ (y : State). y.imem) (framed code s stay) in rw (pc, e) stand;
      };
      back = ap (λ n. n / 4 % 1024 * 4) (link ∙ ap address_after at.next) ∙ returns s.pc ok.pc.1 ∙ sym two;
    })
