-- Code that ends with a branch.
use Rattle.std.proofs.Common.{◌≡◌, ℕ, ◌+◌, ◌*◌, ◌%◌, ◌<◌, pos, negsuc, ◌-◌, ◌+ℤ◌, ◌*ℤ◌, length, Bool, true, refl, ap, sym, subst, ◌∙◌, arith, inl, inr, [], ◌∷◌}
use Rattle.std.specs.Prelude.{if◌then◌else◌, unsigned_abs}
use Rattle.std.proofs.lemmas.Int.{ints, int_rem_euclid_is}
use Rattle.std.proofs.lemmas.Bool.{cases_lt, and_parts, ltb-true}
use Rattle.rsp_numbers.specs.Numbers.{s16}
use Rattle.rsp_numbers.proofs.Signed.{s16_small, s16_large}
use Rattle.rsp_decode.specs.declared.inst.Inst.{Inst}
use Rattle.rsp_decode.specs.declared.inst.Inst.TheVariants.{BranchSign, BranchEqual}
use Rattle.rsp_decode.specs.declared.scalar.BranchSignOp.TheVariants.{Bltz, Bgez, Blez, Bgtz}
use Rattle.rsp_multiply.specs.Laws.{SumsOfProducts}
use Rattle.rsp_scalar.specs.Registers.{register}
use Rattle.rsp_loadstore.specs.File.{vector}
use Rattle.rsp_scalar.specs.ScalarRules.{is_taken, branch_target}
use Rattle.rsp_scalar.specs.Flow.{address_after}
use Rattle.rsp_machine.specs.State.{State, IsState}
use Rattle.rsp_machine.specs.Step.{executed, instruction_effect, jumps}
use Rattle.rsp_machine.specs.Laws.{steps_of}
use Rattle.rsp_microcode.specs.Runs.{branches, ran_through}
use Rattle.rsp_microcode.specs.Frames.{of_rows, with_parts}
use Rattle.rsp_microcode.specs.Kept.{Spares}
use Rattle.rsp_microcode.specs.Ranges.{fits_word}
use Rattle.rsp_microcode.specs.Pieces.{code_of, after_pieces}
use Rattle.rsp_microcode.specs.Loops.{loop_code, round_of}
use Rattle.rsp_microcode.specs.Branches.{offset_of, is_plain, AfterBlock, BlockRuns}
use Rattle.rsp_microcode.proofs.Runs.{gone, with_branch, ran_on}
use Rattle.rsp_microcode.proofs.Frames.{framed, scalars_spared, vectors_spared}
use Rattle.rsp_microcode.proofs.Ranges.{ranges}
use Rattle.rsp_microcode.proofs.Pieces.{pieces, addresses_run, pieces_straight}
use Rattle.rsp_microcode.proofs.Loops.{address_is, lengths, stays_all, fit_all}

-- the target of a branch from a delay slot at p: addresses count modulo 4096, so the sign of the offset doesn't matter
target : (p o : ℕ) → o < 65536 → branch_target p o ≡ (p + 4 * o) % 4096
target p o h = elim (cases_lt o 32768) [
  | inl l ↦ rw (s16_small o l) (omega (arith, ints))
  | inr l ↦
      let back : s16 o ≡ negsuc (65535 - o) = s16_large o l h in
      let r = int_rem_euclid_is (pos p +ℤ (pos 4 *ℤ s16 o)) (pos 4096) 4096 32 (p + (4 * o - 131072)) (omega arith) refl (rw back (omega (arith, ints))) in
      ap unsigned_abs r ∙ omega arith
]

-- pc and npc after a branch
abbrev went : Bool → ℕ → ℕ → ℕ
went b p o = if b then branch_target p o else address_after p

plain : (i : Inst) (s : State) → is_plain i ≡ true → executed i s ≡ record s { pc = s.npc; npc = went (is_taken i s.registers) s.npc (offset_of i) }
unfolding executed instruction_effect jumps
plain (BranchEqual op rs rt offset) s h = refl
plain (BranchSign Bltz rs offset) s h = refl
plain (BranchSign Bgez rs offset) s h = refl
plain (BranchSign Blez rs offset) s h = refl
plain (BranchSign Bgtz rs offset) s h = refl
plain _ s h = cc

plain_branches : (i : Inst) → is_plain i ≡ true → branches i ≡ true
plain_branches (BranchEqual op rs rt offset) h = refl
plain_branches (BranchSign op rs offset) h = refl
plain_branches _ h = cc

plain_fits : (i : Inst) → is_plain i ≡ true → fits_word i ≡ true
plain_fits (BranchEqual op rs rt offset) h = refl
plain_fits (BranchSign op rs offset) h = refl
plain_fits _ h = cc

pub block_runs : SumsOfProducts → BlockRuns
block_runs law l decoded test s is at aligned =
    let p0 = and_parts _ _ test in
    let p1 = and_parts _ _ p0.1 in
    let p2 = and_parts _ _ p1.0 in
    let p3 = and_parts _ _ p1.1 in
    let code = code_of l.pieces in
    let m = length code + 1 in
    let straight = pieces_straight l.pieces p0.0 in
    let branching = plain_branches l.branch p2.0 in
    let run = (pieces law l.pieces s is at.next p0.0 aligned).0 in
    let u = after_pieces l.pieces s in
    let v = executed l.branch u in
    let x = round_of l s in
    let made : steps_of (length l.words) s ≡ x = with_branch l.words code l.branch l.slot s decoded straight.0 branching p3.0 at ∙ ap (λ y. executed l.slot (executed l.branch y)) run in
    let g = gone l.slot v p3.0 in
    let all = stays_all code l.branch l.slot straight.0 branching p3.0 in
    let fit = fit_all code l.branch l.slot straight.1 (plain_fits l.branch p2.0) p3.1 in
    let same : ran_through (loop_code l) s ≡ x = ran_on code (l.branch ∷ l.slot ∷ []) s ∙ ap (λ y. executed l.slot (executed l.branch y)) run in
    let small = is.pc.0 in
    let slot_at : u.npc ≡ (s.pc + 4 * m) % 4096 =
    ap (λ (y : State). y.npc) (sym run) ∙ (addresses_run code s straight.0 at.next).1 ∙ ap address_after (address_is code s.pc small) ∙ omega arith in
    let here : x.pc ≡ went (is_taken l.branch u.registers) u.npc (offset_of l.branch) = g.pc ∙ ap (λ (y : State). y.npc) (plain l.branch u p2.0) in
    let long = lengths l.words code l.branch l.slot decoded in
    let next : x.npc ≡ address_after x.pc = g.npc ∙ ap address_after (sym g.pc) in
    let ok : IsState x = subst IsState same (ranges (loop_code l) s all fit is) in
    let frame : x ≡ with_parts (of_rows (loop_code l)) s x = subst (λ (y : State). y ≡ with_parts (of_rows (loop_code l)) s y) same (framed (loop_code l) s all) in
    let spares : Spares (loop_code l) s x = record {
      scalars = λ i h. ap (λ (y : State). register y.registers i) (sym same) ∙ scalars_spared (loop_code l) i s all h;
      vectors = λ i h. ap (λ (y : State). vector y.vectors i) (sym same) ∙ vectors_spared (loop_code l) i s all h;
    } in
    subst (AfterBlock l s) (sym made) (record {
      ran = refl;
      ranges = ok;
      passed = λ h. record {
        ranges = ok;
        pc = here ∙ ap (λ b. went b u.npc (offset_of l.branch)) h ∙ ap address_after slot_at ∙ omega arith ∙ sym (address_is l.words s.pc small);
        npc = next;
        spares = spares;
        frame = frame;
      };
      turned = λ h. here ∙ ap (λ b. went b u.npc (offset_of l.branch)) h ∙ target u.npc (offset_of l.branch) (ltb-true _ _ p2.1) ∙ omega (arith, slot_at);
      next = next;
      spares = spares;
      frame = frame;
    })
