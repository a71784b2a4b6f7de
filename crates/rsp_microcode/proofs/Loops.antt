-- Loops of pieces.
use Rattle.std.proofs.Common.{◌≡◌, ℕ, ◌+◌, ◌-◌, ◌*◌, ◌%◌, ◌<◌, pos, negsuc, ◌+ℤ◌, ◌*ℤ◌, List, [], ◌∷◌, ◌++◌, length, length-append, map, Some, Bool, true, false, ◌||◌, ◌&&◌, refl, ap, sym, subst, ◌∙◌, arith}
use Rattle.std.specs.Prelude.{if◌then◌else◌, nat_lt, unsigned_abs}
use Rattle.std.proofs.lemmas.Int.{ints, int_rem_euclid_is}
use Rattle.std.proofs.lemmas.Bool.{and_parts, ltb-true, lt-ltb, le-ltb}
use Rattle.std.proofs.lemmas.List.{length-map}
use Rattle.std.proofs.lemmas.Bool.Decides.{nat_tests}
use Rattle.rsp_numbers.specs.Numbers.{s16}
use Rattle.rsp_decode.specs.declared.inst.Inst.{Inst}
use Rattle.rsp_decode.specs.declared.inst.Inst.TheVariants.{BranchSign, BranchEqual}
use Rattle.rsp_decode.specs.declared.scalar.BranchSignOp.TheVariants.{Bltz, Bgez, Blez, Bgtz}
use Rattle.rsp_decode.specs.Table.Words.{inst_of}
use Rattle.rsp_multiply.proofs.Signs.{s16_large}
use Rattle.rsp_multiply.specs.Laws.{SumsOfProducts}
use Rattle.rsp_scalar.specs.Registers.{register}
use Rattle.rsp_loadstore.specs.File.{vector}
use Rattle.rsp_scalar.specs.ScalarRules.{is_taken, branch_target}
use Rattle.rsp_scalar.specs.Flow.{address_after}
use Rattle.rsp_machine.specs.State.{State, IsState}
use Rattle.rsp_machine.specs.Step.{executed, instruction_effect, jumps}
use Rattle.rsp_machine.specs.Laws.{steps_of}
use Rattle.rsp_microcode.specs.Runs.{IsAt, all_go_on, goes_on, branches, ran_through, address_after_words}
use Rattle.rsp_microcode.specs.Frames.{Touch, both, of_rows, with_parts, all_stay}
use Rattle.rsp_microcode.specs.Kept.{Spares}
use Rattle.rsp_microcode.specs.Ranges.{fits_word, all_fit}
use Rattle.rsp_microcode.specs.Pieces.{code_of, after_pieces}
use Rattle.rsp_microcode.specs.Loops.{Loop, loop_code, branches_back, is_loop, round_of, HandsOn, LoopRuns}
use Rattle.rsp_microcode.proofs.Runs.{gone, with_branch, ran_on, rounds_kept}
use Rattle.rsp_microcode.proofs.Frames.{framed, chained, unchanged, scalars_spared, vectors_spared}
use Rattle.rsp_microcode.proofs.Ranges.{ranges}
use Rattle.rsp_microcode.proofs.Kept.{changed_is}
use Rattle.rsp_microcode.proofs.Pieces.{pieces, addresses_run, placed, pieces_straight}

-- addresses
pub address_is : {X : Type 0} (xs : List X) (p : ℕ) → p < 4096 → address_after_words xs p ≡ (p + 4 * length xs) % 4096
address_is [] p h = omega arith
address_is (x ∷ xs) p h = address_is xs (address_after p) (omega arith) ∙ omega arith

-- the branch: it goes back to an address p from a slot n words behind it
pub back_to : (p q n : ℕ) → p < 4096 → 0 < n → n < 1001 → q ≡ (p + 4 * n) % 4096 → branch_target q (65536 - n) ≡ p
back_to p q n h z m e =
    let back : s16 (65536 - n) ≡ negsuc (n - 1) = s16_large (65536 - n) (n - 1) (omega arith) (omega arith) in
    let r = int_rem_euclid_is (pos q +ℤ (pos 4 *ℤ s16 (65536 - n))) (pos 4096) 4096 1 (q + (4096 - 4 * n)) (omega arith) refl (rw back (omega (arith, ints))) in
    ap unsigned_abs r ∙ omega arith

-- the addresses after a branch that goes back, and its slot
abbrev pub goes : Bool → ℕ → ℕ → ℕ
goes b q n = if b then branch_target q (65536 - n) else address_after q

pub turned : (i : Inst) (n : ℕ) (s : State) → branches_back i n ≡ true → executed i s ≡ record s { pc = s.npc; npc = goes (is_taken i s.registers) s.npc n }
unfolding executed instruction_effect jumps
turned (BranchEqual op rs rt offset) n s h = let e : offset ≡ 65536 - n = grind (arith, nat_tests) in rw e refl
turned (BranchSign Bltz rs offset) n s h = let e : offset ≡ 65536 - n = grind (arith, nat_tests) in rw e refl
turned (BranchSign Bgez rs offset) n s h = let e : offset ≡ 65536 - n = grind (arith, nat_tests) in rw e refl
turned (BranchSign Blez rs offset) n s h = let e : offset ≡ 65536 - n = grind (arith, nat_tests) in rw e refl
turned (BranchSign Bgtz rs offset) n s h = let e : offset ≡ 65536 - n = grind (arith, nat_tests) in rw e refl
turned _ n s h = cc

is_branch : (i : Inst) (n : ℕ) → branches_back i n ≡ true → branches i ≡ true
is_branch (BranchEqual op rs rt offset) n h = refl
is_branch (BranchSign op rs offset) n h = refl
is_branch _ n h = cc

pub stays_all : (is : List Inst) (b d : Inst) → all_go_on is ≡ true → branches b ≡ true → goes_on d ≡ true → all_stay (is ++ b ∷ d ∷ []) ≡ true
stays_all [] b d h p q = cases (goes_on b) (branches b) (goes_on d) (branches d) p q
  where
    cases : (x y z w : Bool) → y ≡ true → z ≡ true → ((x || y) && ((z || w) && true)) ≡ true
    cases true y z w p q = rw q refl
    cases false y z w p q = rw (p, q) refl
stays_all (i ∷ is) b d h p q =
    let parts = and_parts (goes_on i) (all_go_on is) h in
    rw (parts.0, stays_all is b d parts.1 p q) refl

or_same : (b : Bool) → (b || b) ≡ b
or_same true = refl
or_same false = refl

pub both_same : (k : Touch) → both k k ≡ k
both_same k = rw (or_same k.registers, or_same k.vectors, or_same k.accumulators, or_same k.flags, or_same k.divider, or_same k.dmem) refl

-- a branch fits a word, and so does a loop
branch_fits : (i : Inst) (n : ℕ) → branches_back i n ≡ true → fits_word i ≡ true
branch_fits (BranchEqual op rs rt offset) n h = refl
branch_fits (BranchSign op rs offset) n h = refl
branch_fits _ n h = cc

pub fit_all : (is : List Inst) (b d : Inst) → all_fit is ≡ true → fits_word b ≡ true → fits_word d ≡ true → all_fit (is ++ b ∷ d ∷ []) ≡ true
fit_all [] b d h p q = rw (p, q) refl
fit_all (i ∷ is) b d h p q = let parts = and_parts (fits_word i) (all_fit is) h in rw (parts.0, fit_all is b d parts.1 p q) refl

-- what holds after k rounds
record Stands (l : Loop) (s : State) (Holds : ℕ → State → Type 0) (n k : ℕ) (t : State) : Type 0 where
  ranges : IsState t
  next : t.npc ≡ address_after t.pc
  holds : Holds k t
  here : k < n → t.pc ≡ s.pc
  past : k ≡ n → t.pc ≡ address_after_words l.words s.pc
  frame : t ≡ with_parts (of_rows (loop_code l)) s t
  spares : Spares (loop_code l) s t

pub lengths : (ws : List ℕ) (is : List Inst) (b d : Inst) → map inst_of ws ≡ map Some (is ++ b ∷ d ∷ []) → length ws ≡ length is + 2
lengths ws is b d e = sym (length-map ws inst_of) ∙ ap length e ∙ length-map (is ++ b ∷ d ∷ []) Some ∙ length-append is (b ∷ d ∷ [])

round : SumsOfProducts → (l : Loop) → map inst_of l.words ≡ map Some (loop_code l) → is_loop l ≡ true
    → (s : State) → s.pc < 4096 → IsAt l.words s → (n : ℕ) (Holds : ℕ → State → Type 0) → HandsOn l s n Holds
    → (k : ℕ) (t : State) → k < n → Stands l s Holds n k t → Stands l s Holds n (k + 1) (steps_of (length l.words) t)
round law l decoded test s address at n Holds each k t lt is =
    let p0 = and_parts _ _ test in
    let p1 = and_parts _ _ p0.0 in
    let p2 = and_parts _ _ p0.1 in
    let p3 = and_parts _ _ p2.1 in
    let code = code_of l.pieces in
    let m = length code + 1 in
    let short : length code < 1000 = ltb-true _ _ p1.1 in
    let straight = pieces_straight l.pieces p1.0 in
    let branching = is_branch l.branch m p2.0 in
    let here : IsAt l.words t = record {
      goes = ap (λ (x : State). x.sp.halted) is.frame ∙ at.goes;
      runs = ap (λ (x : State). x.sp.single_step) is.frame ∙ at.runs;
      next = is.next;
      stand = let e1 = is.here lt in let e2 = ap (λ (x : State). x.imem) is.frame in rw (e1, e2) at.stand;
    } in
    let r = each k t lt is.ranges is.spares is.holds in
    let run = (pieces law l.pieces t is.ranges is.next p1.0 r.0).0 in
    let u = after_pieces l.pieces t in
    let v = executed l.branch u in
    let x = round_of l t in
    let made : steps_of (length l.words) t ≡ x = with_branch l.words code l.branch l.slot t decoded straight.0 branching p3.0 here ∙ ap (λ y. executed l.slot (executed l.branch y)) run in
    let turn = turned l.branch m u p2.0 in
    let g = gone l.slot v p3.0 in
    let all = stays_all code l.branch l.slot straight.0 branching p3.0 in
    let fit = fit_all code l.branch l.slot straight.1 (branch_fits l.branch m p2.0) p3.1 in
    let same : ran_through (loop_code l) t ≡ x = ran_on code (l.branch ∷ l.slot ∷ []) t ∙ ap (λ y. executed l.slot (executed l.branch y)) run in
    let slot_at : u.npc ≡ (s.pc + 4 * m) % 4096 =
    ap (λ (y : State). y.npc) (sym run) ∙ (addresses_run code t straight.0 is.next).1 ∙ ap (λ p. address_after (address_after_words code p)) (is.here lt)
    ∙ ap address_after (address_is code s.pc address) ∙ omega arith in
    let went : x.pc ≡ goes (nat_lt (k + 1) n) u.npc m = g.pc ∙ ap (λ (y : State). y.npc) turn ∙ ap (λ b. goes b u.npc m) r.1 in
    let long = lengths l.words code l.branch l.slot decoded in
    let framing : x ≡ with_parts (of_rows (loop_code l)) t x = subst (λ (y : State). y ≡ with_parts (of_rows (loop_code l)) t y) same (framed (loop_code l) t all) in
    subst (Stands l s Holds n (k + 1)) (sym made) (record {
      ranges = subst IsState same (ranges (loop_code l) t all fit is.ranges);
      next = g.npc ∙ ap address_after (sym g.pc);
      holds = r.2;
      here = λ h. went ∙ ap (λ b. goes b u.npc m) (lt-ltb (k + 1) n h) ∙ back_to s.pc u.npc m address (omega arith) (omega arith) slot_at;
      past = λ h. went ∙ ap (λ b. goes b u.npc m) (le-ltb (k + 1) n (omega arith)) ∙ ap address_after slot_at ∙ omega arith ∙ sym (address_is l.words s.pc address);
      frame = chained (of_rows (loop_code l)) (of_rows (loop_code l)) s t x is.frame framing ∙ ap (λ k. with_parts k s x) (both_same (of_rows (loop_code l)));
      spares = record {
        scalars = λ i h. ap (λ (y : State). register y.registers i) (sym same) ∙ scalars_spared (loop_code l) i t all h ∙ is.spares.scalars i h;
        vectors = λ i h. ap (λ (y : State). vector y.vectors i) (sym same) ∙ vectors_spared (loop_code l) i t all h ∙ is.spares.vectors i h;
      };
    })

pub loops : SumsOfProducts → LoopRuns
loops law l decoded test s is at n some Holds start each =
    let begin : Stands l s Holds n 0 s = record {
      ranges = is;
      next = at.next;
      holds = start;
      here = λ h. refl;
      past = λ h. absurd (omega arith);
      frame = unchanged (of_rows (loop_code l)) s;
      spares = record { scalars = λ i h. refl; vectors = λ i h. refl };
    } in
    let t = steps_of (n * length l.words) s in
    let end : Stands l s Holds n n t = rounds_kept (length l.words) n (Stands l s Holds n) s begin (round law l decoded test s is.pc.0 at n Holds each) in
    let pc = end.past refl in
    let npc : t.npc ≡ address_after_words l.words s.npc = end.next ∙ ap address_after pc ∙ sym (placed l.words s.pc) ∙ ap (address_after_words l.words) (sym at.next) in
    record {
      holds = end.holds;
      ranges = end.ranges;
      spares = end.spares;
      frame = end.frame;
      others = changed_is _ _ (loop_code l) s t is end.ranges end.spares pc npc end.frame;
    }
