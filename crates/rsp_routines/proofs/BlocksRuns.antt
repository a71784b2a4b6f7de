-- Blocks of RDRAM, copied through two buffers in turn.
use Rattle.std.proofs.Common.{◌≡◌, ℕ, ◌+◌, ◌-◌, ◌*◌, ◌/◌, ◌%◌, ◌^◌, ◌<◌, ◌≤◌, ◌⊎◌, List, [], ◌∷◌, ◌++◌, length, map, Some, Bool, true, false, not, inl, inr, refl, ap, sym, subst, ◌∙◌, arith}
use Rattle.std.specs.Prelude.{nat_lt, ◌==◌}
use Rattle.std.proofs.lemmas.Bool.{cases_lt, lt-ltb, le-ltb, eq-eqb, ne_eqb}
use Rattle.std.proofs.lemmas.Nat.{mul-le}
use Rattle.rsp_decode.specs.declared.inst.Inst.{Inst}
use Rattle.rsp_decode.specs.declared.inst.Inst.TheVariants.{Register, Immediate, Shift, BranchEqual}
use Rattle.rsp_decode.specs.declared.scalar.BranchEqualOp.TheVariants.{Bne}
use Rattle.rsp_decode.specs.declared.scalar.ImmediateOp.TheVariants.{Addiu}
use Rattle.rsp_decode.specs.declared.scalar.RegisterOp.TheVariants.{Addu, Subu}
use Rattle.rsp_decode.specs.declared.scalar.ShiftOp.TheVariants.{Sll}
use Rattle.rsp_decode.specs.Table.Words.{inst_of, row_of}
use Rattle.rsp_memory.specs.Memory.{byte_at}
use Rattle.rsp_memory.specs.Image.{image_byte}
use Rattle.rsp_multiply.specs.Laws.{SumsOfProducts}
use Rattle.rsp_scalar.specs.Flow.{address_after}
use Rattle.rsp_scalar.specs.Registers.{register}
use Rattle.rsp_machine.specs.State.{State, IsState}
use Rattle.rsp_machine.specs.Step.{executed, instruction_effect, computes, jumps}
use Rattle.rsp_machine.specs.Laws.{steps_of}
use Rattle.rsp_microcode.specs.Runs.{IsAt, address_after_words, ran_through}
use Rattle.rsp_microcode.specs.Lanes.{IsOutside}
use Rattle.rsp_microcode.specs.Kept.{Spares}
use Rattle.rsp_microcode.specs.Loops.{loop_code}
use Rattle.rsp_microcode.specs.Blocks.{Ran}
use Rattle.rsp_microcode.specs.Frames.{register_of, spare_scalar}
use Rattle.rsp_loadstore.specs.File.{vector}
use Rattle.rsp_microcode.specs.Transfers.{IsRow, Fetches, Sends, fetch_code, send_code, row_bytes, with_addresses}
use Rattle.rsp_routines.specs.Blocks.{IsBlocks, CopiesBlocks, CopiesAllBlocks}
use Rattle.rsp_microcode.proofs.Blocks.{steps_after, both_stand, first_block}
use Rattle.rsp_routines.proofs.FetchRowRuns.{wait, Nothing, waits}
use Rattle.rsp_microcode.proofs.Frames.{framed, scalars_spared}
use Rattle.rsp_microcode.proofs.Joins.{all_parts, ran_at, loop_ran}
use Rattle.rsp_microcode.proofs.Kept.{kept_but}
use Rattle.rsp_microcode.proofs.Listings.{listed}
use Rattle.rsp_microcode.proofs.Loops.{goes, turned, back_to, address_is}
use Rattle.rsp_microcode.proofs.Ranges.{ranges}
use Rattle.rsp_microcode.proofs.Runs.{gone, with_branch, rounds_kept}
use Rattle.rsp_microcode.proofs.Transfers.{fetch_runs, send_runs}

abbrev fetch : List ℕ
fetch = 0x40850000 ∷ 0x40810800 ∷ 0x40831000 ∷ []

abbrev send : List ℕ
send = 0x40850000 ∷ 0x40820800 ∷ 0x40831800 ∷ []

abbrev tail : List ℕ
tail = 0x00260821 ∷ 0x00461021 ∷ 0x00e52823 ∷ 0x2508ffff ∷ 0x1500fff2 ∷ 0x00000000 ∷ []

-- a round: a block comes to a buffer, the routine waits for it, sends it, and takes the other buffer
abbrev words : List ℕ
words = fetch ++ (wait.words ++ (send ++ tail))

fetch_decoded : map inst_of fetch ≡ map Some (fetch_code 5 1 3)
unfolding inst_of row_of
fetch_decoded = refl

send_decoded : map inst_of send ≡ map Some (send_code 5 2 3)
unfolding inst_of row_of
send_decoded = refl

-- the addresses of the next block, the other buffer, and the branch
abbrev front : List Inst
front =
    Register Addu (record { rd = 1; rs = 1; rt = 6 }) ∷ Register Addu (record { rd = 2; rs = 2; rt = 6 }) ∷ Register Subu (record { rd = 5; rs = 7; rt = 5 })
    ∷ Immediate Addiu 8 8 0xffff ∷ []

abbrev branch : Inst
branch = BranchEqual Bne 8 0 0xfff2

abbrev slot : Inst
slot = Shift Sll 0 0 0

abbrev tail_code : List Inst
tail_code = front ++ branch ∷ slot ∷ []

tail_decoded : map inst_of tail ≡ map Some tail_code
unfolding inst_of row_of
tail_decoded = refl

-- the instructions of a round that write registers
abbrev code : List Inst
code = loop_code wait ++ tail_code

-- s, with the parts of t that a round may change
abbrev kept : State → State → State
kept s t = record s { pc = t.pc; npc = t.npc; registers = t.registers; dmem = t.dmem; rdram = t.rdram; sp = with_addresses s.sp t.sp }

then : (s t u : State) → t ≡ kept s t → u ≡ kept t u → u ≡ kept s u
then s t u e f = f ∙ ap (λ (y : State). kept y u) e

-- the registers after the tail, and those that its branch reads
counted : (t : State) → length t.registers ≡ 32 →
    let r = t.registers in
    let q = (ran_through tail_code t).registers in
    let p = (ran_through front t).registers in
    (register q 1 ≡ (register r 1 + register r 6) % 2 ^ 32) × (register q 2 ≡ (register r 2 + register r 6) % 2 ^ 32)
    × (register q 5 ≡ (register r 7 + (2 ^ 32 - register r 5)) % 2 ^ 32) × (register q 8 ≡ (register r 8 + 4294967295) % 2 ^ 32)
    × (register p 8 ≡ (register r 8 + 4294967295) % 2 ^ 32) × (register p 0 ≡ register r 0)
unfolding executed instruction_effect computes jumps
counted t n =
    let e = listed t.registers n in
    let q = λ (i : ℕ) (r : List ℕ). register (ran_through tail_code (record t { registers = r })).registers i in
    let p = λ (i : ℕ) (r : List ℕ). register (ran_through front (record t { registers = r })).registers i in
    (ap (q 1) e, ap (q 2) e, ap (q 5) e, ap (q 8) e, ap (p 8) e, ap (p 0) e)

front_address : (t : State) → (ran_through front t).npc ≡ address_after (address_after (address_after (address_after t.npc)))
unfolding executed instruction_effect computes
front_address t = refl

tail_frame : (t : State) → ran_through tail_code t ≡ kept t (ran_through tail_code t)
tail_frame t = put t (ran_through tail_code t) _ _ _ (framed tail_code t refl)
  where
    put : (s t : State) (p q : ℕ) (r : List ℕ) → t ≡ record s { pc = p; npc = q; registers = r } → t ≡ kept s t
    put s t p q r e = subst (λ (y : State). y ≡ kept s y) (sym e) refl

-- what the tail leads from u to x: it goes back to the round's start, at `address`, if a round is left
record Tailed (u x : State) (address : ℕ) : Type 0 where
  ranges : IsState x
  next : x.npc ≡ address_after x.pc
  back : (b : Bool) → not ((register u.registers 8 + 4294967295) % 2 ^ 32 == 0) ≡ b → x.pc ≡ goes b ((address + 56) % 4096) 14
  frame : x ≡ kept u x
  imem : x.imem ≡ u.imem
  halted : x.sp.halted ≡ u.sp.halted
  single_step : x.sp.single_step ≡ u.sp.single_step
  dmem : x.dmem ≡ u.dmem
  rdram : x.rdram ≡ u.rdram

tail_runs : (u : State) (address : ℕ) → IsState u → IsAt tail u → address < 4096 → u.pc ≡ (address + 36) % 4096 → (steps_of 6 u ≡ ran_through tail_code u) × Tailed u (ran_through tail_code u) address
tail_runs u address is at small here =
    let v = ran_through front u in
    let w = executed branch v in
    let x = ran_through tail_code u in
    let made : steps_of 6 u ≡ x = with_branch tail front branch slot u tail_decoded refl refl refl at in
    let turn = turned branch 14 v refl in
    let g = gone slot w refl in
    let n = counted u is.registers.count in
    let zero : register v.registers 0 ≡ 0 = n.5 ∙ is.registers.zero in
    let e4 = n.4 in
    let next = at.next in
    let slot_at : v.npc ≡ (address + 56) % 4096 = front_address u ∙ omega arith in
    let frame = framed tail_code u refl in (
      made,
      record {
        ranges = ranges tail_code u refl refl is;
        next = g.npc ∙ ap address_after (sym g.pc);
        back = λ b h. g.pc ∙ ap (λ (y : State). y.npc) turn ∙ ap (λ c. goes c v.npc 14) (rw (e4, zero) h) ∙ ap (λ p. goes b p 14) slot_at;
        frame = tail_frame u;
        imem = ap (λ (y : State). y.imem) frame;
        halted = ap (λ (y : State). y.sp.halted) frame;
        single_step = ap (λ (y : State). y.sp.single_step) frame;
        dmem = ap (λ (y : State). y.dmem) frame;
        rdram = ap (λ (y : State). y.rdram) frame;
      },
    )

-- what one round leads from t to x
record Rounded (t x : State) (a from to size : ℕ) : Type 0 where
  ranges : IsState x
  next : x.npc ≡ address_after x.pc
  back : (b : Bool) → not ((register t.registers 8 + 4294967295) % 2 ^ 32 == 0) ≡ b → x.pc ≡ goes b ((t.pc + 56) % 4096) 14
  one : register x.registers 1 ≡ (register t.registers 1 + register t.registers 6) % 2 ^ 32
  two : register x.registers 2 ≡ (register t.registers 2 + register t.registers 6) % 2 ^ 32
  five : register x.registers 5 ≡ (register t.registers 7 + (2 ^ 32 - register t.registers 5)) % 2 ^ 32
  eight : register x.registers 8 ≡ (register t.registers 8 + 4294967295) % 2 ^ 32
  spares : Spares code t x
  frame : x ≡ kept t x
  goes_on : x.sp.halted ≡ false
  runs : x.sp.single_step ≡ false
  bytes : (i : ℕ) → i < row_bytes size → image_byte x.rdram (to + i) ≡ image_byte t.rdram (from + i)
  outside : (y : ℕ) → y < 16777216 → (y < to) ⊎ (to + row_bytes size ≤ y) → image_byte x.rdram y ≡ image_byte t.rdram y
  memory : (y : ℕ) → IsOutside a (row_bytes size) y → byte_at x.dmem y ≡ byte_at t.dmem y
  count : length x.rdram ≡ length t.rdram

fetch_frame : (s t : State) (a d n : ℕ) → Fetches fetch s t a d n → t ≡ kept s t
fetch_frame s t a d n is = put s t t _ _ _ is.others
  where
    put : (s t z : State) (p q : ℕ) (m : List ℕ) → t ≡ record s { pc = p; npc = q; dmem = m; sp = with_addresses s.sp z.sp } → t ≡ kept s t
    put s t z p q m e = subst (λ (y : State). y ≡ kept s y) (sym e) refl

send_frame : (s t : State) (a d n : ℕ) → Sends send s t a d n → t ≡ kept s t
send_frame s t a d n is = put s t t _ _ _ is.others
  where
    put : (s t z : State) (p q : ℕ) (m : List ℕ) → t ≡ record s { pc = p; npc = q; rdram = m; sp = with_addresses s.sp z.sp } → t ≡ kept s t
    put s t z p q m e = subst (λ (y : State). y ≡ kept s y) (sym e) refl

wait_frame : (s t : State) → Ran wait.words (loop_code wait) s t → t ≡ kept s t
wait_frame s t is = put s t _ _ _ is.frame
  where
    put : (s t : State) (p q : ℕ) (r : List ℕ) → t ≡ record s { pc = p; npc = q; registers = r } → t ≡ kept s t
    put s t p q r e = subst (λ (y : State). y ≡ kept s y) (sym e) refl

round_runs : SumsOfProducts → (t : State) → IsState t → IsAt words t
    → IsRow (register t.registers 5) (register t.registers 1) (register t.registers 3) → IsRow (register t.registers 5) (register t.registers 2) (register t.registers 3)
    → register t.registers 2 + row_bytes (register t.registers 3) ≤ length t.rdram
    → Rounded t (steps_of 15 t) (register t.registers 5) (register t.registers 1) (register t.registers 2) (register t.registers 3)
round_runs law t is at row_in row_out inside =
    let r = t.registers in
    let a = register r 5 in
    let from = register r 1 in
    let to = register r 2 in
    let size = register r 3 in
    let rest = wait.words ++ (send ++ tail) in
    let first = fetch_runs fetch 5 1 3 fetch_decoded t is (first_block fetch rest t at) row_in in
    let u1 = steps_of 3 t in
    let at1 = first.at rest (both_stand fetch rest t.pc t.imem at.stand).1 in
    let second = waits law u1 first.ranges (first_block wait.words (send ++ tail) u1 at1) in
    let u2 = steps_of 3 u1 in
    let ran = loop_ran wait 1 Nothing u1 u2 at1.next second in
    let at2 = ran_at wait.words (send ++ tail) (loop_code wait) u1 u2 at1 ran in
    let registers1 : u1.registers ≡ r = ap (λ (x : State). x.registers) first.others in
    let register2 = λ (n : ℕ) (h : spare_scalar n (loop_code wait) ≡ true). ran.spares.scalars n h ∙ ap (λ (q : List ℕ). register q n) registers1 in
    let e5 : register u2.registers 5 ≡ a = register2 5 refl in
    let e2 : register u2.registers 2 ≡ to = register2 2 refl in
    let e3 : register u2.registers 3 ≡ size = register2 3 refl in
    let rdram2 : u2.rdram ≡ t.rdram = ap (λ (x : State). x.rdram) ran.frame ∙ ap (λ (x : State). x.rdram) first.others in
    let u3 = steps_of 3 u2 in
    let row2 : IsRow (register u2.registers 5) (register u2.registers 2) (register u2.registers 3) = rw (e5, e2, e3) row_out in
    let inside2 : register u2.registers 2 + row_bytes (register u2.registers 3) ≤ length u2.rdram = rw (e2, e3, rdram2) inside in
    let sent = send_runs send 5 2 3 send_decoded u2 ran.ranges (first_block send tail u2 at2) row2 inside2 in
    let third : Sends send u2 u3 a to size = subst (λ (n : ℕ). Sends send u2 u3 a to n) e3 (subst (λ (d : ℕ). Sends send u2 u3 a d (register u2.registers 3)) e2 (subst (λ (b : ℕ). Sends send u2 u3 b (register u2.registers 2) (register u2.registers 3)) e5 sent)) in
    let at3 = third.at tail (both_stand send tail u2.pc u2.imem at2.stand).1 in
    let register3 = λ (n : ℕ) (h : spare_scalar n (loop_code wait) ≡ true). ap (λ (x : State). register x.registers n) third.others ∙ register2 n h in
    let pc1 : u1.pc ≡ address_after_words fetch t.pc = ap (λ (x : State). x.pc) first.others in
    let pc2 : u2.pc ≡ address_after_words wait.words (address_after_words fetch t.pc) = ran.pc ∙ ap (address_after_words wait.words) pc1 in
    let pc3 : u3.pc ≡ (t.pc + 36) % 4096 = ap (λ (x : State). x.pc) third.others ∙ ap (address_after_words send) pc2 ∙ address_is (fetch ++ (wait.words ++ send)) t.pc is.pc.0 in
    let last = tail_runs u3 t.pc third.ranges at3 is.pc.0 pc3 in
    let x = ran_through tail_code u3 in
    let made : steps_of 15 t ≡ x = steps_after 3 12 t ∙ steps_after 3 9 u1 ∙ steps_after 3 6 u2 ∙ last.0 in
    let c = counted u3 third.ranges.registers.count in
    let frame : x ≡ kept t x = then t u3 x (then t u2 u3 (then t u1 u2 (fetch_frame t u1 _ _ _ first) (wait_frame u1 u2 ran)) (send_frame u2 u3 _ _ _ third)) last.1.frame in
    let f1 = register3 1 refl in
    let f2 = register3 2 refl in
    let f5 = register3 5 refl in
    let f6 = register3 6 refl in
    let f7 = register3 7 refl in
    let f8 = register3 8 refl in
    let dmem2 : u2.dmem ≡ u1.dmem = ap (λ (y : State). y.dmem) ran.frame in
    let dmem3 : x.dmem ≡ u2.dmem = last.1.dmem ∙ ap (λ (y : State). y.dmem) third.others in
    subst (λ (y : State). Rounded t y a from to size) (sym made) (record {
      ranges = last.1.ranges;
      next = last.1.next;
      back = λ b h. last.1.back b (rw f8 h);
      one = c.0 ∙ rw (f1, f6) refl;
      two = c.1 ∙ rw (f2, f6) refl;
      five = c.2 ∙ rw (f5, f7) refl;
      eight = c.3 ∙ rw f8 refl;
      spares = record {
        scalars = λ n h. let parts = all_parts (λ i. not (register_of i == n)) (loop_code wait) tail_code h in scalars_spared tail_code n u3 refl parts.1 ∙ register3 n parts.0;
        vectors = λ n h. ap (λ (y : State). vector y.vectors n) frame;
      };
      frame = frame;
      goes_on = last.1.halted ∙ at3.goes;
      runs = last.1.single_step ∙ at3.runs;
      bytes = λ i h. ap (λ m. image_byte m (to + i)) last.1.rdram ∙ third.bytes i h ∙ ap (λ m. byte_at m (a + i)) dmem2 ∙ first.bytes i h;
      outside = λ y k h. ap (λ m. image_byte m y) last.1.rdram ∙ third.outside y k h ∙ ap (λ m. image_byte m y) rdram2;
      memory = λ y h. ap (λ m. byte_at m y) (dmem3 ∙ dmem2) ∙ first.outside y h;
      count = ap length last.1.rdram ∙ third.count ∙ ap length rdram2;
    })

-- whether a round is left
more : (r n k : ℕ) → k < n → r < 2 ^ 32 → r + k ≡ n → not ((r + 4294967295) % 2 ^ 32 == 0) ≡ nat_lt (k + 1) n
more r n k h word e = elim (cases_lt (k + 1) n) [
  | inl lt ↦ rw (lt-ltb (k + 1) n lt, ne_eqb ((r + 4294967295) % 2 ^ 32) 0 (omega arith)) refl
  | inr ge ↦ rw (le-ltb (k + 1) n ge, eq-eqb ((r + 4294967295) % 2 ^ 32) 0 (omega arith)) refl
]

-- what holds after k rounds
record Holds (s : State) (from to size n a b k : ℕ) (t : State) : Type 0 where
  ranges : IsState t
  next : t.npc ≡ address_after t.pc
  here : k < n → t.pc ≡ s.pc
  past : k ≡ n → t.pc ≡ address_after_words words s.pc
  goes_on : t.sp.halted ≡ false
  runs : t.sp.single_step ≡ false
  one : register t.registers 1 ≡ from + k * size
  two : register t.registers 2 ≡ to + k * size
  five : (register t.registers 5 ≡ a) ⊎ (register t.registers 5 ≡ b)
  eight : register t.registers 8 + k ≡ n
  spares : Spares code s t
  frame : t ≡ kept s t
  count : length t.rdram ≡ length s.rdram
  bytes : (i : ℕ) → i < k * size → image_byte t.rdram (to + i) ≡ image_byte s.rdram (from + i)
  outside : (y : ℕ) → y < 16777216 → (y < to) ⊎ (to + k * size ≤ y) → image_byte t.rdram y ≡ image_byte s.rdram y
  memory : (y : ℕ) → IsOutside a size y → IsOutside b size y → byte_at t.dmem y ≡ byte_at s.dmem y

-- one round more
module _ (law : SumsOfProducts) (s : State) (is : IsState s) (at : IsAt words s) (from to size n a b : ℕ) (blocks : IsBlocks s from to size n a b) where
  one_round : (k : ℕ) (t : State) → k < n → Holds s from to size n a b k t → Holds s from to size n a b (k + 1) (steps_of 15 t)
  one_round k t lt h =
      let r = t.registers in
      let x = steps_of 15 t in
      let e1 = h.one in
      let e2 = h.two in
      let r3 : register r 3 + 1 ≡ size = ap (λ z. z + 1) (h.spares.scalars 3 refl) ∙ blocks.last in
      let r6 : register r 6 ≡ size = h.spares.scalars 6 refl ∙ blocks.block in
      let r7 : register r 7 ≡ a + b = h.spares.scalars 7 refl ∙ blocks.buffers in
      let word : register r 8 < 2 ^ 32 = h.ranges.registers.words 8 in
      let e8 = h.eight in
      let m : (k + 1) * size ≤ n * size = mul-le (k + 1) size n size (omega arith) (omega arith) in
      let source = blocks.source in
      let inside = blocks.inside in
      let short = blocks.short in
      let f8 = blocks.aligned.0 in
      let t8 = blocks.aligned.1 in
      let s8 = blocks.aligned.2 in
      let a0 = blocks.in_dmem.0 in
      let a8 = blocks.in_dmem.1 in
      let b0 = blocks.in_dmem.2 in
      let b8 = blocks.in_dmem.3 in
      let most = is.rdram.count.at_most in
      let eights : k * size ≡ k * (8 * (size / 8)) = ap (λ z. k * z) (omega arith) in
      let full : row_bytes (register r 3) ≡ size = omega arith in
      let buffer : (register r 5 < 4096) × (register r 5 % 8 ≡ 0) = elim h.five [
        | inl e ↦ (omega arith, omega arith)
        | inr e ↦ (omega arith, omega arith)
      ] in
      let begin = h.here lt in
      let imem = ap (λ (y : State). y.imem) h.frame in
      let at_t : IsAt words t = record { goes = h.goes_on; runs = h.runs; next = h.next; stand = rw (begin, imem) at.stand } in
      let row_in : IsRow (register r 5) (register r 1) (register r 3) = record { memory = buffer; image = (omega arith, omega arith); one_row = omega arith } in
      let row_out : IsRow (register r 5) (register r 2) (register r 3) = record { memory = buffer; image = (omega arith, omega arith); one_row = omega arith } in
      let room : register r 2 + row_bytes (register r 3) ≤ length t.rdram = omega (arith, h.count) in
      let done = round_runs law t h.ranges at_t row_in row_out room in
      let turn = done.back (nat_lt (k + 1) n) (more (register r 8) n k lt word e8) in
      let address = is.pc.0 in
      record {
        ranges = done.ranges;
        next = done.next;
        here = λ g. turn ∙ ap (λ c. goes c ((t.pc + 56) % 4096) 14) (lt-ltb (k + 1) n g) ∙ back_to t.pc ((t.pc + 56) % 4096) 14 h.ranges.pc.0 (omega arith) (omega arith) refl ∙ begin;
        past = λ g. turn ∙ ap (λ c. goes c ((t.pc + 56) % 4096) 14) (le-ltb (k + 1) n (omega arith)) ∙ ap (λ p. address_after ((p + 56) % 4096)) begin ∙ omega arith ∙ sym (address_is words s.pc address);
        goes_on = done.goes_on;
        runs = done.runs;
        one = done.one ∙ omega arith;
        two = done.two ∙ omega arith;
        five = elim h.five [
          | inl e ↦ inr (done.five ∙ omega arith)
          | inr e ↦ inl (done.five ∙ omega arith)
        ];
        eight = let e = done.eight in omega arith;
        spares = record { scalars = λ i g. done.spares.scalars i g ∙ h.spares.scalars i g; vectors = λ i g. done.spares.vectors i g ∙ h.spares.vectors i g };
        frame = then s t x h.frame done.frame;
        count = done.count ∙ h.count;
        bytes = λ i g. elim (cases_lt i (k * size)) [
          | inl l ↦ done.outside (to + i) (omega arith) (inl (omega arith)) ∙ h.bytes i l
          | inr o ↦ ap (image_byte x.rdram) (omega arith) ∙ done.bytes (i - k * size) (omega arith) ∙ h.outside (register r 1 + (i - k * size)) (omega arith) (elim blocks.spares [
            | inl u ↦ inl (omega arith)
            | inr u ↦ inr (omega arith)
          ]) ∙ ap (image_byte s.rdram) (omega arith)
        ];
        outside = λ y g o. elim o [
          | inl u ↦ done.outside y g (inl (omega arith)) ∙ h.outside y g (inl u)
          | inr u ↦ done.outside y g (inr (omega arith)) ∙ h.outside y g (inr (omega arith))
        ];
        memory = λ y ga gb. done.memory y (elim h.five [
          | inl e ↦ rw (full, e) ga
          | inr e ↦ rw (full, e) gb
        ]) ∙ h.memory y ga gb;
      }

tidy : (s t : State) (p q : ℕ) (r : List ℕ) → t ≡ kept s t → t.pc ≡ p → t.npc ≡ q → t.registers ≡ r
    → t ≡ record s { pc = p; npc = q; registers = r; dmem = t.dmem; rdram = t.rdram; sp = with_addresses s.sp t.sp }
tidy s t p q r e f g h = rw (← f, ← g, ← h) e

pub copies : SumsOfProducts → CopiesAllBlocks (words ++ wait.words)
copies law s is at from to size n a b blocks =
    let some = blocks.some in
    let begin : Holds s from to size n a b 0 s = record {
      ranges = is;
      next = at.next;
      here = λ h. refl;
      past = λ h. absurd (omega arith);
      goes_on = at.goes;
      runs = at.runs;
      one = let e = blocks.first in omega arith;
      two = let e = blocks.target in omega arith;
      five = inl blocks.buffer;
      eight = let e = blocks.count in omega arith;
      spares = record { scalars = λ i h. refl; vectors = λ i h. refl };
      frame = refl;
      count = refl;
      bytes = λ i h. absurd (omega arith);
      outside = λ y h o. refl;
      memory = λ y h g. refl;
    } in
    let u = steps_of (n * 15) s in
    let end : Holds s from to size n a b n u = rounds_kept 15 n (Holds s from to size n a b) s begin (one_round law s is (first_block words wait.words s at) from to size n a b blocks) in
    let past = end.past refl in
    let imem = ap (λ (y : State). y.imem) end.frame in
    let at_u : IsAt wait.words u = record { goes = end.goes_on; runs = end.runs; next = end.next; stand = rw (past, imem) (both_stand words wait.words s.pc s.imem at.stand).1 } in
    let last = waits law u end.ranges at_u in
    let t = steps_of 3 u in
    let ran = loop_ran wait 1 Nothing u t end.next last in
    let rdram = ap (λ (y : State). y.rdram) ran.frame in
    let dmem = ap (λ (y : State). y.dmem) ran.frame in
    let frame : t ≡ kept s t = then s u t end.frame (wait_frame u t ran) in
    let pc : t.pc ≡ address_after_words (words ++ wait.words) s.pc = ran.pc ∙ ap (address_after_words wait.words) past in
    let npc : t.npc ≡ address_after_words (words ++ wait.words) s.npc = ran.npc ∙ ap address_after pc ∙ ap (address_after_words (words ++ wait.words)) (sym at.next) in
    let spares : Spares code s t = record {
      scalars = λ i h. ran.spares.scalars i (all_parts (λ j. not (register_of j == i)) (loop_code wait) tail_code h).0 ∙ end.spares.scalars i h;
      vectors = λ i h. ap (λ (y : State). vector y.vectors i) frame;
    } in
    let registers = (kept_but code s t is ran.ranges spares (1 ∷ 2 ∷ 4 ∷ 5 ∷ 8 ∷ []) [] refl).0 in
    subst (λ (y : State). CopiesBlocks (words ++ wait.words) s y from to size n a b) (sym (steps_after (n * 15) 3 s)) (record {
      bytes = λ i h. ap (λ m. image_byte m (to + i)) rdram ∙ end.bytes i h;
      outside = λ x h o. ap (λ m. image_byte m x) rdram ∙ end.outside x h o;
      memory = λ x h g. ap (λ m. byte_at m x) dmem ∙ end.memory x h g;
      at = λ ws stand. let e = pc in let m = ap (λ (y : State). y.imem) frame in record {
        goes = ap (λ (y : State). y.sp.halted) ran.frame ∙ end.goes_on;
        runs = ap (λ (y : State). y.sp.single_step) ran.frame ∙ end.runs;
        next = ran.npc;
        stand = rw (e, m) stand;
      };
      others = tidy s t _ _ _ frame pc npc registers;
    })
