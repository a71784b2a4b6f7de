-- Transfers of one row.
use Rattle.std.proofs.Common.{◌≡◌, ℕ, zero, suc, ◌+◌, ◌*◌, ◌/◌, ◌%◌, ◌<◌, ◌≤◌, List, [], ◌∷◌, length, length-set, map, Some, false, refl, ap, sym, subst, ◌∙◌, arith, inl, inr}
use Rattle.std.specs.Prelude.{◌⊎◌}
use Rattle.std.proofs.lemmas.Bool.{cases_eq, ne_eqb}
use Rattle.std.proofs.lemmas.List.{get_or-set_same, get_or-set_other}
use Rattle.rsp_numbers.specs.Numbers.{bit_set}
use Rattle.rsp_decode.specs.declared.inst.Inst.{Inst}
use Rattle.rsp_decode.specs.declared.inst.Inst.TheVariants.{MoveSp}
use Rattle.rsp_decode.specs.declared.scalar.MoveOp.TheVariants.{To}
use Rattle.rsp_decode.specs.Table.Words.{inst_of}
use Rattle.rsp_memory.specs.Memory.{IsMemory, byte_at}
use Rattle.rsp_memory.specs.Image.{IsImage, image_byte, with_image_byte}
use Rattle.rsp_memory.proofs.PutBack.{length-with_byte}
use Rattle.rsp_scalar.specs.Registers.{register}
use Rattle.rsp_scalar.specs.Flow.{address_after}
use Rattle.rsp_regs.specs.declared.transfer.Transfer.{Transfer}
use Rattle.rsp_regs.specs.Dma.{row_pairs, first_rows, copied_in, copied_out}
use Rattle.rsp_regs.specs.Sp.{Sp, IsSp, after_register_write, transfer, after_dma, dmem_from_rdram, imem_from_rdram, rdram_from_bank}
use Rattle.rsp_regs.proofs.Pairs.{row_in-more, row_out-more, row_in-none, row_out-none, rows_in-more, rows_out-more, rows_in-none, rows_out-none}
use Rattle.rsp_machine.specs.State.{State, IsState}
use Rattle.rsp_machine.specs.Step.{executed, instruction_effect, moves_sp}
use Rattle.rsp_machine.specs.Laws.{steps_of}
use Rattle.rsp_machine.specs.declared.step.StepEnd.{StepEnd}
use Rattle.rsp_microcode.specs.Runs.{IsAt, Stand, address_after_words, ran_through}
use Rattle.rsp_microcode.specs.Lanes.{IsOutside}
use Rattle.rsp_microcode.specs.Transfers.{fetch_code, send_code, row_bytes, with_addresses, IsRow, Fetches, Sends, FetchRuns, SendRuns}
use Rattle.rsp_microcode.proofs.Runs.{over, steps-first, still}
use Rattle.rsp_microcode.proofs.Ranges.{next_address, dmem_kept}
use Rattle.rsp_microcode.proofs.RangesOfParts.{set_small, memory_small, memory_written}
use Rattle.rsp_microcode.proofs.Bytes.{read_written, read_elsewhere}

-- what a move to an SP register leaves, other than SP_STATUS, if IMEM is no target of a transfer
record Leaves (s t : State) : Type 0 where
  pc : t.pc ≡ s.npc
  npc : t.npc ≡ address_after s.npc
  imem : t.imem ≡ s.imem
  halted : t.sp.halted ≡ s.sp.halted
  single_step : t.sp.single_step ≡ s.sp.single_step

behind : (s t : State) (w : ℕ) (ws : List ℕ) → Leaves s t → IsAt (w ∷ ws) s → IsAt ws t
behind s t w ws k at = record {
  goes = k.halted ∙ at.goes;
  runs = k.single_step ∙ at.runs;
  next = k.npc ∙ ap address_after (sym k.pc);
  stand = still ws _ _ _ _ (sym at.next ∙ sym k.pc) (sym k.imem) at.stand.1;
}

-- steps over such moves, and what stands after them
abbrev AllLeave : List Inst → State → Type 0
AllLeave [] s = Unit {0}
AllLeave (i ∷ is) s = Leaves s (executed i s) × AllLeave is (executed i s)

record Moved (words : List ℕ) (s t : State) : Type 0 where
  pc : t.pc ≡ address_after_words words s.pc
  npc : t.npc ≡ address_after_words words s.npc
  imem : t.imem ≡ s.imem
  at : IsAt [] t

moved : (words : List ℕ) (code : List Inst) (s : State) → map inst_of words ≡ map Some code → AllLeave code s → IsAt words s
    → (steps_of (length words) s ≡ ran_through code s) × Moved words s (ran_through code s)
unfolding steps_of
moved [] [] s e leave at = (refl, record { pc = refl; npc = refl; imem = refl; at = at })
moved [] (i ∷ is) s e leave at = cc
moved (w ∷ ws) [] s e leave at = cc
moved (w ∷ ws) (i ∷ is) s e leave at =
    let first : inst_of w ≡ Some i = cc in
    let more : map inst_of ws ≡ map Some is = cc in
    let k = leave.0 in
    let rest = moved ws is (executed i s) more leave.1 (behind s (executed i s) w ws k at) in
    let r = rest.1 in (
      steps-first (length ws) s ∙ ap (λ (x : StepEnd × State). steps_of (length ws) x.1) (over i s at.goes (ap inst_of at.stand.0 ∙ first) (k.single_step ∙ at.runs)) ∙ rest.0,
      record {
        pc = r.pc ∙ ap (address_after_words ws) (k.pc ∙ at.next);
        npc = r.npc ∙ ap (address_after_words ws) k.npc;
        imem = r.imem ∙ k.imem;
        at = r.at;
      },
    )

-- a row of bytes from RDRAM
length_in : (n a d : ℕ) (image bank : List ℕ) → length (copied_in image bank (row_pairs a d n)) ≡ length bank
length_in zero a d image bank = ap length (row_in-none image bank a d)
length_in (suc n) a d image bank =
    let e : suc n ≡ n + 1 = omega arith in
    ap (λ k. length (copied_in image bank (row_pairs a d k))) e ∙ ap length (row_in-more image bank a d n) ∙ length-with_byte _ _ _ ∙ length_in n a d image bank

byte_in : (n a d i : ℕ) (image bank : List ℕ) → length bank ≡ 4096 → n ≤ 4096 → i < n → byte_at (copied_in image bank (row_pairs a d n)) (a + i) ≡ image_byte image (d + i)
byte_in zero a d i image bank l h lt = absurd (omega arith)
byte_in (suc n) a d i image bank l h lt =
    let e : suc n ≡ n + 1 = omega arith in
    ap (λ k. byte_at (copied_in image bank (row_pairs a d k)) (a + i)) e ∙ ap (λ m. byte_at m (a + i)) (row_in-more image bank a d n) ∙ elim (cases_eq i n) [
      | inl q ↦ rw q (read_written _ (a + n) (a + n) _ (length_in n a d image bank ∙ l) refl)
      | inr ne ↦ read_elsewhere _ (a + n) (a + i) _ (omega arith) ∙ byte_in n a d i image bank l (omega arith) (omega arith)
    ]

outside_in : (n a d x : ℕ) (image bank : List ℕ) → IsOutside a n x → byte_at (copied_in image bank (row_pairs a d n)) x ≡ byte_at bank x
outside_in zero a d x image bank out = ap (λ m. byte_at m x) (row_in-none image bank a d)
outside_in (suc n) a d x image bank out =
    let e : suc n ≡ n + 1 = omega arith in
    ap (λ k. byte_at (copied_in image bank (row_pairs a d k)) x) e ∙ ap (λ m. byte_at m x) (row_in-more image bank a d n)
    ∙ read_elsewhere _ (a + n) x _ (omega arith) ∙ outside_in n a d x image bank (omega arith)

image_small : (image : List ℕ) (a : ℕ) → IsImage image → image_byte image a < 256
unfolding image_byte
image_small image a is = is.bytes (a % 16777216)

memory_in : (n a d : ℕ) (image bank : List ℕ) → IsImage image → IsMemory bank → IsMemory (copied_in image bank (row_pairs a d n))
memory_in zero a d image bank is_image is = subst IsMemory (sym (row_in-none image bank a d)) is
memory_in (suc n) a d image bank is_image is =
    let e : n + 1 ≡ suc n = omega arith in
    subst (λ k. IsMemory (copied_in image bank (row_pairs a d k))) e (subst IsMemory (sym (row_in-more image bank a d n))
    (memory_written _ (a + n) _ (image_small image (d + n) is_image) (memory_in n a d image bank is_image is)))

-- a row of bytes to RDRAM
read_image : (m : List ℕ) (a n : ℕ) → a < length m → a < 16777216 → image_byte (with_image_byte m a n) a ≡ n
unfolding image_byte with_image_byte
read_image m a n l h = let e : a % 16777216 ≡ a = omega arith in rw e (get_or-set_same m a n 0 l)

other_image : (m : List ℕ) (a x n : ℕ) → a < 16777216 → x < 16777216 → (x ≡ a → ⊥) → image_byte (with_image_byte m a n) x ≡ image_byte m x
unfolding image_byte with_image_byte
other_image m a x n h k ne = let e : a % 16777216 ≡ a = omega arith in let f : x % 16777216 ≡ x = omega arith in rw (e, f) (get_or-set_other m a x n 0 ne)

length-image : (m : List ℕ) (a n : ℕ) → length (with_image_byte m a n) ≡ length m
unfolding with_image_byte
length-image m a n = length-set m (a % 16777216) n

image_written : (m : List ℕ) (a b : ℕ) → b < 256 → IsImage m → IsImage (with_image_byte m a b)
unfolding with_image_byte
image_written m a b h is =
    let e = length-set m (a % 16777216) b in
    record { count = rw e is.count; bytes = λ i. set_small m (a % 16777216) b i 256 h is.bytes }

length_out : (n a d : ℕ) (bank image : List ℕ) → length (copied_out bank image (row_pairs a d n)) ≡ length image
length_out zero a d bank image = ap length (row_out-none bank image a d)
length_out (suc n) a d bank image =
    let e : suc n ≡ n + 1 = omega arith in
    ap (λ k. length (copied_out bank image (row_pairs a d k))) e ∙ ap length (row_out-more bank image a d n) ∙ length-image _ _ _ ∙ length_out n a d bank image

byte_out : (n a d i : ℕ) (bank image : List ℕ) → d + n ≤ length image → d + n ≤ 16777216 → i < n → image_byte (copied_out bank image (row_pairs a d n)) (d + i) ≡ byte_at bank (a + i)
byte_out zero a d i bank image l h lt = absurd (omega arith)
byte_out (suc n) a d i bank image l h lt =
    let e : suc n ≡ n + 1 = omega arith in
    ap (λ k. image_byte (copied_out bank image (row_pairs a d k)) (d + i)) e ∙ ap (λ m. image_byte m (d + i)) (row_out-more bank image a d n) ∙ elim (cases_eq i n) [
      | inl q ↦ rw q (read_image _ (d + n) _ (omega (arith, length_out n a d bank image)) (omega arith))
      | inr ne ↦ other_image _ (d + n) (d + i) _ (omega arith) (omega arith) (omega arith) ∙ byte_out n a d i bank image (omega arith) (omega arith) (omega arith)
    ]

outside_out : (n a d x : ℕ) (bank image : List ℕ) → d + n ≤ 16777216 → x < 16777216 → (x < d) ⊎ (d + n ≤ x) → image_byte (copied_out bank image (row_pairs a d n)) x ≡ image_byte image x
outside_out zero a d x bank image h k out = ap (λ m. image_byte m x) (row_out-none bank image a d)
outside_out (suc n) a d x bank image h k out =
    let e : suc n ≡ n + 1 = omega arith in
    ap (λ k. image_byte (copied_out bank image (row_pairs a d k)) x) e ∙ ap (λ m. image_byte m x) (row_out-more bank image a d n) ∙ elim out [
      | inl below ↦ other_image _ (d + n) x _ (omega arith) k (omega arith) ∙ outside_out n a d x bank image (omega arith) k (inl below)
      | inr above ↦ other_image _ (d + n) x _ (omega arith) k (omega arith) ∙ outside_out n a d x bank image (omega arith) k (inr (omega arith))
    ]

image_out : (n a d : ℕ) (bank image : List ℕ) → IsMemory bank → IsImage image → IsImage (copied_out bank image (row_pairs a d n))
image_out zero a d bank image is_bank is = subst IsImage (sym (row_out-none bank image a d)) is
image_out (suc n) a d bank image is_bank is =
    let e : n + 1 ≡ suc n = omega arith in
    subst (λ k. IsImage (copied_out bank image (row_pairs a d k))) e (subst IsImage (sym (row_out-more bank image a d n))
    (image_written _ (d + n) _ (memory_small bank (a + n) is_bank) (image_out n a d bank image is_bank is)))

-- the SP registers that hold the addresses, and those after the transfer
abbrev addressed : ℕ → ℕ → Sp → Sp
addressed a d p = record p { memory = a % 8192 / 8 * 8; dram = d % 16777216 / 8 * 8 }

abbrev one_row : ℕ → ℕ → ℕ → Transfer
one_row a d n = record { sp = a; dram = d; length = row_bytes n; count = 0; skip = 0 }

abbrev ended : ℕ → ℕ → ℕ → Sp → Sp
ended a d n p = after_dma (one_row a d n) (addressed a d p)

asked : (a d n : ℕ) (p : Sp) → IsRow a d n → transfer n (addressed a d p) ≡ one_row a d n
unfolding transfer
asked a d n p is =
    let m = is.memory in
    let i = is.image in
    let r = is.one_row in
    let e1 : a % 8192 / 8 * 8 % 4096 ≡ a = omega arith in
    let e2 : d % 16777216 / 8 * 8 ≡ d = omega arith in
    let e3 : n % 4096 / 8 * 8 + 8 ≡ row_bytes n = omega arith in
    let e4 : n / 4096 % 256 ≡ 0 = omega arith in
    let e5 : n / 1048576 / 8 * 8 ≡ 0 = omega arith in
    rw (e1, e2, e3, e4, e5) refl

in_dmem : (a : ℕ) → a < 4096 → bit_set (a % 8192 / 8 * 8) 12 ≡ false
in_dmem a h = ne_eqb _ 1 (omega arith)

kept_sp : (a d n : ℕ) (p : Sp) → IsRow a d n → IsSp p → IsSp (ended a d n p)
unfolding after_dma
kept_sp a d n p row is =
    let m = row.memory in
    let i = row.image in
    let r = row.one_row in
    record {
      kept = record { memory = (omega arith, omega arith); dram = (omega arith, omega arith); skip = (omega arith, omega arith) };
      signals = is.signals;
      dpc = is.dpc;
      words = is.words;
    }

-- the three moves
abbrev prepared : ℕ → ℕ → State → State
prepared memory image s = executed (MoveSp To image 1) (executed (MoveSp To memory 0) s)

is_prepared : (memory image : ℕ) (s : State) → prepared memory image s
    ≡ record s { pc = address_after s.npc; npc = address_after (address_after s.npc); sp = addressed (register s.registers memory) (register s.registers image) s.sp }
unfolding executed instruction_effect moves_sp after_register_write
is_prepared memory image s = refl

leaves_memory : (memory : ℕ) (s : State) → Leaves s (executed (MoveSp To memory 0) s)
unfolding executed instruction_effect moves_sp after_register_write
leaves_memory memory s = record { pc = refl; npc = refl; imem = refl; halted = refl; single_step = refl }

leaves_image : (image : ℕ) (s : State) → Leaves s (executed (MoveSp To image 1) s)
unfolding executed instruction_effect moves_sp after_register_write
leaves_image image s = record { pc = refl; npc = refl; imem = refl; halted = refl; single_step = refl }

leaves_fetch : (size : ℕ) (s : State) → bit_set s.sp.memory 12 ≡ false → Leaves s (executed (MoveSp To size 2) s)
unfolding executed instruction_effect moves_sp after_register_write after_dma imem_from_rdram
leaves_fetch size s h = record { pc = refl; npc = refl; imem = rw h refl; halted = refl; single_step = refl }

leaves_send : (size : ℕ) (s : State) → Leaves s (executed (MoveSp To size 3) s)
unfolding executed instruction_effect moves_sp after_register_write after_dma
leaves_send size s = record { pc = refl; npc = refl; imem = refl; halted = refl; single_step = refl }

-- the state after each transfer
whole_in : (a d n : ℕ) (image bank : List ℕ) → copied_in image bank (first_rows (one_row a d n) 1) ≡ copied_in image bank (row_pairs a d (row_bytes n))
whole_in a d n image bank =
    let e : a + 0 * row_bytes n ≡ a = omega arith in
    let f : d + 0 * (row_bytes n + 0) ≡ d = omega arith in
    rows_in-more image bank (one_row a d n) 0 ∙ rw (rows_in-none image bank (one_row a d n), e, f) refl

whole_out : (a d n : ℕ) (bank image : List ℕ) → copied_out bank image (first_rows (one_row a d n) 1) ≡ copied_out bank image (row_pairs a d (row_bytes n))
whole_out a d n bank image =
    let e : a + 0 * row_bytes n ≡ a = omega arith in
    let f : d + 0 * (row_bytes n + 0) ≡ d = omega arith in
    rows_out-more bank image (one_row a d n) 0 ∙ rw (rows_out-none bank image (one_row a d n), e, f) refl

abbrev after_row : ℕ → ℕ → ℕ → State → State
after_row a d n s = record s { pc = address_after (address_after s.npc); npc = address_after (address_after (address_after s.npc)); sp = ended a d n s.sp }

fetched : (memory image size : ℕ) (s : State) →
    let a = register s.registers memory in
    let d = register s.registers image in
    let n = register s.registers size in
    IsRow a d n → executed (MoveSp To size 2) (prepared memory image s) ≡ record (after_row a d n s) { dmem = copied_in s.rdram s.dmem (row_pairs a d (row_bytes n)) }
unfolding executed instruction_effect moves_sp after_register_write dmem_from_rdram imem_from_rdram
fetched memory image size s row =
    let a = register s.registers memory in
    let d = register s.registers image in
    let n = register s.registers size in
    let e1 = in_dmem a row.memory.0 in
    let e2 = asked a d n s.sp row in
    let e3 = whole_in a d n s.rdram s.dmem in
    rw (e1, e2, e3) refl

sent : (memory image size : ℕ) (s : State) →
    let a = register s.registers memory in
    let d = register s.registers image in
    let n = register s.registers size in
    IsRow a d n → executed (MoveSp To size 3) (prepared memory image s) ≡ record (after_row a d n s) { rdram = copied_out s.dmem s.rdram (row_pairs a d (row_bytes n)) }
unfolding executed instruction_effect moves_sp after_register_write rdram_from_bank
sent memory image size s row =
    let a = register s.registers memory in
    let d = register s.registers image in
    let n = register s.registers size in
    let e1 = in_dmem a row.memory.0 in
    let e2 = asked a d n s.sp row in
    let e3 = whole_out a d n s.dmem s.rdram in
    rw (e1, e2, e3) refl

row_kept : (a d n : ℕ) (s : State) → IsRow a d n → IsState s → IsState (after_row a d n s)
row_kept a d n s row is =
    let one = next_address s.npc is.npc.1 in
    let two = next_address (address_after s.npc) one.1 in
    record {
      pc = two;
      npc = next_address (address_after (address_after s.npc)) two.1;
      registers = is.registers;
      vectors = is.vectors;
      accumulators = is.accumulators;
      flags = is.flags;
      divider = is.divider;
      dmem = is.dmem;
      imem = is.imem;
      rdram = is.rdram;
      sp = kept_sp a d n s.sp row is.sp;
    }

rdram_kept : (s : State) (m : List ℕ) → IsImage m → IsState s → IsState (record s { rdram = m })
rdram_kept s m h is = record { pc = is.pc; npc = is.npc; registers = is.registers; vectors = is.vectors; accumulators = is.accumulators; flags = is.flags; divider = is.divider; dmem = is.dmem; imem = is.imem; rdram = h; sp = is.sp }

follows : (words ws : List ℕ) (s t : State) → Moved words s t → Stand ws (address_after_words words s.pc) s.imem → IsAt ws t
follows words ws s t m stand =
    let e = m.pc in
    let f = m.imem in
    record { goes = m.at.goes; runs = m.at.runs; next = m.at.next; stand = rw (e, f) stand }

pub fetch_runs : FetchRuns
unfolding after_dma
fetch_runs words memory image size decoded s ok at row =
    let a = register s.registers memory in
    let d = register s.registers image in
    let n = register s.registers size in
    let one_row = row.one_row in
    let dmem : bit_set (prepared memory image s).sp.memory 12 ≡ false = ap (λ (y : State). bit_set y.sp.memory 12) (is_prepared memory image s) ∙ in_dmem a row.memory.0 in
    let run = moved words (fetch_code memory image size) s decoded (leaves_memory memory s, (leaves_image image _, (leaves_fetch size _ dmem, tt))) at in
    let x = ran_through (fetch_code memory image size) s in
    let final = fetched memory image size s row in
    subst (λ (t : State). Fetches words s t a d n) (sym run.0) (record {
      bytes = λ i h. ap (λ (y : State). byte_at y.dmem (a + i)) final ∙ byte_in (row_bytes n) a d i s.rdram s.dmem ok.dmem.count (omega arith) h;
      outside = λ y h. ap (λ (z : State). byte_at z.dmem y) final ∙ outside_in (row_bytes n) a d y s.rdram s.dmem h;
      ranges = subst IsState (sym final) (dmem_kept _ _ (memory_in (row_bytes n) a d s.rdram s.dmem ok.rdram ok.dmem) (row_kept a d n s row ok));
      at = λ ws stand. follows words ws s x run.1 stand;
      others = put s x _ _ _ _ _ _ _ _ final run.1.pc run.1.npc;
    })
  where
    put : (s x : State) (p q i j : ℕ) (m : List ℕ) (u v w : ℕ) → x ≡ record s { pc = i; npc = j; dmem = m; sp = record s.sp { memory = u; dram = v; skip = w } } → x.pc ≡ p → x.npc ≡ q → x ≡ record s { pc = p; npc = q; dmem = x.dmem; sp = with_addresses s.sp x.sp }
    put s x p q i j m u v w e f g = rw (← f, ← g) (subst (λ (y : State). y ≡ record s { pc = y.pc; npc = y.npc; dmem = y.dmem; sp = with_addresses s.sp y.sp }) (sym e) refl)

pub send_runs : SendRuns
unfolding after_dma
send_runs words memory image size decoded s ok at row inside =
    let a = register s.registers memory in
    let d = register s.registers image in
    let n = register s.registers size in
    let small = ok.rdram.count.at_most in
    let run = moved words (send_code memory image size) s decoded (leaves_memory memory s, (leaves_image image _, (leaves_send size _, tt))) at in
    let x = ran_through (send_code memory image size) s in
    let final = sent memory image size s row in
    subst (λ (t : State). Sends words s t a d n) (sym run.0) (record {
      bytes = λ i h. ap (λ (y : State). image_byte y.rdram (d + i)) final ∙ byte_out (row_bytes n) a d i s.dmem s.rdram inside (omega arith) h;
      outside = λ y k h. ap (λ (z : State). image_byte z.rdram y) final ∙ outside_out (row_bytes n) a d y s.dmem s.rdram (omega arith) k h;
      count = ap (λ (z : State). length z.rdram) final ∙ length_out (row_bytes n) a d s.dmem s.rdram;
      ranges = subst IsState (sym final) (rdram_kept _ _ (image_out (row_bytes n) a d s.dmem s.rdram ok.dmem ok.rdram) (row_kept a d n s row ok));
      at = λ ws stand. follows words ws s x run.1 stand;
      others = put s x _ _ _ _ _ _ _ _ final run.1.pc run.1.npc;
    })
  where
    put : (s x : State) (p q i j : ℕ) (m : List ℕ) (u v w : ℕ) → x ≡ record s { pc = i; npc = j; rdram = m; sp = record s.sp { memory = u; dram = v; skip = w } } → x.pc ≡ p → x.npc ≡ q → x ≡ record s { pc = p; npc = q; rdram = x.rdram; sp = with_addresses s.sp x.sp }
    put s x p q i j m u v w e f g = rw (← f, ← g) (subst (λ (y : State). y ≡ record s { pc = y.pc; npc = y.npc; rdram = y.rdram; sp = with_addresses s.sp y.sp }) (sym e) refl)
