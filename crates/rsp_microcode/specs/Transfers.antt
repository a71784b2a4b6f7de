-- Transfers of one row between RDRAM and DMEM, which three moves to SP registers make.
use Rattle.std.specs.Prelude.{ℕ, ◌≡◌, ◌⊎◌, ◌+◌, ◌*◌, ◌/◌, ◌%◌, ◌<◌, ◌≤◌, List, [], ◌∷◌, length, map, Some}
use Rattle.rsp_decode.specs.declared.inst.Inst.{Inst}
use Rattle.rsp_decode.specs.declared.inst.Inst.TheVariants.{MoveSp}
use Rattle.rsp_decode.specs.declared.scalar.MoveOp.TheVariants.{To}
use Rattle.rsp_decode.specs.Table.{inst_of}
use Rattle.rsp_memory.specs.Memory.{byte_at}
use Rattle.rsp_memory.specs.Image.{image_byte}
use Rattle.rsp_regs.specs.Sp.{Sp}
use Rattle.rsp_scalar.specs.Registers.{register}
use Rattle.rsp_machine.specs.State.{State, IsState}
use Rattle.rsp_machine.specs.Laws.{steps_of}
use Rattle.rsp_microcode.specs.Runs.{IsAt, Stand, address_after_words}
use Rattle.rsp_microcode.specs.Lanes.{IsOutside}

-- mtc0 $memory, $c0; mtc0 $image, $c1; and mtc0 $size, $c2 for a transfer from RDRAM, or $c3 for one to RDRAM
abbrev pub fetch_code : ℕ → ℕ → ℕ → List Inst
fetch_code memory image size = MoveSp To memory 0 ∷ MoveSp To image 1 ∷ MoveSp To size 2 ∷ []

abbrev pub send_code : ℕ → ℕ → ℕ → List Inst
send_code memory image size = MoveSp To memory 0 ∷ MoveSp To image 1 ∷ MoveSp To size 3 ∷ []

-- the bytes of a row
abbrev pub row_bytes : ℕ → ℕ
row_bytes size = size / 8 * 8 + 8

-- what the three registers hold: an address in DMEM and one in RDRAM, multiples of 8, and the number of bytes less 1
pub record IsRow (a image_address size : ℕ) : Type 0 where
  pub memory : (a < 4096) × (a % 8 ≡ 0)
  pub image : (image_address < 16777216) × (image_address % 8 ≡ 0)
  pub one_row : size < 4096

-- SP registers as they were before a transfer, but for the two addresses and the skip, which are those after it
abbrev pub with_addresses : Sp → Sp → Sp
with_addresses before after = record before { memory = after.memory; dram = after.dram; skip = after.skip }

-- what a transfer from RDRAM does from s to t
pub record Fetches (words : List ℕ) (s t : State) (a image_address size : ℕ) : Type 0 where
  pub bytes : (i : ℕ) → i < row_bytes size → byte_at t.dmem (a + i) ≡ image_byte s.rdram (image_address + i)
  pub outside : (x : ℕ) → IsOutside a (row_bytes size) x → byte_at t.dmem x ≡ byte_at s.dmem x
  pub ranges : IsState t
  -- the words after these are executed next, and nothing else changed but the addresses and the skip of the SP registers
  pub at : (ws : List ℕ) → Stand ws (address_after_words words s.pc) s.imem → IsAt ws t
  pub others : t ≡ record s { pc = address_after_words words s.pc; npc = address_after_words words s.npc; dmem = t.dmem; sp = with_addresses s.sp t.sp }

-- what a transfer to RDRAM does from s to t
pub record Sends (words : List ℕ) (s t : State) (a image_address size : ℕ) : Type 0 where
  pub bytes : (i : ℕ) → i < row_bytes size → image_byte t.rdram (image_address + i) ≡ byte_at s.dmem (a + i)
  pub outside : (x : ℕ) → x < 16777216 → (x < image_address) ⊎ (image_address + row_bytes size ≤ x) → image_byte t.rdram x ≡ image_byte s.rdram x
  pub count : length t.rdram ≡ length s.rdram
  pub ranges : IsState t
  pub at : (ws : List ℕ) → Stand ws (address_after_words words s.pc) s.imem → IsAt ws t
  pub others : t ≡ record s { pc = address_after_words words s.pc; npc = address_after_words words s.npc; rdram = t.rdram; sp = with_addresses s.sp t.sp }

abbrev pub FetchRuns : Type 0
FetchRuns = (words : List ℕ) (memory image size : ℕ) → map inst_of words ≡ map Some (fetch_code memory image size)
    → (s : State) → IsState s → IsAt words s
    → IsRow (register s.registers memory) (register s.registers image) (register s.registers size)
    → Fetches words s (steps_of (length words) s) (register s.registers memory) (register s.registers image) (register s.registers size)

-- a transfer to RDRAM requires that its row is inside the image
abbrev pub SendRuns : Type 0
SendRuns = (words : List ℕ) (memory image size : ℕ) → map inst_of words ≡ map Some (send_code memory image size)
    → (s : State) → IsState s → IsAt words s
    → IsRow (register s.registers memory) (register s.registers image) (register s.registers size)
    → register s.registers image + row_bytes (register s.registers size) ≤ length s.rdram
    → Sends words s (steps_of (length words) s) (register s.registers memory) (register s.registers image) (register s.registers size)
