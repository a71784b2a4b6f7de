-- Blocks of RDRAM, copied one after the other through two buffers of DMEM in turn.
use Rattle.std.specs.Prelude.{ℕ, ◌≡◌, ◌⊎◌, ◌+◌, ◌*◌, ◌%◌, ◌<◌, ◌≤◌, ◌++◌, List, [], ◌∷◌, length, codes}
use Rattle.rsp_memory.specs.Memory.{byte_at}
use Rattle.rsp_memory.specs.Image.{image_byte}
use Rattle.rsp_scalar.specs.Registers.{register}
use Rattle.rsp_machine.specs.State.{State, IsState}
use Rattle.rsp_machine.specs.Laws.{steps_of}
use Rattle.rsp_microcode.specs.Runs.{IsAt, Stand, address_after_words}
use Rattle.rsp_microcode.specs.Lanes.{IsOutside}
use Rattle.rsp_microcode.specs.Kept.{registers_but}
use Rattle.rsp_microcode.specs.Transfers.{with_addresses}
use Rattle.rsp_microcode.specs.Text.{line}

-- $1 has the address of the first block in RDRAM, $2 the address there that it goes to, $6 the number of bytes of a block, $3 that number
-- less 1, $5 the address of a buffer in DMEM, $7 the sum of the addresses of both buffers, $8 the number of blocks
abbrev pub text : List ℕ
text =
    line (codes "next: mtc0 $5, $c0")
    ++ line (codes "mtc0 $1, $c1")
    ++ line (codes "mtc0 $3, $c2")
    ++ line (codes "come: mfc0 $4, $c6")
    ++ line (codes "bne $4, $0, come")
    ++ line (codes "nop")
    ++ line (codes "mtc0 $5, $c0")
    ++ line (codes "mtc0 $2, $c1")
    ++ line (codes "mtc0 $3, $c3")
    ++ line (codes "addu $1, $1, $6")
    ++ line (codes "addu $2, $2, $6")
    ++ line (codes "subu $5, $7, $5")
    ++ line (codes "addiu $8, $8, -1")
    ++ line (codes "bne $8, $0, next")
    ++ line (codes "nop")
    ++ line (codes "sent: mfc0 $4, $c6")
    ++ line (codes "bne $4, $0, sent")
    ++ line (codes "nop")

-- the precondition: n blocks of `size` bytes from `from` on in RDRAM, which go to `to`, and the buffers a and b
pub record IsBlocks (s : State) (from to size n a b : ℕ) : Type 0 where
  pub first : register s.registers 1 ≡ from
  pub target : register s.registers 2 ≡ to
  pub last : register s.registers 3 + 1 ≡ size
  pub block : register s.registers 6 ≡ size
  pub buffer : register s.registers 5 ≡ a
  pub buffers : register s.registers 7 ≡ a + b
  pub count : register s.registers 8 ≡ n
  -- there is one block at least; all addresses are multiples of 8, and so is the number of bytes
  pub some : 0 < n
  pub short : size ≤ 4096
  pub aligned : (from % 8 ≡ 0) × (to % 8 ≡ 0) × (size % 8 ≡ 0)
  pub in_dmem : (a < 4096) × (a % 8 ≡ 0) × (b < 4096) × (b % 8 ≡ 0)
  -- the blocks have addresses of RDRAM, and the bytes that they go to are inside the image
  pub source : from + n * size ≤ 16777216
  pub inside : to + n * size ≤ length s.rdram
  -- no block that is still to be copied is overwritten: they go to where they are, or before it, or after their end
  pub spares : (from + n * size ≤ to) ⊎ (to ≤ from)

-- what the steps from s to t do
pub record CopiesBlocks (words : List ℕ) (s t : State) (from to size n a b : ℕ) : Type 0 where
  -- each byte of the blocks, no other byte of RDRAM, and no byte of DMEM outside of the buffers
  pub bytes : (i : ℕ) → i < n * size → image_byte t.rdram (to + i) ≡ image_byte s.rdram (from + i)
  pub outside : (x : ℕ) → x < 16777216 → (x < to) ⊎ (to + n * size ≤ x) → image_byte t.rdram x ≡ image_byte s.rdram x
  pub memory : (x : ℕ) → IsOutside a size x → IsOutside b size x → byte_at t.dmem x ≡ byte_at s.dmem x
  -- the words after these are executed next
  pub at : (ws : List ℕ) → Stand ws (address_after_words words s.pc) s.imem → IsAt ws t
  -- nothing else changed but scalar registers 1, 2, 4, 5 and 8, the addresses and the skip of the SP registers, pc and npc
  pub others : t ≡ record s {
    pc = address_after_words words s.pc;
    npc = address_after_words words s.npc;
    registers = registers_but (1 ∷ 2 ∷ 4 ∷ 5 ∷ 8 ∷ []) s.registers t.registers;
    dmem = t.dmem;
    rdram = t.rdram;
    sp = with_addresses s.sp t.sp;
  }

-- from each state that is about to execute the words, with such blocks
abbrev pub CopiesAllBlocks : List ℕ → Type 0
CopiesAllBlocks words = (s : State) → IsState s → IsAt words s → (from to size n a b : ℕ) → IsBlocks s from to size n a b
    → CopiesBlocks words s (steps_of (n * 15 + 3) s) from to size n a b
