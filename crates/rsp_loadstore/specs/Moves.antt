-- Moves between a scalar register and a vector register.
-- Sources: Nintendo's RSP Programmer's Guide, chapter on vector unit instructions; the N64brew Wiki's page "Reality Signal Processor/CPU Core".
use Rattle.std.specs.Prelude.{ℕ, ◌+◌, ◌*◌, ◌/◌, ◌%◌, List, nat_lt, if◌then◌else◌}
use Rattle.std.specs.Int.{w16}
use Rattle.rsp_numbers.specs.Numbers.{sign_extended}
use Rattle.rsp_lanes.specs.Lanes.{register_byte, with_register_byte}
use Rattle.rsp_decode.specs.declared.inst.Inst.{Inst}
use Rattle.rsp_decode.specs.declared.inst.Inst.TheVariants.{MoveVector}
use Rattle.rsp_decode.specs.declared.scalar.MoveOp.TheVariants.{From, To}
use Rattle.rsp_loadstore.specs.File.{vector, with_vector}

-- the sixteen bits at bytes e and e + 1, modulo 16
unfoldable pub register_half : List ℕ → ℕ → ℕ
register_half v e = register_byte v e * 256 + register_byte v ((e + 1) % 16)

-- a register after a write of a number: byte e takes bits 15 to 8 and, if e is below 15, byte e + 1 bits 7 to 0
unfoldable pub with_register_half : List ℕ → ℕ → ℕ → List ℕ
with_register_half v e value =
    let first = with_register_byte v e (value / 256 % 256) in
    if nat_lt e 15 then with_register_byte first (e + 1) (value % 256) else first

-- what MFC2 reads; 0 for another instruction
unfoldable pub moved_value : Inst → List (List ℕ) → ℕ
moved_value (MoveVector From rt n element) file = sign_extended w16 (register_half (vector file n) element)
moved_value _ file = 0

-- the registers after MTC2 of a value; another instruction changes none
unfoldable pub file_after_move : Inst → ℕ → List (List ℕ) → List (List ℕ)
file_after_move (MoveVector To rt n element) value file = with_vector file n (with_register_half (vector file n) element value)
file_after_move _ value file = file
