-- The scalar instructions, on numbers modulo 2^32.
use Rattle.std.specs.Prelude.{ℕ, ℤ, pos, ◌+◌, ◌-◌, ◌*◌, ◌/◌, ◌%◌, ◌^◌, ◌==◌, ◌+ℤ◌, ◌*ℤ◌, Bool, true, false, not, nat_lt, int_lt, if◌then◌else◌, bit_and, bit_or, bit_xor, List}
use Rattle.std.specs.Int.{w8, w16}
use Rattle.rsp_decode.specs.declared.inst.Inst.{Inst}
use Rattle.rsp_decode.specs.declared.inst.Inst.TheVariants.{Shift, ShiftBy, JumpRegister, JumpLinkRegister, Register, BranchSign, BranchEqual, Jump, Immediate, LoadUpper, Load, Store}
use Rattle.rsp_decode.specs.declared.scalar.ShiftOp.{ShiftOp}
use Rattle.rsp_decode.specs.declared.scalar.ShiftOp.TheVariants.{Sll, Srl, Sra}
use Rattle.rsp_decode.specs.declared.scalar.ShiftVariableOp.{ShiftVariableOp}
use Rattle.rsp_decode.specs.declared.scalar.ShiftVariableOp.TheVariants.{Sllv, Srlv, Srav}
use Rattle.rsp_decode.specs.declared.scalar.RegisterOp.{RegisterOp}
use Rattle.rsp_decode.specs.declared.scalar.RegisterOp.TheVariants.{Add, Addu, Sub, Subu, And, Or, Xor, Nor, Slt, Sltu}
use Rattle.rsp_decode.specs.declared.scalar.ImmediateOp.{ImmediateOp}
use Rattle.rsp_decode.specs.declared.scalar.ImmediateOp.TheVariants.{Addi, Addiu, Slti, Sltiu, Andi, Ori, Xori}
use Rattle.rsp_decode.specs.declared.scalar.BranchSignOp.{BranchSignOp}
use Rattle.rsp_decode.specs.declared.scalar.BranchSignOp.TheVariants.{Bltz, Bgez, Bltzal, Bgezal, Blez, Bgtz}
use Rattle.rsp_decode.specs.declared.scalar.BranchEqualOp.{BranchEqualOp}
use Rattle.rsp_decode.specs.declared.scalar.BranchEqualOp.TheVariants.{Beq, Bne}
use Rattle.rsp_decode.specs.declared.scalar.LoadOp.{LoadOp}
use Rattle.rsp_decode.specs.declared.scalar.LoadOp.TheVariants.{Lb, Lh, Lw, Lbu, Lhu, Lwu}
use Rattle.rsp_decode.specs.declared.scalar.StoreOp.{StoreOp}
use Rattle.rsp_decode.specs.declared.scalar.StoreOp.TheVariants.{Sb, Sh, Sw}
use Rattle.rsp_memory.specs.Memory.{byte_at, half_at, word_at, with_byte, with_half, with_word}
use Rattle.rsp_numbers.specs.Numbers.{s16, s32, modulo, floor_div, sign_extended}
use Rattle.rsp_scalar.specs.Registers.{register, with_register}

-- 1 if a comparison holds, else 0
abbrev pub truth : Bool → ℕ
truth b = if b then 1 else 0

-- t shifted by k bits to the left
abbrev pub shifted_left : ℕ → ℕ → ℕ
shifted_left t k = t * 2 ^ k % 2 ^ 32

-- t shifted by k bits to the right, zeros coming in
abbrev pub shifted_right : ℕ → ℕ → ℕ
shifted_right t k = t / 2 ^ k

-- t shifted by k bits to the right, the sign coming in: the signed value divided by 2^k, rounded down
abbrev pub shifted_signed : ℕ → ℕ → ℕ
shifted_signed t k = modulo (floor_div (s32 t) (2 ^ k)) (2 ^ 32)

-- SLL, SRL and SRA: shifts by a constant
abbrev pub shift_result : ShiftOp → ℕ → ℕ → ℕ
shift_result Sll t k = shifted_left t k
shift_result Srl t k = shifted_right t k
shift_result Sra t k = shifted_signed t k

-- SLLV, SRLV and SRAV: shifts by the low five bits of a register
abbrev pub shift_by_result : ShiftVariableOp → ℕ → ℕ → ℕ
shift_by_result Sllv t s = shifted_left t (s % 32)
shift_by_result Srlv t s = shifted_right t (s % 32)
shift_by_result Srav t s = shifted_signed t (s % 32)

-- instructions on two registers, s and t; ADD and SUB never trap
abbrev pub register_result : RegisterOp → ℕ → ℕ → ℕ
register_result Add s t = (s + t) % 2 ^ 32
register_result Addu s t = (s + t) % 2 ^ 32
register_result Sub s t = (s + (2 ^ 32 - t)) % 2 ^ 32
register_result Subu s t = (s + (2 ^ 32 - t)) % 2 ^ 32
register_result And s t = bit_and s t
register_result Or s t = bit_or s t
register_result Xor s t = bit_xor s t
register_result Nor s t = 2 ^ 32 - 1 - bit_or s t
register_result Slt s t = truth (int_lt (s32 s) (s32 t))
register_result Sltu s t = truth (nat_lt s t)

-- instructions on a register s and an immediate of sixteen bits; ADDI never traps
abbrev pub immediate_result : ImmediateOp → ℕ → ℕ → ℕ
immediate_result Addi s imm = (s + sign_extended w16 imm) % 2 ^ 32
immediate_result Addiu s imm = (s + sign_extended w16 imm) % 2 ^ 32
immediate_result Slti s imm = truth (int_lt (s32 s) (s16 imm))
immediate_result Sltiu s imm = truth (nat_lt s (sign_extended w16 imm))
immediate_result Andi s imm = bit_and s imm
immediate_result Ori s imm = bit_or s imm
immediate_result Xori s imm = bit_xor s imm

-- the registers after an instruction that computes; others change none
abbrev pub after_alu : Inst → List ℕ → List ℕ
after_alu (Shift op rd rt amount) r = with_register r rd (shift_result op (register r rt) amount)
after_alu (ShiftBy op f) r = with_register r f.rd (shift_by_result op (register r f.rt) (register r f.rs))
after_alu (Register op f) r = with_register r f.rd (register_result op (register r f.rs) (register r f.rt))
after_alu (Immediate op rt rs imm) r = with_register r rt (immediate_result op (register r rs) imm)
after_alu (LoadUpper rt imm) r = with_register r rt (imm * 65536)
after_alu _ r = r

-- the address of a load or store, modulo 2^32; DMEM takes the address of each byte modulo 4096
abbrev pub address : List ℕ → ℕ → ℕ → ℕ
address r base offset = (register r base + sign_extended w16 offset) % 2 ^ 32

-- what a load reads at an address: 1, 2 or 4 bytes, sign-extended or zero-extended
abbrev pub load_result : LoadOp → List ℕ → ℕ → ℕ
load_result Lb memory a = sign_extended w8 (byte_at memory a)
load_result Lh memory a = sign_extended w16 (half_at memory a)
load_result Lw memory a = word_at memory a
load_result Lbu memory a = byte_at memory a
load_result Lhu memory a = half_at memory a
load_result Lwu memory a = word_at memory a

-- the registers after a load; other instructions change none
abbrev pub after_scalar_load : Inst → List ℕ → List ℕ → List ℕ
after_scalar_load (Load op f) r memory = with_register r f.rt (load_result op memory (address r f.base f.offset))
after_scalar_load _ r memory = r

-- the memory after a store of the low 1, 2 or 4 bytes of t
abbrev pub store_result : StoreOp → List ℕ → ℕ → ℕ → List ℕ
store_result Sb memory a t = with_byte memory a (t % 2 ^ 8)
store_result Sh memory a t = with_half memory a (t % 2 ^ 16)
store_result Sw memory a t = with_word memory a t

-- the memory after a store; other instructions leave it
abbrev pub after_scalar_store : Inst → List ℕ → List ℕ → List ℕ
after_scalar_store (Store op f) r memory = store_result op memory (address r f.base f.offset) (register r f.rt)
after_scalar_store _ r memory = memory

-- the tests of the branches; s is a signed value if there is one register
abbrev pub sign_test : BranchSignOp → ℤ → Bool
sign_test Bltz s = int_lt s (pos 0)
sign_test Bgez s = not (int_lt s (pos 0))
sign_test Bltzal s = int_lt s (pos 0)
sign_test Bgezal s = not (int_lt s (pos 0))
sign_test Blez s = not (int_lt (pos 0) s)
sign_test Bgtz s = int_lt (pos 0) s

abbrev pub equal_test : BranchEqualOp → ℕ → ℕ → Bool
equal_test Beq s t = s == t
equal_test Bne s t = not (s == t)

-- whether a branch is taken; a jump always is, any other instruction never
abbrev pub is_taken : Inst → List ℕ → Bool
is_taken (JumpRegister rs) r = true
is_taken (JumpLinkRegister rd rs) r = true
is_taken (BranchSign op rs offset) r = sign_test op (s32 (register r rs))
is_taken (BranchEqual op rs rt offset) r = equal_test op (register r rs) (register r rt)
is_taken (Jump op target) r = true
is_taken _ r = false

-- npc + 4 * offset, modulo 4096: npc is the address of the delay slot, and the offset a signed value
abbrev pub branch_target : ℕ → ℕ → ℕ
branch_target npc offset = modulo (pos npc +ℤ (pos 4 *ℤ s16 offset)) 4096

-- the target of a branch or jump; for another instruction the address after npc
abbrev pub target_of : Inst → List ℕ → ℕ → ℕ
target_of (JumpRegister rs) r npc = register r rs / 4 % 1024 * 4
target_of (JumpLinkRegister rd rs) r npc = register r rs / 4 % 1024 * 4
target_of (BranchSign op rs offset) r npc = branch_target npc offset
target_of (BranchEqual op rs rt offset) r npc = branch_target npc offset
target_of (Jump op target) r npc = target * 4 % 4096
target_of _ r npc = (npc + 4) % 4096
