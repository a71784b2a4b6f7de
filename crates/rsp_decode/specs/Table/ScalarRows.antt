-- The rows of the scalar unit: above each, the text of the first of its group.
-- Sources: Nintendo's RSP Programmer's Guide; the N64brew Wiki's page "Reality Signal Processor/CPU Core".
use Rattle.std.specs.Prelude.{List, [], ◌∷◌, ◌++◌, map, codes}
use Rattle.rsp_decode.specs.declared.inst.Inst.TheVariants.{Shift, ShiftBy, JumpRegister, JumpLinkRegister, Break, Register, BranchSign, BranchEqual, Jump, Immediate, LoadUpper, Load, Store, MoveSp}
use Rattle.rsp_decode.specs.declared.scalar.ShiftOp.{ShiftOp}
use Rattle.rsp_decode.specs.declared.scalar.ShiftOp.TheVariants.{Sll, Srl, Sra}
use Rattle.rsp_decode.specs.declared.scalar.ShiftVariableOp.{ShiftVariableOp}
use Rattle.rsp_decode.specs.declared.scalar.ShiftVariableOp.TheVariants.{Sllv, Srlv, Srav}
use Rattle.rsp_decode.specs.declared.scalar.RegisterOp.{RegisterOp}
use Rattle.rsp_decode.specs.declared.scalar.RegisterOp.TheVariants.{Add, Addu, Sub, Subu, And, Or, Xor, Nor, Slt, Sltu}
use Rattle.rsp_decode.specs.declared.scalar.BranchSignOp.{BranchSignOp}
use Rattle.rsp_decode.specs.declared.scalar.BranchSignOp.TheVariants.{Bltz, Bgez, Bltzal, Bgezal, Blez, Bgtz}
use Rattle.rsp_decode.specs.declared.scalar.JumpOp.{JumpOp}
use Rattle.rsp_decode.specs.declared.scalar.JumpOp.TheVariants.{J, Jal}
use Rattle.rsp_decode.specs.declared.scalar.BranchEqualOp.{BranchEqualOp}
use Rattle.rsp_decode.specs.declared.scalar.BranchEqualOp.TheVariants.{Beq, Bne}
use Rattle.rsp_decode.specs.declared.scalar.ImmediateOp.{ImmediateOp}
use Rattle.rsp_decode.specs.declared.scalar.ImmediateOp.TheVariants.{Addi, Addiu, Slti, Sltiu, Andi, Ori, Xori}
use Rattle.rsp_decode.specs.declared.scalar.LoadOp.{LoadOp}
use Rattle.rsp_decode.specs.declared.scalar.LoadOp.TheVariants.{Lb, Lh, Lw, Lbu, Lhu, Lwu}
use Rattle.rsp_decode.specs.declared.scalar.StoreOp.{StoreOp}
use Rattle.rsp_decode.specs.declared.scalar.StoreOp.TheVariants.{Sb, Sh, Sw}
use Rattle.rsp_decode.specs.declared.scalar.MoveOp.{MoveOp}
use Rattle.rsp_decode.specs.declared.scalar.MoveOp.TheVariants.{From, To}
use Rattle.rsp_decode.specs.Table.Operands.{Operand, scalar, shift_amount, signed, unsigned, jump_target, branch_target, scalar_memory, sp_register}
use Rattle.rsp_decode.specs.Table.Rows.{Row, row, Selector, opcode, special, regimm, cop0, none, one, two, three, of_registers, of_shift_by, of_scalar_memory}

-- what selects the shifts by an amount in the word
abbrev pub shift_selector : ShiftOp → Selector
shift_selector Sll = special 0 (codes "sll")
shift_selector Srl = special 2 (codes "srl")
shift_selector Sra = special 3 (codes "sra")

-- sll $d, $t, amount
abbrev pub shift_row : ShiftOp → Row
shift_row r = row (shift_selector r) (scalar 11 ∷ scalar 16 ∷ shift_amount ∷ []) (three (Shift r))

-- what selects the shifts by a register
abbrev pub shift_by_selector : ShiftVariableOp → Selector
shift_by_selector Sllv = special 4 (codes "sllv")
shift_by_selector Srlv = special 6 (codes "srlv")
shift_by_selector Srav = special 7 (codes "srav")

-- sllv $d, $t, $s
abbrev pub shift_by_row : ShiftVariableOp → Row
shift_by_row r = row (shift_by_selector r) (scalar 11 ∷ scalar 16 ∷ scalar 21 ∷ []) (of_shift_by (ShiftBy r))

-- jr $s
abbrev pub jump_register_row : Row
jump_register_row = row (special 8 (codes "jr")) (scalar 21 ∷ []) (one JumpRegister)

-- jalr $d, $s
abbrev pub jump_link_register_row : Row
jump_link_register_row = row (special 9 (codes "jalr")) (scalar 11 ∷ scalar 21 ∷ []) (two JumpLinkRegister)

-- break
abbrev pub break_row : Row
break_row = row (special 13 (codes "break")) [] (none Break)

-- what selects the results of two registers
abbrev pub register_selector : RegisterOp → Selector
register_selector Add = special 32 (codes "add")
register_selector Addu = special 33 (codes "addu")
register_selector Sub = special 34 (codes "sub")
register_selector Subu = special 35 (codes "subu")
register_selector And = special 36 (codes "and")
register_selector Or = special 37 (codes "or")
register_selector Xor = special 38 (codes "xor")
register_selector Nor = special 39 (codes "nor")
register_selector Slt = special 42 (codes "slt")
register_selector Sltu = special 43 (codes "sltu")

-- add $d, $s, $t
abbrev pub register_row : RegisterOp → Row
register_row r = row (register_selector r) (scalar 11 ∷ scalar 21 ∷ scalar 16 ∷ []) (of_registers (Register r))

-- what selects the branches on the sign of a register
abbrev pub branch_sign_selector : BranchSignOp → Selector
branch_sign_selector Bltz = regimm 0 (codes "bltz")
branch_sign_selector Bgez = regimm 1 (codes "bgez")
branch_sign_selector Bltzal = regimm 16 (codes "bltzal")
branch_sign_selector Bgezal = regimm 17 (codes "bgezal")
branch_sign_selector Blez = opcode 6 (codes "blez")
branch_sign_selector Bgtz = opcode 7 (codes "bgtz")

-- bltz $s, target
abbrev pub branch_sign_row : BranchSignOp → Row
branch_sign_row r = row (branch_sign_selector r) (scalar 21 ∷ branch_target ∷ []) (two (BranchSign r))

-- what selects the jumps to an address in the word
abbrev pub jump_selector : JumpOp → Selector
jump_selector J = opcode 2 (codes "j")
jump_selector Jal = opcode 3 (codes "jal")

-- j target
abbrev pub jump_row : JumpOp → Row
jump_row r = row (jump_selector r) (jump_target ∷ []) (one (Jump r))

-- what selects the branches on two registers
abbrev pub branch_equal_selector : BranchEqualOp → Selector
branch_equal_selector Beq = opcode 4 (codes "beq")
branch_equal_selector Bne = opcode 5 (codes "bne")

-- beq $s, $t, target
abbrev pub branch_equal_row : BranchEqualOp → Row
branch_equal_row r = row (branch_equal_selector r) (scalar 21 ∷ scalar 16 ∷ branch_target ∷ []) (three (BranchEqual r))

-- what selects the results of a register and an immediate
abbrev pub immediate_selector : ImmediateOp → Selector
immediate_selector Addi = opcode 8 (codes "addi")
immediate_selector Addiu = opcode 9 (codes "addiu")
immediate_selector Slti = opcode 10 (codes "slti")
immediate_selector Sltiu = opcode 11 (codes "sltiu")
immediate_selector Andi = opcode 12 (codes "andi")
immediate_selector Ori = opcode 13 (codes "ori")
immediate_selector Xori = opcode 14 (codes "xori")

-- whether the immediate is signed
abbrev pub immediate_operand : ImmediateOp → Operand
immediate_operand Addi = signed
immediate_operand Addiu = signed
immediate_operand Slti = signed
immediate_operand Sltiu = signed
immediate_operand Andi = unsigned
immediate_operand Ori = unsigned
immediate_operand Xori = unsigned

-- addi $t, $s, imm
abbrev pub immediate_row : ImmediateOp → Row
immediate_row r = row (immediate_selector r) (scalar 16 ∷ scalar 21 ∷ immediate_operand r ∷ []) (three (Immediate r))

-- lui $t, imm
abbrev pub load_upper_row : Row
load_upper_row = row (opcode 15 (codes "lui")) (scalar 16 ∷ unsigned ∷ []) (two LoadUpper)

-- what selects the loads of a scalar register
abbrev pub load_selector : LoadOp → Selector
load_selector Lb = opcode 32 (codes "lb")
load_selector Lh = opcode 33 (codes "lh")
load_selector Lw = opcode 35 (codes "lw")
load_selector Lbu = opcode 36 (codes "lbu")
load_selector Lhu = opcode 37 (codes "lhu")
load_selector Lwu = opcode 39 (codes "lwu")

-- lw $t, offset($base)
abbrev pub load_row : LoadOp → Row
load_row r = row (load_selector r) (scalar 16 ∷ scalar_memory ∷ []) (of_scalar_memory (Load r))

-- what selects the stores of a scalar register
abbrev pub store_selector : StoreOp → Selector
store_selector Sb = opcode 40 (codes "sb")
store_selector Sh = opcode 41 (codes "sh")
store_selector Sw = opcode 43 (codes "sw")

-- sw $t, offset($base)
abbrev pub store_row : StoreOp → Row
store_row r = row (store_selector r) (scalar 16 ∷ scalar_memory ∷ []) (of_scalar_memory (Store r))

-- what selects the moves from and to the SP registers
abbrev pub move_sp_selector : MoveOp → Selector
move_sp_selector From = cop0 0 (codes "mfc0")
move_sp_selector To = cop0 4 (codes "mtc0")

-- mfc0 $t, $cN
abbrev pub move_sp_row : MoveOp → Row
move_sp_row r = row (move_sp_selector r) (scalar 16 ∷ sp_register ∷ []) (two (MoveSp r))

-- the rows of a group
abbrev pub shift_ops : List ShiftOp
shift_ops = Sll ∷ Srl ∷ Sra ∷ []

-- the rows of a group
abbrev pub shift_by_ops : List ShiftVariableOp
shift_by_ops = Sllv ∷ Srlv ∷ Srav ∷ []

-- the rows of a group
abbrev pub register_ops : List RegisterOp
register_ops = Add ∷ Addu ∷ Sub ∷ Subu ∷ And ∷ Or ∷ Xor ∷ Nor ∷ Slt ∷ Sltu ∷ []

-- the rows of a group
abbrev pub jump_ops : List JumpOp
jump_ops = J ∷ Jal ∷ []

-- the rows of a group
abbrev pub branch_equal_ops : List BranchEqualOp
branch_equal_ops = Beq ∷ Bne ∷ []

-- the rows of a group
abbrev pub immediate_ops : List ImmediateOp
immediate_ops = Addi ∷ Addiu ∷ Slti ∷ Sltiu ∷ Andi ∷ Ori ∷ Xori ∷ []

-- the rows of a group
abbrev pub load_ops : List LoadOp
load_ops = Lb ∷ Lh ∷ Lw ∷ Lbu ∷ Lhu ∷ Lwu ∷ []

-- the rows of a group
abbrev pub store_ops : List StoreOp
store_ops = Sb ∷ Sh ∷ Sw ∷ []

-- rows of opcode 0, by function
abbrev pub special_rows : List Row
special_rows =
    map shift_row shift_ops
    ++ map shift_by_row shift_by_ops
    ++ (jump_register_row ∷ [])
    ++ (jump_link_register_row ∷ [])
    ++ (break_row ∷ [])
    ++ map register_row register_ops

-- rows of opcode 1, by rt
abbrev pub regimm_rows : List Row
regimm_rows =
    map branch_sign_row (Bltz ∷ Bgez ∷ Bltzal ∷ Bgezal ∷ [])

-- rows of an opcode of their own
abbrev pub opcode_rows : List Row
opcode_rows =
    map branch_sign_row (Blez ∷ Bgtz ∷ [])
    ++ map jump_row jump_ops
    ++ map branch_equal_row branch_equal_ops
    ++ map immediate_row immediate_ops
    ++ (load_upper_row ∷ [])
    ++ map load_row load_ops
    ++ map store_row store_ops

-- rows of opcode 16, by rs
abbrev pub cop0_rows : List Row
cop0_rows =
    map move_sp_row (From ∷ To ∷ [])
