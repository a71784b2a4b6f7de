-- The rows of the vector unit: above each, the text of the first of its group.
-- Sources: Nintendo's RSP Programmer's Guide, chapter on vector unit instructions; the N64brew Wiki's page "Reality Signal Processor/CPU Core".
use Rattle.std.specs.Prelude.{ℕ, ◌==◌, List, [], ◌∷◌, ◌++◌, map, codes, if◌then◌else◌}
use Rattle.rsp_decode.specs.declared.inst.Inst.TheVariants.{MoveVector, MoveControl, Multiply, Round, MpegMultiply, ReadAccumulator, VectorAdd, VectorSelect, VectorClip, VectorMerge, VectorLogic, Divide, Idle, VectorLoad, VectorStore}
use Rattle.rsp_decode.specs.declared.scalar.MoveOp.{MoveOp}
use Rattle.rsp_decode.specs.declared.scalar.MoveOp.TheVariants.{From, To}
use Rattle.rsp_decode.specs.declared.vector.Control.{Control}
use Rattle.rsp_decode.specs.declared.vector.Control.TheVariants.{Vco, Vcc, Vce}
use Rattle.rsp_decode.specs.declared.vector.VectorMultiplyOp.{VectorMultiplyOp}
use Rattle.rsp_decode.specs.declared.vector.VectorMultiplyOp.TheVariants.{Vmulf, Vmulu, Vmudl, Vmudm, Vmudn, Vmudh, Vmacf, Vmacu, Vmadl, Vmadm, Vmadn, Vmadh}
use Rattle.rsp_decode.specs.declared.vector.VectorRoundOp.{VectorRoundOp}
use Rattle.rsp_decode.specs.declared.vector.VectorRoundOp.TheVariants.{Vrndp, Vrndn}
use Rattle.rsp_decode.specs.declared.vector.VectorMpegOp.{VectorMpegOp}
use Rattle.rsp_decode.specs.declared.vector.VectorMpegOp.TheVariants.{Vmulq, Vmacq}
use Rattle.rsp_decode.specs.declared.vector.VectorAddOp.{VectorAddOp}
use Rattle.rsp_decode.specs.declared.vector.VectorAddOp.TheVariants.{Vadd, Vsub, Vabs, Vaddc, Vsubc}
use Rattle.rsp_decode.specs.declared.vector.VectorSelectOp.{VectorSelectOp}
use Rattle.rsp_decode.specs.declared.vector.VectorSelectOp.TheVariants.{Vlt, Veq, Vne, Vge}
use Rattle.rsp_decode.specs.declared.vector.VectorClipOp.{VectorClipOp}
use Rattle.rsp_decode.specs.declared.vector.VectorClipOp.TheVariants.{Vcl, Vch, Vcr}
use Rattle.rsp_decode.specs.declared.vector.VectorLogicOp.{VectorLogicOp}
use Rattle.rsp_decode.specs.declared.vector.VectorLogicOp.TheVariants.{Vand, Vnand, Vor, Vnor, Vxor, Vnxor}
use Rattle.rsp_decode.specs.declared.vector.VectorDivideOp.{VectorDivideOp}
use Rattle.rsp_decode.specs.declared.vector.VectorDivideOp.TheVariants.{Vrcp, Vrcpl, Vrcph, Vmov, Vrsq, Vrsql, Vrsqh}
use Rattle.rsp_decode.specs.declared.vector.VectorNopOp.{VectorNopOp}
use Rattle.rsp_decode.specs.declared.vector.VectorNopOp.TheVariants.{Vnop, Vnull}
use Rattle.rsp_decode.specs.declared.vector.VectorLoadOp.{VectorLoadOp}
use Rattle.rsp_decode.specs.declared.vector.VectorLoadOp.TheVariants.{Lbv, Lsv, Llv, Ldv, Lqv, Lrv, Lpv, Luv, Lhv, Lfv, Ltv}
use Rattle.rsp_decode.specs.declared.vector.VectorStoreOp.{VectorStoreOp}
use Rattle.rsp_decode.specs.declared.vector.VectorStoreOp.TheVariants.{Sbv, Ssv, Slv, Sdv, Sqv, Srv, Spv, Suv, Shv, Sfv, Swv, Stv}
use Rattle.rsp_decode.specs.Table.Operands.{Operand, scalar, control_register, vector_byte, all_bytes, half_bytes, vector_element, vector_lane, vector_memory, vector_operands}
use Rattle.rsp_decode.specs.Table.Rows.{Row, row, Selector, cop2, computing, lwc2, lwc2_half, swc2, swc2_half, none, two, three, four, of_vectors, of_vector_memory}

-- the control register of a number, where 3 is read as 2
abbrev pub control_of : ℕ → Control
control_of n = if n == 0 then Vco else (if n == 1 then Vcc else Vce)

-- its number in a word
abbrev pub control_number : Control → ℕ
control_number Vco = 0
control_number Vcc = 1
control_number Vce = 2

-- what selects the moves from and to vector registers
abbrev pub move_vector_selector : MoveOp → Selector
move_vector_selector From = cop2 0 (codes "mfc2")
move_vector_selector To = cop2 4 (codes "mtc2")

-- mfc2 $t, $vN[e]
abbrev pub move_vector_row : MoveOp → Row
move_vector_row r = row (move_vector_selector r) (scalar 16 ∷ vector_byte 11 all_bytes ∷ []) (three (MoveVector r))

-- what selects the moves from and to the control registers
abbrev pub move_control_selector : MoveOp → Selector
move_control_selector From = cop2 2 (codes "cfc2")
move_control_selector To = cop2 6 (codes "ctc2")

-- cfc2 $t, $vco
abbrev pub move_control_row : MoveOp → Row
move_control_row r = row (move_control_selector r) (scalar 16 ∷ control_register ∷ []) (two (λ rt c. MoveControl r rt (control_of c)))

-- what selects the multiplies
abbrev pub multiply_selector : VectorMultiplyOp → Selector
multiply_selector Vmulf = computing 0x00 (codes "vmulf")
multiply_selector Vmulu = computing 0x01 (codes "vmulu")
multiply_selector Vmudl = computing 0x04 (codes "vmudl")
multiply_selector Vmudm = computing 0x05 (codes "vmudm")
multiply_selector Vmudn = computing 0x06 (codes "vmudn")
multiply_selector Vmudh = computing 0x07 (codes "vmudh")
multiply_selector Vmacf = computing 0x08 (codes "vmacf")
multiply_selector Vmacu = computing 0x09 (codes "vmacu")
multiply_selector Vmadl = computing 0x0c (codes "vmadl")
multiply_selector Vmadm = computing 0x0d (codes "vmadm")
multiply_selector Vmadn = computing 0x0e (codes "vmadn")
multiply_selector Vmadh = computing 0x0f (codes "vmadh")

-- vmulf $vD, $vS, $vT[e]
abbrev pub multiply_row : VectorMultiplyOp → Row
multiply_row r = row (multiply_selector r) vector_operands (of_vectors (Multiply r))

-- what selects the roundings of the accumulator
abbrev pub round_selector : VectorRoundOp → Selector
round_selector Vrndp = computing 0x02 (codes "vrndp")
round_selector Vrndn = computing 0x0a (codes "vrndn")

-- vrndp $vD, $vS, $vT[e]
abbrev pub round_row : VectorRoundOp → Row
round_row r = row (round_selector r) vector_operands (of_vectors (Round r))

-- what selects the multiplies for MPEG coefficients
abbrev pub mpeg_selector : VectorMpegOp → Selector
mpeg_selector Vmulq = computing 0x03 (codes "vmulq")
mpeg_selector Vmacq = computing 0x0b (codes "vmacq")

-- vmulq $vD, $vS, $vT[e]
abbrev pub mpeg_row : VectorMpegOp → Row
mpeg_row r = row (mpeg_selector r) vector_operands (of_vectors (MpegMultiply r))

-- vsar $vD, $vS, $vT[e]
abbrev pub read_accumulator_row : Row
read_accumulator_row = row (computing 0x1d (codes "vsar")) vector_operands (of_vectors ReadAccumulator)

-- what selects the sums and differences of vectors
abbrev pub vector_add_selector : VectorAddOp → Selector
vector_add_selector Vadd = computing 0x10 (codes "vadd")
vector_add_selector Vsub = computing 0x11 (codes "vsub")
vector_add_selector Vabs = computing 0x13 (codes "vabs")
vector_add_selector Vaddc = computing 0x14 (codes "vaddc")
vector_add_selector Vsubc = computing 0x15 (codes "vsubc")

-- vadd $vD, $vS, $vT[e]
abbrev pub vector_add_row : VectorAddOp → Row
vector_add_row r = row (vector_add_selector r) vector_operands (of_vectors (VectorAdd r))

-- what selects the comparisons that select
abbrev pub vector_select_selector : VectorSelectOp → Selector
vector_select_selector Vlt = computing 0x20 (codes "vlt")
vector_select_selector Veq = computing 0x21 (codes "veq")
vector_select_selector Vne = computing 0x22 (codes "vne")
vector_select_selector Vge = computing 0x23 (codes "vge")

-- vlt $vD, $vS, $vT[e]
abbrev pub vector_select_row : VectorSelectOp → Row
vector_select_row r = row (vector_select_selector r) vector_operands (of_vectors (VectorSelect r))

-- what selects the clips
abbrev pub vector_clip_selector : VectorClipOp → Selector
vector_clip_selector Vcl = computing 0x24 (codes "vcl")
vector_clip_selector Vch = computing 0x25 (codes "vch")
vector_clip_selector Vcr = computing 0x26 (codes "vcr")

-- vcl $vD, $vS, $vT[e]
abbrev pub vector_clip_row : VectorClipOp → Row
vector_clip_row r = row (vector_clip_selector r) vector_operands (of_vectors (VectorClip r))

-- vmrg $vD, $vS, $vT[e]
abbrev pub vector_merge_row : Row
vector_merge_row = row (computing 0x27 (codes "vmrg")) vector_operands (of_vectors VectorMerge)

-- what selects the logic of vectors
abbrev pub vector_logic_selector : VectorLogicOp → Selector
vector_logic_selector Vand = computing 0x28 (codes "vand")
vector_logic_selector Vnand = computing 0x29 (codes "vnand")
vector_logic_selector Vor = computing 0x2a (codes "vor")
vector_logic_selector Vnor = computing 0x2b (codes "vnor")
vector_logic_selector Vxor = computing 0x2c (codes "vxor")
vector_logic_selector Vnxor = computing 0x2d (codes "vnxor")

-- vand $vD, $vS, $vT[e]
abbrev pub vector_logic_row : VectorLogicOp → Row
vector_logic_row r = row (vector_logic_selector r) vector_operands (of_vectors (VectorLogic r))

-- what selects the divide instructions, which write one lane
abbrev pub divide_selector : VectorDivideOp → Selector
divide_selector Vrcp = computing 0x30 (codes "vrcp")
divide_selector Vrcpl = computing 0x31 (codes "vrcpl")
divide_selector Vrcph = computing 0x32 (codes "vrcph")
divide_selector Vmov = computing 0x33 (codes "vmov")
divide_selector Vrsq = computing 0x34 (codes "vrsq")
divide_selector Vrsql = computing 0x35 (codes "vrsql")
divide_selector Vrsqh = computing 0x36 (codes "vrsqh")

-- vrcp $vD[lane], $vT[e]
abbrev pub divide_row : VectorDivideOp → Row
divide_row r = row (divide_selector r) (vector_lane ∷ vector_element ∷ []) (four (Divide r))

-- what selects the instructions that change nothing
abbrev pub idle_selector : VectorNopOp → Selector
idle_selector Vnop = computing 0x37 (codes "vnop")
idle_selector Vnull = computing 0x3f (codes "vnull")

-- vnop
abbrev pub idle_row : VectorNopOp → Row
idle_row r = row (idle_selector r) [] (none (Idle r))

-- what selects the vector loads
abbrev pub vector_load_selector : VectorLoadOp → Selector
vector_load_selector Lbv = lwc2 0 (codes "lbv")
vector_load_selector Lsv = lwc2 1 (codes "lsv")
vector_load_selector Llv = lwc2 2 (codes "llv")
vector_load_selector Ldv = lwc2 3 (codes "ldv")
vector_load_selector Lqv = lwc2 4 (codes "lqv")
vector_load_selector Lrv = lwc2 5 (codes "lrv")
vector_load_selector Lpv = lwc2 6 (codes "lpv")
vector_load_selector Luv = lwc2 7 (codes "luv")
vector_load_selector Lhv = lwc2 8 (codes "lhv")
vector_load_selector Lfv = lwc2_half 9 (codes "lfv")
vector_load_selector Ltv = lwc2 11 (codes "ltv")

-- what the offset in the word is multiplied by
abbrev pub vector_load_scale : VectorLoadOp → ℕ
vector_load_scale Lbv = 1
vector_load_scale Lsv = 2
vector_load_scale Llv = 4
vector_load_scale Ldv = 8
vector_load_scale Lqv = 16
vector_load_scale Lrv = 16
vector_load_scale Lpv = 8
vector_load_scale Luv = 8
vector_load_scale Lhv = 16
vector_load_scale Lfv = 16
vector_load_scale Ltv = 16

-- the register, and the byte of it at which the transfer begins
abbrev pub vector_load_operand : VectorLoadOp → Operand
vector_load_operand Lfv = vector_byte 16 half_bytes
vector_load_operand _ = vector_byte 16 all_bytes

-- lqv $vT[e], offset($base)
abbrev pub vector_load_row : VectorLoadOp → Row
vector_load_row r = row (vector_load_selector r) (vector_load_operand r ∷ vector_memory (vector_load_scale r) ∷ []) (of_vector_memory (VectorLoad r))

-- what selects the vector stores
abbrev pub vector_store_selector : VectorStoreOp → Selector
vector_store_selector Sbv = swc2 0 (codes "sbv")
vector_store_selector Ssv = swc2 1 (codes "ssv")
vector_store_selector Slv = swc2 2 (codes "slv")
vector_store_selector Sdv = swc2 3 (codes "sdv")
vector_store_selector Sqv = swc2 4 (codes "sqv")
vector_store_selector Srv = swc2 5 (codes "srv")
vector_store_selector Spv = swc2 6 (codes "spv")
vector_store_selector Suv = swc2 7 (codes "suv")
vector_store_selector Shv = swc2 8 (codes "shv")
vector_store_selector Sfv = swc2_half 9 (codes "sfv")
vector_store_selector Swv = swc2 10 (codes "swv")
vector_store_selector Stv = swc2 11 (codes "stv")

-- what the offset in the word is multiplied by
abbrev pub vector_store_scale : VectorStoreOp → ℕ
vector_store_scale Sbv = 1
vector_store_scale Ssv = 2
vector_store_scale Slv = 4
vector_store_scale Sdv = 8
vector_store_scale Sqv = 16
vector_store_scale Srv = 16
vector_store_scale Spv = 8
vector_store_scale Suv = 8
vector_store_scale Shv = 16
vector_store_scale Sfv = 16
vector_store_scale Swv = 16
vector_store_scale Stv = 16

-- the register, and the byte of it at which the transfer begins
abbrev pub vector_store_operand : VectorStoreOp → Operand
vector_store_operand Sfv = vector_byte 16 half_bytes
vector_store_operand _ = vector_byte 16 all_bytes

-- sqv $vT[e], offset($base)
abbrev pub vector_store_row : VectorStoreOp → Row
vector_store_row r = row (vector_store_selector r) (vector_store_operand r ∷ vector_memory (vector_store_scale r) ∷ []) (of_vector_memory (VectorStore r))

-- the rows of a group
abbrev pub multiply_ops : List VectorMultiplyOp
multiply_ops = Vmulf ∷ Vmulu ∷ Vmudl ∷ Vmudm ∷ Vmudn ∷ Vmudh ∷ Vmacf ∷ Vmacu ∷ Vmadl ∷ Vmadm ∷ Vmadn ∷ Vmadh ∷ []

-- the rows of a group
abbrev pub round_ops : List VectorRoundOp
round_ops = Vrndp ∷ Vrndn ∷ []

-- the rows of a group
abbrev pub mpeg_ops : List VectorMpegOp
mpeg_ops = Vmulq ∷ Vmacq ∷ []

-- the rows of a group
abbrev pub vector_add_ops : List VectorAddOp
vector_add_ops = Vadd ∷ Vsub ∷ Vabs ∷ Vaddc ∷ Vsubc ∷ []

-- the rows of a group
abbrev pub vector_select_ops : List VectorSelectOp
vector_select_ops = Vlt ∷ Veq ∷ Vne ∷ Vge ∷ []

-- the rows of a group
abbrev pub vector_clip_ops : List VectorClipOp
vector_clip_ops = Vcl ∷ Vch ∷ Vcr ∷ []

-- the rows of a group
abbrev pub vector_logic_ops : List VectorLogicOp
vector_logic_ops = Vand ∷ Vnand ∷ Vor ∷ Vnor ∷ Vxor ∷ Vnxor ∷ []

-- the rows of a group
abbrev pub divide_ops : List VectorDivideOp
divide_ops = Vrcp ∷ Vrcpl ∷ Vrcph ∷ Vmov ∷ Vrsq ∷ Vrsql ∷ Vrsqh ∷ []

-- the rows of a group
abbrev pub idle_ops : List VectorNopOp
idle_ops = Vnop ∷ Vnull ∷ []

-- the rows of a group
abbrev pub vector_load_ops : List VectorLoadOp
vector_load_ops = Lbv ∷ Lsv ∷ Llv ∷ Ldv ∷ Lqv ∷ Lrv ∷ Lpv ∷ Luv ∷ Lhv ∷ Lfv ∷ Ltv ∷ []

-- the rows of a group
abbrev pub vector_store_ops : List VectorStoreOp
vector_store_ops = Sbv ∷ Ssv ∷ Slv ∷ Sdv ∷ Sqv ∷ Srv ∷ Spv ∷ Suv ∷ Shv ∷ Sfv ∷ Swv ∷ Stv ∷ []

-- rows of opcode 18 without bit 25, by rs
abbrev pub cop2_rows : List Row
cop2_rows =
    map move_vector_row (From ∷ To ∷ [])
    ++ map move_control_row (From ∷ To ∷ [])

-- rows of opcode 18 with bit 25, by function
abbrev pub computing_rows : List Row
computing_rows =
    map multiply_row multiply_ops
    ++ map round_row round_ops
    ++ map mpeg_row mpeg_ops
    ++ (read_accumulator_row ∷ [])
    ++ map vector_add_row vector_add_ops
    ++ map vector_select_row vector_select_ops
    ++ map vector_clip_row vector_clip_ops
    ++ (vector_merge_row ∷ [])
    ++ map vector_logic_row vector_logic_ops
    ++ map divide_row divide_ops
    ++ map idle_row idle_ops

-- rows of opcode 50, by operation
abbrev pub lwc2_rows : List Row
lwc2_rows =
    map vector_load_row vector_load_ops

-- rows of opcode 58, by operation
abbrev pub swc2_rows : List Row
swc2_rows =
    map vector_store_row vector_store_ops
