-- What an instruction touches of a machine, besides pc and npc. Undo, the loop of steps, traces and the frames of microcode all read it from here.
use Rattle.std.specs.Prelude.{ℕ, Bool, true, false, not, ◌||◌, if◌then◌else◌}
use Rattle.rsp_decode.specs.declared.inst.Inst.{Inst}
use Rattle.rsp_decode.specs.declared.inst.Inst.TheVariants.{Shift, ShiftBy, JumpRegister, JumpLinkRegister, Break, Register, BranchSign, BranchEqual, Jump, Immediate, LoadUpper, Load, Store, MoveSp, MoveVector, MoveControl, Multiply, Round, MpegMultiply, ReadAccumulator, VectorAdd, VectorSelect, VectorClip, VectorMerge, VectorLogic, Divide, Idle, VectorLoad, VectorStore}
use Rattle.rsp_decode.specs.declared.scalar.MoveOp.{MoveOp}
use Rattle.rsp_decode.specs.declared.scalar.MoveOp.TheVariants.{From, To}
use Rattle.rsp_decode.specs.declared.scalar.BranchSignOp.{BranchSignOp}
use Rattle.rsp_decode.specs.declared.scalar.BranchSignOp.TheVariants.{Bltzal, Bgezal}
use Rattle.rsp_decode.specs.declared.scalar.JumpOp.{JumpOp}
use Rattle.rsp_decode.specs.declared.scalar.JumpOp.TheVariants.{Jal}
use Rattle.rsp_regs.specs.Sp.{is_length_register}
use Rattle.rsp_scalar.specs.Registers.{register}
use Rattle.rsp_scalar.specs.ScalarRules.{address}
use Rattle.rsp_loadstore.specs.Pairs.{group_start}
use Rattle.rsp_loadstore.specs.Addresses.{vector_address}
use Rattle.rsp_loadstore.specs.Windows.{writes_group, window_of}
use Rattle.rsp_machine.specs.State.{State}
use Rattle.rsp_machine.specs.declared.footprint.Footprint.{Footprint}
use Rattle.rsp_machine.specs.declared.footprint.Footprint.TheVariants as of

-- what a jump or a branch touches: the register that it links
abbrev pub sign_footprint : BranchSignOp → Footprint
sign_footprint Bltzal = of.Register 31
sign_footprint Bgezal = of.Register 31
sign_footprint _ = of.ProgramCounters

abbrev pub jump_footprint : JumpOp → Footprint
jump_footprint Jal = of.Register 31
jump_footprint _ = of.ProgramCounters

-- what a vector load touches: the eight registers of a group, or one
abbrev pub loaded_footprint : Bool → ℕ → Footprint
loaded_footprint group vt = if group then of.Group (group_start vt) else of.Vector vt

-- what a move touches, from vector register, control or SP register n, or to it; a write of a length register starts a DMA
abbrev pub vector_move_footprint : MoveOp → ℕ → ℕ → Footprint
vector_move_footprint From rt n = of.Register rt
vector_move_footprint To rt n = of.Vector n

abbrev pub control_move_footprint : MoveOp → ℕ → Footprint
control_move_footprint From rt = of.Register rt
control_move_footprint To rt = of.Flags

abbrev pub sp_move_footprint : MoveOp → ℕ → ℕ → Footprint
sp_move_footprint From rt n = of.Sp rt
sp_move_footprint To rt n = if is_length_register n then of.Dma else of.Sp 0

-- What an instruction touches. The sixteen bytes that a store may write begin at `a`.
abbrev pub footprint : Inst → ℕ → Footprint
footprint (Shift op rd rt amount) a = of.Register rd
footprint (ShiftBy op f) a = of.Register f.rd
footprint (Register op f) a = of.Register f.rd
footprint (Immediate op rt rs imm) a = of.Register rt
footprint (LoadUpper rt imm) a = of.Register rt
footprint (Load op f) a = of.Register f.rt
footprint (Store op f) a = of.Bytes a
footprint (JumpRegister rs) a = of.ProgramCounters
footprint (JumpLinkRegister rd rs) a = of.Register rd
footprint (BranchSign op rs offset) a = sign_footprint op
footprint (BranchEqual op rs rt offset) a = of.ProgramCounters
footprint (Jump op target) a = jump_footprint op
footprint Break a = of.Sp 0
footprint (MoveSp op rt n) a = sp_move_footprint op rt n
footprint (MoveVector op rt n element) a = vector_move_footprint op rt n
footprint (MoveControl op rt control) a = control_move_footprint op rt
footprint (Multiply op f) a = of.Product f.vd
footprint (Round op f) a = of.Product f.vd
footprint (MpegMultiply op f) a = of.Product f.vd
footprint (ReadAccumulator f) a = of.Vector f.vd
footprint (VectorAdd op f) a = of.Sum f.vd
footprint (VectorSelect op f) a = of.Choice f.vd
footprint (VectorClip op f) a = of.Clip f.vd
footprint (VectorMerge f) a = of.Sum f.vd
footprint (VectorLogic op f) a = of.Low f.vd
footprint (Divide op vd lane vt e) a = of.Divide vd
footprint (Idle op) a = of.ProgramCounters
footprint (VectorLoad op f) a = loaded_footprint (writes_group op) f.vt
footprint (VectorStore op f) a = of.Bytes a

-- the first of the sixteen bytes that a store in a state may write; 0 for another instruction
abbrev pub window : Inst → State → ℕ
window (Store op f) s = address s.registers f.base f.offset
window (VectorStore op f) s = window_of op (vector_address (VectorStore op f) (register s.registers f.base))
window _ s = 0

-- what an instruction touches of a state
unfoldable pub footprint_of : Inst → State → Footprint
footprint_of i s = footprint i (window i s)

-- the scalar register that a footprint names; 0 if it names none, since register 0 is never written
abbrev pub scalar_in : Footprint → ℕ
scalar_in (of.Register n) = n
scalar_in (of.Sp n) = n
scalar_in _ = 0

-- the vector registers that it names: the first of them, and how many
abbrev pub vectors_in : Footprint → ℕ × ℕ
vectors_in (of.Vector n) = (n, 1)
vectors_in (of.Group n) = (n, 8)
vectors_in (of.Product n) = (n, 1)
vectors_in (of.Low n) = (n, 1)
vectors_in (of.Sum n) = (n, 1)
vectors_in (of.Choice n) = (n, 1)
vectors_in (of.Clip n) = (n, 1)
vectors_in (of.Divide n) = (n, 1)
vectors_in _ = (0, 0)

-- whether it names the accumulators, or only their low sixteen bits
abbrev pub has_accumulators : Footprint → Bool
has_accumulators (of.Product n) = true
has_accumulators _ = false

abbrev pub has_low : Footprint → Bool
has_low (of.Low n) = true
has_low (of.Sum n) = true
has_low (of.Choice n) = true
has_low (of.Clip n) = true
has_low (of.Divide n) = true
has_low _ = false

-- whether it names all flags, VCO and VCC, or VCO
abbrev pub has_flags : Footprint → Bool
has_flags (of.Clip n) = true
has_flags of.Flags = true
has_flags _ = false

abbrev pub has_vcc : Footprint → Bool
has_vcc (of.Choice n) = true
has_vcc f = has_flags f

abbrev pub has_vco : Footprint → Bool
has_vco (of.Sum n) = true
has_vco f = has_vcc f

-- whether it names the divider
abbrev pub has_divider : Footprint → Bool
has_divider (of.Divide n) = true
has_divider _ = false

-- whether it names bytes of DMEM for a store
abbrev pub is_store : Footprint → Bool
is_store (of.Bytes a) = true
is_store _ = false

-- whether an instruction with it starts no DMA, so that its record undoes it
abbrev pub makes_no_dma : Footprint → Bool
makes_no_dma of.Dma = false
makes_no_dma _ = true

-- whether an instruction with it may change DMEM: it stores there, or it starts a DMA
abbrev pub changes_memory : Footprint → Bool
changes_memory f = is_store f || not (makes_no_dma f)

-- whether an instruction with it may have read or written the SP registers; any other leaves them
abbrev pub reaches_sp : Footprint → Bool
reaches_sp (of.Sp n) = true
reaches_sp of.Dma = true
reaches_sp _ = false
