-- A trace's scalar register is one of 32.
use Rattle.std.proofs.Common.{◌<◌, ◌-◌, ◌%◌, ℕ, Bool, true, false, Option, Some, None, lit<, refl}
use Rattle.std.specs.Prelude.{IfSome, if◌then◌else◌}
use Rattle.rsp_decode.specs.declared.inst.Inst.{Inst}
use Rattle.rsp_decode.specs.declared.inst.Inst.TheVariants.{Shift, ShiftBy, JumpLinkRegister, Register, BranchSign, Jump, Immediate, LoadUpper, Load, MoveSp, MoveVector, MoveControl, VectorLoad}
use Rattle.rsp_decode.specs.declared.scalar.MoveOp.TheVariants.{From, To}
use Rattle.rsp_decode.specs.declared.scalar.JumpOp.TheVariants.{Jal}
use Rattle.rsp_decode.specs.declared.scalar.BranchSignOp.TheVariants.{Bltzal}
use Rattle.rsp_decode.specs.Table.{IsInstruction, inst_of}
use Rattle.rsp_decode.proofs.InstructionOfWord.{decoded_instruction}
use Rattle.rsp_memory.specs.Memory.{word_at}
use Rattle.rsp_regs.specs.Sp.{is_length_register}
use Rattle.rsp_loadstore.specs.Windows.{writes_group}
use Rattle.rsp_machine.specs.State.{State}
use Rattle.rsp_machine.specs.Footprint.{footprint_of, scalar_in}
use Rattle.rsp_machine.specs.Writes.{writes_by, writes_of}
use Rattle.rsp_machine.specs.declared.footprint.Footprint.TheVariants as of

none_below : (dma : Bool) → scalar_in (if dma then of.Dma else of.Sp 0) < 32
none_below true = lit< tt
none_below false = lit< tt

load_below : (group : Bool) (vt : ℕ) → scalar_in (if group then of.Group (vt - vt % 8) else of.Vector vt) < 32
load_below true vt = lit< tt
load_below false vt = lit< tt

scalar-below : (i : Inst) (s : State) → IsInstruction i → scalar_in (footprint_of i s) < 32
unfolding footprint_of
scalar-below (Shift op rd rt amount) s h = h.0
scalar-below (ShiftBy op f) s h = h.0
scalar-below (JumpLinkRegister rd rs) s h = h.0
scalar-below (Register op f) s h = h.0
scalar-below (BranchSign Bltzal rs offset) s h = lit< tt
scalar-below (Jump Jal target) s h = lit< tt
scalar-below (Immediate op rt rs imm) s h = h.0
scalar-below (LoadUpper rt imm) s h = h.0
scalar-below (Load op f) s h = h.0
scalar-below (MoveSp From rt n) s h = h.0
scalar-below (MoveSp To rt n) s h = none_below (is_length_register n)
scalar-below (MoveVector From rt n element) s h = h.0
scalar-below (MoveControl From rt control) s h = h.0
scalar-below (VectorLoad op f) s h = load_below (writes_group op) f.vt
scalar-below _ s h = lit< tt

below_by : (o : Option Inst) (s : State) → IfSome o IsInstruction → (writes_by o s).scalar < 32
below_by None s h = lit< tt
below_by (Some i) s h = scalar-below i s h

pub writes-below : (s : State) → (writes_of s).scalar < 32
unfolding writes_of
writes-below s = let w = word_at s.imem s.pc in below_by (inst_of w) s (decoded_instruction w (inst_of w) refl)
