-- The sixteen bytes that a store may write are in the quadword that has its address, and in the next one.
use Rattle.std.proofs.Common.{◌≡◌, ◌≢◌, ◌∙◌, ℕ, ◌+◌, ◌-◌, ◌%◌, ◌<◌, ◌≤◌, Bool, true, false, arith}
use Rattle.std.specs.Prelude.{if◌then◌else◌}
use Rattle.rsp_decode.specs.declared.inst.Inst.{Inst}
use Rattle.rsp_decode.specs.declared.inst.Inst.TheVariants.{BranchSign, Jump, Store, MoveSp, MoveVector, MoveControl, VectorLoad, VectorStore}
use Rattle.rsp_decode.specs.declared.scalar.MoveOp.TheVariants.{From, To}
use Rattle.rsp_decode.specs.declared.scalar.JumpOp.TheVariants.{Jal}
use Rattle.rsp_decode.specs.declared.scalar.BranchSignOp.TheVariants.{Bltzal}
use Rattle.rsp_decode.specs.declared.vector.VectorStoreOp.TheVariants.{Srv}
use Rattle.rsp_regs.specs.Sp.{is_length_register}
use Rattle.rsp_scalar.specs.Registers.{register}
use Rattle.rsp_scalar.specs.ScalarRules.{address}
use Rattle.rsp_loadstore.specs.Addresses.{vector_address}
use Rattle.rsp_loadstore.specs.Pairs.{quadword_start, doubleword_start}
use Rattle.rsp_loadstore.specs.Windows.{writes_group}
use Rattle.rsp_machine.specs.State.{State}
use Rattle.rsp_machine.specs.Footprint.{footprint_of, is_store}
use Rattle.rsp_machine.specs.Footprints.{IsOutside, IsPastQuadwords}
use Rattle.rsp_machine.specs.Writes.{stored_at}
use Rattle.rsp_machine.specs.declared.footprint.Footprint.TheVariants as of

past_window : (a w x : ℕ) → quadword_start a ≤ w → w ≤ quadword_start a + 16 → IsPastQuadwords (a % 4096) x → (k : ℕ) → k < 16 → x % 4096 ≢ (w + k) % 4096
past_window a w x low high past k lt e =
    let at : (w + k) % 4096 ≡ (quadword_start (a % 4096) + (w + k - quadword_start a)) % 4096 = omega (arith, low) in
    past (w + k - quadword_start a) (omega (arith, high, lt, low)) (e ∙ at)

past_move : (dma : Bool) (x : ℕ) → is_store (if dma then of.Dma else of.Sp 0) ≡ true → IsOutside (if dma then of.Dma else of.Sp 0) x
past_move true x store = cc
past_move false x store = tt

past_load : (group : Bool) (vt x : ℕ) → IsOutside (if group then of.Group (vt - vt % 8) else of.Vector vt) x
past_load true vt x = tt
past_load false vt x = tt

pub stores_within : (i : Inst) (s : State) (x : ℕ) → is_store (footprint_of i s) ≡ true → IsPastQuadwords (stored_at i s) x → IsOutside (footprint_of i s) x
unfolding footprint_of
stores_within (Store op f) s x store past =
    let a = address s.registers f.base f.offset in
    past_window a a x (omega arith) (omega arith) past
stores_within (VectorStore Srv f) s x store past =
    let a = vector_address (VectorStore Srv f) (register s.registers f.base) in
    past_window a (quadword_start a) x (omega arith) (omega arith) past
stores_within (VectorStore op f) s x store past =
    let a = vector_address (VectorStore op f) (register s.registers f.base) in
    past_window a (doubleword_start a) x (omega arith) (omega arith) past
stores_within (BranchSign Bltzal rs offset) s x store past = tt
stores_within (Jump Jal target) s x store past = tt
stores_within (MoveSp From rt n) s x store past = tt
stores_within (MoveSp To rt n) s x store past = past_move (is_length_register n) x store
stores_within (MoveVector From rt n element) s x store past = tt
stores_within (MoveControl From rt control) s x store past = tt
stores_within (VectorLoad op f) s x store past = past_load (writes_group op) f.vt x
stores_within _ s x store past = tt
