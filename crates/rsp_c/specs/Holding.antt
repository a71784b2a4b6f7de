-- What a handle owns: nothing at null, and else what a box owns, of a debugger or of a bench.
use base.Fml.{Fml, feq}
use denote.RattleType.{RattleType}
use denote.RawPtr.{Ptr, null_ptr}
use Rattle.std.specs.Prelude.{Option, None, Some}
use Rattle.std.specs.Box.Ownership.{box_owns}
use Rattle.std.specs.Global.{Global}
use Rattle.std_heap.specs.contracts.GlobalAllocator.TheImpl.{ghosts}
use Rattle.rsp_acc.specs.contracts.planes.PlaneAcc as PlaneAcc
use Rattle.rsp_acc.specs.contracts.planes.PlaneAccAcc.TheImpl as Acc
use Rattle.rsp_debug.specs.contracts.debugger.Debugger as Debugger
use Rattle.rsp_c.specs.contracts.held_session.HeldSession as HeldSession

abbrev pub debugger_row : RattleType
debugger_row = Debugger.the_row PlaneAcc.the_row Acc.ghosts

abbrev pub Opened : Type 0
Opened = debugger_row.Denot

abbrev pub session_row : RattleType
session_row = HeldSession.the_row

abbrev pub OpenedSession : Type 0
OpenedSession = session_row.Denot

abbrev pub holding : (row : RattleType) → Global → Ptr → Option row.Denot → Fml
holding row alloc p None = feq Ptr p null_ptr
holding row alloc p (Some x) = box_owns (ghosts.dealloc_token alloc) row p x
