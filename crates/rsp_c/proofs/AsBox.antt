-- What a handle's pointer leads to, as a box: of a debugger, or of a bench.
use mathlib.Core.List.{[]}
use mir.Syntax.{impl, tnil, dnil}
use denote.Param.Laws.{Laws}
use denote.RattleType.{RattleType}
use Rattle.std.proofs.BoxSteps.Form.{Bx}
use Rattle.std_heap.specs.contracts.Global as Heap
use Rattle.std_heap.specs.contracts.GlobalAllocator.TheImpl.{ghosts, dict}
use Rattle.std_heap.proofs.Global.TheLaws as heap
use Rattle.rsp_acc.specs.contracts.planes.PlaneAcc as PlaneAcc
use Rattle.rsp_acc.specs.contracts.planes.PlaneAccAcc.TheImpl as Acc
use Rattle.rsp_acc.proofs.planes.PlaneAcc.TheLaws as planes
use Rattle.rsp_debug.proofs.debugger.Debugger.TheLaws as debugger
use Rattle.rsp_c.proofs.held_session.HeldSession.TheLaws as session
use Rattle.rsp_c.specs.Holding.{debugger_row, session_row}
use Rattle.rsp_c.specs.contracts.handle.BoxParts as BoxParts

abbrev pub boxed_of : (row : RattleType) → Laws row → Bx
boxed_of row laws = record { row = row; laws = laws; al = record { row = Heap.the_row; laws = heap.the_row_laws; g = ghosts; d = dict; drops = impl [] tnil dnil } }

abbrev pub E : Bx
E = boxed_of debugger_row (debugger.the_row_laws PlaneAcc.the_row Acc.ghosts planes.the_row_laws)

abbrev pub EB : Bx
EB = boxed_of session_row session.the_row_laws

-- the fields of such a box
abbrev pub parts_row : Bx → RattleType
parts_row B = BoxParts.the_row B.row Heap.the_row ghosts
