-- A handle leads to a block that it alone owns, and the bench there is bound to no thread.
use mir.Raw.{raw as bare}
use base.Shift.{Keyless}
use denote.Memory.{lone}
use denote.RawPtr.{Ptr}
use denote.Struct.Struct.{exits_of}
use denote.Struct.Owning.{shape, fields, to}
use denote.Param.Send.{IsSend, AllSend, owning_send, struct_send, sendable}
use Rattle.std.specs.Prelude.{Option, None, Some}
use Rattle.std.specs.Global.{Global}
use Rattle.std.proofs.Crossing.{frees}
use Rattle.std_alloc.proofs.SendSync.{lies, quiet}
use Rattle.std_heap.proofs.Global.TheSendSync as heap
use Rattle.rsp_c.specs.Holding.{holding, session_row}
use Rattle.rsp_c.proofs.held_session.HeldSession.TheSendSync as session
use Rattle.rsp_c.specs.contracts.handle.RspSession.{the_row, the_type}

held : (a : Global) (p : Ptr) (s : Option session_row.Denot) → Keyless (holding session_row a p s)
held a p None = tt
held a p (Some x) = (lies session_row session.the_send p x, frees.frees a (bare (lone session_row.mir)) p)

pub send : IsSend the_row
send =
    let all : AllSend (fields the_type) = (search sendable, (heap.the_field_send, tt)) in
    owning_send the_type all (λ h. held h.alloc h.at h.bench) (λ k. quiet (to the_type) (exits_of k (fields the_type)) ((struct_send (shape the_type) all).leaving k))
