-- The registers that a load can change, and the bytes that a store can: for an undo.
use Rattle.std.specs.Prelude.{ℕ, Bool, true, false}
use Rattle.rsp_decode.specs.declared.vector.VectorLoadOp.{VectorLoadOp}
use Rattle.rsp_decode.specs.declared.vector.VectorLoadOp.TheVariants.{Ltv}
use Rattle.rsp_decode.specs.declared.vector.VectorStoreOp.{VectorStoreOp}
use Rattle.rsp_decode.specs.declared.vector.VectorStoreOp.TheVariants.{Srv}
use Rattle.rsp_loadstore.specs.Pairs.{quadword_start, doubleword_start}

-- whether a load writes the eight registers of a group, and not one alone
abbrev pub writes_group : VectorLoadOp → Bool
writes_group Ltv = true
writes_group _ = false

-- the first of the sixteen bytes that a store can change
abbrev pub window_of : VectorStoreOp → ℕ → ℕ
window_of Srv a = quadword_start a
window_of _ a = doubleword_start a
