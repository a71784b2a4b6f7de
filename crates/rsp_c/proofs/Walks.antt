-- The names that the walks cite, passed on from one place. Declares nothing.
pub use mathlib.Core.Path.{◌≡◌, refl, sym, ap, subst, ◌∙◌}
pub use mathlib.Core.List.{List, [], ◌∷◌, ◌++◌}
pub use lib.Dec.{T, lit<}
pub use seplogic.Ra.Ura.{Ura}
pub use mir.Raw.{raw as bare}
pub use mir.Val.{Val, vnull, vptr, vcons, vnil, vstruct, of_list, has_ty, WT}
pub use base.Logic.{SProp, ent, emp, id⊢, never, fst∗}
pub use base.Fml.{ftrue, fsep, flft}
pub use contract.BorrowLft.{◌⊑◌}
pub use contract.Monad.{fact}
pub use contract.Running.{tables}
pub use prog.Wp.{WpFn}
pub use types.Logic.{Logic, sem}
pub use types.Kit.{Item, Goal, Seq, ‵, raw, at_ret, ◌⊛◌, some, later, ◌$◌, ◌∵◌, !, qed, by, move, keep, drop, use0, use1, split, split3, join, pick, await, rewrite, fsplit, fjoin, fpick, feq_i, feq_l, suffices, done}
pub use types.Match.{live}
pub use types.Part.{whole, sub, agg}
pub use types.Run.{stop, fld, lit, bin, no_more, and_then, of_opd, first, blocks, branches, skips, exec, returns, returns_within, enter}
pub use types.ByLocal.{alloc_all, pass_all, free_all, look_at, get, get_in, sets, lands_as, lands_last, env}
pub use denote.Exit.{yes, no}
pub use denote.RawPtr.{Ptr, RawPtr, block_ptr, null_ptr, ptr_val, in_a_block, tests_null}
pub use denote.RattleType.{RattleType}
pub use denote.Signature.{plain, type_at}
pub use denote.Steps.{nothing, heard, only}
pub use denote.Triple.Spec.{triple_of}
pub use denote.Triple.Table.{framed}
pub use denote.Triple.Walked.{says, Stays, stay_dropped, walk_of, ends_at, Goes-dropped}
pub use Rattle.std.specs.Prelude.{Option, None, Some}
pub use Rattle.std.proofs.raw_atomic.Walks.{proved_at}
pub use Rattle.std.proofs.ResultValues.{and_tt}
