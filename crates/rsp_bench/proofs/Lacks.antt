-- A line for which there was no memory comes while a block is open.
use Rattle.std.proofs.Common.{◌≡◌, ℕ, List, [], ◌∷◌, true}
use Rattle.rsp_script_io.specs.Replies.{OfFirst}
use Rattle.rsp_bench.specs.Session.{SessionState, lacks_memory, in_block}

pub first_in_block : (ls : List (List ℕ)) (s : SessionState) → OfFirst lacks_memory ls s → in_block s ≡ true
unfolding lacks_memory
first_in_block [] s p = absurd p
first_in_block (l ∷ ls) s p = p.0
