use Rattle.std.proofs.Common.{◌≡◌}
use Rattle.rsp_loadstore.specs.Stores.{after_store}
use Rattle.rsp_loadstore.specs.Pairs.{for_each}
use Rattle.rsp_loadstore.proofs.AtOnce.{pair_of}
use Rattle.rsp_loadstore.proofs.stores.store_halves.Given as goal

abbrev pub invariant-loop-j : goal.invariant-loop-j
invariant-loop-j l = l.memory ≡ after_store l.file l.initial.memory (for_each l.j (pair_of l.vt l.e l.a))
