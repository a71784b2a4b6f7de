use Rattle.std.proofs.Common.{◌≡◌, ◌+◌, ◌*◌, ◌/◌}
use Rattle.rsp_loadstore.specs.Stores.{bits_14_to_7_pair, after_store}
use Rattle.rsp_loadstore.specs.Pairs.{for_each, wrapped_address}
use Rattle.rsp_loadstore.proofs.stores.store_fourths.Given as goal

abbrev pub invariant-loop-j : goal.invariant-loop-j
invariant-loop-j l = l.memory ≡ after_store l.file l.initial.memory (for_each l.j (λ j. bits_14_to_7_pair l.vt (l.e / 2 + j) (wrapped_address l.a (4 * j))))
