use Rattle.std.proofs.Common.{◌≡◌, ◌==◌, drop}
use Rattle.std.specs.Prelude.{map}
use Rattle.std.specs.List.{find}
use Rattle.rsp_advice.specs.Tables.{fault_numbers}
use Rattle.rsp_advice.proofs.commands.fault_numbered.Given as goal

abbrev pub invariant-loop-fault : goal.invariant-loop-fault
invariant-loop-fault l = find (λ n. n == l.number) (map (λ row. row.number) (drop l.fault-index l.fault-items)) ≡ find (λ n. n == l.number) fault_numbers
