use Rattle.std.proofs.Common.{◌≡◌, ◌+◌, length, drop}
use Rattle.std.specs.Prelude.{flat_map}
use Rattle.task_check.specs.Counts.{transactions_of_unit}
use Rattle.trace_out.specs.Lookups.{transaction_from}
use Rattle.trace_out.proofs.lookups.transaction_named.Given as goal

abbrev pub invariant-loop-unit : goal.invariant-loop-unit
invariant-loop-unit l = record {
  left : transaction_from l.number (flat_map transactions_of_unit
      (drop l.unit-index l.units)) l.name ≡ transaction_from 0
      (flat_map transactions_of_unit l.units) l.name;
  fits : l.number + length (flat_map transactions_of_unit (drop l.unit-index l.units)) ≡ length
      (flat_map transactions_of_unit l.units);
}
