use Rattle.std.proofs.Common.{◌≡◌, ◌++◌, drop, map}
use Rattle.std.specs.Prelude.{flat_map}
use Rattle.task_check.specs.Counts.{transactions_of_unit}
use Rattle.trace_out.specs.Labels.{label_text}
use Rattle.trace_out.specs.Names.{name_of_transaction}
use Rattle.trace_out.proofs.names.labels_of_transactions.Given as goal

abbrev pub invariant-loop-unit : goal.invariant-loop-unit
invariant-loop-unit l =
    map label_text l.labels.items
    ++ map name_of_transaction (flat_map transactions_of_unit (drop l.unit-index l.units))
    ≡ map name_of_transaction (flat_map transactions_of_unit l.units)
