use Rattle.std.proofs.Common.{◌≡◌, drop, map}
use Rattle.std.specs.Prelude.{flat_map}
use Rattle.task_syntax.specs.Names.{tasks_of_unit}
use Rattle.task_check.specs.Bodies.{task_body}
use Rattle.task_check.specs.Measures.{nearer, first_least, too_long}
use Rattle.task_check.proofs.rules.measures.too_long_units.Given as goal

abbrev pub invariant-loop-unit : goal.invariant-loop-unit
invariant-loop-unit l =
    nearer l.found (first_least (flat_map (too_long l.program) (map task_body (flat_map tasks_of_unit (drop l.unit-index l.units)))))
    ≡ first_least (flat_map (too_long l.program) (map task_body (flat_map tasks_of_unit l.units)))
