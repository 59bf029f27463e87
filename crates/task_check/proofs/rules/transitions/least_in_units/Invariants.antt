use Rattle.std.proofs.Common.{◌≡◌, ◌≤◌, drop}
use Rattle.std.specs.Prelude.{flat_map}
use Rattle.task_check.specs.Transitions.{enters_in_member, members}
use Rattle.task_check.specs.Least.{lesser, least}
use Rattle.task_check.proofs.rules.transitions.least_in_units.Given as goal

abbrev pub invariant-loop-unit : goal.invariant-loop-unit
invariant-loop-unit l = record {
  left : lesser l.found (least (flat_map (enters_in_member l.program) (members l.tx (drop l.unit-index l.units)))) ≡ least (flat_map (enters_in_member l.program) (members 0 l.units));
  few : l.tx ≤ l.unit-index;
}
