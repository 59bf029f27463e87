use Rattle.std.proofs.Common.{◌≡◌, drop, map}
use Rattle.task_check.specs.Mentions.{in_turn, unit_part}
use Rattle.task_check.specs.Walk.{behind}
use Rattle.task_check.proofs.names.units.Given as goal

abbrev pub invariant-loop-unit : goal.invariant-loop-unit
invariant-loop-unit l = behind (in_turn (map unit_part (drop l.unit-index l.units))) l.walk ≡ behind (in_turn (map unit_part l.units)) l.initial.walk
