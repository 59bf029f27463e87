use Rattle.std.proofs.Common.{◌≡◌, drop, map}
use Rattle.task_check.specs.Mentions.{in_turn, unit_bodies}
use Rattle.task_check.specs.Walk.{behind}
use Rattle.task_check.proofs.names.task_bodies.Given as goal

abbrev pub invariant-loop-unit : goal.invariant-loop-unit
invariant-loop-unit l = behind (in_turn (map unit_bodies (drop l.unit-index l.units))) l.walk ≡ behind (in_turn (map unit_bodies l.units)) l.initial.walk
