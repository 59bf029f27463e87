use Rattle.std.proofs.Common.{◌≡◌, drop, map}
use Rattle.task_check.specs.declared.meaning.Meaning.TheVariants as meaning
use Rattle.task_check.specs.Mentions.{in_turn, declares}
use Rattle.task_check.specs.Walk.{behind}
use Rattle.task_check.proofs.names.parameters.Given as goal

abbrev pub invariant-loop-name : goal.invariant-loop-name
invariant-loop-name l = behind (in_turn (map (declares meaning.Local) (drop l.name-index l.params))) l.walk ≡ behind (in_turn (map (declares meaning.Local) l.params)) l.initial.walk
