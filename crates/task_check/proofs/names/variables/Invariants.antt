use Rattle.std.proofs.Common.{◌≡◌, drop, map}
use Rattle.task_check.specs.Mentions.{in_turn, var_part}
use Rattle.task_check.specs.Walk.{behind}
use Rattle.task_check.proofs.names.variables.Given as goal

abbrev pub invariant-loop-var : goal.invariant-loop-var
invariant-loop-var l = behind (in_turn (map var_part (drop l.var-index l.vars))) l.walk ≡ behind (in_turn (map var_part l.vars)) l.initial.walk
