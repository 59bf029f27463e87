use Rattle.std.proofs.Common.{◌≡◌, ◌≤◌, drop}
use Rattle.task_check.specs.Transitions.{midst_of}
use Rattle.task_check.proofs.Midst.{midst_from}
use Rattle.task_check.proofs.rules.transitions.midst_of.Given as goal

abbrev pub invariant-loop-unit : goal.invariant-loop-unit
invariant-loop-unit l = record {
  left : midst_from l.tx (drop l.unit-index l.program.units) l.name ≡ midst_of l.program l.name;
  few : l.tx ≤ l.unit-index;
}
