use Rattle.std.proofs.Common.{◌≡◌, ◌++◌, drop, take, length}
use Rattle.task_syntax.specs.Expressions.{expressions}
use Rattle.serial_run.specs.Locals.{locals_of}
use Rattle.serial_run.specs.Moments.{behind, end_of}
use Rattle.serial_run.specs.Runs.{IsRunOf, moment_of}
use Rattle.serial_run.proofs.statement.give.Given as goal

abbrev pub invariant-loop-at : goal.invariant-loop-at
invariant-loop-at l = record {
  still : IsRunOf l.checked l.run;
  long : length l.words ≡ 4;
  words : take l.at l.words ++ end_of (expressions l.checked (drop l.at l.values) (locals_of l.locals)) (moment_of l.run) ≡ end_of (expressions l.checked l.values (locals_of l.locals)) (moment_of l.initial.run);
  moment : behind (expressions l.checked (drop l.at l.values) (locals_of l.locals)) (moment_of l.run) ≡ behind (expressions l.checked l.values (locals_of l.locals)) (moment_of l.initial.run);
}
