use Rattle.std.proofs.Common.{◌≡◌, ◌-◌, drop}
use Rattle.std.specs.Prelude.{IsTrue}
use Rattle.task_syntax.specs.Statements.{statements, turns}
use Rattle.task_check.specs.Messages.{statements_give}
use Rattle.serial_run.specs.Locals.{locals_of}
use Rattle.serial_run.specs.Moments.{behind, end_of}
use Rattle.serial_run.specs.Runs.{IsRunOf, moment_of}
use Rattle.serial_run.proofs.statement.+statement.Given as goal

abbrev pub invariant-statements-loop-source : goal.invariant-statements-loop-source
invariant-statements-loop-source l = record {
  still : IsRunOf l.checked l.run;
  gives : IsTrue (statements_give (drop l.source-index l.block));
  way : end_of (statements l.checked (drop l.source-index l.block) (locals_of l.locals)) (moment_of l.run) ≡ end_of (statements l.checked l.block (locals_of l.initial.locals)) (moment_of l.initial.run);
  moment : behind (statements l.checked (drop l.source-index l.block) (locals_of l.locals)) (moment_of l.run) ≡ behind (statements l.checked l.block (locals_of l.initial.locals)) (moment_of l.initial.run);
}

abbrev pub invariant-repeat-loop-turn : goal.invariant-repeat-loop-turn
invariant-repeat-loop-turn l = record {
  still : IsRunOf l.checked l.run;
  way : end_of (turns (l.count - l.turn) l.turn l.name.text (statements l.checked l.block) (locals_of l.locals)) (moment_of l.run) ≡ end_of (turns l.count 0 l.name.text (statements l.checked l.block) (locals_of l.initial.locals)) (moment_of l.initial.run);
  moment : behind (turns (l.count - l.turn) l.turn l.name.text (statements l.checked l.block) (locals_of l.locals)) (moment_of l.run) ≡ behind (turns l.count 0 l.name.text (statements l.checked l.block) (locals_of l.initial.locals)) (moment_of l.initial.run);
}
