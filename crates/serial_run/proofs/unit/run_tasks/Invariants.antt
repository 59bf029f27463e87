use Rattle.serial_run.specs.Runs.{IsRunOf, moment_of}
use Rattle.serial_run.specs.Units.{TasksLead}
use Rattle.serial_run.proofs.unit.run_tasks.Given as goal

abbrev pub invariant-loop-done : goal.invariant-loop-done
invariant-loop-done l = record {
  still : IsRunOf l.checked l.run;
  so_far : TasksLead l.checked l.task (moment_of l.fn.run) l.done (moment_of l.run) l.place;
}
