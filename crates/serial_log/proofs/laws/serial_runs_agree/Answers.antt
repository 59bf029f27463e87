use Rattle.serial_log.specs.SerialRun.{opening_stand}
use Rattle.serial_log.proofs.Agreement.{runs_agree}
use Rattle.serial_log.proofs.laws.serial_runs_agree.Goals as goal

pub returns : goal.returns
returns c = λ program accepted others xs ys no_event no_other first second.
    runs_agree program c.units_run_task_by_task.ensures.whole_once accepted others (opening_stand program) xs ys no_event no_other first second
