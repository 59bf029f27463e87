use Rattle.std.proofs.Common.{refl}
use Rattle.task_syntax.proofs.UnitFrames.{further, ended-later, whole-once}
use Rattle.task_syntax.proofs.laws.units_run_task_by_task.Goals as goal

pub returns-clause-tasks : goal.returns-clause-tasks
returns-clause-tasks c = λ program task store. record {
  first = refl;
  further = further program task store;
  ended = ended-later program task store;
}

pub returns-clause-whole_once : goal.returns-clause-whole_once
returns-clause-whole_once c = whole-once
