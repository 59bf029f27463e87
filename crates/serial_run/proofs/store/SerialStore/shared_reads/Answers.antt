use Rattle.std.proofs.Common.{◌∙◌, arith}
use Rattle.serial_run.specs.Moments.{touching_from}
use Rattle.serial_run.specs.Runs.{moment_of}
use Rattle.serial_run.specs.Units.{TasksLead}
use Rattle.serial_run.proofs.Telling.{reached-from, shared-is}
use Rattle.serial_run.proofs.store.SerialStore.shared_reads.Goals as goal

pub marked-requires : goal.marked-requires
marked-requires c = omega (arith, c.shared.ensures.few, c.in_ok-run_tasks.ensures.still, c.words.ensures.words)

pub returns : goal.returns
returns c =
    let found : TasksLead c.args.checked.now c.args.task (moment_of c.in_ok-run.run') c.args.count (moment_of c.run_tasks.new.run) c.in-Some.field-0 = rw c.in-Some.is at c.in_ok-run_tasks.ensures.found in
    let reached = reached-from c.args.checked.now c.args.task c.args.count c.in-Some.field-0 (moment_of c.in_ok-run.run') (touching_from c.args.self.now) (moment_of c.run_tasks.new.run) c.in_ok-run.ensures found in
    let is = c.shared.ensures.marks ∙ shared-is c.args.self.now reached.reached.done (moment_of c.run_tasks.new.run) reached.moment in
    rw (reached.tasks_done, ← is) c.in_ok-words-in-Some.ensures
