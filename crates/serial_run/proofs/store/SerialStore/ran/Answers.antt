use Rattle.std.proofs.Common.{◌≡◌, ◌∙◌}
use Rattle.std.specs.Prelude.{slice_index}
use Rattle.task_syntax.specs.Course.{accesses, answer}
use Rattle.task_syntax.specs.Units.{task_course}
use Rattle.serial_run.specs.Moments.{reading_from}
use Rattle.serial_run.specs.Runs.{moment_of}
use Rattle.serial_run.proofs.Telling.{tells, ran-from, ended-from}
use Rattle.serial_run.proofs.store.SerialStore.ran.Goals as goal

pub returns : goal.returns
returns c =
    let course = task_course c.args.checked.now c.args.task in
    let begun : moment_of c.reading-run.result ≡ reading_from c.args.self = rw c.self.view_is at c.reading-run.ensures in
    let came = ran-from course c.args.self (moment_of c.reading-run.result) (moment_of c.run_task.new.run) begun c.in_ok-ending.ensures.moment in
    let ends = ended-from course c.args.self (moment_of c.reading-run.result) c.in_ok-ending.ending begun c.in_ok-ending.ensures.ending in
    tells c.args.self c.told.result.0 (accesses course (slice_index c.args.self)) (answer course (slice_index c.args.self)) c.told.result.1 (moment_of c.run_task.new.run) came
    c.told.ensures.left (c.told.ensures.ending ∙ ends)
