use Rattle.std.proofs.Common.{◌∙◌, arith}
use Rattle.std.specs.Prelude.{slice_index}
use Rattle.task_syntax.specs.Course.{accesses}
use Rattle.task_syntax.specs.Events.{event_course}
use Rattle.serial_run.specs.Runs.{moment_of}
use Rattle.serial_run.proofs.Telling.{touched-from, written-is}
use Rattle.serial_run.proofs.store.SerialStore.event_writes.Goals as goal

pub marked-requires : goal.marked-requires
marked-requires c = omega (arith, c.written.ensures.few, c.in_ok-run_halves.ensures.still, c.words.ensures.words)

pub returns : goal.returns
returns c =
    let course = event_course c.args.checked.now c.args.event c.args.argument in
    let came = touched-from course c.args.self.now (moment_of c.in_ok-run.run') (moment_of c.run_halves.new.run) c.in_ok-run.ensures c.in_ok-run_halves.ensures.moment in
    let is = c.written.ensures.marks ∙ written-is c.args.self.now (accesses course (slice_index c.args.self.now)) (moment_of c.run_halves.new.run) came in
    rw (← is) c.marked.ensures
