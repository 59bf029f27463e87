use Rattle.std.proofs.Common.{ap, sym, ◌∙◌}
use Rattle.task_syntax.specs.Units.{place_after}
use Rattle.serial_run.specs.Runs.{moment_of}
use Rattle.serial_run.proofs.Reaching.{has-begun, goes-further, goes-no-further}
use Rattle.serial_run.proofs.unit.run_tasks.Goals as goal

pub loop-done-init : goal.loop-done-init
loop-done-init c = record {
  still = c.in_ok-run_task.ensures.still;
  so_far = has-begun c.args.checked.now c.args.task (moment_of c.args.run.now) (moment_of c.run_task.new.run) c.place_after-place.result
      c.in_ok-run_task.ensures.moment (c.place_after-place.ensures ∙ ap place_after c.in_ok-run_task.ensures.ending);
}

pub returns-then-not-is_inside-clause-found : goal.returns-then-not-is_inside-clause-found
returns-then-not-is_inside-clause-found c =
    goes-no-further c.args.checked.now c.args.task (moment_of c.args.run.now) (moment_of c.loop-done.run) c.loop-done.place c.loop-done.done c.args.count
    c.loop-done.invariant.so_far (sym c.is_inside.ensures ∙ c.if-not-is_inside.true) c.loop-done-test.true

pub loop-done-preserved : goal.loop-done-preserved
loop-done-preserved c =
    record {
      still = c.in_ok-run_task-2.ensures.still;
      so_far = goes-further c.args.checked.now c.args.task (moment_of c.args.run.now) (moment_of c.run_task-in-loop-done.new.run) c.place_after-place-in-loop-done.result
          c.loop-done.done (moment_of c.loop-done.run) c.loop-done.place c.loop-done.invariant.so_far (sym c.is_inside.ensures ∙ c.if-not-is_inside.false)
          c.in_ok-run_task-2.ensures.moment (c.place_after-place-in-loop-done.ensures ∙ ap place_after c.in_ok-run_task-2.ensures.ending);
    }
