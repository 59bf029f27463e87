use Rattle.std.proofs.Common.{◌≡◌, sym, ap, ◌∙◌, rules, false}
use Rattle.std.specs.Prelude.{Some}
use Rattle.task_syntax.specs.Units.{first_task, is_inside}
use Rattle.serial_run.specs.Moments.{reading_from}
use Rattle.serial_run.specs.Outcomes.{ending_at}
use Rattle.serial_run.specs.Runs.{moment_of}
use Rattle.serial_run.specs.Units.{TasksLead}
use Rattle.serial_run.proofs.Telling.{reached-from, tells, whole-outside}
use Rattle.serial_run.proofs.store.SerialStore.run_tx.Goals as goal

pub returns-in-Some : goal.returns-in-Some
returns-in-Some c =
    let begun : moment_of c.reading-run.result ≡ reading_from c.args.self = rw c.self.view_is at c.reading-run.ensures in
    let found : TasksLead c.args.checked.now c.first_of_tx-first.result (moment_of c.reading-run.result) c.args.count (moment_of c.run_tasks.new.run) c.in-Some.place = rw c.in-Some.is at c.in_ok-place.ensures.found in
    let reached = reached-from c.args.checked.now c.first_of_tx-first.result c.args.count c.in-Some.place (moment_of c.reading-run.result) (reading_from c.args.self) (moment_of c.run_tasks.new.run) begun found in
    let outside : is_inside c.args.checked.now c.first_of_tx-first.result reached.reached.place ≡ false = rw (← reached.place_is) (sym c.is_inside.ensures ∙ c.if-not-is_inside.true) in
    let first : first_task c.args.checked.now c.args.tx ≡ Some c.first_of_tx-first.result = search rules in
    rw (first, whole-outside c.args.checked.now c.first_of_tx-first.result (reading_from c.args.self).store c.args.count reached.reached reached.tasks_done outside)
    (tells c.args.self c.told-store.result.0 reached.reached.done (ending_at reached.reached.place) c.told-store.result.1 (moment_of c.run_tasks.new.run) reached.moment
    c.told-store.ensures.left (c.told-store.ensures.ending ∙ c.ending_at.ensures ∙ ap ending_at reached.place_is))
