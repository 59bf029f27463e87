use Rattle.std.proofs.Common.{◌∙◌, ap}
use Rattle.std.specs.Prelude.{Option, ℕ}
use Rattle.task_syntax.specs.Units.{transaction_of}
use Rattle.coati_device.specs.Kept.{unit_of}
use Rattle.coati_board.proofs.Draining.{aborts_row}
use Rattle.coati_board.proofs.drain_rows.abort.Goals as goal

pub returns : goal.returns
returns c code =
    rw c.choose_next.ensures
    (aborts_row c.args.checked.now code c.args.device.now c.doom.new.image c.push.new.self
    c.clear.new.self c.clear-2.new.self c.args.attempt c.args.word c.tasks_given_up.result
    c.oldest_posting.result c.unit_of.result c.requires.drains c.requires.attempt
    c.requires.conflict c.doom.ensures
    (c.unit_of.ensures
    ∙ ap (λ (tx : Option ℕ). unit_of tx c.current-task.result) c.tx_of_task.ensures.tx
    ∙ ap (λ (task : ℕ). unit_of (transaction_of c.args.checked.now task) task)
    c.current-task.ensures)
    c.tasks_given_up.ensures c.oldest_posting.ensures c.push.ensures c.clear.ensures
    c.clear-2.ensures)
