use Rattle.std.proofs.Common.{◌≡◌, ◌∙◌, ap, subst, sym}
use Rattle.std.specs.Prelude.{Option, ℕ, false, true}
use Rattle.nv_memory.specs.State.{state}
use Rattle.nv_memory.specs.Words.{current}
use Rattle.task_syntax.specs.Units.{is_inside, transaction_of}
use Rattle.coati_device.specs.Kept.{unit_of}
use Rattle.coati_board.proofs.rows.end_task.Goals as goal
use Rattle.coati_board.proofs.rows.end_task.Goals.{After-is_in}

-- the place is in the transaction of the task to run, as was answered
inside : (c : After-is_in) →
    c.is_in.result ≡ is_inside c.args.checked.now (current (state c.args.device.now.image))
    c.args.place
inside c =
    c.is_in.ensures c.current-task.result c.tx_of_task-tx.ensures.tx
    ∙ ap (λ (task : ℕ). is_inside c.args.checked.now task c.args.place) c.current-task.ensures

pub returns-then-is_in : goal.returns-then-is_in
returns-then-is_in c code =
    c.join.ensures c.args.checked.now code
    (sym (inside (goal.at.returns-then-is_in c).After-is_in) ∙ c.if-is_in.true)

pub returns-else-is_in : goal.returns-else-is_in
returns-else-is_in c code =
    c.commit_unit.ensures c.args.checked.now code
    (sym (inside (goal.at.returns-else-is_in c).After-is_in) ∙ c.if-is_in.false)
    (c.unit_of.ensures
    ∙ ap (λ (tx : Option ℕ). unit_of tx c.current-task.result) c.tx_of_task-tx.ensures.tx
    ∙ ap (λ (task : ℕ). unit_of (transaction_of c.args.checked.now task) task)
    c.current-task.ensures)
