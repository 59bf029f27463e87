use Rattle.coati_board.proofs.Draining.{given_up_with, given_up_without}
use Rattle.coati_board.proofs.drain_rows.tasks_given_up.Goals as goal

pub returns-then-attempt : goal.returns-then-attempt
returns-then-attempt c =
    given_up_with c.args.device.now c.args.attempt c.requires.attempt c.if-attempt.true

pub returns-else-attempt : goal.returns-else-attempt
returns-else-attempt c =
    given_up_without c.args.device.now c.args.attempt c.requires.attempt c.if-attempt.false
