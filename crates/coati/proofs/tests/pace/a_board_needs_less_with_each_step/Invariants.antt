use Rattle.coati_board.specs.Board.{IsOpen}
use Rattle.coati.proofs.tests.pace.a_board_needs_less_with_each_step.Given as goal

abbrev pub invariant-loop : goal.invariant-loop
invariant-loop g l = IsOpen l.board
