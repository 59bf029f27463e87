-- How many postings a board has left to raise, and the room that its run needs.
use Rattle.std.specs.Prelude.{ℕ, zero, suc, ◌+◌, ◌-◌, ◌*◌, ◌≤◌}
use Rattle.task_cost.specs.Limits.{handler_bound}
use Rattle.coati_board.specs.Board.{Whole, left_of}

-- those of the first so many devices
unfoldable pub left_below : Whole → ℕ → ℕ
left_below board zero = 0
left_below board (suc device) = left_below board device + left_of board device

-- those of all eight
abbrev pub left_in_all : Whole → ℕ
left_in_all board = left_below board 8

-- there is room for the steps up to the limit, and for a handler for each posting that is left
abbrev pub HasRoom : Whole → Type 0
HasRoom board =
    (board.script.limit - board.device.steps) + handler_bound board.program * left_in_all board
    ≤ board.device.spare
