-- What a command gives: a text, a run whose text is that of its board, or a run with another text.
use Rattle.std.specs.Prelude.{ℕ, List, Option, Some, None}
use Rattle.coati_board.specs.Board.{Whole}
use Rattle.trace_out.specs.BoardText.{board_text}
use Rattle.coati_top.specs.declared.served.Served.{Served}
use Rattle.coati_top.specs.declared.served.Served.TheVariants.{Text, Run, Load}

abbrev pub served_text : Served → List ℕ
served_text (Text text) = text.items
served_text (Run board) = board_text board
served_text (Load text board) = text.items

-- the board of the run, where one was made
abbrev pub served_board : Served → Option Whole
served_board (Text text) = None
served_board (Run board) = Some board
served_board (Load text board) = Some board
