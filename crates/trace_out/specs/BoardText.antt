-- The text of a run: the mode, the power period that suffices, a line for each mark, the
-- variables, and how many postings are held.
use Rattle.std.specs.Prelude.{ℕ, zero, suc, ◌+◌, List, [], ◌∷◌, ◌++◌, codes, decimal, length}
use Rattle.coati_word.specs.declared.mode.Mode.{Mode}
use Rattle.coati_word.specs.declared.reading.Reading.{Reading}
use Rattle.task_cost.specs.Limits.{bounds_of}
use Rattle.task_syntax.specs.declared.program.Program.{Program}
use Rattle.task_syntax.specs.declared.program.Var.{Var}
use Rattle.task_syntax.specs.Course.{Store}
use Rattle.task_syntax.specs.Names.{count_of}
use Rattle.serial_log.specs.declared.mark.Mark.{Mark}
use Rattle.serial_log.specs.SerialRun.{stand_of}
use Rattle.serial_log.specs.Standing.{rest_of}
use Rattle.coati_board.specs.Board.{Whole}
use Rattle.trace_out.specs.Lines.{with_end}
use Rattle.trace_out.specs.Marks.{mark_lines}
use Rattle.trace_out.specs.Printed.{bound_line, held_line, mode_line}

-- a blank and the value of each of so many words, the first of which is `word`
abbrev pub value_texts : (word count : ℕ) → Store → List ℕ
value_texts word zero store = []
value_texts word (suc count) store =
    codes " " ++ decimal (store word) ++ value_texts (suc word) count store

-- of a variable whose first word is `word`
abbrev pub variable_text : ℕ → Var → Store → List ℕ
variable_text word var store =
    with_end (codes "var " ++ var.name.text ++ value_texts word (count_of var.length) store)

-- a line for each of these variables, the first word of which is `word`
abbrev pub variable_texts : ℕ → List Var → Store → List ℕ
variable_texts word [] store = []
variable_texts word (var ∷ more) store =
    variable_text word var store ++ variable_texts (word + count_of var.length) more store

-- the whole text of a history, with the values of a store and how many postings are held
abbrev pub history_text : Program → Mode → List Mark → List Reading → Store → ℕ → List ℕ
history_text program mode marks readings store held =
    with_end (mode_line mode) ++ with_end (bound_line (bounds_of program).b)
    ++ mark_lines program readings marks ++ variable_texts 0 program.vars store
    ++ with_end (held_line held)

-- the text of a board: its history, the words to which the serial run of its history leads, and
-- how many of its accepted postings no record serves
abbrev pub board_text : Whole → List ℕ
board_text board =
    history_text board.program board.mode board.device.history.marks board.device.history.readings
    (stand_of board.program board.device.history).store
    (length (rest_of board.program board.device.history.marks))
