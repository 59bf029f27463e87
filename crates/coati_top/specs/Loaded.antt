-- The summary of a run: how many marks of each kind its history has, how it ended, and how many
-- postings are held.
use Rattle.std.specs.Prelude.{ℕ, Bool, true, false, List, [], ◌++◌, Option, codes, length}
use Rattle.std.specs.List.{count_by}
use Rattle.std.specs.Option.{option_map_or}
use Rattle.coati_word.specs.declared.mode.Mode.{Mode}
use Rattle.coati_word.specs.declared.mode.Mode.TheVariants.{Buffi, Split}
use Rattle.coati_board.specs.Board.{Whole, end_of}
use Rattle.serial_log.specs.declared.end.End.{End}
use Rattle.serial_log.specs.declared.mark.Mark.{Mark}
use Rattle.serial_log.specs.declared.mark.MarkKind.{MarkKind}
use Rattle.serial_log.specs.declared.mark.MarkKind.TheVariants as kind
use Rattle.serial_log.specs.declared.posted.Answer.{Answer}
use Rattle.serial_log.specs.declared.posted.Answer.TheVariants as answer
use Rattle.serial_log.specs.Standing.{rest_of}
use Rattle.trace_out.specs.Lines.{number_line, with_end}
use Rattle.trace_out.specs.Printed.{held_line}
use Rattle.trace_out.specs.Shown.{end_line}

abbrev pub is_commit : MarkKind → Bool
is_commit (kind.Commit committed) = true
is_commit _ = false

abbrev pub is_abort : MarkKind → Bool
is_abort (kind.Abort aborted) = true
is_abort _ = false

abbrev pub is_boot : MarkKind → Bool
is_boot (kind.Boot number) = true
is_boot _ = false

abbrev pub is_acceptance : Answer → Bool
is_acceptance (answer.Accepted number) = true
is_acceptance _ = false

abbrev pub is_fullness : Answer → Bool
is_fullness answer.Full = true
is_fullness _ = false

abbrev pub is_loss : Answer → Bool
is_loss (answer.Lost boot) = true
is_loss _ = false

-- a posting that was answered so
abbrev pub is_answered : (Answer → Bool) → MarkKind → Bool
is_answered is (kind.Posted posted) = is posted.answer
is_answered is _ = false

-- how many marks are of a kind
abbrev pub how_many : (MarkKind → Bool) → List Mark → ℕ
how_many is marks = count_by (λ mark. is mark.kind) marks

abbrev pub load_word : Mode → List ℕ
load_word Split = codes "load split"
load_word Buffi = codes "load buffi"

-- a line for each count
abbrev pub count_lines : List Mark → List ℕ
count_lines marks =
    number_line (codes "commits") (how_many is_commit marks)
    ++ number_line (codes "aborts") (how_many is_abort marks)
    ++ number_line (codes "boots") (how_many is_boot marks)
    ++ number_line (codes "accepted") (how_many (is_answered is_acceptance) marks)
    ++ number_line (codes "full") (how_many (is_answered is_fullness) marks)
    ++ number_line (codes "lost") (how_many (is_answered is_loss) marks)

-- the line of how the run ended, where it has
abbrev pub end_text : Option End → List ℕ
end_text end = option_map_or (λ e. with_end (end_line e)) end []

-- the whole summary; the postings that are held are the accepted ones that no record serves
abbrev pub load_text : Mode → ℕ → Whole → List ℕ
load_text mode rounds run =
    number_line (load_word mode) rounds
    ++ count_lines run.device.history.marks
    ++ end_text (end_of run.device.history.marks)
    ++ with_end (held_line (length (rest_of run.program run.device.history.marks)))
