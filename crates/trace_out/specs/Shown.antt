-- The lines that show marks, without their ends.
use Rattle.std.specs.Prelude.{ℕ, List, [], ◌++◌, codes, decimal, flat_map}
use Rattle.coati_word.specs.declared.reading.Reading.{Reading}
use Rattle.task_syntax.specs.declared.program.Program.{Program}
use Rattle.serial_log.specs.declared.abort.AbortOf.{AbortOf}
use Rattle.serial_log.specs.declared.end.End.{End}
use Rattle.serial_log.specs.declared.end.End.TheVariants as end
use Rattle.serial_log.specs.declared.line.Line.{Line}
use Rattle.serial_log.specs.declared.line.Line.TheVariants as line
use Rattle.serial_log.specs.declared.posted.Answer.{Answer}
use Rattle.serial_log.specs.declared.posted.Answer.TheVariants as answer
use Rattle.serial_log.specs.declared.posted.Posted.{Posted}
use Rattle.serial_log.specs.declared.record.Record.{Record}
use Rattle.serial_log.specs.declared.unit.Unit.{Unit as Committed}
use Rattle.serial_log.specs.declared.unit.Unit.TheVariants as unit
use Rattle.serial_log.specs.History.{readings_in}
use Rattle.trace_out.specs.Names.{event_name, task_name, transaction_name, word_text}
use Rattle.trace_out.specs.Lines.{word_and_number}

-- a blank, the variable word and what was read there
abbrev pub reading_text : Program → Reading → List ℕ
reading_text program reading =
    codes " " ++ word_text program.vars reading.word ++ codes "=" ++ decimal reading.value

abbrev pub unit_text : Program → Committed → List ℕ
unit_text program (unit.Task task) = codes "task " ++ task_name program task
unit_text program (unit.Transaction tx) = codes "transaction " ++ transaction_name program tx
unit_text program (unit.Event event) = codes "event " ++ event_name program event

-- how many tasks a committed transaction had, and which posting an event served
abbrev pub count_text : Record → Committed → List ℕ
count_text committed (unit.Task task) = []
count_text committed (unit.Transaction tx) = word_and_number (codes " tasks") committed.tasks
count_text committed (unit.Event event) = word_and_number (codes " posting") committed.posting

-- of a commit that read this
abbrev pub commit_line : Program → Record → List Reading → List ℕ
commit_line program committed reads =
    codes "commit " ++ unit_text program committed.unit ++ count_text committed committed.unit
    ++ codes " reads" ++ flat_map (reading_text program) reads

abbrev pub abort_line : Program → AbortOf → List ℕ
abort_line program aborted =
    codes "abort " ++ unit_text program aborted.unit
    ++ word_and_number (codes " tasks") aborted.tasks
    ++ word_and_number (codes " posting") aborted.posting
    ++ codes " word " ++ word_text program.vars aborted.word

abbrev pub answer_text : Answer → List ℕ
answer_text (answer.Accepted number) = word_and_number (codes " accepted") number
answer_text answer.Full = codes " full"
answer_text (answer.Lost boot) = word_and_number (codes " lost") boot

-- which device raised a posting, which of its postings it is, and what it posts
abbrev pub raised_text : Program → Posted → List ℕ
raised_text program posted =
    word_and_number (codes "post") posted.device ++ codes "." ++ decimal posted.index
    ++ codes " " ++ word_and_number (event_name program posted.event) posted.argument

abbrev pub post_line : Program → ℕ → Posted → List ℕ
post_line program at posted =
    raised_text program posted ++ word_and_number (codes " from") posted.from
    ++ word_and_number (codes " at") at ++ answer_text posted.answer

abbrev pub boot_line : ℕ → ℕ → List ℕ
boot_line at number = word_and_number (codes "boot") number ++ word_and_number (codes " at") at

abbrev pub end_line : End → List ℕ
end_line end.Idle = codes "end idle"
end_line end.Limit = codes "end limit"

-- of a line that shows a mark, with the readings of all records
abbrev pub line_text : Program → List Reading → Line → List ℕ
line_text program readings (line.Boot number at) = boot_line at number
line_text program readings (line.Post at posted) = post_line program at posted
line_text program readings (line.Commit committed) =
    commit_line program committed (readings_in readings committed)
line_text program readings (line.Abort aborted) = abort_line program aborted
