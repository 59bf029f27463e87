-- The lines of a printed text that show the marks of a history, with their ends.
use Rattle.std.specs.Prelude.{ℕ, List, [], flat_map}
use Rattle.coati_word.specs.declared.reading.Reading.{Reading}
use Rattle.task_syntax.specs.declared.program.Program.{Program}
use Rattle.serial_log.specs.declared.mark.Mark.{Mark}
use Rattle.serial_log.specs.declared.mark.MarkKind.{MarkKind}
use Rattle.serial_log.specs.declared.mark.MarkKind.TheVariants as kind
use Rattle.serial_log.specs.History.{readings_in}
use Rattle.trace_out.specs.Lines.{with_end}
use Rattle.trace_out.specs.Shown.{abort_line, boot_line, commit_line, end_line, post_line}

-- of a mark at a time, with the readings of all records; a task that is done in its transaction
-- isn't told
abbrev pub mark_text : Program → List Reading → ℕ → MarkKind → List ℕ
mark_text program readings at (kind.Boot number) = with_end (boot_line at number)
mark_text program readings at (kind.Posted posted) = with_end (post_line program at posted)
mark_text program readings at (kind.Done task) = []
mark_text program readings at (kind.Commit committed) =
    with_end (commit_line program committed (readings_in readings committed))
mark_text program readings at (kind.Abort aborted) = with_end (abort_line program aborted)
mark_text program readings at (kind.End end) = with_end (end_line end)

abbrev pub mark_lines : Program → List Reading → List Mark → List ℕ
mark_lines program readings marks =
    flat_map (λ mark. mark_text program readings mark.at mark.kind) marks
