-- What a text is read as: how far its lines have got, line by line.
use Rattle.std.specs.Prelude.{ℕ, ◌+◌, List, [], ◌∷◌, ◌++◌, Option, Some, None, Result, Ok, Err, length, slice_get}
use Rattle.std.specs.Option.{option_map, option_map_or}
use Rattle.coati_text.specs.Line.{lines_of}
use Rattle.coati_word.specs.declared.mode.Mode.{Mode}
use Rattle.coati_word.specs.declared.reading.Reading.{Reading}
use Rattle.serial_log.specs.declared.end.End.TheVariants as end
use Rattle.serial_log.specs.declared.printed.Printed.{Printed}
use Rattle.task_syntax.specs.declared.program.Program.{Program}
use Rattle.trace_out.specs.declared.fault.PrintFault.{PrintFault}
use Rattle.trace_out.specs.declared.fault.PrintFault.TheVariants.{BadLine}
use Rattle.trace_out.specs.declared.shown.Shown.{Shown}
use Rattle.trace_out.specs.declared.stage.Stage.{Stage}
use Rattle.trace_out.specs.declared.stage.Stage.TheVariants.{Nothing, Headed, Marked, Valued, Whole}
use Rattle.trace_out.specs.LineReading.{bound_in, end_in, held_in, mark_in, mode_in, values_in}

-- the readings of the marks so far
abbrev pub readings_of : Stage → List Reading
readings_of Nothing = []
readings_of (Headed mode) = []
readings_of (Marked printed) = printed.readings
readings_of (Valued printed number) = printed.readings
readings_of (Whole printed) = printed.readings

-- what the first two lines say
abbrev pub headed : Mode → ℕ → Printed
headed mode bound = record {
  mode = mode;
  bound = bound;
  lines = [];
  readings = [];
  end = end.Idle;
  values = [];
  held = 0;
}

abbrev pub with_shown : Printed → Shown → Printed
with_shown printed shown = record printed {
  lines = printed.lines ++ shown.line ∷ [];
  readings = printed.readings ++ shown.readings;
}

-- behind a mark, or behind the end line
abbrev pub behind_mark : Program → Printed → List ℕ → Option Stage
behind_mark program printed line =
    option_map_or (λ end. Some (Valued (record printed { end = end }) 0)) (end_in line)
    (option_map (λ shown. Marked (with_shown printed shown))
    (mark_in program (length printed.readings) line))

-- behind the line of the variable of this number, or behind the last line
abbrev pub behind_values : Program → Printed → ℕ → List ℕ → Option Stage
behind_values program printed number line =
    option_map_or (λ var. option_map
    (λ values. Valued (record printed { values = printed.values ++ values }) (number + 1))
    (values_in var line)) (slice_get program.vars number)
    (option_map (λ held. Whole (record printed { held = held })) (held_in line))

-- behind one more line
abbrev pub behind_line : Program → Stage → List ℕ → Option Stage
behind_line program Nothing line = option_map Headed (mode_in line)
behind_line program (Headed mode) line = option_map (λ bound. Marked (headed mode bound))
    (bound_in line)
behind_line program (Marked printed) line = behind_mark program printed line
behind_line program (Valued printed number) line = behind_values program printed number line
behind_line program (Whole printed) line = None

-- what a text is that ends at a stage, where the next line would have this number
abbrev pub ended_at : ℕ → Stage → Result Printed PrintFault
ended_at number (Whole printed) = Ok printed
ended_at number stage = Err (BadLine number)

-- what these lines, the first of which has this number, make of it
abbrev pub lines_reading : Program → ℕ → Stage → List (List ℕ) → Result Printed PrintFault
lines_reading program number stage [] = ended_at number stage
lines_reading program number stage (line ∷ more) =
    option_map_or (λ next. lines_reading program (number + 1) next more)
    (behind_line program stage line)
    (Err (BadLine number))

-- what a text is
abbrev pub reading : Program → List ℕ → Result Printed PrintFault
reading program text = lines_reading program 1 Nothing (lines_of text)
