-- What a line of a printed text is read as.
use Rattle.std.specs.Prelude.{ℕ, zero, suc, List, [], ◌∷◌, codes, Option, Some, None, length, nat_le, if◌then◌else◌}
use Rattle.std.specs.Option.{option_map, option_map_or}
use Rattle.std.specs.Str.{bytes_eq}
use Rattle.coati_word.specs.declared.limits.TheConstants.{EXECUTOR_STEPS}
use Rattle.coati_word.specs.declared.mode.Mode.{Mode}
use Rattle.coati_word.specs.declared.mode.Mode.TheVariants.{Split, Buffi}
use Rattle.coati_word.specs.declared.reading.Reading.{Reading}
use Rattle.serial_log.specs.declared.end.End.{End}
use Rattle.serial_log.specs.declared.end.End.TheVariants as end
use Rattle.serial_log.specs.declared.line.Line.{Line}
use Rattle.serial_log.specs.declared.line.Line.TheVariants as line
use Rattle.serial_log.specs.declared.posted.Answer.{Answer}
use Rattle.serial_log.specs.declared.posted.Answer.TheVariants as answer
use Rattle.serial_log.specs.declared.posted.Posted.{Posted}
use Rattle.serial_log.specs.declared.record.Record.{Record}
use Rattle.serial_log.specs.declared.unit.Unit.{Unit as Committed}
use Rattle.serial_log.specs.declared.unit.Unit.TheVariants as unit
use Rattle.task_syntax.specs.declared.program.Program.{Program}
use Rattle.task_syntax.specs.declared.program.Var.{Var}
use Rattle.task_syntax.specs.Names.{count_of}
use Rattle.trace_out.specs.declared.shown.Shown.{Shown}
use Rattle.trace_out.specs.declared.raised.Raised.{Raised}
use Rattle.trace_out.specs.Front.{◌>>=◌, alone, behind, last_number, number_at}
use Rattle.trace_out.specs.Lookups.{event_at, task_at, transaction_at, word_at}
use Rattle.trace_out.specs.Printed.{greatest_device, greatest_number, greatest_value}

-- the first two lines
unfoldable pub mode_in : List ℕ → Option Mode
mode_in line = if bytes_eq line (codes "coati split") then Some Split
    else (if bytes_eq line (codes "coati buffi") then Some Buffi else None)

unfoldable pub bound_in : List ℕ → Option ℕ
bound_in line = do
  text ← behind (codes "bound ") line
  last_number greatest_number text

-- boots
unfoldable pub boot_in : List ℕ → Option Line
boot_in text = do
  number ← number_at greatest_number text
  timed ← behind (codes " at ") number.1
  at ← last_number greatest_number timed
  Some (line.Boot number.0 at)

-- postings
unfoldable pub raised_at : Program → List ℕ → Option (Raised × List ℕ)
raised_at program text = do
  device ← number_at greatest_device text
  dotted ← behind (codes ".") device.1
  index ← number_at greatest_number dotted
  named ← behind (codes " ") index.1
  event ← event_at program named
  given ← behind (codes " ") event.1
  argument ← number_at greatest_value given
  Some (
    record { device = device.0; index = index.0; event = event.0; argument = argument.0 },
    argument.1,
  )

unfoldable pub answer_in : List ℕ → Option Answer
answer_in text =
    if bytes_eq text (codes " full") then Some answer.Full
    else option_map_or (λ number. option_map answer.Accepted (last_number greatest_number number))
    (behind (codes " accepted ") text)
    (behind (codes " lost ") text >>= λ boot. option_map answer.Lost
    (last_number greatest_number boot))

-- a posting that was raised at one time and answered at another
abbrev pub posted_of : Raised → ℕ → Answer → Posted
posted_of raised from answer = record {
  device = raised.device;
  index = raised.index;
  event = raised.event;
  argument = raised.argument;
  from = from;
  answer = answer;
}

unfoldable pub post_in : Program → List ℕ → Option Line
post_in program text = do
  raised ← raised_at program text
  since ← behind (codes " from ") raised.1
  from ← number_at greatest_number since
  timed ← behind (codes " at ") from.1
  at ← number_at greatest_number timed
  answer ← answer_in at.1
  Some (line.Post at.0 (posted_of raised.0 from.0 answer))

-- units
abbrev pub found : {A B : Type 0} → (A → B) → Option (A × List ℕ) → Option (B × List ℕ)
found make o = option_map (λ x. (make x.0, x.1)) o

unfoldable pub unit_at : Program → List ℕ → Option (Committed × List ℕ)
unit_at program text =
    option_map_or (λ name. found unit.Task (task_at program name)) (behind (codes "task ") text)
    (option_map_or (λ name. found unit.Transaction (transaction_at program name))
    (behind (codes "transaction ") text)
    (behind (codes "event ") text >>= λ name. found unit.Event (event_at program name)))

-- how many tasks, where there may be so many
abbrev pub some_tasks : ℕ × List ℕ → Option (ℕ × List ℕ)
some_tasks tasks = if nat_le 1 tasks.0 then Some tasks else None

unfoldable pub tasks_at : List ℕ → Option (ℕ × List ℕ)
tasks_at text = do
  counted ← behind (codes " tasks ") text
  tasks ← number_at EXECUTOR_STEPS counted
  some_tasks tasks

unfoldable pub posting_at : List ℕ → Option (ℕ × List ℕ)
posting_at text = do
  numbered ← behind (codes " posting ") text
  number_at greatest_number numbered

-- commits
abbrev pub record_of : Committed → (tasks posting from : ℕ) → Record
record_of unit tasks posting from =
    record { unit = unit; tasks = tasks; posting = posting; reads_from = from; reads_len = 0 }

unfoldable pub counted_at : ℕ → Committed → List ℕ → Option (Record × List ℕ)
counted_at from (unit.Task task) text = Some (record_of (unit.Task task) 1 0 from, text)
counted_at from (unit.Transaction tx) text =
    found (λ tasks. record_of (unit.Transaction tx) tasks 0 from) (tasks_at text)
counted_at from (unit.Event event) text =
    found (λ posting. record_of (unit.Event event) 0 posting from) (posting_at text)

unfoldable pub record_at : Program → ℕ → List ℕ → Option (Record × List ℕ)
record_at program from text = do
  unit ← unit_at program text
  committed ← counted_at from unit.0 unit.1
  reads ← behind (codes " reads") committed.1
  Some (committed.0, reads)

unfoldable pub reading_at : Program → List ℕ → Option (Reading × List ℕ)
reading_at program text = do
  named ← behind (codes " ") text
  word ← word_at program named
  equated ← behind (codes "=") word.1
  value ← number_at greatest_value equated
  Some (record { word = word.0; value = value.0 }, value.1)

abbrev pub in_front : {A : Type 0} → A → Option (List A) → Option (List A)
in_front first more = option_map (λ others. first ∷ others) more

-- readings up to the end of the text, of which there are fewer than `fuel`
unfoldable pub readings_within : ℕ → Program → List ℕ → Option (List Reading)
readings_within zero program text = None
readings_within (suc fuel) program [] = Some []
readings_within (suc fuel) program (byte ∷ text) = do
  first ← reading_at program (byte ∷ text)
  in_front first.0 (readings_within fuel program first.1)

-- each takes a byte at least
abbrev pub readings_in : Program → List ℕ → Option (List Reading)
readings_in program text = readings_within (suc (length text)) program text

abbrev pub shown_commit : Record → List Reading → Shown
shown_commit committed reads = record {
  line = line.Commit (record committed { reads_len = length reads });
  readings = reads;
}

unfoldable pub commit_in : Program → ℕ → List ℕ → Option Shown
commit_in program from text = do
  committed ← record_at program from text
  option_map (shown_commit committed.0) (readings_in program committed.1)

-- aborts
abbrev pub of_tasks : Committed × List ℕ → Option (Committed × List ℕ)
of_tasks (unit.Event event, text) = None
of_tasks unit = Some unit

unfoldable pub abort_in : Program → List ℕ → Option Line
abort_in program text = do
  any ← unit_at program text
  unit ← of_tasks any
  tasks ← tasks_at unit.1
  posting ← posting_at tasks.1
  clashed ← behind (codes " word ") posting.1
  word ← word_at program clashed
  alone (line.Abort (record {
    unit = unit.0;
    tasks = tasks.0;
    posting = posting.0;
    word =
        word.0;
  })) word.1

-- a line that shows a mark without readings
unfoldable pub plain_in : Program → List ℕ → Option Line
plain_in program line =
    option_map_or boot_in (behind (codes "boot ") line)
    (option_map_or (post_in program) (behind (codes "post ") line)
    (behind (codes "abort ") line >>= abort_in program))

abbrev pub shown_plain : Line → Shown
shown_plain line = record { line = line; readings = [] }

-- a line that shows a mark, where so many readings stand before it
unfoldable pub mark_in : Program → ℕ → List ℕ → Option Shown
mark_in program from line =
    option_map_or (commit_in program from) (behind (codes "commit ") line)
    (option_map shown_plain (plain_in program line))

-- the last lines
unfoldable pub end_in : List ℕ → Option End
end_in line = if bytes_eq line (codes "end idle") then Some end.Idle
    else (if bytes_eq line (codes "end limit") then Some end.Limit else None)

unfoldable pub value_at : List ℕ → Option (ℕ × List ℕ)
value_at text = do
  blank ← behind (codes " ") text
  number_at greatest_value blank

unfoldable pub values_at : ℕ → List ℕ → Option (List ℕ)
values_at zero text = alone [] text
values_at (suc count) text = do
  value ← value_at text
  in_front value.0 (values_at count value.1)

unfoldable pub values_text : Var → List ℕ → Option (List ℕ)
values_text var line = do
  named ← behind (codes "var ") line
  behind var.name.text named

unfoldable pub values_in : Var → List ℕ → Option (List ℕ)
values_in var line = do
  text ← values_text var line
  values_at (count_of var.length) text

unfoldable pub held_in : List ℕ → Option ℕ
held_in line = do
  text ← behind (codes "held ") line
  last_number greatest_number text
