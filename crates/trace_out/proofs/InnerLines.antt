-- No byte of a printed line ends it.
use Rattle.std.proofs.Common.{◌≡◌, ◌≢◌, ℕ, zero, suc, ◌<◌, ◌≤◌, ◌^◌, ◌-◌, true, false, List, [], ◌∷◌, ◌++◌, Option, Some, None, length, map, take, drop, refl, sym, subst, inl, inr, arith, rules}
use Rattle.std.specs.Prelude.{codes, flat_map, nat_le}
use Rattle.std.specs.Char.{is_ascii_digit}
use Rattle.std.specs.Fmt.{decimal}
use Rattle.std.specs.List.{AllByRecursion, list_all}
use Rattle.std.specs.Str.{all_ascii_digits}
use Rattle.std.specs.Str.Parse.{digits_value}
use Rattle.std.proofs.lemmas.Bool.{and_from, and_parts, cases_Bool}
use Rattle.std.proofs.lemmas.Bool.Decides.{eqb_tells}
use Rattle.std.proofs.lemmas.Fmt.{digits_decimal}
use Rattle.std.proofs.lemmas.Str.Parse.{IsNumeralModel, numerals_by_value}
use Rattle.coati_text.specs.Line.{line_feed}
use Rattle.coati_word.specs.declared.mode.Mode.{Mode}
use Rattle.coati_word.specs.declared.mode.Mode.TheVariants.{Split, Buffi}
use Rattle.coati_word.specs.declared.reading.Reading.{Reading}
use Rattle.serial_log.specs.declared.end.End.{End}
use Rattle.serial_log.specs.declared.end.End.TheVariants as end
use Rattle.serial_log.specs.declared.line.Line.{Line}
use Rattle.serial_log.specs.declared.line.Line.TheVariants as line
use Rattle.serial_log.specs.declared.posted.Answer.{Answer}
use Rattle.serial_log.specs.declared.posted.Answer.TheVariants as answer
use Rattle.serial_log.specs.declared.posted.Posted.{Posted}
use Rattle.serial_log.specs.declared.printed.Printed.{Printed}
use Rattle.serial_log.specs.declared.record.Record.{Record}
use Rattle.serial_log.specs.declared.unit.Unit.{Unit as Committed}
use Rattle.serial_log.specs.declared.unit.Unit.TheVariants as unit
use Rattle.task_check.specs.Counts.{transactions}
use Rattle.task_lex.specs.Byte.{is_name_byte}
use Rattle.task_syntax.specs.declared.program.Program.{Program}
use Rattle.task_syntax.specs.declared.program.Var.{Var}
use Rattle.task_syntax.specs.Names.{count_of, tasks, word_count}
use Rattle.trace_out.specs.Names.{event_name, index_text, name_of_task, name_of_transaction, word_text}
use Rattle.trace_out.specs.Printed.{HasUnit, IsAnswerInRange, IsCounted, IsLine, IsPost, IsPrintable, IsReading, held_line, lines_before_end, lines_before_held, mode_line, printed_lines, value_text, variable_lines}
use Rattle.trace_out.specs.Shown.{answer_text, count_text, end_line, line_text, raised_text, reading_text, unit_text}
use Rattle.trace_out.specs.Lines.{word_and_number}
use Rattle.trace_out.proofs.Ends.{AreInner, EndsSome, IsInner, inner-append, is_inner}
use Rattle.trace_out.proofs.FrameReads.{IsValue}
use Rattle.trace_out.proofs.Fronts.{IsNameText}
use Rattle.trace_out.specs.ShownRun.{own_readings}
use Rattle.trace_out.proofs.Layouts.{line_text-own}
use Rattle.trace_out.proofs.MarkReads.{own_text}
use Rattle.trace_out.proofs.Places.{name_of_event, text_at, text_at-named}
use Rattle.trace_out.proofs.Stages.{all-joined}
use Rattle.trace_out.proofs.UnitReads.{IsNamed}
use Rattle.trace_out.proofs.Walks.{all-drop, all-take, own-readings}
use Rattle.trace_out.proofs.WordPlaces.{name_of_var}

digits_test : IsNumeralModel (λ ds. all_ascii_digits ds ≡ true) (digits_value 10)
digits_test = numerals_by_value _ (search rules)

digit-inner : (byte : ℕ) → is_ascii_digit byte ≡ true → is_inner byte ≡ true
digit-inner byte digit = elim (eqb_tells byte line_feed) [
  | inl same ↦ let e : false ≡ true = rw same.1 at digit in cc
  | inr other ↦ rw other.0 refl
]

name_byte-inner : (byte : ℕ) → is_name_byte byte ≡ true → is_inner byte ≡ true
name_byte-inner byte in_name = elim (eqb_tells byte line_feed) [
  | inl same ↦ let e : false ≡ true = rw same.1 at in_name in cc
  | inr other ↦ rw other.0 refl
]

digits-inner : (digits : List ℕ) → all_ascii_digits digits ≡ true → IsInner digits
digits-inner [] all = refl
digits-inner (digit ∷ digits) all =
    let parts = and_parts (is_ascii_digit digit) (all_ascii_digits digits) all in
    and_from (is_inner digit) (list_all is_inner digits) (digit-inner digit parts.0)
    (digits-inner digits parts.1)

name-inner : (name : List ℕ) → IsNameText name → IsInner name
name-inner [] is = refl
name-inner (byte ∷ name) is =
    let parts = and_parts (is_name_byte byte) (list_all is_name_byte name) is in
    and_from (is_inner byte) (list_all is_inner name) (name_byte-inner byte parts.0)
    (name-inner name parts.1)

decimal-inner : (n : ℕ) → n < 2 ^ 32 → IsInner (decimal n)
decimal-inner n small = digits-inner (decimal n) (digits_decimal digits_test n (omega arith))

-- a word, and a number behind it
number-inner : (word : List ℕ) (n : ℕ) → IsInner word → n < 2 ^ 32 → IsInner
    (word_and_number word n)
number-inner word n inner small = inner-append (word ++ codes " ") (decimal n)
    (inner-append word (codes " ") inner refl) (decimal-inner n small)

index-inner : (items : Option ℕ) (index : ℕ) → index < 2 ^ 32 → IsInner (index_text items index)
index-inner None index small = refl
index-inner (Some count) index small = inner-append (codes "[" ++ decimal index) (codes "]")
    (inner-append (codes "[") (decimal index) refl (decimal-inner index small)) refl

word-inner : (vars : List Var) (word : ℕ) → AllByRecursion IsNameText (map name_of_var vars)
    → word < 2 ^ 32 → IsInner (word_text vars word)
word-inner [] word names small = refl
word-inner (var ∷ more) word names small = elim (cases_Bool (nat_le (count_of var.length) word)) [
  | inl past ↦ rw past (word-inner more (word - count_of var.length) names.1 (omega arith))
  | inr here ↦ rw here (inner-append var.name.text (index_text var.length word)
      (name-inner var.name.text names.0) (index-inner var.length word small))
]

module _ (program : Program) (named : IsNamed program) where
  unit-inner : (of : Committed) → HasUnit program of → IsInner (unit_text program of)
  unit-inner (unit.Task task) has = inner-append (codes "task ")
      (text_at name_of_task (tasks program) task) refl
      (name-inner (text_at name_of_task (tasks program) task)
      (text_at-named name_of_task (tasks program) task has named.tasks.spelled))
  unit-inner (unit.Transaction tx) has =
      inner-append (codes "transaction ")
      (text_at name_of_transaction (transactions program) tx) refl
      (name-inner (text_at name_of_transaction (transactions program) tx)
      (text_at-named name_of_transaction
      (transactions program) tx has named.transactions.spelled))
  unit-inner (unit.Event event) has = inner-append (codes "event ")
      (text_at name_of_event program.events event) refl
      (name-inner (text_at name_of_event program.events event)
      (text_at-named name_of_event program.events event has named.events.spelled))

  count-inner : (committed : Record) (of : Committed) → IsCounted committed of → IsInner
      (count_text committed of)
  count-inner committed (unit.Task task) counted = refl
  count-inner committed (unit.Transaction tx) counted = number-inner
      (codes " tasks") committed.tasks refl (omega (arith, counted.0.1))
  count-inner committed (unit.Event event) counted = number-inner
      (codes " posting") committed.posting refl (omega (arith, counted.1))

  reading-inner : (reading : Reading) → IsReading program reading → IsInner
      (reading_text program reading)
  reading-inner reading is =
      let small : word_count program.vars ≤ 256 = named.words.few in
      inner-append (codes " " ++ word_text program.vars reading.word ++ codes "=")
      (decimal reading.value)
      (inner-append (codes " " ++ word_text program.vars reading.word) (codes "=")
      (inner-append (codes " ") (word_text program.vars reading.word) refl
      (word-inner program.vars reading.word named.vars.spelled (omega (arith, is.word)))) refl)
      (decimal-inner reading.value (omega (arith, is.value)))

  readings-inner : (readings : List Reading) → AllByRecursion (IsReading program) readings
      → IsInner (flat_map (reading_text program) readings)
  readings-inner [] are = refl
  readings-inner (first ∷ more) are = inner-append (reading_text program first)
      (flat_map (reading_text program) more) (reading-inner first are.0)
      (readings-inner more are.1)

  answer-inner : (x : Answer) → IsAnswerInRange x → IsInner (answer_text x)
  answer-inner (answer.Accepted number) is = number-inner (codes " accepted") number refl
      (omega (arith, is))
  answer-inner answer.Full is = refl
  answer-inner (answer.Lost boot) is = number-inner (codes " lost") boot refl (omega (arith, is))

  raised-inner : (at : ℕ) (posted : Posted) → IsPost program at posted → IsInner
      (raised_text program posted)
  raised-inner at posted is =
      let event = event_name program posted.event in
      let name : IsInner event = name-inner event
      (text_at-named name_of_event program.events posted.event is.event named.events.spelled) in
      let front = word_and_number (codes "post") posted.device ++ codes "."
      ++ decimal posted.index in
      inner-append (front ++ codes " ") (word_and_number event posted.argument)
      (inner-append front (codes " ")
      (inner-append (word_and_number (codes "post") posted.device ++ codes ".")
      (decimal posted.index)
      (inner-append (word_and_number (codes "post") posted.device) (codes ".")
      (number-inner (codes "post") posted.device refl (omega (arith, is.device))) refl)
      (decimal-inner posted.index (omega (arith, is.index)))) refl)
      (number-inner event posted.argument name (omega (arith, is.argument)))

  own-inner : (reads : List Reading) (shown : Line) → IsLine program shown → AllByRecursion
      (IsReading program) reads → IsInner (own_text program reads shown)
  own-inner reads (line.Boot number at) is are =
      inner-append (word_and_number (codes "boot") number) (word_and_number (codes " at") at)
      (number-inner (codes "boot") number refl (omega (arith, is.0)))
      (number-inner (codes " at") at refl (omega (arith, is.1)))
  own-inner reads (line.Post at posted) is are =
      let from = word_and_number (codes " from") posted.from in
      let answered = word_and_number (codes " at") at in
      inner-append (raised_text program posted ++ from ++ answered) (answer_text posted.answer)
      (inner-append (raised_text program posted ++ from) answered
      (inner-append (raised_text program posted) from (raised-inner at posted is)
      (number-inner (codes " from") posted.from refl (omega (arith, is.from))))
      (number-inner (codes " at") at refl (omega (arith, is.answered))))
      (answer-inner posted.answer is.answer)
  own-inner reads (line.Commit committed) is are =
      let head = codes "commit " ++ unit_text program committed.unit in
      let counted = count_text committed committed.unit in
      inner-append (head ++ counted ++ codes " reads") (flat_map (reading_text program) reads)
      (inner-append (head ++ counted) (codes " reads")
      (inner-append head counted (inner-append (codes "commit ")
      (unit_text program committed.unit) refl (unit-inner committed.unit is.unit))
      (count-inner committed committed.unit is.counted)) refl)
      (readings-inner reads are)
  own-inner reads (line.Abort aborted) is are =
      let head = codes "abort " ++ unit_text program aborted.unit in
      let counted = word_and_number (codes " tasks") aborted.tasks in
      let numbered = word_and_number (codes " posting") aborted.posting in
      inner-append (head ++ counted ++ numbered ++ codes " word ")
      (word_text program.vars aborted.word)
      (inner-append (head ++ counted ++ numbered) (codes " word ")
      (inner-append (head ++ counted) numbered
      (inner-append head counted (inner-append (codes "abort ")
      (unit_text program aborted.unit) refl (unit-inner aborted.unit is.unit))
      (number-inner (codes " tasks") aborted.tasks refl (omega (arith, is.tasks.1))))
      (number-inner (codes " posting") aborted.posting refl (omega (arith, is.posting)))) refl)
      (let small : word_count program.vars ≤ 256 =
      named.words.few in word-inner program.vars aborted.word named.vars.spelled
      (omega (arith, is.word)))

  marks-inner : (all : List Reading) (lines : List Line) → AllByRecursion (IsLine program) lines
      → AllByRecursion (IsReading program) all → AreInner (map (line_text program all) lines)
  marks-inner all [] are reads = tt
  marks-inner all (shown ∷ more) are reads = (
    subst IsInner (sym (line_text-own program all shown))
        (own-inner (own_readings all shown) shown are.0 (own-readings program all shown reads)),
    marks-inner all more are.1 reads,
  )

values-inner : (values : List ℕ) → AllByRecursion IsValue values → IsInner
    (flat_map value_text values)
values-inner [] are = refl
values-inner (value ∷ more) are =
    inner-append (value_text value) (flat_map value_text more)
    (inner-append (codes " ") (decimal value) refl
    (decimal-inner value (omega (arith, are.0)))) (values-inner more are.1)

variables-inner : (vars : List Var) (values : List ℕ) → AllByRecursion IsNameText
    (map name_of_var vars) → AllByRecursion IsValue values → AreInner (variable_lines vars values)
variables-inner [] values names are = tt
variables-inner (var ∷ more) values names are =
    let own = take (count_of var.length) values in (
      inner-append (codes "var " ++ var.name.text) (flat_map value_text own)
          (inner-append (codes "var ") var.name.text refl (name-inner var.name.text names.0))
          (values-inner own (all-take IsValue (count_of var.length) values are)),
      variables-inner more (drop (count_of var.length) values) names.1
          (all-drop IsValue (count_of var.length) values are),
    )

mode-inner : (mode : Mode) → IsInner (mode_line mode)
mode-inner Split = refl
mode-inner Buffi = refl

end-inner : (x : End) → IsInner (end_line x)
end-inner end.Idle = refl
end-inner end.Limit = refl

names-taken : (count : ℕ) (vars : List Var) → AllByRecursion IsNameText (map name_of_var vars)
    → AllByRecursion IsNameText (map name_of_var (take count vars))
names-taken zero vars names = tt
names-taken (suc count) [] names = tt
names-taken (suc count) (var ∷ more) names = (names.0, names-taken count more names.1)

pub printed-inner : (program : Program) (printed : Printed) → IsNamed program
    → IsPrintable program printed → AreInner (printed_lines program printed)
printed-inner program printed named is =
    let vars = take (length program.vars) program.vars in
    all-joined IsInner (lines_before_held program printed (length program.vars))
    (held_line printed.held ∷ [])
    (all-joined IsInner (lines_before_end program printed)
    (end_line printed.end ∷ variable_lines vars printed.values) (
      mode-inner printed.mode,
      (
        number-inner (codes "bound") printed.bound refl
            (omega (arith, is.bound)),
        marks-inner program named printed.readings printed.lines is.lines is.readings,
      ),
    ) (
      end-inner printed.end,
      variables-inner vars printed.values
          (names-taken (length program.vars) program.vars named.vars.spelled) is.values,
    ))
    (number-inner (codes "held") printed.held refl (omega (arith, is.held)), tt)

ends_some-last : (front : List (List ℕ)) (line : List ℕ) → line ≢ [] → EndsSome
    (front ++ line ∷ [])
ends_some-last [] line some = some
ends_some-last (first ∷ []) line some = some
ends_some-last (first ∷ next ∷ more) line some = ends_some-last (next ∷ more) line some

pub printed-ends : (program : Program) (printed : Printed) → EndsSome
    (printed_lines program printed)
printed-ends program printed = ends_some-last (lines_before_held program printed
    (length program.vars)) (held_line printed.held) (λ e. cc)
