-- The numbers that the text of a run tells are in range.
use Rattle.std.proofs.Common.{◌≡◌, ◌≤◌, ◌+◌, ℕ, List, [], ◌∷◌, ◌++◌, length, subst, ap, ◌∙◌, arith, append-nil}
use Rattle.std.specs.Prelude.{flat_map}
use Rattle.std.specs.List.{AllByRecursion}
use Rattle.std.proofs.lemmas.Grind.{flat_map-append}
use Rattle.std.proofs.lemmas.List.Elements.{recursion_from_All}
use Rattle.coati_word.specs.declared.limits.TheConstants.{EXECUTOR_STEPS}
use Rattle.coati_word.specs.declared.mode.Mode.{Mode}
use Rattle.coati_word.specs.declared.reading.Reading.{Reading}
use Rattle.task_syntax.specs.declared.program.Program.{Program}
use Rattle.task_syntax.specs.ProgramLaws.{EventsTouchVariables, UnitsTouchVariables}
use Rattle.task_check.specs.Accepted.{IsAccepted}
use Rattle.task_check.specs.Numbers.{buffer_size}
use Rattle.task_check.specs.Sizes.{HasSizes}
use Rattle.task_check.proofs.SizesHold.{sizes}
use Rattle.task_cost.specs.Limits.{bounds_of, greatest_cost, handler_bound}
use Rattle.task_cost.proofs.Measured.{events_within, tasks_within}
use Rattle.task_cost.proofs.Products.{period_within}
use Rattle.serial_log.specs.declared.end.End.{End}
use Rattle.serial_log.specs.declared.line.Line.{Line}
use Rattle.serial_log.specs.declared.mark.Mark.{Mark}
use Rattle.serial_log.specs.declared.mark.MarkKind.{MarkKind}
use Rattle.serial_log.specs.declared.mark.MarkKind.TheVariants as kind
use Rattle.serial_log.specs.History.{AreRecordsIn, IsRecordIn}
use Rattle.serial_log.specs.Laws.{LegalHistoriesKeepEachFact}
use Rattle.serial_log.specs.Printed.{lines_of, shown_as}
use Rattle.serial_log.specs.SerialRun.{Stand, stand_of}
use Rattle.serial_log.specs.Standing.{Standing, after_mark, opening, standing_of}
use Rattle.serial_log.proofs.Walks.{walk_push}
use Rattle.trace_text.specs.Trace.{IsPosting}
use Rattle.coati_board.specs.Board.{Whole, terms_of}
use Rattle.executor.specs.InTurn.{all_left}
use Rattle.trace_out.specs.Printed.{IsLine, IsReading, greatest_number}
use Rattle.trace_out.specs.ShownRun.{HasReadings, own_readings}
use Rattle.word_values.specs.Laws.{EventsStayInWords, OpeningStoresHoldWords, UnitsStayInWords}
use Rattle.shown_runs.specs.Ranges.{HasEnded, IsTold, TellsNumbersInRange}
use Rattle.shown_runs.proofs.Effects.{has-effects}
use Rattle.shown_runs.proofs.HandlerTimes.{times-within}
use Rattle.shown_runs.proofs.MarkRanges.{marks-ranged}
use Rattle.shown_runs.proofs.Marks.{within_more}
use Rattle.shown_runs.proofs.Runs.{run_counted}

-- the bound on progress of an accepted program
pub bound-small : (program : Program) → IsAccepted program → HasSizes program → (bounds_of program).b ≤ greatest_number
bound-small program accepted sizes =
    let by_tasks = tasks_within program accepted in
    let by_events = events_within program accepted in
    let buffer = sizes.buffer_most in
    let words = sizes.words_most in
    let cost : greatest_cost program ≤ 100000 = omega (arith, by_tasks, by_events) in
    let handler : handler_bound program ≤ 110000 = omega (arith, cost, words) in
    let factor : buffer_size program + 3 ≤ 35 = omega (arith, buffer) in
    let product = period_within (buffer_size program + 3) (handler_bound program) factor handler in
    omega (arith, product)

-- the readings of records that are there
records-there : (all : List Reading) (marks : List Mark) → AreRecordsIn (length all) marks → AllByRecursion (HasReadings all) (lines_of marks)
records-there all [] there = tt
records-there all (mark ∷ more) there = by mark.kind mark.at there.0 (records-there all more there.1)
  where
    by : (its : MarkKind) (at : ℕ) → IsRecordIn (length all) its → AllByRecursion (HasReadings all) (lines_of more)
        → AllByRecursion (HasReadings all) (shown_as at its ++ lines_of more)
    by (kind.Boot number) at here rest = (tt, rest)
    by (kind.Posted posted) at here rest = (tt, rest)
    by (kind.Done task) at here rest = rest
    by (kind.Commit committed) at here rest = (here, rest)
    by (kind.Abort aborted) at here rest = (tt, rest)
    by (kind.End end) at here rest = rest

-- an End mark has no line
lines-before : (marks before : List Mark) (at : ℕ) (end : End) → marks ≡ before ++ record { at = at; kind = kind.End end } ∷ []
    → lines_of marks ≡ lines_of before
lines-before marks before at end last =
    let ending : List Mark = record { at = at; kind = kind.End end } ∷ [] in
    ap lines_of last ∙ flat_map-append (λ (mark : Mark). shown_as mark.at mark.kind) before ending ∙ append-nil (lines_of before)

-- the End mark is the latest
last-latest : (program : Program) (marks before : List Mark) (at : ℕ) (end : End) → marks ≡ before ++ record { at = at; kind = kind.End end } ∷ []
    → (standing_of program marks).latest ≡ at
last-latest program marks before at end last =
    ap (λ (all : List Mark). (standing_of program all).latest) last
    ∙ ap (λ (s : Standing). s.latest) (walk_push (after_mark program) (opening program) before (record { at = at; kind = kind.End end }))

-- the laws that the ranges rest on
pub record Laws : Type 0 where
  pub touch_units : UnitsTouchVariables
  pub touch_events : EventsTouchVariables
  pub opening : OpeningStoresHoldWords
  pub stay_units : UnitsStayInWords
  pub stay_events : EventsStayInWords
  pub facts : LegalHistoriesKeepEachFact

pub run-ranged : Laws → (mode : Mode) (run : Whole) (before : List Mark) → HasEnded mode run before → IsTold run → TellsNumbersInRange run before
run-ranged laws mode run before ended told =
    let program = run.program in
    let terms = terms_of program mode in
    let past = run.device.history in
    let postings = run.script.postings in
    let has_sizes = sizes program told.accepted told.formed in
    let effects = has-effects laws.touch_units laws.touch_events laws.stay_units laws.stay_events program has_sizes.arrays told.words in
    let fresh = ended.opened.fresh in
    let counted = run_counted ended.start run ended.end
    (record { finished = fresh.finished; clock = fresh.clock; steps = fresh.steps; marks = fresh.marks }) ended.ran in
    let time = times-within terms past.readings (opening program) (all_left postings) past.marks ended.legal.marks ended.in_turn in
    let clock_is = counted.clock in
    let steps = ended.limit in
    let within = told.within.run in
    let clock : run.device.clock ≤ greatest_number = omega (arith, clock_is, steps, time, within) in
    let limit = told.within.limit in
    let few : run.device.steps ≤ EXECUTOR_STEPS = omega (arith, steps, limit) in
    let tasks = within_more run.device.steps EXECUTOR_STEPS past.marks few counted.tasks in
    let posted = recursion_from_All (IsPosting program) postings told.script.postings in
    let latest : (standing_of program past.marks).latest ≡ run.device.clock = last-latest program past.marks before run.device.clock ended.end ended.last in
    let words = laws.opening program told.words in
    let all = marks-ranged terms past.readings postings effects told.within.postings run.device.clock clock past.marks posted ended.legal.marks
    ended.in_turn tasks (omega (arith, latest)) words in
    let same = lines-before past.marks before run.device.clock ended.end ended.last in
    let stand = (laws.facts terms past ended.legal).stand in
    let held = all.last.held in
    record {
      bound = bound-small program told.accepted has_sizes;
      only = ended.only;
      lines = subst (AllByRecursion (IsLine program)) same all.ranged.lines;
      kept = subst (AllByRecursion (HasReadings past.readings)) same (records-there past.readings past.marks counted.records);
      told = subst (λ (lines : List Line). AllByRecursion (IsReading program) (flat_map (own_readings past.readings) lines)) same all.ranged.told;
      values = λ word inside.
          let store : (stand_of program past).store word ≡ (standing_of program past.marks).run.store word = ap (λ (s : Stand). s.store word) stand in
          let is = all.last.words word in
          omega (arith, store, is);
      count = omega (arith, held, latest, clock);
    }
