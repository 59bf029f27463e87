-- What is read of a text is what it says, or its first bad line.
use Rattle.std.proofs.Common.{◌≡◌, ◌≢◌, ℕ, zero, suc, ◌+◌, ◌<◌, List, [], ◌∷◌, ◌++◌, Option, Some, None, Result, Ok, Err, length, take, drop, replicate, refl, sym, ap, subst, ◌∙◌, arith, append_assoc, inl, inr}
use Rattle.std.specs.Prelude.{◌⊎◌}
use Rattle.std.specs.List.{AllByRecursion}
use Rattle.std.specs.Option.{option_map_or}
use Rattle.std.proofs.lemmas.Bool.{cases_lt}
use Rattle.std.proofs.lemmas.List.{append-nil, length-append, length-replicate, take-append-drop, take-append-le, take_at}
use Rattle.std.proofs.lemmas.Option.{none-some, same_Some}
use Rattle.coati_text.specs.Line.{line_feed, lines_of}
use Rattle.coati_word.specs.declared.mode.Mode.{Mode}
use Rattle.coati_word.specs.declared.mode.Mode.TheVariants.{Split}
use Rattle.serial_log.specs.declared.printed.Printed.{Printed}
use Rattle.task_syntax.specs.declared.program.Program.{Program}
use Rattle.task_syntax.specs.declared.program.Var.{Var}
use Rattle.task_syntax.specs.Names.{word_count}
use Rattle.trace_out.specs.declared.fault.PrintFault.{PrintFault}
use Rattle.trace_out.specs.declared.fault.PrintFault.TheVariants.{BadLine}
use Rattle.trace_out.specs.declared.stage.Stage.{Stage}
use Rattle.trace_out.specs.declared.stage.Stage.TheVariants.{Nothing, Headed, Marked, Valued, Whole}
use Rattle.trace_out.specs.Front.{◌>>=◌}
use Rattle.trace_out.specs.Printed.{Begins, Breaks, IsBadLine, PrintedText, bound_line, held_line, lines_before_end, lines_before_held, mode_line, printed_lines, text_of, variable_lines}
use Rattle.trace_out.specs.Reading.{behind_line, ended_at, headed, lines_reading, reading}
use Rattle.trace_out.specs.Shown.{end_line}
use Rattle.trace_out.proofs.Binds.{bound}
use Rattle.trace_out.proofs.Ends.{lines_of-text, text-of-lines}
use Rattle.trace_out.proofs.FrameReads.{IsValue}
use Rattle.trace_out.proofs.InnerLines.{printed-ends, printed-inner}
use Rattle.trace_out.proofs.Layouts.{variable_lines-append, word_count-append}
use Rattle.trace_out.proofs.Stages.{IsStage, IsValued, all-joined, shown_lines, take-all}
use Rattle.trace_out.proofs.UnitReads.{IsNamed}
use Rattle.trace_out.proofs.Walks.{lines-led, walk, walk-behind, walk-shown}

-- the front of lines that are longer than others and go on alike
taken : (front : List (List ℕ)) (line : List ℕ) (more others behind : List (List ℕ)) → front
    ++ line ∷ more ≡ others ++ behind → length front < length others
    → take (length front + 1) others ≡ front ++ line ∷ []
taken front line more others behind same less =
    let counted : length (front ++ line ∷ []) ≡ length front + 1 = length-append front
    (line ∷ []) in
    sym (take-append-le (length front + 1) others behind (omega arith))
    ∙ ap (take (length front + 1)) (sym same ∙ sym (append_assoc front (line ∷ []) more))
    ∙ take_at (front ++ line ∷ []) more (length front + 1) counted

-- all values are 0
zeros-in_range : (count : ℕ) → AllByRecursion IsValue (replicate count 0)
zeros-in_range zero = tt
zeros-in_range (suc count) = (omega arith, zeros-in_range count)

module _ (program : Program) where
  -- fewer lines begin a text too
  begins-fewer : (front back : List (List ℕ)) → Begins program (front ++ back)
      → Begins program front
  begins-fewer front back is = record {
    printed = is.printed;
    printable = is.printable;
    more =
        back ++ is.more;
    lines = is.lines ∙ append_assoc front back is.more;
  }

  -- a text of the lines so far, of values 0, and of nothing else
  begins-valued : (printed : Printed) (number : ℕ) → IsValued program printed number
      → Begins program (lines_before_held program printed number)
  begins-valued printed number is =
      let front = take number program.vars in
      let back = drop number program.vars in
      let zeros = replicate (word_count back) 0 in
      let values = printed.values ++ zeros in
      let whole : Printed = record printed { values = values; held = 0 } in
      let before = lines_before_end program printed in
      let counted : length values ≡ word_count program.vars =
      let split : word_count (front ++ back) ≡ word_count program.vars = ap word_count
      (take-append-drop number program.vars) in
      omega (
        arith,
        length-append printed.values zeros,
        length-replicate {A = ℕ}
            (word_count back) 0,
        is.count,
        word_count-append front back,
        split,
      ) in
      let lines : variable_lines (take (length program.vars) program.vars) values
      ≡ variable_lines front printed.values ++ variable_lines back zeros =
      ap (λ (vars : List Var). variable_lines vars values) (take-all program.vars
      ∙ sym (take-append-drop number program.vars))
      ∙ variable_lines-append front back printed.values zeros is.count in
      record {
        printed = whole;
        printable = record {
          bound = is.marked.bound;
          lines = is.marked.lines;
          readings = is.marked.readings;
          order = is.marked.order;
          count = counted;
          values = all-joined IsValue printed.values zeros is.values
              (zeros-in_range (word_count back));
          held = omega arith;
        };
        more = variable_lines back zeros ++ held_line 0 ∷ [];
        lines =
            ap (λ (t : List (List ℕ)). before ++ end_line printed.end ∷ t
            ++ held_line 0 ∷ []) lines
            ∙ ap (λ (t : List (List ℕ)). t ++ held_line 0 ∷ [])
            (sym (append_assoc before
            (end_line printed.end ∷ variable_lines front printed.values)
            (variable_lines back zeros)))
            ∙ append_assoc (before ++ end_line printed.end ∷ variable_lines front printed.values)
            (variable_lines back zeros) (held_line 0 ∷ []);
      }

  begins-marked : (printed : Printed) → IsStage program (Marked printed) → Begins program
      (lines_before_end program printed)
  begins-marked printed is =
      let none : IsValued program printed 0 = record {
        marked = is.0;
        within = omega arith;
        count = ap length is.1;
        values = subst (AllByRecursion IsValue) (sym is.1) tt;
      } in
      begins-fewer (lines_before_end program printed) (end_line printed.end ∷ variable_lines
      (take 0 program.vars) printed.values) (begins-valued printed 0 none)

  begins-headed : (mode : Mode) → Begins program (mode_line mode ∷ bound_line 0 ∷ [])
  begins-headed mode = begins-marked (headed mode 0)
      (record { bound = omega arith; lines = tt; readings = tt; order = refl }, refl)

  -- each stage can be reached by a printed text
  begins-stage : (stage : Stage) → IsStage program stage → Begins program
      (shown_lines program stage)
  begins-stage Nothing is = begins-fewer [] (mode_line Split ∷ bound_line 0 ∷ [])
      (begins-headed Split)
  begins-stage (Headed mode) is = begins-fewer (mode_line mode ∷ []) (bound_line 0 ∷ [])
      (begins-headed mode)
  begins-stage (Marked printed) is = begins-marked printed is
  begins-stage (Valued printed number) is = begins-valued printed number is
  begins-stage (Whole printed) is = record {
    printed = printed;
    printable = is;
    more = [];
    lines =
        sym (append-nil (printed_lines program printed));
  }

  -- what stands behind the lines that were read
  abbrev Stops : Stage → List (List ℕ) → Type 0
  Stops at [] = (printed : Printed) → at ≢ Whole printed
  Stops at (text ∷ more) = behind_line program at text ≡ None

  -- where a reading stopped
  record IsStopped (number : ℕ) (stage : Stage) (lines : List (List ℕ))
      (fault : PrintFault) : Type 0 where
    front : List (List ℕ)
    rest : List (List ℕ)
    at : Stage
    led : walk program stage front ≡ Some at
    lines_are : lines ≡ front ++ rest
    counted : fault ≡ BadLine (number + length front)
    stops : Stops at rest

  -- what a reading of lines comes from
  abbrev Comes : ℕ → Stage → List (List ℕ) → Result Printed PrintFault → Type 0
  Comes number stage lines (Ok printed) = walk program stage lines ≡ Some (Whole printed)
  Comes number stage lines (Err fault) = IsStopped number stage lines fault

  ended-comes : (number : ℕ) (stage : Stage) → Comes number stage [] (ended_at number stage)
  ended-comes number Nothing = record {
    front = [];
    rest = [];
    at = Nothing;
    led = refl;
    lines_are = refl;
    counted = ap BadLine (let e : number ≡ number + 0 = omega arith in e);
    stops = λ printed e. cc;
  }
  ended-comes number (Headed mode) = record {
    front = [];
    rest = [];
    at = Headed mode;
    led = refl;
    lines_are = refl;
    counted = ap BadLine (let e : number ≡ number + 0 = omega arith in e);
    stops = λ printed e. cc;
  }
  ended-comes number (Marked told) = record {
    front = [];
    rest = [];
    at = Marked told;
    led = refl;
    lines_are = refl;
    counted = ap BadLine (let e : number ≡ number + 0 = omega arith in e);
    stops = λ printed e. cc;
  }
  ended-comes number (Valued told count) = record {
    front = [];
    rest = [];
    at = Valued told count;
    led = refl;
    lines_are = refl;
    counted = ap BadLine (let e : number ≡ number + 0 =
        omega arith in e);
    stops = λ printed e. cc;
  }
  ended-comes number (Whole printed) = refl

  -- one line, and those behind it
  line-comes : (number : ℕ) (stage : Stage) (text : List ℕ) (more : List (List ℕ))
      (o : Option Stage) → behind_line program stage text ≡ o
      → ((next : Stage) → Comes (number + 1) next more
      (lines_reading program (number + 1) next more))
      → Comes number stage (text ∷ more)
      (option_map_or (λ next. lines_reading program (number + 1) next more) o
      (Err (BadLine number)))
  line-comes number stage text more None was again =
      record {
        front = [];
        rest = text ∷ more;
        at = stage;
        led = refl;
        lines_are = refl;
        counted =
            ap BadLine (let e : number ≡ number + 0 = omega arith in e);
        stops = was;
      }
  line-comes number stage text more (Some next) was again =
      behind (lines_reading program (number + 1) next more) (again next) where
        behind : (read : Result Printed PrintFault) → Comes (number + 1) next more read
            → Comes number stage (text ∷ more) read
        behind (Ok printed) led = rw was led
        behind (Err fault) stopped = record {
          front = text ∷ stopped.front;
          rest = stopped.rest;
          at = stopped.at;
          led = rw was stopped.led;
          lines_are = ap (λ (t : List (List ℕ)). text ∷ t) stopped.lines_are;
          counted = stopped.counted ∙ ap BadLine (let e : number + 1 + length stopped.front
              ≡ number + suc (length stopped.front) = omega arith in e);
          stops = stopped.stops;
        }

  lines-come : (number : ℕ) (stage : Stage) (lines : List (List ℕ)) → Comes number stage lines
      (lines_reading program number stage lines)
  lines-come number stage [] = ended-comes number stage
  lines-come number stage (text ∷ more) = line-comes number stage text more
      (behind_line program stage text) refl (λ (next : Stage). lines-come (number + 1) next more)

  -- lines that lead to the end are read as what they say
  whole-read : (number : ℕ) (stage : Stage) (lines : List (List ℕ)) (printed : Printed)
      → walk program stage lines ≡ Some (Whole printed) → lines_reading program number stage lines
      ≡ Ok printed
  whole-read number stage [] printed led = ap (ended_at number)
      (same_Some stage (Whole printed) led)
  whole-read number stage (text ∷ more) printed led =
      let one = bound (behind_line program stage text) led in
      ap (λ (o : Option Stage). option_map_or (λ next. lines_reading program
      (number + 1) next more) o (Err (BadLine number))) one.was
      ∙ whole-read (number + 1) one.value more printed one.goes_on

  module _ (named : IsNamed program) where
    -- where a text says this, its lines are these
    printed-lines : (text : List ℕ) (printed : Printed) → PrintedText program text printed
        → lines_of text ≡ printed_lines program printed
    printed-lines text printed is = lines_of-text (printed_lines program printed) text
        (printed-inner program printed named is.printable) (printed-ends program printed) is.says

    -- a text is read as what it says
    pub printed-read : (text : List ℕ) (printed : Printed) → PrintedText program text printed
        → reading program text ≡ Ok printed
    printed-read text printed is =
        ap (lines_reading program 1 Nothing) (printed-lines text printed is)
        ∙ whole-read 1 Nothing (printed_lines program printed) printed
        (lines-led program named printed is.printable)

    -- what was read is what the text says
    pub read-printed : (text : List ℕ) (printed : Printed) → reading program text ≡ Ok printed
        → PrintedText program text printed
    read-printed text printed was =
        let led : walk program Nothing (lines_of text) ≡ Some (Whole printed) =
        subst (Comes 1 Nothing (lines_of text)) was (lines-come 1 Nothing (lines_of text)) in
        let shown = walk-shown program Nothing (Whole printed) (lines_of text) named tt led in
        record {
          printable = shown.0;
          says = subst (λ (lines : List (List ℕ)). (text ≡ text_of lines)
              ⊎ (text ++ line_feed ∷ [] ≡ text_of lines)) (sym shown.1) (text-of-lines text);
        }

    -- no text goes on behind the lines where a reading stopped
    stopped-breaks : (front rest : List (List ℕ)) (at : Stage) → walk program Nothing front
        ≡ Some at → Stops at rest → Breaks program front rest
    stopped-breaks front [] at led stops = λ printed printable are.
        let whole = lines-led program named printed printable in
        let same : Some at ≡ Some (Whole printed) = sym led ∙ ap (walk program Nothing) (sym are)
        ∙ whole in
        stops printed (same_Some at (Whole printed) same)
    stopped-breaks front (text ∷ more) at led stops = λ begins.
        let whole = lines-led program named begins.printed begins.printable in
        let lines : walk program Nothing (front ++ (text ∷ begins.more)) ≡ Some
        (Whole begins.printed) =
        ap (walk program Nothing) (sym (append_assoc front (text ∷ []) begins.more)
        ∙ sym begins.lines) ∙ whole in
        let stuck : walk program Nothing (front ++ (text ∷ begins.more)) ≡ None =
        walk-behind program Nothing at front (text ∷ begins.more) led
        ∙ ap (λ (o : Option Stage). o >>= λ (next : Stage).
        walk program next begins.more) stops in
        let none : None ≡ Some (Whole begins.printed) = sym stuck ∙ lines in
        none-some (Whole begins.printed) none

    -- a fault that was read is the first bad line
    pub read-fault : (text : List ℕ) (fault : PrintFault) → reading program text ≡ Err fault
        → (number : ℕ) × (fault ≡ BadLine number) × IsBadLine program text number
    read-fault text fault was =
        let stopped : IsStopped 1 Nothing (lines_of text) fault =
        subst (Comes 1 Nothing (lines_of text)) was (lines-come 1 Nothing (lines_of text)) in
        let shown = walk-shown program Nothing stopped.at stopped.front named tt stopped.led in (
          1 + length stopped.front,
          stopped.counted,
          record {
            front = stopped.front;
            rest = stopped.rest;
            lines = stopped.lines_are;
            counted = omega arith;
            begins = subst (Begins program) shown.1 (begins-stage stopped.at shown.0);
            breaks =
                stopped-breaks stopped.front stopped.rest stopped.at stopped.led stopped.stops;
          },
        )

  -- of two first bad lines neither stands before the other
  bad-not-before : (text : List ℕ) (one two : ℕ) → (first : IsBadLine program text one)
      → (second : IsBadLine program text two) → length first.front < length second.front → ⊥
  bad-not-before text one two first second less =
      let lines : first.front ++ first.rest ≡ second.front ++ second.rest = sym first.lines
      ∙ second.lines in
      longer first.front first.rest second.front second.rest lines less first.breaks
      second.begins where
        longer : (front rest others behind : List (List ℕ)) → front ++ rest ≡ others ++ behind
            → length front < length others → Breaks program front rest → Begins program others → ⊥
        longer front [] others behind same less breaks begins =
            absurd (omega (
              arith,
              ap length same,
              length-append front [],
              length-append others behind,
            ))
        longer front (line ∷ more) others behind same less breaks begins =
            let split : others ≡ front ++ line ∷ [] ++ drop (length front + 1) others =
            sym (take-append-drop (length front + 1) others)
            ∙ ap (λ (t : List (List ℕ)). t ++ drop (length front + 1) others)
            (taken front line more others behind same less) in
            breaks (begins-fewer (front ++ line ∷ []) (drop (length front + 1) others)
            (subst (Begins program) split begins))

  pub bad-line-one : (text : List ℕ) (one two : ℕ) → IsBadLine program text one
      → IsBadLine program text two → one ≡ two
  bad-line-one text one two first second =
      elim (cases_lt (length first.front) (length second.front)) [
        | inl less ↦ absurd (bad-not-before text one two first second less)
        | inr no_less ↦ elim (cases_lt (length second.front) (length first.front)) [
          | inl less ↦ absurd (bad-not-before text two one second first less)
          | inr same ↦ omega (arith, first.counted, second.counted)
        ]
      ]

  -- a text that says something has no bad line
  pub good-not-bad : IsNamed program → (text : List ℕ) (printed : Printed) (number : ℕ)
      → PrintedText program text printed → IsBadLine program text number → ⊥
  good-not-bad named text printed number is bad =
      let lines : printed_lines program printed ≡ bad.front ++ bad.rest =
      sym (printed-lines named text printed is) ∙ bad.lines in
      broken bad.front bad.rest lines bad.breaks where
        broken : (front rest : List (List ℕ)) → printed_lines program printed ≡ front ++ rest
            → Breaks program front rest → ⊥
        broken front [] lines breaks = breaks printed is.printable (lines ∙ append-nil front)
        broken front (line ∷ more) lines breaks =
            breaks (record {
              printed = printed;
              printable = is.printable;
              more = more;
              lines =
                  lines ∙ sym (append_assoc front (line ∷ []) more);
            })

  module _ (named : IsNamed program) where
    -- so is one that was read
    pub read-bad : (text : List ℕ) (number : ℕ) → reading program text ≡ Err (BadLine number)
        → IsBadLine program text number
    read-bad text number was =
        let read = read-fault named text (BadLine number) was in
        let fault : BadLine number ≡ BadLine read.0 = read.1 in
        let same : read.0 ≡ number = cc in
        subst (IsBadLine program text) same read.2

    -- and the first bad line is read
    pub bad-read : (text : List ℕ) (number : ℕ) → IsBadLine program text number
        → reading program text ≡ Err (BadLine number)
    bad-read text number bad = go (reading program text) refl where
      go : (read : Result Printed PrintFault) → reading program text ≡ read → read ≡ Err
          (BadLine number)
      go (Ok printed) was = absurd (good-not-bad named text printed number
          (read-printed named text printed was) bad)
      go (Err fault) was =
          let found = read-fault named text fault was in
          ap (λ (f : PrintFault). Err f) found.1 ∙ ap (λ (n : ℕ). Err (BadLine n))
          (bad-line-one text found.0 number found.2 bad)
