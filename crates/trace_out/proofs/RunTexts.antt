-- The text of a run is the printed text of what it shows.
use Rattle.std.proofs.Common.{◌≡◌, ℕ, zero, suc, ◌+◌, ◌<◌, ◌≤◌, List, [], ◌∷◌, ◌++◌, None, length, map, take, drop, refl, sym, ap, ◌∙◌, arith, append_assoc, inl, subst}
use Rattle.std.specs.Prelude.{codes, decimal, flat_map}
use Rattle.std.specs.List.{AllByRecursion}
use Rattle.std.proofs.lemmas.Grind.{flat_map-append}
use Rattle.std.proofs.lemmas.List.{append-nil, drop_at, length-append, length-drop, length-take, take_at}
use Rattle.coati_board.specs.Board.{end_of}
use Rattle.coati_word.specs.declared.mode.Mode.{Mode}
use Rattle.coati_word.specs.declared.reading.Reading.{Reading}
use Rattle.serial_log.specs.declared.end.End.{End}
use Rattle.serial_log.specs.declared.line.Line.{Line}
use Rattle.serial_log.specs.declared.line.Line.TheVariants as line
use Rattle.serial_log.specs.declared.mark.Mark.{Mark}
use Rattle.serial_log.specs.declared.mark.MarkKind.{MarkKind}
use Rattle.serial_log.specs.declared.mark.MarkKind.TheVariants as kind
use Rattle.serial_log.specs.declared.record.Record.{Record}
use Rattle.serial_log.specs.History.{readings_in}
use Rattle.serial_log.specs.Printed.{lines_of, shown_as}
use Rattle.task_syntax.specs.declared.program.Program.{Program}
use Rattle.task_syntax.specs.declared.program.Var.{Var}
use Rattle.task_syntax.specs.Course.{Store}
use Rattle.task_syntax.specs.Names.{count_of, word_count}
use Rattle.trace_out.specs.BoardText.{history_text, value_texts, variable_text, variable_texts}
use Rattle.trace_out.specs.Lines.{with_end}
use Rattle.trace_out.specs.Marks.{mark_lines, mark_text}
use Rattle.trace_out.specs.Printed.{AreInOrder, IsLine, IsPrintable, PrintedText, bound_line, greatest_value, held_line, lines_before_end, lines_before_held, mode_line, printed_lines, printed_text, text_of, value_text, variable_line, variable_lines}
use Rattle.trace_out.specs.Shown.{end_line, line_text}
use Rattle.trace_out.specs.ShownRun.{HasReadings, IsShowable, count_in, laid_from, own_readings, placed_at, shown_of, values_from}
use Rattle.trace_out.proofs.FrameReads.{IsValue}
use Rattle.trace_out.proofs.MarkReads.{own_text}
use Rattle.trace_out.proofs.Stages.{take-all}

-- the lines of marks, none of which is an End mark
marks-shown : (program : Program) (readings : List Reading) (marks : List Mark) → end_of marks
    ≡ None
    → mark_lines program readings marks ≡ text_of (map (line_text program readings)
    (lines_of marks))
marks-shown program readings [] only = refl
marks-shown program readings (mark ∷ more) only = of_kind mark.kind mark.at more only
    (marks-shown program readings more) where
      of_kind : (kind : MarkKind) (at : ℕ) (more : List Mark) → end_of
          (record { at = at; kind = kind } ∷ more) ≡ None
          → (end_of more ≡ None → mark_lines program readings more ≡ text_of
          (map (line_text program readings) (lines_of more)))
          → mark_text program readings at kind ++ mark_lines program readings more ≡ text_of
          (map (line_text program readings) (shown_as at kind ++ lines_of more))
      of_kind (kind.Boot number) at more only rest = ap (λ (t : List ℕ). mark_text program readings at
          (kind.Boot number) ++ t) (rest only)
      of_kind (kind.Posted posted) at more only rest =
          ap (λ (t : List ℕ). mark_text program readings at (kind.Posted posted) ++ t) (rest only)
      of_kind (kind.Done task) at more only rest = rest only
      of_kind (kind.Commit committed) at more only rest =
          ap (λ (t : List ℕ). mark_text program readings at (kind.Commit committed) ++ t) (rest only)
      of_kind (kind.Abort aborted) at more only rest =
          ap (λ (t : List ℕ). mark_text program readings at (kind.Abort aborted) ++ t) (rest only)
      of_kind (kind.End end) at more only rest = cc

-- how many readings a record has
pub own-counted : (all : List Reading) (shown : Line) → HasReadings all shown → length
    (own_readings all shown) ≡ count_in shown
own-counted all (line.Commit committed) has =
    omega (
      arith,
      length-take committed.reads_len (drop committed.reads_from all),
      length-drop committed.reads_from all,
    )
own-counted all (line.Boot number at) has = refl
own-counted all (line.Post at posted) has = refl
own-counted all (line.Abort aborted) has = refl

-- a line at another place shows its own readings
placed-shown : (program : Program) (all front rest : List Reading) (from : ℕ) (shown : Line)
    → length front ≡ from → HasReadings all shown
    → line_text program (front ++ (own_readings all shown ++ rest)) (placed_at from shown)
    ≡ line_text program all shown
placed-shown program all front rest from (line.Commit committed) counted has =
    let own = readings_in all committed in
    let placed : Record = record committed { reads_from = from } in
    let same : readings_in (front ++ (own ++ rest)) placed ≡ own =
    ap (take committed.reads_len) (drop_at front (own ++ rest) from counted)
    ∙ take_at own rest committed.reads_len (own-counted all (line.Commit committed) has) in
    ap (λ (r : List Reading). own_text program r (line.Commit committed)) same
placed-shown program all front rest from (line.Boot number at) counted has = refl
placed-shown program all front rest from (line.Post at posted) counted has = refl
placed-shown program all front rest from (line.Abort aborted) counted has = refl

-- so do lines
laid-shown : (program : Program) (all front : List Reading) (from : ℕ) (lines : List Line)
    → length front ≡ from → AllByRecursion (HasReadings all) lines
    → map (line_text program (front ++ flat_map (own_readings all) lines)) (laid_from from lines)
    ≡ map (line_text program all) lines
laid-shown program all front from [] counted has = refl
laid-shown program all front from (shown ∷ more) counted has =
    let own = own_readings all shown in
    let rest = flat_map (own_readings all) more in
    let next : length (front ++ own) ≡ from + count_in shown =
    omega (arith, length-append front own, own-counted all shown has.0, counted) in
    ap (λ (t : List ℕ). t ∷ map (line_text program (front ++ (own ++ rest)))
    (laid_from (from + count_in shown) more))
    (placed-shown program all front rest from shown counted has.0)
    ∙ ap (λ (t : List (List ℕ)). line_text program all shown ∷ t)
    (ap (λ (r : List Reading). map (line_text program r) (laid_from (from + count_in shown) more))
    (sym (append_assoc front own rest))
    ∙ laid-shown program all (front ++ own) (from + count_in shown) more next has.1)

laid-order : (all : List Reading) (from end : ℕ) (lines : List Line) → AllByRecursion
    (HasReadings all) lines → end ≡ from + length (flat_map (own_readings all) lines)
    → AreInOrder from (laid_from from lines) end
laid-order all from end [] has counted = omega (arith, counted)
laid-order all from end (shown ∷ more) has counted =
    let own = own_readings all shown in
    let rest = flat_map (own_readings all) more in
    let next : end ≡ from + count_in shown + length rest =
    omega (arith, counted, length-append own rest, own-counted all shown has.0) in
    of_line shown (laid-order all (from + count_in shown) end more has.1 next) where
      of_line : (shown : Line) → AreInOrder (from + count_in shown)
          (laid_from (from + count_in shown) more) end → AreInOrder from
          (placed_at from shown ∷ laid_from (from + count_in shown) more) end
      of_line (line.Commit committed) order = (refl, order)
      of_line (line.Boot number at) order = let e : from + 0 ≡ from = omega arith in subst
          (λ (n : ℕ). AreInOrder n (laid_from (from + 0) more) end) e order
      of_line (line.Post at posted) order = let e : from + 0 ≡ from = omega arith in subst
          (λ (n : ℕ). AreInOrder n (laid_from (from + 0) more) end) e order
      of_line (line.Abort aborted) order = let e : from + 0 ≡ from = omega arith in subst
          (λ (n : ℕ). AreInOrder n (laid_from (from + 0) more) end) e order

laid-lines : (program : Program) (from : ℕ) (lines : List Line) → AllByRecursion
    (IsLine program) lines → AllByRecursion (IsLine program) (laid_from from lines)
laid-lines program from [] are = tt
laid-lines program from (line.Commit committed ∷ more) are = (
  record { unit = are.0.unit; counted = are.0.counted },
  laid-lines program
      (from + committed.reads_len) more are.1,
)
laid-lines program from (line.Boot number at ∷ more) are =
    (are.0, laid-lines program (from + 0) more are.1)
laid-lines program from (line.Post at posted ∷ more) are =
    (are.0, laid-lines program (from + 0) more are.1)
laid-lines program from (line.Abort aborted ∷ more) are =
    (are.0, laid-lines program (from + 0) more are.1)

-- the values of words
pub length-values : (word count : ℕ) (store : Store) → length (values_from word count store) ≡ count
length-values word zero store = refl
length-values word (suc count) store = ap suc (length-values (suc word) count store)

values-joined : (word count more : ℕ) (store : Store) → values_from word (count + more) store
    ≡ values_from word count store ++ values_from (word + count) more store
values-joined word zero more store =
    let none : zero + more ≡ more = omega arith in
    let same : word ≡ word + zero = omega arith in
    ap (λ (n : ℕ). values_from word n store) none ∙ ap (λ (w : ℕ). values_from w more store) same
values-joined word (suc count) more store =
    let next : suc count + more ≡ suc (count + more) = omega arith in
    let same : suc word + count ≡ word + suc count = omega arith in
    ap (λ (n : ℕ). values_from word n store) next
    ∙ ap (λ (v : List ℕ). store word ∷ v) (values-joined (suc word) count more store
    ∙ ap (λ (w : ℕ). values_from (suc word) count store ++ values_from w more store) same)

values-in_range : (word count : ℕ) (store : Store) → ((w : ℕ) → w < word + count → store w
    ≤ greatest_value) → AllByRecursion IsValue (values_from word count store)
values-in_range word zero store small = tt
values-in_range word (suc count) store small = (
  small word (omega arith),
  values-in_range
      (suc word) count store (λ w below. small w (omega arith)),
)

values-shown : (word count : ℕ) (store : Store) → value_texts word count store
    ≡ flat_map value_text (values_from word count store)
values-shown word zero store = refl
values-shown word (suc count) store = ap (λ (t : List ℕ). value_text (store word) ++ t)
    (values-shown (suc word) count store)

variables-shown : (word : ℕ) (vars : List Var) (store : Store) → variable_texts word vars store
    ≡ text_of (variable_lines vars (values_from word (word_count vars) store))
variables-shown word [] store = refl
variables-shown word (var ∷ more) store =
    let count = count_of var.length in
    let own = values_from word count store in
    let rest = values_from (word + count) (word_count more) store in
    let all = values_from word (count + word_count more) store in
    let joined : all ≡ own ++ rest = values-joined word count (word_count more) store in
    let first : take count all ≡ own = ap (take count) joined ∙ take_at own rest count
    (length-values word count store) in
    let left : drop count all ≡ rest = ap (drop count) joined ∙ drop_at own rest count
    (length-values word count store) in
    let here : variable_text word var store ≡ with_end (variable_line var (take count all)) =
    ap (λ (t : List ℕ). with_end (codes "var " ++ var.name.text ++ t))
    (values-shown word count store ∙ ap (flat_map value_text) (sym first)) in
    ap (λ (t : List ℕ). t ++ variable_texts (word + count) more store) here
    ∙ ap (λ (t : List ℕ). with_end (variable_line var (take count all)) ++ t)
    (variables-shown (word + count) more store
    ∙ ap (λ (v : List ℕ). text_of (variable_lines more v)) (sym left))

-- the texts of lines, joined
joined-texts : (head bound marks vars held : List ℕ) (end : List ℕ) → head ++ bound
    ++ (marks ++ (end ++ [])) ++ vars ++ held ≡ (head ++ (bound ++ marks)) ++ (end ++ vars)
    ++ (held ++ [])
joined-texts head bound marks vars held end = simp (append_assoc, append-nil)

pub run-text : (program : Program) (mode : Mode) (before : List Mark) (readings : List Reading)
    (at : ℕ) (end : End) (store : Store) (held : ℕ) → IsShowable program before readings store held
    → history_text program mode
    (before ++ record { at = at; kind = kind.End end } ∷ []) readings store held
    ≡ printed_text program (shown_of program mode before readings end store held)
run-text program mode before readings at end store held is =
    let shown = shown_of program mode before readings end store held in
    let last : Mark = record { at = at; kind = kind.End end } in
    let head = with_end (mode_line mode) in
    let bound = with_end (bound_line shown.bound) in
    let ended = with_end (end_line end) in
    let marks = text_of (map (line_text program readings) (lines_of before)) in
    let laid = text_of (map (line_text program shown.readings) shown.lines) in
    let vars = variable_texts 0 program.vars store in
    let vars_laid = text_of
    (variable_lines (take (length program.vars) program.vars) shown.values) in
    let told = with_end (held_line held) in
    let one : mark_lines program readings (before ++ last ∷ []) ≡ marks ++ (ended ++ []) =
    flat_map-append (λ (mark : Mark). mark_text program readings mark.at mark.kind) before
    (last ∷ [])
    ∙ ap (λ (t : List ℕ). t ++ (ended ++ [])) (marks-shown program readings before is.only) in
    let two : marks ≡ laid =
    ap text_of (sym (laid-shown program readings [] 0 (lines_of before) refl is.kept)) in
    let three : vars ≡ vars_laid = variables-shown 0 program.vars store
    ∙ ap (λ (v : List Var). text_of (variable_lines v shown.values))
    (sym (take-all program.vars)) in
    let four : (head ++ (bound ++ laid)) ++ (ended ++ vars_laid) ++ (told ++ [])
    ≡ printed_text program shown =
    ap (λ (t : List ℕ). t ++ (told ++ []))
    (sym (flat_map-append with_end (lines_before_end program shown)
    (end_line end ∷ variable_lines (take (length program.vars) program.vars) shown.values)))
    ∙ sym (flat_map-append with_end (lines_before_held program shown (length program.vars))
    (held_line held ∷ [])) in
    ap (λ (t : List ℕ). head ++ bound ++ t ++ vars ++ told)
    (one ∙ ap (λ (t : List ℕ). t ++ (ended ++ [])) two)
    ∙ ap (λ (t : List ℕ). head ++ bound ++ (laid ++ (ended ++ [])) ++ t ++ told) three
    ∙ joined-texts head bound laid vars_laid told ended ∙ four

pub run-printed : (program : Program) (mode : Mode) (before : List Mark) (readings : List Reading)
    (at : ℕ) (end : End) (store : Store) (held : ℕ) → IsShowable program before readings store held
    → PrintedText program (history_text program mode
    (before ++ record { at = at; kind = kind.End end } ∷ []) readings store held)
    (shown_of program mode before readings end store held)
run-printed program mode before readings at end store held is = record {
  printable = record {
    bound = is.bound;
    lines = laid-lines program 0 (lines_of before) is.lines;
    readings = is.told;
    order = laid-order readings 0 (length (flat_map (own_readings readings) (lines_of before)))
        (lines_of before) is.kept (omega arith);
    count = length-values 0 (word_count program.vars) store;
    values = values-in_range 0 (word_count program.vars) store
        (λ word below. is.values word (omega (arith, below)));
    held = is.count;
  };
  says = inl (run-text program mode before readings at end store held is);
}
