-- How far lines have got: what they have shown, and how they go on.
use Rattle.std.proofs.Common.{◌≡◌, ℕ, zero, suc, ◌+◌, ◌≤◌, List, [], ◌∷◌, ◌++◌, map, Some, None, length, take, refl, sym, ap, subst, ◌∙◌, inl, inr, arith, append_assoc}
use Rattle.std.specs.Prelude.{slice_get}
use Rattle.std.specs.List.{AllByRecursion}
use Rattle.std.proofs.lemmas.List.{append-nil, length-append, map-append, take_at}
use Rattle.std.proofs.lemmas.Option.{same_Some, slice_get_within}
use Rattle.serial_log.specs.declared.end.End.{End}
use Rattle.serial_log.specs.declared.printed.Printed.{Printed}
use Rattle.task_syntax.specs.declared.program.Program.{Program}
use Rattle.task_syntax.specs.declared.program.Var.{Var}
use Rattle.task_syntax.specs.Names.{word_count}
use Rattle.trace_out.specs.declared.shown.Shown.{Shown}
use Rattle.trace_out.specs.declared.stage.Stage.{Stage}
use Rattle.trace_out.specs.declared.stage.Stage.TheVariants.{Nothing, Headed, Marked, Valued, Whole}
use Rattle.trace_out.specs.LineReading.{bound_in, end_in, held_in, mark_in, mode_in, values_in}
use Rattle.trace_out.specs.Printed.{AreInOrder, IsLine, IsPrintable, IsReading, bound_line, greatest_number, held_line, lines_before_end, lines_before_held, mode_line, printed_lines, variable_lines}
use Rattle.trace_out.specs.Reading.{behind_line, with_shown}
use Rattle.trace_out.specs.Shown.{end_line, line_text}
use Rattle.trace_out.proofs.Binds.{made, chosen}
use Rattle.trace_out.proofs.FrameReads.{IsValue, bound_in-parts, end_in-parts, held_in-parts, mode_in-parts, values_in-parts}
use Rattle.trace_out.proofs.Layouts.{line-added, lines-stay, order-more, variable_lines-append, variable_lines-one, word_count-append}
use Rattle.trace_out.proofs.MarkReads.{mark_in-parts}
use Rattle.trace_out.proofs.UnitReads.{IsNamed}

-- the lines that lead to a stage
abbrev pub shown_lines : Program → Stage → List (List ℕ)
shown_lines program Nothing = []
shown_lines program (Headed mode) = mode_line mode ∷ []
shown_lines program (Marked printed) = lines_before_end program printed
shown_lines program (Valued printed number) = lines_before_held program printed number
shown_lines program (Whole printed) = printed_lines program printed

-- all is as a printable text has it, up to the marks
pub record IsMarked (program : Program) (printed : Printed) : Type 0 where
  pub bound : printed.bound ≤ greatest_number
  pub lines : AllByRecursion (IsLine program) printed.lines
  pub readings : AllByRecursion (IsReading program) printed.readings
  pub order : AreInOrder 0 printed.lines (length printed.readings)

-- and up to the values of so many variables
pub record IsValued (program : Program) (printed : Printed) (number : ℕ) : Type 0 where
  pub marked : IsMarked program printed
  pub within : number ≤ length program.vars
  pub count : length printed.values ≡ word_count (take number program.vars)
  pub values : AllByRecursion IsValue printed.values

abbrev pub IsStage : Program → Stage → Type 0
IsStage program Nothing = Unit {0}
IsStage program (Headed mode) = Unit {0}
IsStage program (Marked printed) = IsMarked program printed × (printed.values ≡ [])
IsStage program (Valued printed number) = IsValued program printed number
IsStage program (Whole printed) = IsPrintable program printed

-- a fact of each of two lists, joined
pub all-joined : {X : Type 0} (P : X → Type 0) (xs ys : List X) → AllByRecursion P xs
    → AllByRecursion P ys → AllByRecursion P (xs ++ ys)
all-joined P [] ys one two = two
all-joined P (x ∷ xs) ys one two = (one.0, all-joined P xs ys one.1 two)

-- one element more
take-one : {X : Type 0} (xs : List X) (number : ℕ) (x : X) → slice_get xs number ≡ Some x
    → take (number + 1) xs ≡ take number xs ++ x ∷ []
take-one [] number x got = cc
take-one (y ∷ xs) zero x got = ap (λ z. z ∷ []) (same_Some y x got)
take-one (y ∷ xs) (suc number) x got =
    let next : suc number + 1 ≡ suc (number + 1) = omega arith in
    rw next (ap (λ zs. y ∷ zs) (take-one xs number x got))

-- a stage that was reached by one more line
pub record IsNext (program : Program) (stage : Stage) (text : List ℕ) (next : Stage) : Type 0 where
  pub is : IsStage program next
  pub shown : shown_lines program next ≡ shown_lines program stage ++ text ∷ []

-- behind a mark
mark-next : (program : Program) (printed : Printed) (text : List ℕ) (shown : Shown)
    → IsNamed program → IsStage program (Marked printed)
    → mark_in program (length printed.readings) text ≡ Some shown → IsNext program
    (Marked printed) text (Marked (with_shown printed shown))
mark-next program printed text shown named is read =
    let at = mark_in-parts program (length printed.readings) text shown named read in
    let all = printed.readings ++ shown.readings in
    let marked = is.0 in
    let texts : map (line_text program all) (printed.lines ++ shown.line ∷ []) ≡ map
    (line_text program printed.readings) printed.lines ++ text ∷ [] =
    map-append (line_text program all) printed.lines (shown.line ∷ [])
    ∙ ap (λ (t : List (List ℕ)). t ++ line_text program all shown.line ∷ [])
    (lines-stay program printed.readings shown.readings 0 printed.lines marked.order)
    ∙ ap (λ (t : List ℕ). map (line_text program printed.readings) printed.lines ++ t ∷ [])
    (line-added program printed.readings shown.readings shown.line at.placed
    ∙ sym at.spelled) in
    record {
      is = (
        record {
          bound = marked.bound;
          lines = all-joined (IsLine program) printed.lines (shown.line ∷ []) marked.lines
              (at.is, tt);
          readings =
              all-joined
              (IsReading program) printed.readings shown.readings marked.readings at.readings;
          order = subst (AreInOrder 0 (printed.lines ++ shown.line ∷ []))
              (sym (length-append printed.readings shown.readings))
              (order-more 0
              (length printed.readings) printed.lines shown.line shown.readings marked.order
              at.placed);
        },
        is.1,
      );
      shown = ap (λ (t : List (List ℕ)).
          mode_line printed.mode ∷ bound_line printed.bound ∷ t) texts;
    }

-- behind the end line
end-next : (program : Program) (printed : Printed) (text : List ℕ) (x : End) → IsStage program
    (Marked printed) → end_in text ≡ Some x
    → IsNext program (Marked printed) text (Valued (record printed { end = x }) 0)
end-next program printed text x is read = record {
  is = record {
    marked = record {
      bound = is.0.bound;
      lines = is.0.lines;
      readings = is.0.readings;
      order =
          is.0.order;
    };
    within = omega arith;
    count = ap length is.1;
    values = subst (AllByRecursion IsValue) (sym is.1) tt;
  };
  shown = ap (λ (t : List ℕ). lines_before_end program printed ++ t ∷ [])
      (sym (end_in-parts text x read));
}

-- behind the line of a variable
values-next : (program : Program) (printed : Printed) (number : ℕ) (text : List ℕ) (var : Var)
    (values : List ℕ) → IsValued program printed number
    → slice_get program.vars number ≡ Some var → values_in var text ≡ Some values
    → IsNext program (Valued printed number) text
    (Valued (record printed { values = printed.values ++ values }) (number + 1))
values-next program printed number text var values is got read =
    let at = values_in-parts var text values read in
    let more = take-one program.vars number var got in
    let within = slice_get_within program.vars number var got in
    let before = lines_before_end program printed in
    let lines : variable_lines (take (number + 1) program.vars) (printed.values ++ values)
    ≡ variable_lines (take number program.vars) printed.values ++ text ∷ [] =
    ap (λ (vars : List Var). variable_lines vars (printed.values ++ values)) more
    ∙ variable_lines-append (take number program.vars) (var ∷ []) printed.values values is.count
    ∙ ap (λ (t : List (List ℕ)). variable_lines (take number program.vars) printed.values ++ t)
    (variable_lines-one var values at.counted)
    ∙ ap (λ (t : List ℕ). variable_lines (take number program.vars) printed.values ++ t ∷ [])
    (sym at.spelled) in
    record {
      is = record {
        marked = record {
          bound = is.marked.bound;
          lines = is.marked.lines;
          readings =
              is.marked.readings;
          order = is.marked.order;
        };
        within = omega (arith, within);
        count = omega (
          arith,
          length-append printed.values values,
          is.count,
          at.counted,
          ap word_count more,
          word_count-append (take number program.vars) (var ∷ []),
        );
        values = all-joined IsValue printed.values values is.values at.are;
      };
      shown =
          ap (λ (t : List (List ℕ)). before ++ end_line printed.end ∷ t) lines
          ∙ sym (append_assoc before (end_line printed.end ∷ variable_lines
          (take number program.vars) printed.values) (text ∷ []));
    }

-- where no variable has a number, it is that of all
slice_get-past : {X : Type 0} (xs : List X) (number : ℕ) → slice_get xs number ≡ None → length xs
    ≤ number
slice_get-past [] number none = omega arith
slice_get-past (x ∷ xs) zero none = cc
slice_get-past (x ∷ xs) (suc number) none = omega (arith, slice_get-past xs number none)

pub take-all : {X : Type 0} (xs : List X) → take (length xs) xs ≡ xs
take-all xs = ap (take (length xs)) (sym (append-nil xs)) ∙ take_at xs [] (length xs) refl

-- behind the last line
held-next : (program : Program) (printed : Printed) (number : ℕ) (text : List ℕ) (held : ℕ)
    → IsValued program printed number
    → slice_get program.vars number ≡ None → held_in text ≡ Some held → IsNext program
    (Valued printed number) text (Whole (record printed { held = held }))
held-next program printed number text held is none read =
    let at = held_in-parts text held read in
    let past = slice_get-past program.vars number none in
    let all : number ≡ length program.vars = omega (arith, past, is.within) in
    let counted : word_count (take number program.vars) ≡ word_count program.vars =
    ap (λ (n : ℕ). word_count (take n program.vars)) all ∙ ap word_count (take-all program.vars) in
    record {
      is = record {
        bound = is.marked.bound;
        lines = is.marked.lines;
        readings = is.marked.readings;
        order = is.marked.order;
        count = is.count ∙ counted;
        values = is.values;
        held = at.within;
      };
      shown =
          ap (λ (n : ℕ). lines_before_held program printed n ++ held_line held ∷ []) (sym all)
          ∙ ap (λ (t : List ℕ). lines_before_held program printed number ++ t ∷ [])
          (sym at.spelled);
    }

-- any line that has an allowed form leads on
pub next-shown : (program : Program) (stage : Stage) (text : List ℕ) (next : Stage)
    → IsNamed program → IsStage program stage
    → behind_line program stage text ≡ Some next → IsNext program stage text next
next-shown program Nothing text next named is read =
    let one = made (mode_in text) read in
    subst (IsNext program Nothing text) one.is
    (record {
      is = tt;
      shown = ap (λ (t : List ℕ). t ∷ [])
          (sym (mode_in-parts text one.value one.was));
    })
next-shown program (Headed mode) text next named is read =
    let one = made (bound_in text) read in
    let at = bound_in-parts text one.value one.was in
    subst (IsNext program (Headed mode) text) one.is (record {
      is = (record { bound = at.within; lines = tt; readings = tt; order = refl }, refl);
      shown = ap (λ (t : List ℕ). mode_line mode ∷ t ∷ []) (sym at.spelled);
    })
next-shown program (Marked printed) text next named is read = elim (chosen (end_in text) read) [
  | inl end ↦ subst (IsNext program (Marked printed) text) (same_Some _ next end.goes_on)
      (end-next program printed text end.value is end.was)
  | inr none ↦
      let one = made (mark_in program (length printed.readings) text) none.goes_on in
      subst (IsNext program (Marked printed) text) one.is
      (mark-next program printed text one.value named is one.was)
]
next-shown program (Valued printed number) text next named is read =
    elim (chosen (slice_get program.vars number) read) [
      | inl var ↦
          let one = made (values_in var.value text) var.goes_on in
          subst (IsNext program (Valued printed number) text) one.is
          (values-next program printed number text var.value one.value is var.was one.was)
      | inr none ↦
          let one = made (held_in text) none.goes_on in
          subst (IsNext program (Valued printed number) text) one.is
          (held-next program printed number text one.value is none.was one.was)
    ]
next-shown program (Whole printed) text next named is read = cc
