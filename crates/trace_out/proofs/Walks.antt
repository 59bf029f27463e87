-- Lines that are read from stage to stage, and that the lines of a printable text lead to its end.
use Rattle.std.proofs.Common.{◌≡◌, ℕ, zero, suc, ◌+◌, ◌≤◌, List, [], ◌∷◌, ◌++◌, map, Option, Some, None, length, take, drop, refl, sym, ap, subst, ◌∙◌, arith, append_assoc}
use Rattle.std.specs.Prelude.{slice_get}
use Rattle.std.specs.List.{AllByRecursion}
use Rattle.std.proofs.Math.Seq.{take-add}
use Rattle.std.proofs.lemmas.List.{append-nil, length-append, length-take, length-drop, take-append-drop}
use Rattle.std.proofs.lemmas.Option.{same_Some, slice_get_past}
use Rattle.coati_word.specs.declared.reading.Reading.{Reading}
use Rattle.serial_log.specs.declared.end.End.TheVariants as end
use Rattle.serial_log.specs.declared.line.Line.{Line}
use Rattle.serial_log.specs.declared.line.Line.TheVariants as line
use Rattle.serial_log.specs.declared.printed.Printed.{Printed}
use Rattle.task_syntax.specs.declared.program.Program.{Program}
use Rattle.task_syntax.specs.declared.program.Var.{Var}
use Rattle.task_syntax.specs.Names.{count_of, word_count}
use Rattle.trace_out.specs.declared.stage.Stage.{Stage}
use Rattle.trace_out.specs.declared.stage.Stage.TheVariants.{Nothing, Marked, Valued, Whole}
use Rattle.trace_out.specs.Front.{◌>>=◌}
use Rattle.trace_out.specs.LineReading.{mark_in}
use Rattle.trace_out.specs.Printed.{AreInOrder, IsLine, IsPrintable, IsReading, held_line, lines_before_end, lines_before_held, printed_lines, variable_line, variable_lines}
use Rattle.trace_out.specs.Reading.{behind_line}
use Rattle.trace_out.specs.Shown.{end_line, line_text}
use Rattle.trace_out.proofs.Binds.{bound}
use Rattle.trace_out.proofs.FrameReads.{IsValue, bound_in-again, end_in-again, end_in-mark, held_in-again, mode_in-again, values_in-again}
use Rattle.trace_out.specs.ShownRun.{count_in, own_readings}
use Rattle.trace_out.proofs.Layouts.{line_text-own, order-first, order-rises}
use Rattle.trace_out.proofs.Lists.{nil_from_length}
use Rattle.trace_out.proofs.MarkReads.{IsPlaced, mark_in-again, own_text}
use Rattle.trace_out.proofs.Stages.{IsStage, next-shown, shown_lines, take-all}
use Rattle.trace_out.proofs.UnitReads.{IsNamed}

module _ (program : Program) where
  -- the stage behind these lines, if each has an allowed form
  abbrev pub walk : Stage → List (List ℕ) → Option Stage
  walk stage [] = Some stage
  walk stage (text ∷ more) = behind_line program stage text >>= λ next. walk next more

  -- one line, and lines behind it
  behind-either : (o : Option Stage) (more back : List (List ℕ))
      → ((next : Stage) → walk next (more ++ back) ≡ (walk next more >>= λ last. walk last back))
      → (o >>= λ next. walk next (more ++ back)) ≡ ((o >>= λ next. walk next more) >>= λ last.
      walk last back)
  behind-either None more back again = refl
  behind-either (Some next) more back again = again next

  -- lines behind lines
  pub walk-append : (stage : Stage) (front back : List (List ℕ)) → walk stage (front ++ back)
      ≡ (walk stage front >>= λ next. walk next back)
  walk-append stage [] back = refl
  walk-append stage (text ∷ more) back = behind-either (behind_line program stage text) more back
      (λ (next : Stage). walk-append next more back)

  -- what leads on
  pub walk-behind : (stage next : Stage) (front back : List (List ℕ)) → walk stage front
      ≡ Some next → walk stage (front ++ back) ≡ walk next back
  walk-behind stage next front back led = walk-append stage front back
      ∙ ap (λ (o : Option Stage). o >>= λ (s : Stage). walk s back) led

  -- lines lead to what they have shown
  pub walk-shown : (stage next : Stage) (lines : List (List ℕ)) → IsNamed program
      → IsStage program stage → walk stage lines ≡ Some next
      → IsStage program next × (shown_lines program next ≡ shown_lines program stage ++ lines)
  walk-shown stage next [] named is led =
      let same = same_Some stage next led in (
        subst (IsStage program) same is,
        ap (shown_lines program) (sym same)
            ∙ sym (append-nil (shown_lines program stage)),
      )
  walk-shown stage next (text ∷ more) named is led =
      let one = bound (behind_line program stage text) led in
      let first = next-shown program stage text one.value named is one.was in
      let rest = walk-shown one.value next more named first.is one.goes_on in (
        rest.0,
        rest.1 ∙ ap (λ (t : List (List ℕ)). t ++ more) first.shown ∙ append_assoc
            (shown_lines program stage) (text ∷ []) more,
      )

-- what was told of a text before its end line
abbrev marked_at : Printed → List Line → ℕ → Printed
marked_at printed lines from = record {
  mode = printed.mode;
  bound = printed.bound;
  lines = lines;
  readings = take from printed.readings;
  end = end.Idle;
  values = [];
  held = 0;
}

-- the readings of a line in order
own-placed : (all : List Reading) (from end : ℕ) (shown : Line) (more : List Line)
    → AreInOrder from (shown ∷ more) end → end ≤ length all
    → IsPlaced from shown (own_readings all shown) × (take from all ++ own_readings all shown
    ≡ take (from + count_in shown) all)
own-placed all from end (line.Commit committed) more order within =
    let rises = order-rises (from + committed.reads_len) end more order.1 in
    let begin = order.0 in
    let counted : length (own_readings all (line.Commit committed)) ≡ committed.reads_len =
    omega (
      arith,
      length-take committed.reads_len (drop committed.reads_from all),
      length-drop committed.reads_from all,
    ) in (
      (begin, sym counted),
      ap (λ (n : ℕ). take from all ++ take committed.reads_len (drop n all)) begin
          ∙ sym (take-add from committed.reads_len all),
    )
own-placed all from end (line.Boot number at) more order within = (
  refl,
  append-nil (take from all) ∙ ap (λ (n : ℕ). take n all) (let e : from ≡ from + 0 =
      omega arith in e),
)
own-placed all from end (line.Post at posted) more order within = (
  refl,
  append-nil (take from all) ∙ ap (λ (n : ℕ). take n all) (let e : from ≡ from + 0 =
      omega arith in e),
)
own-placed all from end (line.Abort aborted) more order within = (
  refl,
  append-nil (take from all) ∙ ap (λ (n : ℕ). take n all) (let e : from ≡ from + 0 =
      omega arith in e),
)

pub all-take : {X : Type 0} (P : X → Type 0) (count : ℕ) (xs : List X) → AllByRecursion P xs
    → AllByRecursion P (take count xs)
all-take P zero xs all = tt
all-take P (suc count) [] all = tt
all-take P (suc count) (x ∷ xs) all = (all.0, all-take P count xs all.1)

pub all-drop : {X : Type 0} (P : X → Type 0) (count : ℕ) (xs : List X) → AllByRecursion P xs
    → AllByRecursion P (drop count xs)
all-drop P zero xs all = all
all-drop P (suc count) [] all = tt
all-drop P (suc count) (x ∷ xs) all = all-drop P count xs all.1

pub own-readings : (program : Program) (all : List Reading) (shown : Line) → AllByRecursion
    (IsReading program) all → AllByRecursion (IsReading program) (own_readings all shown)
own-readings program all (line.Commit committed) are =
    all-take (IsReading program) committed.reads_len (drop committed.reads_from all)
    (all-drop (IsReading program) committed.reads_from all are)
own-readings program all (line.Boot number at) are = tt
own-readings program all (line.Post at posted) are = tt
own-readings program all (line.Abort aborted) are = tt

-- the element behind others
slice_get-next : {X : Type 0} (front : List X) (x : X) (more : List X) → slice_get
    (front ++ x ∷ more) (length front) ≡ Some x
slice_get-next [] x more = refl
slice_get-next (y ∷ front) x more = slice_get-next front x more

module _ (program : Program) (named : IsNamed program) (printed : Printed)
    (printable : IsPrintable program printed) where
  -- one mark leads on
  mark-led : (done : List Line) (shown : Line) (more : List Line) (from end : ℕ) → AreInOrder from
      (shown ∷ more) end → end ≤ length printed.readings → IsLine program shown
      → behind_line program (Marked (marked_at printed done from))
      (line_text program printed.readings shown)
      ≡ Some (Marked (marked_at printed (done ++ shown ∷ []) (from + count_in shown)))
  mark-led done shown more from end order within is =
      let all = printed.readings in
      let reads = own_readings all shown in
      let own = own-placed all from end shown more order within in
      let rises = order-rises (from + count_in shown) end more
      (order-first from end shown more order) in
      let counted : length (take from all) ≡ from = omega (arith, length-take from all) in
      let none = end_in-mark program reads shown in
      let read : mark_in program (length (take from all)) (own_text program reads shown) ≡ Some
      (record { line = shown; readings = reads }) =
      ap (λ (n : ℕ). mark_in program n (own_text program reads shown)) counted
      ∙ mark_in-again program from shown reads named is
      (own-readings program all shown printable.readings) own.0 in
      ap (behind_line program (Marked (marked_at printed done from)))
      (line_text-own program all shown)
      ∙ rw (none, read) (ap (λ (r : List Reading). Some
      (Marked (record (marked_at printed (done ++ shown ∷ []) 0) { readings = r }))) own.1)

  -- so do all
  marks-led : (done more : List Line) (from end : ℕ) → AreInOrder from more end → end
      ≤ length printed.readings → AllByRecursion (IsLine program) more
      → walk program (Marked (marked_at printed done from))
      (map (line_text program printed.readings) more) ≡ Some
      (Marked (marked_at printed (done ++ more) end))
  marks-led done [] from end order within are =
      ap (λ (lines : List Line). Some (Marked (marked_at printed lines from)))
      (sym (append-nil done))
      ∙ ap (λ (n : ℕ). Some (Marked (marked_at printed (done ++ []) n))) order
  marks-led done (shown ∷ more) from end order within are =
      let rest = marks-led (done ++ shown ∷ []) more (from + count_in shown) end
      (order-first from end shown more order) within are.1 in
      ap (λ (o : Option Stage). o >>= λ (next : Stage). walk program next
      (map (line_text program printed.readings) more))
      (mark-led done shown more from end order within are.0)
      ∙ rest ∙ ap (λ (lines : List Line). Some (Marked (marked_at printed lines end)))
      (append_assoc done (shown ∷ []) more)

  -- the lines of variables lead on
  values-led : (front back : List Var) (done values : List ℕ) → program.vars ≡ front ++ back
      → length values ≡ word_count back → AllByRecursion IsValue values
      → walk program (Valued
      (record (marked_at printed printed.lines (length printed.readings)) {
        end = printed.end;
        values = done;
      }) (length front)) (variable_lines back values)
      ≡ Some (Valued (record (marked_at printed printed.lines (length printed.readings)) {
        end =
            printed.end;
        values = done ++ values;
      }) (length program.vars))
  values-led front [] done values are counted in_range =
      let none : values ≡ [] = nil_from_length values (omega (arith, counted)) in
      let whole : length front ≡ length program.vars = sym (ap length (are ∙ append-nil front)) in
      ap (λ (n : ℕ). Some (Valued
      (record (marked_at printed printed.lines (length printed.readings)) {
        end = printed.end;
        values = done;
      }) n)) whole
      ∙ ap (λ (v : List ℕ). Some
      (Valued (record (marked_at printed printed.lines (length printed.readings)) {
        end =
            printed.end;
        values = v;
      }) (length program.vars)))
      (sym (append-nil done) ∙ ap (λ (v : List ℕ). done ++ v) (sym none))
  values-led front (var ∷ more) done values are counted in_range =
      let count = count_of var.length in
      let own = take count values in
      let left = drop count values in
      let stage = λ (v : List ℕ) (n : ℕ). Valued
      (record (marked_at printed printed.lines (length printed.readings)) {
        end = printed.end;
        values = v;
      }) n in
      let enough : length own ≡ count = omega (arith, length-take count values, counted) in
      let got : slice_get program.vars (length front) ≡ Some var =
      ap (λ (vars : List Var). slice_get vars (length front)) are
      ∙ slice_get-next front var more in
      let read = values_in-again var own enough (all-take IsValue count values in_range) in
      let step : behind_line program (stage done (length front)) (variable_line var own) ≡ Some
      (stage (done ++ own) (length front + 1)) = rw (got, read) refl in
      let longer : length (front ++ var ∷ []) ≡ length front + 1 = length-append front
      (var ∷ []) in
      let rest = values-led (front ++ var ∷ []) more (done ++ own) left
      (are ∙ sym (append_assoc front (var ∷ []) more))
      (omega (arith, length-drop count values, counted))
      (all-drop IsValue count values in_range) in
      let here : walk program (stage (done ++ own) (length front + 1)) (variable_lines more left)
      ≡ Some (stage (done ++ own ++ left) (length program.vars)) =
      ap (λ (n : ℕ). walk program (stage (done ++ own) n) (variable_lines more left)) (sym longer)
      ∙ rest in
      ap (λ (o : Option Stage). o >>= λ (next : Stage). walk program next
      (variable_lines more left)) step ∙ here
      ∙ ap (λ (v : List ℕ). Some (stage v (length program.vars))) (append_assoc done own left
      ∙ ap (λ (v : List ℕ). done ++ v) (take-append-drop count values))

  -- a printable text is read as what it says
  pub lines-led : walk program Nothing (printed_lines program printed) ≡ Some (Whole printed)
  lines-led =
      let all = printed.readings in
      let count = length program.vars in
      let marks = map (line_text program all) printed.lines in
      let vars = variable_lines (take count program.vars) printed.values in
      let told = marked_at printed printed.lines (length all) in
      let last = record told { end = printed.end; values = printed.values } in
      let head : walk program Nothing (lines_before_end program printed) ≡ Some (Marked told) =
      rw (mode_in-again printed.mode, bound_in-again printed.bound printable.bound)
      (marks-led [] printed.lines 0 (length all) printable.order
      (omega arith) printable.lines) in
      let ended : walk program (Marked told) (end_line printed.end ∷ vars) ≡ Some
      (Valued last count) =
      rw (end_in-again printed.end) (
      ap (λ (v : List Var). walk program (Valued (record told { end = printed.end }) 0)
      (variable_lines v printed.values)) (take-all program.vars)
      ∙ values-led [] program.vars [] printed.values refl printable.count printable.values
      ) in
      let front : walk program Nothing (lines_before_held program printed count) ≡ Some
      (Valued last count) =
      walk-behind program Nothing (Marked told) (lines_before_end program printed)
      (end_line printed.end ∷ vars) head ∙ ended in
      let past = slice_get_past program.vars count (omega arith) in
      let same : record last { held = printed.held } ≡ printed =
      ap (λ (r : List Reading). record printed { readings = r }) (take-all all) in
      walk-behind program Nothing (Valued last count) (lines_before_held program printed count)
      (held_line printed.held ∷ []) front
      ∙ rw (past, held_in-again printed.held printable.held)
      (ap (λ (p : Printed). Some (Whole p)) same)
