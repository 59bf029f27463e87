-- What a printed text says names parts of its program alone.
use Rattle.std.proofs.Common.{◌≡◌, ℕ, zero, suc, ◌+◌, ◌<◌, ◌≤◌, ◌^◌, List, [], ◌∷◌, ◌++◌, length, take, ap, arith, inl, inr, length-append}
use Rattle.std.specs.Prelude.{All, ◌⊎◌}
use Rattle.std.specs.List.{AllByRecursion}
use Rattle.std.proofs.lemmas.List.{length-map}
use Rattle.coati_replay.specs.Text.{IsLineOf, IsTextOf, IsUnitOf}
use Rattle.coati_text.specs.Line.{line_feed}
use Rattle.serial_log.specs.declared.line.Line.{Line}
use Rattle.serial_log.specs.declared.line.Line.TheVariants as line
use Rattle.serial_log.specs.declared.printed.Printed.{Printed}
use Rattle.serial_log.specs.declared.unit.Unit.{Unit as Committed}
use Rattle.serial_log.specs.declared.unit.Unit.TheVariants as unit
use Rattle.task_syntax.specs.declared.program.Program.{Program}
use Rattle.trace_out.specs.Printed.{AreInOrder, HasUnit, IsLine, PrintedText, printed_lines, held_line, lines_before_end, lines_before_held, printed_text, text_of, variable_lines}
use Rattle.trace_out.specs.Shown.{end_line, line_text}

has-unit : (program : Program) (committed : Committed) → HasUnit program committed → IsUnitOf program committed
has-unit program (unit.Task task) there = there
has-unit program (unit.Transaction tx) there = there
has-unit program (unit.Event event) there = there

-- the readings of the records end behind where they begin
ends-behind : (from : ℕ) (lines : List Line) (end : ℕ) → AreInOrder from lines end → from ≤ end
ends-behind from [] end order = omega arith
ends-behind from (line.Boot number at ∷ more) end order = ends-behind from more end order
ends-behind from (line.Post at posted ∷ more) end order = ends-behind from more end order
ends-behind from (line.Commit committed ∷ more) end order = let rest = ends-behind (from + committed.reads_len) more end order.1 in omega arith
ends-behind from (line.Abort aborted ∷ more) end order = ends-behind from more end order

lines-of : (program : Program) (from : ℕ) (lines : List Line) (end : ℕ) → AllByRecursion (IsLine program) lines → AreInOrder from lines end → AllByRecursion (IsLineOf program end) lines
lines-of program from [] end are order = tt
lines-of program from (line.Boot number at ∷ more) end are order = (tt, lines-of program from more end are.1 order)
lines-of program from (line.Post at posted ∷ more) end are order = (are.0.event, lines-of program from more end are.1 order)
lines-of program from (line.Commit committed ∷ more) end are order =
    let rest = ends-behind (from + committed.reads_len) more end order.1 in
    let within : committed.reads_from + committed.reads_len ≤ end = omega (arith, order.0, rest) in
    ((has-unit program committed.unit are.0.unit, within), lines-of program (from + committed.reads_len) more end are.1 order.1)
lines-of program from (line.Abort aborted ∷ more) end are order = (has-unit program aborted.unit are.0.unit, lines-of program from more end are.1 order)

each-of : {X : Type 0} (P : X → Type 0) (xs : List X) → AllByRecursion P xs → All P xs
each-of P [] are k d below = absurd (omega arith)
each-of P (x ∷ xs) are zero d below = are.0
each-of P (x ∷ xs) are (suc k) d below = each-of P xs are.1 k d (omega arith)

-- each line of a text has a byte at least
few-lines : (lines : List (List ℕ)) → length lines ≤ length (text_of lines)
few-lines [] = omega arith
few-lines (first ∷ more) =
    let rest = few-lines more in
    omega (arith, rest, length-append (first ++ line_feed ∷ []) (text_of more), length-append first (line_feed ∷ []))

module _ (program : Program) (text : List ℕ) (printed : Printed) where
  shown-lines : length printed.lines + 4 ≤ length (printed_lines program printed)
  shown-lines =
      let held = length-append (lines_before_held program printed (length program.vars)) (held_line printed.held ∷ []) in
      let first = length-append (lines_before_end program printed) (end_line printed.end ∷ variable_lines (take (length program.vars) program.vars) printed.values) in
      let shown = length-map printed.lines (line_text program printed.readings) in
      omega (arith, held, first, shown)

  few : length text < 2 ^ 31 → (text ≡ printed_text program printed) ⊎ (text ++ line_feed ∷ [] ≡ printed_text program printed) → length printed.lines < 2 ^ 31
  few short (inl is) = let lengths = ap length is in omega (arith, lengths, shown-lines, few-lines (printed_lines program printed))
  few short (inr is) = let lengths = ap length is in omega (arith, lengths, shown-lines, few-lines (printed_lines program printed), length-append text (line_feed ∷ []))

  pub may-be-judged : length text < 2 ^ 31 → PrintedText program text printed → IsTextOf program printed
  may-be-judged short read = record {
    lines = each-of (IsLineOf program (length printed.readings)) printed.lines (lines-of program 0 printed.lines (length printed.readings) read.printable.lines read.printable.order);
    few = few short read.says;
    values = read.printable.count;
  }
