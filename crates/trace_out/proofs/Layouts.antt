-- How the lines of a printed text follow one another: marks with their readings, and variables
-- with their values.
use Rattle.std.proofs.Common.{◌≡◌, ℕ, ◌+◌, ◌≤◌, List, [], ◌∷◌, ◌++◌, map, length, take, drop, refl, sym, ap, subst, ◌∙◌, arith}
use Rattle.std.proofs.lemmas.List.{append-nil, length-drop, take-append-le, drop-append-le, take_at, drop_at}
use Rattle.coati_word.specs.declared.reading.Reading.{Reading}
use Rattle.serial_log.specs.declared.line.Line.{Line}
use Rattle.serial_log.specs.declared.line.Line.TheVariants as line
use Rattle.serial_log.specs.declared.record.Record.{Record}
use Rattle.serial_log.specs.History.{readings_in}
use Rattle.task_syntax.specs.declared.program.Program.{Program}
use Rattle.task_syntax.specs.declared.program.Var.{Var}
use Rattle.task_syntax.specs.Names.{count_of, word_count}
use Rattle.trace_out.specs.Printed.{AreInOrder, variable_line, variable_lines}
use Rattle.trace_out.specs.Shown.{line_text}
use Rattle.trace_out.specs.ShownRun.{count_in, own_readings}
use Rattle.trace_out.proofs.MarkReads.{IsPlaced, own_text}

-- a line shows its own readings
pub line_text-own : (program : Program) (all : List Reading) (shown : Line)
    → line_text program all shown ≡ own_text program (own_readings all shown) shown
line_text-own program all (line.Boot number at) = refl
line_text-own program all (line.Post at posted) = refl
line_text-own program all (line.Commit committed) = refl
line_text-own program all (line.Abort aborted) = refl

-- lines in order end no earlier than they begin
pub order-rises : (from end : ℕ) (lines : List Line) → AreInOrder from lines end → from ≤ end
order-rises from end [] order = omega (arith, order)
order-rises from end (line.Commit committed ∷ more) order =
    let later = order-rises (from + committed.reads_len) end more order.1 in
    omega arith
order-rises from end (line.Boot number at ∷ more) order = order-rises from end more order
order-rises from end (line.Post at posted ∷ more) order = order-rises from end more order
order-rises from end (line.Abort aborted ∷ more) order = order-rises from end more order

-- the first of them, and those behind it
pub order-first : (from end : ℕ) (shown : Line) (more : List Line) → AreInOrder from
    (shown ∷ more) end → AreInOrder (from + count_in shown) more end
order-first from end (line.Commit committed) more order = order.1
order-first from end (line.Boot number at) more order = let e : from ≡ from + 0 =
    omega arith in subst (λ (n : ℕ). AreInOrder n more end) e order
order-first from end (line.Post at posted) more order = let e : from ≡ from + 0 =
    omega arith in subst (λ (n : ℕ). AreInOrder n more end) e order
order-first from end (line.Abort aborted) more order = let e : from ≡ from + 0 =
    omega arith in subst (λ (n : ℕ). AreInOrder n more end) e order

-- one line more
pub order-more : (from end : ℕ) (lines : List Line) (shown : Line) (reads : List Reading)
    → AreInOrder from lines end → IsPlaced end shown reads
    → AreInOrder from (lines ++ shown ∷ []) (end + length reads)
order-more from end [] (line.Commit committed) reads order placed =
    (omega (arith, placed.0, order), omega (arith, placed.1, order))
order-more from end [] (line.Boot number at) reads order placed =
    omega (arith, order, ap length placed)
order-more from end [] (line.Post at posted) reads order placed =
    omega (arith, order, ap length placed)
order-more from end [] (line.Abort aborted) reads order placed =
    omega (arith, order, ap length placed)
order-more from end (line.Commit committed ∷ more) shown reads order placed =
    (order.0, order-more (from + committed.reads_len) end more shown reads order.1 placed)
order-more from end (line.Boot number at ∷ more) shown reads order placed =
    order-more from end more shown reads order placed
order-more from end (line.Post at posted ∷ more) shown reads order placed =
    order-more from end more shown reads order placed
order-more from end (line.Abort aborted ∷ more) shown reads order placed =
    order-more from end more shown reads order placed

-- a record's readings stay where others are added behind them
readings_in-stay : (all others : List Reading) (committed : Record)
    → committed.reads_from + committed.reads_len ≤ length all
    → readings_in (all ++ others) committed ≡ readings_in all committed
readings_in-stay all others committed within =
    let begin : committed.reads_from ≤ length all = omega arith in
    let left : committed.reads_len ≤ length (drop committed.reads_from all) =
    omega (arith, length-drop committed.reads_from all) in
    ap (take committed.reads_len) (drop-append-le committed.reads_from all others begin)
    ∙ take-append-le committed.reads_len (drop committed.reads_from all) others left

-- so lines stay
pub lines-stay : (program : Program) (all others : List Reading) (from : ℕ) (lines : List Line)
    → AreInOrder from lines (length all)
    → map (line_text program (all ++ others)) lines ≡ map (line_text program all) lines
lines-stay program all others from [] order = refl
lines-stay program all others from (line.Commit committed ∷ more) order =
    let rises = order-rises (from + committed.reads_len) (length all) more order.1 in
    let within : committed.reads_from + committed.reads_len ≤ length all =
    omega (arith, order.0, rises) in
    let here : line_text program (all ++ others) (line.Commit committed) ≡ line_text program all
    (line.Commit committed) =
    ap (λ (r : List Reading). own_text program r (line.Commit committed))
    (readings_in-stay all others committed within) in
    ap (λ (t : List ℕ). t ∷ map (line_text program (all ++ others)) more) here
    ∙ ap (λ (t : List (List ℕ)). line_text program all (line.Commit committed) ∷ t)
    (lines-stay program all others (from + committed.reads_len) more order.1)
lines-stay program all others from (line.Boot number at ∷ more) order =
    ap (λ (t : List (List ℕ)). line_text program all (line.Boot number at) ∷ t)
    (lines-stay program all others from more order)
lines-stay program all others from (line.Post at posted ∷ more) order =
    ap (λ (t : List (List ℕ)). line_text program all (line.Post at posted) ∷ t)
    (lines-stay program all others from more order)
lines-stay program all others from (line.Abort aborted ∷ more) order =
    ap (λ (t : List (List ℕ)). line_text program all (line.Abort aborted) ∷ t)
    (lines-stay program all others from more order)

-- the line that was added shows the readings that were
pub line-added : (program : Program) (all reads : List Reading) (shown : Line) → IsPlaced
    (length all) shown reads
    → line_text program (all ++ reads) shown ≡ own_text program reads shown
line-added program all reads (line.Boot number at) placed = refl
line-added program all reads (line.Post at posted) placed = refl
line-added program all reads (line.Abort aborted) placed = refl
line-added program all reads (line.Commit committed) placed =
    let own : readings_in (all ++ reads) committed ≡ reads =
    ap (take committed.reads_len) (drop_at all reads committed.reads_from (sym placed.0))
    ∙ ap (take committed.reads_len) (sym (append-nil reads))
    ∙ take_at reads [] committed.reads_len (sym placed.1) in
    ap (λ (r : List Reading). own_text program r (line.Commit committed)) own

-- variables with their values, and others behind them
pub variable_lines-append : (front back : List Var) (values others : List ℕ) → length values
    ≡ word_count front
    → variable_lines (front ++ back) (values ++ others) ≡ variable_lines front values
    ++ variable_lines back others
variable_lines-append [] back [] others counted = refl
variable_lines-append [] back (value ∷ values) others counted = absurd (omega (arith, counted))
variable_lines-append (var ∷ more) back values others counted =
    let count = count_of var.length in
    let within : count ≤ length values = omega (arith, counted) in
    let left : length (drop count values) ≡ word_count more =
    omega (arith, counted, length-drop count values) in
    let one : take count (values ++ others) ≡ take count values =
    take-append-le count values others within in
    let two : drop count (values ++ others) ≡ drop count values ++ others =
    drop-append-le count values others within in
    ap (λ (v : List ℕ). variable_line var v ∷ variable_lines (more ++ back)
    (drop count (values ++ others))) one
    ∙ ap (λ (v : List ℕ). variable_line var (take count values) ∷ variable_lines
    (more ++ back) v) two
    ∙ ap (λ (t : List (List ℕ)). variable_line var (take count values) ∷ t)
    (variable_lines-append more back (drop count values) others left)

pub word_count-append : (front back : List Var) → word_count (front ++ back)
    ≡ word_count front + word_count back
word_count-append [] back = omega arith
word_count-append (var ∷ more) back = omega (arith, word_count-append more back)

-- one variable with its values
pub variable_lines-one : (var : Var) (values : List ℕ) → length values ≡ count_of var.length
    → variable_lines (var ∷ []) values ≡ variable_line var values ∷ []
variable_lines-one var values counted =
    let all : take (count_of var.length) values ≡ values =
    ap (take (count_of var.length)) (sym (append-nil values)) ∙ take_at values []
    (count_of var.length) counted in
    ap (λ (v : List ℕ). variable_line var v ∷ []) all
