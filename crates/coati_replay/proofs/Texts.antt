-- A text whose lines are all met is serial and legal, and no other is.
use Rattle.std.proofs.Common.{◌≡◌, ◌∙◌, ◌↔◌, ℕ, zero, suc, ◌+◌, ◌-◌, ◌<◌, ◌≤◌, List, [], ◌∷◌, ◌++◌, length, map, take, drop, refl, sym, subst, arith, length-drop, length-take}
use Rattle.std.specs.Prelude.{slice_index}
use Rattle.std.proofs.lemmas.List.{get_or-drop, get_or-take}
use Rattle.coati_word.specs.declared.mode.Mode.{Mode}
use Rattle.coati_word.specs.declared.reading.Reading.{Reading}
use Rattle.task_cost.specs.Limits.{period_bound}
use Rattle.task_syntax.specs.declared.program.Program.{Program}
use Rattle.task_syntax.specs.declared.program.Var.{Var}
use Rattle.task_syntax.specs.Course.{Store}
use Rattle.task_syntax.specs.Names.{count_of, word_count}
use Rattle.serial_log.specs.declared.line.Line.{Line}
use Rattle.serial_log.specs.declared.printed.Printed.{Printed}
use Rattle.serial_log.specs.Printed.{AreLinesLegal, IsSerialAndLegal, behind_lines, mark_of}
use Rattle.serial_log.specs.Standing.{Standing, after_mark, opening}
use Rattle.coati_replay.specs.Conditions.{AreMet, AreWordsFrom, terms_of}
use Rattle.coati_replay.specs.Text.{TextLine, last_lines, variable_lines}
use Rattle.coati_replay.specs.Verdicts.{IsSerial}

-- the words of a variable among the values
pub part-length : (values : List ℕ) (first count : ℕ) → first + count ≤ length values → length (take count (drop first values)) ≡ count
part-length values first count fits = omega (arith, length-take count (drop first values), length-drop first values)

pub part-at : (values : List ℕ) (first count k : ℕ) → k < count → slice_index (take count (drop first values)) k ≡ slice_index values (first + k)
part-at values first count k below = get_or-take count (drop first values) k 0 below ∙ get_or-drop first values k 0

-- the words from one on, up to so many
abbrev pub HoldsAll : Store → List ℕ → ℕ → ℕ → Type 0
HoldsAll store values first count = (word : ℕ) → first ≤ word → word < first + count → slice_index values word ≡ store word

module _ (store : Store) (values : List ℕ) (first count more : ℕ) (fits : first + (count + more) ≤ length values) (here : AreWordsFrom store first (take count (drop first values)))
    (rest : HoldsAll store values (first + count) more) (word : ℕ) (from : first ≤ word) (below : word < first + (count + more)) where
  by-place : (left : ℕ) → (first + count) - word ≡ left → slice_index values word ≡ store word
  by-place zero behind = rest word (omega arith) (omega arith)
  by-place (suc left) within =
      let k : ℕ = word - first in
      let word_is : first + k ≡ word = omega arith in
      let at : k < length (take count (drop first values)) = omega (arith, part-length values first count (omega arith)) in
      subst (λ (w : ℕ). slice_index values w ≡ store w) word_is (sym (part-at values first count k (omega arith)) ∙ here k at)

-- those of a variable, and those behind it
all-of : (store : Store) (values : List ℕ) (first count more : ℕ) → first + (count + more) ≤ length values → AreWordsFrom store first (take count (drop first values)) →
    HoldsAll store values (first + count) more → HoldsAll store values first (count + more)
all-of store values first count more fits here rest word from below = by-place store values first count more fits here rest word from below ((first + count) - word) refl

first-of : (store : Store) (values : List ℕ) (first count more : ℕ) → first + (count + more) ≤ length values → HoldsAll store values first (count + more) →
    AreWordsFrom store first (take count (drop first values))
first-of store values first count more fits all k below =
    let within : k < count = omega (arith, part-length values first count (omega arith)) in
    part-at values first count k within ∙ all (first + k) (omega arith) (omega arith)

module _ (program : Program) (mode : Mode) (all : List Reading) where
  shown-lines : (s : Standing) (lines : List Line) (rest : List TextLine) → AreMet program mode all s (map TextLine.shows lines ++ rest)
      ↔ (AreLinesLegal (terms_of program mode) all s lines × AreMet program mode all (behind_lines (terms_of program mode) all s lines) rest)
  shown-lines s [] rest = (λ met. (tt, met), λ both. both.1)
  shown-lines s (line ∷ lines) rest =
      let more = shown-lines (after_mark program s (mark_of line s)) lines rest in (
        λ met. ((met.0, (more.0 met.1).0), (more.0 met.1).1),
        λ both. (both.0.0, more.1 (both.0.1, both.1)),
      )

  held-words : (s : Standing) (values : List ℕ) (first : ℕ) (vars : List Var) (rest : List TextLine) → first + word_count vars ≤ length values →
      AreMet program mode all s (variable_lines values first vars ++ rest) ↔ (HoldsAll s.run.store values first (word_count vars) × AreMet program mode all s rest)
  held-words s values first [] rest fits = (λ met. (λ word from below. absurd (omega arith), met), λ both. both.1)
  held-words s values first (var ∷ vars) rest fits =
      let count = count_of var.length in
      let more = held-words s values (first + count) vars rest (omega arith) in (
        λ met. (all-of s.run.store values first count (word_count vars) fits met.0 (more.0 met.1).0, (more.0 met.1).1),
        λ both. (
          first-of s.run.store values first count (word_count vars) fits both.0,
          more.1 (λ word from below. both.0 word (omega arith) (omega arith), both.1),
        ),
      )

pub serial-is-legal : (program : Program) (mode : Mode) (printed : Printed) → length printed.values ≡ word_count program.vars → IsSerial program mode printed
    ↔ IsSerialAndLegal (terms_of program mode) (period_bound program) printed
serial-is-legal program mode printed values =
    let all = printed.readings in
    let terms = terms_of program mode in
    let lines = shown-lines program mode all (opening program) printed.lines (last_lines program printed) in
    let told = behind_lines terms all (opening program) printed.lines in
    let words = held-words program mode all told printed.values 0 program.vars (TextLine.held_are printed.held ∷ []) (omega arith) in (
      λ met.
          let legal = lines.0 met.1.1 in
          let held = words.0 legal.1.1 in
          record {
            mode = met.0;
            bounds = met.1.0;
            lines = legal.0;
            end = legal.1.0;
            values = record { count = values; each = λ word below. held.0 word (omega arith) (omega arith) };
            held = held.1.0;
          },
      λ legal. (legal.mode, (legal.bounds, lines.1 (legal.lines, (legal.end, words.1 (λ word from below. legal.values.each word (omega arith), (legal.held, tt)))))),
    )
