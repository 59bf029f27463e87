-- One line more of each part of a text.
use Rattle.std.proofs.Common.{◌≡◌, ◌∙◌, ℕ, ◌+◌, ◌-◌, ◌<◌, ◌≤◌, List, [], ◌∷◌, ◌++◌, length, map, take, drop, get_or, sym, subst, ap, arith}
use Rattle.std.specs.Prelude.{All}
use Rattle.std.proofs.lemmas.List.{drop_all, drop_more}
use Rattle.std.proofs.lemmas.List.Elements.{All-get_or}
use Rattle.coati_word.specs.declared.mode.Mode.{Mode}
use Rattle.coati_word.specs.declared.reading.Reading.{Reading}
use Rattle.task_cost.specs.Limits.{period_bound}
use Rattle.task_syntax.specs.declared.program.Program.{Program}
use Rattle.task_syntax.specs.declared.program.Var.{Var}
use Rattle.task_syntax.specs.Names.{count_of, word_count}
use Rattle.serial_log.specs.declared.line.Line.{Line}
use Rattle.serial_log.specs.declared.mark.MarkKind.TheVariants as kind
use Rattle.serial_log.specs.declared.printed.Printed.{Printed}
use Rattle.serial_log.specs.Legal.{IsEndLegal, IsLegalMark}
use Rattle.serial_log.specs.Printed.{mark_at, mark_of}
use Rattle.serial_log.specs.Standing.{Standing, after_mark, opening}
use Rattle.coati_replay.specs.Conditions.{AreWordsFrom, terms_of}
use Rattle.coati_replay.specs.Kinds.{IsTimely}
use Rattle.coati_replay.specs.Stages.{HasCome}
use Rattle.coati_replay.specs.Text.{TextLine, last_lines, store_lines, variable_lines}
use Rattle.coati_replay.specs.Verdicts.{DiffersAt, IsSerial}
use Rattle.coati_replay.proofs.Coming.{begins, differs, goes-on, serial}

module _ (program : Program) (mode : Mode) (printed : Printed) where
  -- the two lines at the head
  pub mode-differs : (printed.mode ≡ mode → ⊥) → DiffersAt program mode printed 1
  mode-differs other = differs program mode printed (opening program) 1 (TextLine.mode_is printed.mode) _ (begins program mode printed) other

  behind-mode : printed.mode ≡ mode → HasCome program mode printed (opening program) 2 (TextLine.bound_is printed.bound ∷ (map TextLine.shows printed.lines ++ last_lines program printed))
  behind-mode same = goes-on program mode printed (opening program) 1 (TextLine.mode_is printed.mode) _ (begins program mode printed) same

  pub bound-differs : printed.mode ≡ mode → (printed.bound ≡ period_bound program → ⊥) → DiffersAt program mode printed 2
  bound-differs same other = differs program mode printed (opening program) 2 (TextLine.bound_is printed.bound) _ (behind-mode same) other

  pub behind-head : (s : Standing) → s ≡ opening program → printed.mode ≡ mode → printed.bound ≡ period_bound program →
      HasCome program mode printed s 3 (map TextLine.shows printed.lines ++ last_lines program printed)
  behind-head s at same bound =
      subst (λ (t : Standing). HasCome program mode printed t 3 (map TextLine.shows printed.lines ++ last_lines program printed)) (sym at)
      (goes-on program mode printed (opening program) 2 (TextLine.bound_is printed.bound) _ (behind-mode same) bound)

  -- a line that shows a mark
  module _ (s : Standing) (number at : ℕ) (lines : List Line) (d : Line) (all : List Reading) (are : lines ≡ printed.lines) (within : at < length lines) (reads : all ≡ printed.readings)
      (come : HasCome program mode printed s number (map TextLine.shows (drop at printed.lines) ++ last_lines program printed)) where
    line-there : HasCome program mode printed s number (TextLine.shows (get_or lines at d) ∷ (map TextLine.shows (drop (at + 1) printed.lines) ++ last_lines program printed))
    line-there =
        let there : drop at printed.lines ≡ get_or lines at d ∷ drop (at + 1) printed.lines =
        subst (λ (xs : List Line). drop at xs ≡ get_or lines at d ∷ drop (at + 1) xs) are (drop_more lines at d within) in
        subst (λ (xs : List Line). HasCome program mode printed s number (map TextLine.shows xs ++ last_lines program printed)) there come

    pub line-on : (next : Standing) → IsLegalMark (terms_of program mode) all s (mark_of (get_or lines at d) s) → next ≡ after_mark program s (mark_of (get_or lines at d) s) →
        HasCome program mode printed next (number + 1) (map TextLine.shows (drop (at + 1) printed.lines) ++ last_lines program printed)
    line-on next legal leads =
        subst (λ (t : Standing). HasCome program mode printed t (number + 1) (map TextLine.shows (drop (at + 1) printed.lines) ++ last_lines program printed)) (sym leads)
        (goes-on program mode printed s number (TextLine.shows (get_or lines at d)) _ line-there
        (subst (λ (xs : List Reading). IsLegalMark (terms_of program mode) xs s (mark_of (get_or lines at d) s)) reads legal))

  -- the end line
  pub behind-end : (s : Standing) (number : ℕ) → HasCome program mode printed s number (last_lines program printed) → IsTimely s (mark_at s.latest (kind.End printed.end)) → IsEndLegal s printed.end →
      HasCome program mode printed s (number + 1) (store_lines program printed)
  behind-end s number come timely legal =
      goes-on program mode printed s number (TextLine.ends printed.end) _ come (record {
        serial = tt;
        postings = record { in_time = timely.in_time; follows = timely.follows; order = tt };
        aborts = tt;
        boots = tt;
        end = legal;
      })

  -- the line of a variable
  module _ (s : Standing) (number first at : ℕ) (vars : List Var) (var : Var) (are : vars ≡ program.vars) (within : at < length vars) (is : var ≡ get_or vars at var)
      (come : HasCome program mode printed s number (variable_lines printed.values first (drop at program.vars) ++ TextLine.held_are printed.held ∷ [])) where
    var-there : drop at program.vars ≡ var ∷ drop (at + 1) program.vars
    var-there =
        subst (λ (xs : List Var). drop at xs ≡ var ∷ drop (at + 1) xs) are
        (drop_more vars at var within ∙ ap (λ (v : Var). v ∷ drop (at + 1) vars) (sym is))

    words-there : HasCome program mode printed s number (TextLine.holds first (take (count_of var.length) (drop first printed.values))
        ∷ (variable_lines printed.values (first + count_of var.length) (drop (at + 1) program.vars) ++ TextLine.held_are printed.held ∷ []))
    words-there = subst (λ (xs : List Var). HasCome program mode printed s number (variable_lines printed.values first xs ++ TextLine.held_are printed.held ∷ [])) var-there come

    pub words-differ : (AreWordsFrom s.run.store first (take (count_of var.length) (drop first printed.values)) → ⊥) → DiffersAt program mode printed number
    words-differ others = differs program mode printed s number (TextLine.holds first (take (count_of var.length) (drop first printed.values))) _ words-there others

    pub words-on : AreWordsFrom s.run.store first (take (count_of var.length) (drop first printed.values)) →
        HasCome program mode printed s (number + 1) (variable_lines printed.values (first + count_of var.length) (drop (at + 1) program.vars) ++ TextLine.held_are printed.held ∷ [])
    words-on same = goes-on program mode printed s number (TextLine.holds first (take (count_of var.length) (drop first printed.values))) _ words-there same

    pub count-there : word_count (drop at program.vars) ≡ count_of var.length + word_count (drop (at + 1) program.vars)
    count-there = ap word_count var-there

  -- the last line
  module _ (s : Standing) (number first at : ℕ) (vars : List Var) (are : vars ≡ program.vars) (past : length vars ≤ at)
      (come : HasCome program mode printed s number (variable_lines printed.values first (drop at program.vars) ++ TextLine.held_are printed.held ∷ [])) where
    last-there : HasCome program mode printed s number (TextLine.held_are printed.held ∷ [])
    last-there =
        let none : drop at program.vars ≡ [] = subst (λ (xs : List Var). drop at xs ≡ []) are (drop_all at vars past) in
        subst (λ (xs : List Var). HasCome program mode printed s number (variable_lines printed.values first xs ++ TextLine.held_are printed.held ∷ [])) none come

    pub held-differs : (printed.held ≡ length s.rest → ⊥) → DiffersAt program mode printed number
    held-differs other = differs program mode printed s number (TextLine.held_are printed.held) [] last-there other

    pub held-is : printed.held ≡ length s.rest → IsSerial program mode printed
    held-is same = serial program mode printed s number (TextLine.held_are printed.held) last-there same

-- the values of a variable, as they are cut out
pub part-is : (values items : List ℕ) (first from to count : ℕ) → items ≡ values → from ≡ first → to ≡ first + count → take (to - from) (drop from items) ≡ take count (drop first values)
part-is values items first from to count are begins ends =
    let size : to - from ≡ count = omega arith in
    ap (λ (n : ℕ). take n (drop from items)) size ∙ ap (λ (n : ℕ). take count (drop n items)) begins ∙ ap (λ (xs : List ℕ). take count (drop first xs)) are

-- each variable has a word at least
pub has-word : (vars all : List Var) (var : Var) (at : ℕ) → vars ≡ all → at < length vars → var ≡ get_or vars at var → All (λ (v : Var). 0 < count_of v.length) all → 0 < count_of var.length
has-word vars all var at are within is full =
    let here = All-get_or (λ (v : Var). 0 < count_of v.length) vars at var within (subst (λ (xs : List Var). All (λ (v : Var). 0 < count_of v.length) xs) (sym are) full) in
    subst (λ (v : Var). 0 < count_of v.length) (sym is) here
