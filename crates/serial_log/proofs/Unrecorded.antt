-- The rest of a history with legal postings is the accepted postings that are in no record.
use Rattle.std.proofs.Common.{◌≡◌, ◌∙◌, ℕ, ◌+◌, ◌<◌, ◌≤◌, ◌==◌, List, [], ◌∷◌, ◌++◌, refl, ap, sym, arith, inl, inr, Bool, true, false, Some, None, if◌then◌else◌, append_assoc, append-nil}
use Rattle.std.specs.Prelude.{filter, not, ◌||◌}
use Rattle.std.specs.List.{list_any}
use Rattle.std.proofs.lemmas.Bool.{cases_Bool}
use Rattle.std.proofs.lemmas.Bool.Decides.{nat_tests}
use Rattle.std.proofs.lemmas.List.Folds.{list_any-append}
use Rattle.std.proofs.lemmas.List.Elements.{filter-append}
use Rattle.serial_log.specs.declared.mark.Mark.{Mark}
use Rattle.serial_log.specs.declared.mark.MarkKind.{MarkKind}
use Rattle.serial_log.specs.declared.mark.MarkKind.TheVariants.{Boot, Posted, Done, Commit, Abort, End}
use Rattle.serial_log.specs.declared.posted.Posted.{Posted as Raised}
use Rattle.serial_log.specs.declared.posted.Answer.{Answer}
use Rattle.serial_log.specs.declared.posted.Answer.TheVariants.{Accepted, Full, Lost}
use Rattle.serial_log.specs.declared.unit.Unit.{Unit as Committed}
use Rattle.serial_log.specs.declared.unit.Unit.TheVariants.{Task, Transaction, Event}
use Rattle.serial_log.specs.declared.held.Held.{Held}
use Rattle.serial_log.specs.Marks.{accepted_as, accepted_by, accepted_postings, posting_of, recorded_by, recorded_postings, is_unrecorded, unrecorded_postings}
use Rattle.serial_log.specs.Walk.{walk, Each}
use Rattle.serial_log.specs.Standing.{Standing, without, left_by, after_answer, after_kind, after_mark, opening, EachMark}
use Rattle.serial_log.specs.Postings.{Terms, IsLegalAnswer, IsInOrder, KeepsOrder, KeepsPostings, due_posting}

-- the numbers rise, from one above the bound on
abbrev Rises : ℕ → List Held → Type 0
Rises bound [] = Unit {0}
Rises bound (held ∷ more) = (bound < held.number) × Rises held.number more

abbrev NoneAbove : ℕ → List Held → Type 0
NoneAbove bound [] = Unit {0}
NoneAbove bound (held ∷ more) = (held.number ≤ bound) × NoneAbove bound more

abbrev NoNumberAbove : ℕ → List ℕ → Type 0
NoNumberAbove bound [] = Unit {0}
NoNumberAbove bound (number ∷ more) = (number ≤ bound) × NoNumberAbove bound more

rises_push : (low high : ℕ) (rest : List Held) (held : Held) → low ≤ high → high < held.number → NoneAbove high rest → Rises low rest → Rises low (rest ++ held ∷ [])
rises_push low high [] held le above none rises = (omega arith, tt)
rises_push low high (first ∷ more) held le above none rises = (rises.0, rises_push first.number high more held none.0 above none.1 rises.1)

none_push : (low high : ℕ) (rest : List Held) (held : Held) → low ≤ high → held.number ≤ high → NoneAbove low rest → NoneAbove high (rest ++ held ∷ [])
none_push low high [] held le below none = (below, tt)
none_push low high (first ∷ more) held le below none = (omega (arith, none.0), none_push low high more held le below none.1)

numbers_more : (low high : ℕ) (numbers : List ℕ) → low ≤ high → NoNumberAbove low numbers → NoNumberAbove high numbers
numbers_more low high [] le none = tt
numbers_more low high (first ∷ more) le none = (omega (arith, none.0), numbers_more low high more le none.1)

numbers_push : (high number : ℕ) (numbers : List ℕ) → number ≤ high → NoNumberAbove high numbers → NoNumberAbove high (numbers ++ number ∷ [])
numbers_push high number [] le none = (le, tt)
numbers_push high number (first ∷ more) le none = (none.0, numbers_push high number more le none.1)

-- a number above all recorded ones is in no record
above_all : (high : ℕ) (held : Held) (numbers : List ℕ) → high < held.number → NoNumberAbove high numbers → list_any (λ number. number == held.number) numbers ≡ false
above_all high held [] above none = refl
above_all high held (first ∷ more) above none =
    let far : (first == held.number) ≡ false = grind (arith, nat_tests, none.0) in
    rw far (above_all high held more above none.1)

-- the posting has another number
abbrev is_other : ℕ → Held → Bool
is_other posting held = not (posting == held.number)

or_nil : (a b : Bool) → (a || (b || false)) ≡ (a || b)
or_nil true b = refl
or_nil false true = refl
or_nil false false = refl

one_more_test : (numbers : List ℕ) (posting : ℕ) (held : Held) (a b : Bool) → list_any (λ number. number == held.number) numbers ≡ a → (posting == held.number) ≡ b →
    is_unrecorded (numbers ++ posting ∷ []) held ≡ not (a || b)
one_more_test numbers posting held a b was is =
    ap not (list_any-append (λ (number : ℕ). number == held.number) numbers (posting ∷ []) ∙ (rw (was, is) (or_nil a b)))

-- one number more recorded leaves out its posting
filter_more : (numbers : List ℕ) (posting : ℕ) (all : List Held) → filter (is_unrecorded (numbers ++ posting ∷ [])) all ≡ filter (is_other posting) (filter (is_unrecorded numbers) all)
filter_more numbers posting [] = refl
filter_more numbers posting (held ∷ more) =
    elim (cases_Bool (list_any (λ number. number == held.number) numbers)) [
      | inl was ↦
          let test : is_unrecorded (numbers ++ posting ∷ []) held ≡ false = one_more_test numbers posting held true (posting == held.number) was refl in
          rw (test, was) (filter_more numbers posting more)
      | inr was ↦
          let test : is_unrecorded (numbers ++ posting ∷ []) held ≡ is_other posting held = one_more_test numbers posting held false (posting == held.number) was refl in
          rw (test, was) (ap (λ (es : List Held). if is_other posting held then held ∷ es else es) (filter_more numbers posting more))
    ]

-- where numbers rise above one, none of them is that one
filter_rising : (bound posting : ℕ) (rest : List Held) → posting ≤ bound → Rises bound rest → filter (is_other posting) rest ≡ rest
filter_rising bound posting [] le rises = refl
filter_rising bound posting (held ∷ more) le rises =
    let far : (posting == held.number) ≡ false = grind (arith, nat_tests, rises.0) in
    rw far (ap (λ (es : List Held). held ∷ es) (filter_rising held.number posting more (omega (arith, rises.0)) rises.1))

rises_from : (low high : ℕ) (rest : List Held) → low ≤ high → Rises high rest → Rises low rest
rises_from low high [] le rises = tt
rises_from low high (held ∷ more) le rises = (omega (arith, rises.0), rises.1)

-- what a walk owes the past: the postings accepted and the numbers recorded so far
record Fits (s : Standing) (accepted : List Held) (recorded : List ℕ) : Type 0 where
  pub rest : s.rest ≡ filter (is_unrecorded recorded) accepted
  pub rises : Rises 0 s.rest
  pub below : NoneAbove s.accepted s.rest
  pub numbers : NoNumberAbove s.accepted recorded

fits_nothing_more : (s t : Standing) (accepted : List Held) (recorded : List ℕ) → Fits s accepted recorded → t.rest ≡ s.rest → t.accepted ≡ s.accepted → Fits t (accepted ++ []) (recorded ++ [])
fits_nothing_more s t accepted recorded fits same_rest same_count =
    rw (append-nil accepted, append-nil recorded) (record {
      rest = same_rest ∙ fits.rest;
      rises = rw same_rest fits.rises;
      below = rw (same_rest, same_count) fits.below;
      numbers = rw same_count fits.numbers;
    })

-- the rest without the posting that is due
record Left (count posting : ℕ) (rest accepted : List Held) (recorded : List ℕ) : Type 0 where
  pub is : without posting rest ≡ filter (is_unrecorded (recorded ++ posting ∷ [])) accepted
  pub rises : Rises 0 (without posting rest)
  pub below : NoneAbove count (without posting rest)
  pub number : posting ≤ count

due_left : (count posting : ℕ) (rest accepted : List Held) (recorded : List ℕ) (oldest : Held) → rest ≡ filter (is_unrecorded recorded) accepted →
    Rises 0 rest → NoneAbove count rest → due_posting rest ≡ Some oldest → oldest.number ≡ posting → Left count posting rest accepted recorded
due_left count posting [] accepted recorded oldest is rises below due number = absurd (let none : None ≡ Some oldest = due in cc)
due_left count posting (held ∷ more) accepted recorded oldest is rises below due number =
    let same : held ≡ oldest = cc in
    let own : held.number ≡ posting = ap (λ (h : Held). h.number) same ∙ number in
    let hit : (held.number == posting) ≡ true = grind (arith, nat_tests) in
    let left_out : (posting == held.number) ≡ true = grind (arith, nat_tests) in
    let gone : without posting (held ∷ more) ≡ more = rw hit refl in
    let filtered : filter (is_other posting) (held ∷ more) ≡ more = rw left_out (filter_rising held.number posting more (omega (arith, own)) rises.1) in
    record {
      is = gone ∙ sym filtered ∙ ap (λ (es : List Held). filter (is_other posting) es) is ∙ sym (filter_more recorded posting accepted);
      rises = rw gone (rises_from 0 held.number more (omega arith) rises.1);
      below = rw gone below.1;
      number = omega (arith, own, below.0);
    }

fits_commit : (s t : Standing) (u : Committed) (posting : ℕ) (accepted : List Held) (recorded : List ℕ) → Fits s accepted recorded → IsInOrder s.rest posting u →
    t.rest ≡ left_by u posting s.rest → t.accepted ≡ s.accepted → Fits t (accepted ++ []) (recorded ++ posting_of u posting)
fits_commit s t (Task task) posting accepted recorded fits order rest count = fits_nothing_more s t accepted recorded fits rest count
fits_commit s t (Transaction tx) posting accepted recorded fits order rest count = fits_nothing_more s t accepted recorded fits rest count
fits_commit s t (Event event) posting accepted recorded fits order rest count =
    let left = due_left s.accepted posting s.rest accepted recorded order.oldest fits.rest fits.rises fits.below order.due order.number in
    rw (append-nil accepted) (record {
      rest = rest ∙ left.is;
      rises = rw rest left.rises;
      below = rw (rest, count) left.below;
      numbers = rw count (numbers_push s.accepted posting recorded left.number fits.numbers);
    })

module _ (terms : Terms) where
  fits_answer : (s : Standing) (at : ℕ) (posted : Raised) (answer : Answer) (accepted : List Held) (recorded : List ℕ) →
      Fits s accepted recorded → IsLegalAnswer terms s at posted.from answer → Fits (after_answer s posted answer) (accepted ++ accepted_as posted answer) (recorded ++ [])
  fits_answer s at posted (Accepted number) accepted recorded fits legal =
      let held : Held = record { number = number; event = posted.event; argument = posted.argument } in
      let above : s.accepted < number = omega (arith, legal.numbered) in
      let kept : is_unrecorded recorded held ≡ true = ap not (above_all s.accepted held recorded above fits.numbers) in
      let last : filter (is_unrecorded recorded) (held ∷ []) ≡ held ∷ [] = rw kept refl in
      rw (append-nil recorded) (record {
        rest = ap (λ (es : List Held). es ++ held ∷ []) fits.rest ∙ ap (λ (es : List Held). filter (is_unrecorded recorded) accepted ++ es) (sym last)
            ∙ sym (filter-append (is_unrecorded recorded) accepted (held ∷ []));
        rises = rises_push 0 s.accepted s.rest held (omega arith) above fits.below fits.rises;
        below = none_push s.accepted (s.accepted + 1) s.rest held (omega arith) (omega (arith, legal.numbered)) fits.below;
        numbers = numbers_more s.accepted (s.accepted + 1) recorded (omega arith) fits.numbers;
      })
  fits_answer s at posted Full accepted recorded fits legal = fits_nothing_more s (after_answer s posted Full) accepted recorded fits refl refl
  fits_answer s at posted (Lost boot) accepted recorded fits legal = fits_nothing_more s (after_answer s posted (Lost boot)) accepted recorded fits refl refl

  fits_kind : (s : Standing) (at : ℕ) (kind : MarkKind) (accepted : List Held) (recorded : List ℕ) →
      Fits s accepted recorded → KeepsOrder terms s at kind → Fits (after_kind terms.program s at kind) (accepted ++ accepted_by kind) (recorded ++ recorded_by kind)
  fits_kind s at (Boot number) accepted recorded fits order = fits_nothing_more s (after_kind terms.program s at (Boot number)) accepted recorded fits refl refl
  fits_kind s at (Posted posted) accepted recorded fits order = fits_answer s at posted posted.answer accepted recorded fits order.answer
  fits_kind s at (Done task) accepted recorded fits order = fits_nothing_more s s accepted recorded fits refl refl
  fits_kind s at (Commit committed) accepted recorded fits order =
      fits_commit s (after_kind terms.program s at (Commit committed)) committed.unit committed.posting accepted recorded fits order refl refl
  fits_kind s at (Abort aborted) accepted recorded fits order = fits_nothing_more s s accepted recorded fits refl refl
  fits_kind s at (End end) accepted recorded fits order = fits_nothing_more s s accepted recorded fits refl refl

  fits_marks : (s : Standing) (marks : List Mark) (accepted : List Held) (recorded : List ℕ) → Fits s accepted recorded → Each (after_mark terms.program) (KeepsPostings terms) s marks →
      Fits (walk (after_mark terms.program) s marks) (accepted ++ accepted_postings marks) (recorded ++ recorded_postings marks)
  fits_marks s [] accepted recorded fits each = rw (append-nil accepted, append-nil recorded) fits
  fits_marks s (mark ∷ more) accepted recorded fits each =
      let step = fits_kind s mark.at mark.kind accepted recorded fits each.0.order in
      let next : Fits (after_mark terms.program s mark) (accepted ++ accepted_by mark.kind) (recorded ++ recorded_by mark.kind) =
      record { rest = step.rest; rises = step.rises; below = step.below; numbers = step.numbers } in
      rw (← append_assoc accepted (accepted_by mark.kind) (accepted_postings more), ← append_assoc recorded (recorded_by mark.kind) (recorded_postings more))
      (fits_marks (after_mark terms.program s mark) more (accepted ++ accepted_by mark.kind) (recorded ++ recorded_by mark.kind) next each.1)

  pub rest_is : (marks : List Mark) → EachMark terms.program (KeepsPostings terms) marks → (walk (after_mark terms.program) (opening terms.program) marks).rest ≡ unrecorded_postings marks
  rest_is marks each = (fits_marks (opening terms.program) marks [] [] (record { rest = refl; rises = tt; below = tt; numbers = tt }) each).rest
