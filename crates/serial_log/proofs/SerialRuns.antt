-- The records of a legal history are a serial run over all its accepted postings.
use Rattle.std.proofs.Common.{◌≡◌, ◌∙◌, ℕ, ◌+◌, ◌==◌, List, [], ◌∷◌, ◌++◌, length, refl, ap, sym, subst, arith, true, false, Option, Some, None, append_assoc, length-append}
use Rattle.std.specs.Option.{option_map_or}
use Rattle.std.proofs.lemmas.Bool.Decides.{nat_tests}
use Rattle.coati_word.specs.declared.reading.Reading.{Reading}
use Rattle.serial_log.specs.declared.held.Held.{Held}
use Rattle.serial_log.specs.declared.mark.Mark.{Mark}
use Rattle.serial_log.specs.declared.mark.MarkKind.{MarkKind}
use Rattle.serial_log.specs.declared.mark.MarkKind.TheVariants.{Boot, Posted, Done, Commit, Abort, End}
use Rattle.serial_log.specs.declared.posted.Posted.{Posted as Raised}
use Rattle.serial_log.specs.declared.posted.Answer.{Answer}
use Rattle.serial_log.specs.declared.posted.Answer.TheVariants.{Accepted, Full, Lost}
use Rattle.serial_log.specs.declared.unit.Unit.{Unit as Committed}
use Rattle.serial_log.specs.declared.unit.Unit.TheVariants.{Task, Transaction, Event}
use Rattle.serial_log.specs.History.{Past, readings_in}
use Rattle.serial_log.specs.Marks.{Entry, entries, accepted_as, accepted_by, accepted_postings}
use Rattle.serial_log.specs.Walk.{walk, Each}
use Rattle.serial_log.specs.SerialRun.{Stand, posting_numbered, behind_event, behind_unit, behind_record, behind_entries, IsUnitNext, AreSerial, SerialRun, stand_of}
use Rattle.serial_log.specs.Standing.{Standing, without, left_by, after_answer, after_mark, opening, standing_of}
use Rattle.serial_log.specs.Postings.{Terms, IsLegalAnswer, IsDue, IsInOrder, KeepsOrder}
use Rattle.serial_log.specs.Legal.{KeepsSerial, IsLegalMark, AreMarksLegal}

abbrev NumberedFrom : ℕ → List Held → Type 0
NumberedFrom number [] = Unit {0}
NumberedFrom number (held ∷ more) = (held.number ≡ number) × NumberedFrom (number + 1) more

numbered_push : (k n : ℕ) (postings : List Held) (held : Held) → n ≡ k + length postings → held.number ≡ n → NumberedFrom k postings → NumberedFrom k (postings ++ held ∷ [])
numbered_push k n [] held is number numbered = (omega (arith, number, is), tt)
numbered_push k n (first ∷ more) held is number numbered = (numbered.0, numbered_push (k + 1) n more held (omega (arith, is)) number numbered.1)

number_at : (k : ℕ) (front : List Held) (held : Held) (back : List Held) → NumberedFrom k (front ++ held ∷ back) → held.number ≡ k + length front
number_at k [] held back numbered = omega (arith, numbered.0)
number_at k (first ∷ more) held back numbered = let there = number_at (k + 1) more held back numbered.1 in omega (arith, there)

-- a posting among others is found by its number
found : (k : ℕ) (front : List Held) (held : Held) (back later : List Held) → NumberedFrom k (front ++ held ∷ back) → posting_numbered held.number ((front ++ held ∷ back) ++ later) ≡ Some held
found k [] held back later numbered = let hit : (held.number == held.number) ≡ true = grind (arith, nat_tests) in rw hit refl
found k (first ∷ more) held back later numbered =
    let far : held.number ≡ (k + 1) + length more = number_at (k + 1) more held back numbered.1 in
    let miss : (first.number == held.number) ≡ false = grind (arith, nat_tests, numbered.0) in
    rw miss (found (k + 1) more held back later numbered.1)

-- the posting that is due, among the rest and among all
record IsFound (front rest later : List Held) (posting : ℕ) : Type 0 where
  pub oldest : Held
  pub in_rest : posting_numbered posting rest ≡ Some oldest
  pub in_all : posting_numbered posting ((front ++ rest) ++ later) ≡ Some oldest
  pub served : List Held
  pub whole : served ++ without posting rest ≡ front ++ rest

due_found : (front rest later : List Held) (posting : ℕ) → NumberedFrom 1 (front ++ rest) → IsDue rest posting → IsFound front rest later posting
due_found front [] later posting numbered due = absurd (let none : None ≡ Some due.oldest = due.due in cc)
due_found front (held ∷ more) later posting numbered due =
    let same : Some held ≡ Some due.oldest = due.due in
    let is : held ≡ due.oldest = cc in
    let own : held.number ≡ posting = ap (λ (h : Held). h.number) is ∙ due.number in
    let hit : (held.number == posting) ≡ true = grind (arith, nat_tests) in
    record {
      oldest = held;
      in_rest = rw hit refl;
      in_all = subst (λ (n : ℕ). posting_numbered n ((front ++ held ∷ more) ++ later) ≡ Some held) own (found 1 front held more later numbered);
      served = front ++ held ∷ [];
      whole = rw hit (append_assoc front (held ∷ []) more);
    }

-- the rest are the last of the accepted postings so far, which are numbered from 1
record Fits (s : Standing) (front : List Held) : Type 0 where
  pub numbered : NumberedFrom 1 (front ++ s.rest)
  pub count : s.accepted ≡ length (front ++ s.rest)

grown : (s : Standing) (front later : List Held) (posted : Raised) (answer : Answer) → (front ++ (after_answer s posted answer).rest) ++ later ≡ (front ++ s.rest) ++ (accepted_as posted answer ++ later)
grown s front later posted (Accepted number) =
    let held : Held = record { number = number; event = posted.event; argument = posted.argument } in
    ap (λ (es : List Held). es ++ later) (sym (append_assoc front s.rest (held ∷ []))) ∙ append_assoc (front ++ s.rest) (held ∷ []) later
grown s front later posted Full = refl
grown s front later posted (Lost boot) = refl

run_stays : (s : Standing) (posted : Raised) (answer : Answer) → (after_answer s posted answer).run ≡ s.run
run_stays s posted (Accepted number) = refl
run_stays s posted Full = refl
run_stays s posted (Lost boot) = refl

module _ (terms : Terms) (all : List Reading) where
  -- what is claimed of the marks to come, where these are all postings
  record Runs (postings : List Held) (s : Standing) (marks : List Mark) : Type 0 where
    pub serial : AreSerial terms.program postings s.run (entries marks all)
    pub leads : behind_entries terms.program postings s.run (entries marks all) ≡ (walk (after_mark terms.program) s marks).run

  abbrev Claim : List Mark → Type 0
  Claim marks = (s : Standing) (front : List Held) → Fits s front → Each (after_mark terms.program) (IsLegalMark terms all) s marks → Runs ((front ++ s.rest) ++ accepted_postings marks) s marks

  fits_answer : (s : Standing) (front : List Held) (at : ℕ) (posted : Raised) (answer : Answer) → Fits s front → IsLegalAnswer terms s at posted.from answer → Fits (after_answer s posted answer) front
  fits_answer s front at posted (Accepted number) fits legal =
      let held : Held = record { number = number; event = posted.event; argument = posted.argument } in
      let here : s.accepted + 1 ≡ 1 + length (front ++ s.rest) = omega (arith, fits.count) in
      let same : (front ++ s.rest) ++ held ∷ [] ≡ front ++ (s.rest ++ held ∷ []) = append_assoc front s.rest (held ∷ []) in
      record {
        numbered = subst (λ (es : List Held). NumberedFrom 1 es) same (numbered_push 1 (s.accepted + 1) (front ++ s.rest) held here legal.numbered fits.numbered);
        count = subst (λ (es : List Held). s.accepted + 1 ≡ length es) same (omega (arith, fits.count, length-append (front ++ s.rest) (held ∷ [])));
      }
  fits_answer s front at posted Full fits legal = record { numbered = fits.numbered; count = fits.count }
  fits_answer s front at posted (Lost boot) fits legal = record { numbered = fits.numbered; count = fits.count }

  -- what one commit does
  record Goes (s t : Standing) (entry : Entry) (u : Committed) (front postings : List Held) : Type 0 where
    pub next : IsUnitNext terms.program postings s.run entry u
    pub leads : behind_unit terms.program postings s.run entry.committed u ≡ behind_unit terms.program s.rest s.run entry.committed u
    pub served : List Held
    pub whole : served ++ t.rest ≡ front ++ s.rest

  goes : (s t : Standing) (entry : Entry) (u : Committed) (front later : List Held) → Fits s front → IsUnitNext terms.program s.rest s.run entry u → IsInOrder s.rest entry.committed.posting u →
      t.rest ≡ left_by u entry.committed.posting s.rest → Goes s t entry u front ((front ++ s.rest) ++ later)
  goes s t entry (Task task) front later fits next order rest = record { next = next; leads = refl; served = front; whole = ap (λ (es : List Held). front ++ es) rest }
  goes s t entry (Transaction tx) front later fits next order rest = record { next = next; leads = refl; served = front; whole = ap (λ (es : List Held). front ++ es) rest }
  goes s t entry (Event event) front later fits next order rest =
      let f = due_found front s.rest later entry.committed.posting fits.numbered order in
      let same : posting_numbered entry.committed.posting ((front ++ s.rest) ++ later) ≡ posting_numbered entry.committed.posting s.rest = f.in_all ∙ sym f.in_rest in
      record {
        next = record { no_tasks = next.no_tasks; held = next.held; posting = same ∙ next.posting; its_event = next.its_event; reads = next.reads };
        leads = ap (λ (o : Option Held). option_map_or (behind_event terms.program s.run) o s.run) same;
        served = f.served;
        whole = ap (λ (es : List Held). f.served ++ es) rest ∙ f.whole;
      }

  same_run : (postings others : List Held) (a b : Stand) (es : List Entry) → postings ≡ others → a ≡ b → AreSerial terms.program postings a es → AreSerial terms.program others b es
  same_run postings others a b es e f serial =
      subst (λ (x : Stand). AreSerial terms.program others x es) f (subst (λ (ps : List Held). AreSerial terms.program ps a es) e serial)

  same_end : (postings others : List Held) (a b : Stand) (es : List Entry) → postings ≡ others → a ≡ b → behind_entries terms.program others b es ≡ behind_entries terms.program postings a es
  same_end postings others a b es e f = rw (e, f) refl

  -- a mark that changes neither the run nor the postings
  runs_on : (s t : Standing) (more : List Mark) (front : List Held) → Claim more → Fits s front → t.run ≡ s.run → t.rest ≡ s.rest → t.accepted ≡ s.accepted →
      Each (after_mark terms.program) (IsLegalMark terms all) t more → Runs ((front ++ t.rest) ++ accepted_postings more) t more
  runs_on s t more front claim fits run rest count each = claim t front (record { numbered = rw rest fits.numbered; count = rw (rest, count) fits.count }) each

  runs_kind : (s : Standing) (at : ℕ) (kind : MarkKind) (more : List Mark) (front : List Held) → Claim more → Fits s front → KeepsSerial terms.program all s kind → KeepsOrder terms s at kind →
      Each (after_mark terms.program) (IsLegalMark terms all) (after_mark terms.program s (record { at = at; kind = kind })) more →
      Runs ((front ++ s.rest) ++ (accepted_by kind ++ accepted_postings more)) s (record { at = at; kind = kind } ∷ more)
  runs_kind s at (Boot number) more front claim fits serial order each =
      let runs = runs_on s (after_mark terms.program s (record { at = at; kind = Boot number })) more front claim fits refl refl refl each in
      record { serial = runs.serial; leads = runs.leads }
  runs_kind s at (Posted posted) more front claim fits serial order each =
      let t = after_mark terms.program s (record { at = at; kind = Posted posted }) in
      let later = accepted_postings more in
      let next = fits_answer s front at posted posted.answer fits order.answer in
      let runs = claim t front (record { numbered = next.numbered; count = next.count }) each in
      let all_same : (front ++ t.rest) ++ later ≡ (front ++ s.rest) ++ (accepted_as posted posted.answer ++ later) = grown s front later posted posted.answer in
      let run_same : t.run ≡ s.run = run_stays s posted posted.answer in
      record {
        serial = same_run ((front ++ t.rest) ++ later) ((front ++ s.rest) ++ (accepted_as posted posted.answer ++ later)) t.run s.run (entries more all) all_same run_same runs.serial;
        leads = same_end ((front ++ t.rest) ++ later) ((front ++ s.rest) ++ (accepted_as posted posted.answer ++ later)) t.run s.run (entries more all) all_same run_same ∙ runs.leads;
      }
  runs_kind s at (Done task) more front claim fits serial order each =
      let runs = runs_on s (after_mark terms.program s (record { at = at; kind = Done task })) more front claim fits refl refl refl each in
      record { serial = runs.serial; leads = runs.leads }
  runs_kind s at (Commit committed) more front claim fits serial order each =
      let t = after_mark terms.program s (record { at = at; kind = Commit committed }) in
      let later = accepted_postings more in
      let entry : Entry = record { committed = committed; reads = readings_in all committed } in
      let step = goes s t entry committed.unit front later fits serial order refl in
      let runs = claim t step.served (record {
        numbered = subst (λ (es : List Held). NumberedFrom 1 es) (sym step.whole) fits.numbered;
        count = subst (λ (es : List Held). s.accepted ≡ length es) (sym step.whole) fits.count;
      }) each in
      let all_same : (step.served ++ t.rest) ++ later ≡ (front ++ s.rest) ++ later = ap (λ (es : List Held). es ++ later) step.whole in
      let behind : Stand = behind_record terms.program ((front ++ s.rest) ++ later) s.run committed in
      let run_same : t.run ≡ behind = sym step.leads in
      record {
        serial = (step.next, same_run ((step.served ++ t.rest) ++ later) ((front ++ s.rest) ++ later) t.run behind (entries more all) all_same run_same runs.serial);
        leads = same_end ((step.served ++ t.rest) ++ later) ((front ++ s.rest) ++ later) t.run behind (entries more all) all_same run_same ∙ runs.leads;
      }
  runs_kind s at (Abort aborted) more front claim fits serial order each =
      let runs = runs_on s (after_mark terms.program s (record { at = at; kind = Abort aborted })) more front claim fits refl refl refl each in
      record { serial = runs.serial; leads = runs.leads }
  runs_kind s at (End end) more front claim fits serial order each =
      let runs = runs_on s (after_mark terms.program s (record { at = at; kind = End end })) more front claim fits refl refl refl each in
      record { serial = runs.serial; leads = runs.leads }

  runs : (marks : List Mark) → Claim marks
  runs [] s front fits each = record { serial = tt; leads = refl }
  runs (mark ∷ more) s front fits each = runs_kind s mark.at mark.kind more front (runs more) fits each.0.serial each.0.postings.order each.1

-- the records run serially, and lead to where the walk has come
pub record RunsSerially (terms : Terms) (past : Past) : Type 0 where
  pub serial : SerialRun terms.program past
  pub stand : stand_of terms.program past ≡ (standing_of terms.program past.marks).run

pub runs_serially : (terms : Terms) (past : Past) → AreMarksLegal terms past.readings past.marks → RunsSerially terms past
runs_serially terms past each =
    let all = runs terms past.readings past.marks (opening terms.program) [] (record { numbered = tt; count = refl }) each in
    record { serial = all.serial; stand = all.leads }
