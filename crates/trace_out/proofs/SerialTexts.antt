-- What a legal run shows is serial and legal: each line meets its condition where those before it lead. Lines tell no
-- time of commits and aborts, and nothing of Done marks, so they lead where the marks lead, but for the latest time.
use Rattle.std.proofs.Common.{◌≡◌, ℕ, zero, suc, ◌+◌, ◌<◌, ◌≤◌, List, [], ◌∷◌, ◌++◌, Some, None, length, take, drop, refl, sym, ap, ◌∙◌, arith, append_assoc, subst}
use Rattle.std.specs.Prelude.{Option, flat_map, slice_index}
use Rattle.std.specs.List.{AllByRecursion}
use Rattle.std.proofs.lemmas.List.{append-nil, drop_at, length-append, take_at}
use Rattle.coati_word.specs.declared.reading.Reading.{Reading}
use Rattle.serial_log.specs.declared.abort.AbortOf.{AbortOf}
use Rattle.serial_log.specs.declared.end.End.{End}
use Rattle.serial_log.specs.declared.end.End.TheVariants as end
use Rattle.serial_log.specs.declared.held.Held.{Held}
use Rattle.serial_log.specs.declared.line.Line.{Line}
use Rattle.serial_log.specs.declared.line.Line.TheVariants as line
use Rattle.serial_log.specs.declared.mark.Mark.{Mark}
use Rattle.serial_log.specs.declared.mark.MarkKind.{MarkKind}
use Rattle.serial_log.specs.declared.mark.MarkKind.TheVariants as kind
use Rattle.serial_log.specs.declared.posted.Answer.{Answer}
use Rattle.serial_log.specs.declared.posted.Answer.TheVariants as answer
use Rattle.serial_log.specs.declared.posted.Posted.{Posted}
use Rattle.serial_log.specs.declared.record.Record.{Record}
use Rattle.serial_log.specs.declared.unit.Unit.{Unit as Committed}
use Rattle.serial_log.specs.declared.unit.Unit.TheVariants as unit
use Rattle.serial_log.specs.History.{Past, readings_in}
use Rattle.serial_log.specs.Legal.{IsEndLegal, IsLegalHistory, IsLegalMark}
use Rattle.serial_log.specs.Postings.{FollowsLost, IsHandled, IsLegalAnswer, Terms}
use Rattle.serial_log.specs.Printed.{AreLinesLegal, IsSerialAndLegal, behind_lines, lines_of, mark_at, mark_of}
use Rattle.serial_log.specs.SerialRun.{IsUnitNext, Stand, behind_unit, stand_of}
use Rattle.serial_log.specs.Standing.{Standing, after_answer, after_mark, left_by, opening, rest_of, standing_of}
use Rattle.serial_log.specs.Walk.{Each, walk}
use Rattle.task_cost.specs.Limits.{period_bound}
use Rattle.task_syntax.specs.declared.program.Program.{Program}
use Rattle.task_syntax.specs.Course.{Store}
use Rattle.task_syntax.specs.Names.{word_count}
use Rattle.trace_out.specs.ShownRun.{HasReadings, count_in, laid_from, own_readings, placed_at, shown_of, values_from}
use Rattle.trace_out.specs.ShownRuns.{IsEnded}
use Rattle.trace_out.proofs.RunTexts.{length-values, own-counted}

le-self : (n : ℕ) → n ≤ n
le-self n = omega arith

le-via : (a b c : ℕ) → a ≤ b → b ≤ c → a ≤ c
le-via a b c one two = omega (arith, one, two)

-- the same, but for the latest time
abbrev timed : Standing → ℕ → Standing
timed s time = record s { latest = time }

-- a latest time that lines tell: no later than that of the marks, and the same behind a lost posting
record Trails (s : Standing) (time : ℕ) : Type 0 where
  earlier : time ≤ s.latest
  lost : (boot : ℕ) → s.lost ≡ Some boot → time ≡ s.latest

-- a mark other than a boot has no lost posting before it
no-lost : (s : Standing) (mark : Mark) (boot : ℕ) → ((number : ℕ) → mark.kind ≡ kind.Boot number → ⊥) → FollowsLost s s.lost mark
    → s.lost ≡ Some boot → ⊥
no-lost s mark boot other follows is =
    let found : FollowsLost s (Some boot) mark = subst (λ (l : Option ℕ). FollowsLost s l mark) is follows in
    other boot found.boots

-- so any mark may stand there
follows-none : (s t : Standing) (mark next : Mark) → ((number : ℕ) → mark.kind ≡ kind.Boot number → ⊥) → FollowsLost s s.lost mark
    → FollowsLost t s.lost next
follows-none s t mark next other follows = by_cases s.lost refl where
  by_cases : (l : Option ℕ) → s.lost ≡ l → FollowsLost t l next
  by_cases None is = tt
  by_cases (Some boot) is = absurd (no-lost s mark boot other follows is)

-- the boot of a lost posting is at its time
follows-timed : (s : Standing) (time : ℕ) (mark : Mark) → Trails s time → FollowsLost s s.lost mark → FollowsLost (timed s time) s.lost mark
follows-timed s time mark trails follows = by_cases s.lost refl follows where
  by_cases : (l : Option ℕ) → s.lost ≡ l → FollowsLost s l mark → FollowsLost (timed s time) l mark
  by_cases None is found = tt
  by_cases (Some boot) is found = record { boots = found.boots; at_once = found.at_once ∙ sym (trails.lost boot is) }

-- one line: it is legal where the lines lead, and leads on where the mark leads, but for a time
record Goes (terms : Terms) (all : List Reading) (s : Standing) (time : ℕ) (shown : Line) (mark : Mark) : Type 0 where
  next : ℕ
  legal : IsLegalMark terms all (timed s time) (mark_of shown (timed s time))
  leads : after_mark terms.program (timed s time) (mark_of shown (timed s time)) ≡ timed (after_mark terms.program s mark) next
  trails : Trails (after_mark terms.program s mark) next

module _ (terms : Terms) (all laid : List Reading) (s : Standing) (time : ℕ) (trails : Trails s time) where
  boot-goes : (number at : ℕ) → IsLegalMark terms all s (mark_at at (kind.Boot number))
      → Goes terms laid s time (line.Boot number at) (mark_at at (kind.Boot number))
  boot-goes number at legal = record {
    next = at;
    legal = record {
      serial = tt;
      postings = record {
        in_time = le-via time s.latest at trails.earlier legal.postings.in_time;
        follows = follows-timed s time (mark_at at (kind.Boot number)) trails legal.postings.follows;
        order = tt;
      };
      aborts = tt;
      boots = record { counted = legal.boots.counted; later = legal.boots.later };
      end = tt;
    };
    leads = refl;
    trails = record { earlier = le-self at; lost = λ boot is. refl };
  }

  handled-timed : (at from : ℕ) → IsHandled terms s at from → IsHandled terms (timed s time) at from
  handled-timed at from is = record { room = is.room; later = is.later; soon = is.soon }

  answer-timed : (at from : ℕ) (given : Answer) → IsLegalAnswer terms s at from given → IsLegalAnswer terms (timed s time) at from given
  answer-timed at from (answer.Accepted number) is = record { handled = handled-timed at from is.handled; numbered = is.numbered }
  answer-timed at from answer.Full is = record { full = is.full; at_once = is.at_once }
  answer-timed at from (answer.Lost boot) is = record { handled = handled-timed at from is.handled; numbered = is.numbered }

  answer-leads : (at : ℕ) (posted : Posted) (given : Answer)
      → timed (after_answer (timed s time) posted given) at ≡ timed (timed (after_answer s posted given) at) at
  answer-leads at posted (answer.Accepted number) = refl
  answer-leads at posted answer.Full = refl
  answer-leads at posted (answer.Lost boot) = refl

  post-goes : (at : ℕ) (posted : Posted) → IsLegalMark terms all s (mark_at at (kind.Posted posted))
      → Goes terms laid s time (line.Post at posted) (mark_at at (kind.Posted posted))
  post-goes at posted legal = record {
    next = at;
    legal = record {
      serial = tt;
      postings = record {
        in_time = le-via time s.latest at trails.earlier legal.postings.in_time;
        follows = follows-timed s time (mark_at at (kind.Posted posted)) trails legal.postings.follows;
        order = record {
          counted = legal.postings.order.counted;
          raised = le-via time s.latest posted.from trails.earlier legal.postings.order.raised;
          answer = answer-timed at posted.from posted.answer legal.postings.order.answer;
        };
      };
      aborts = tt;
      boots = tt;
      end = tt;
    };
    leads = answer-leads at posted posted.answer;
    trails = record { earlier = le-self at; lost = λ boot is. refl };
  }

  unit-next : (committed : Record) (from : ℕ) → readings_in laid (record committed { reads_from = from }) ≡ readings_in all committed
      → (its : Committed)
      → IsUnitNext terms.program s.rest s.run (record { committed = committed; reads = readings_in all committed }) its
      → IsUnitNext terms.program s.rest s.run
      (record { committed = record committed { reads_from = from }; reads = readings_in laid (record committed { reads_from = from }) }) its
  unit-next committed from same (unit.Task task) is =
      record { place = is.place; lone = is.lone; one_task = is.one_task; no_posting = is.no_posting; reads = same ∙ is.reads }
  unit-next committed from same (unit.Transaction tx) is =
      record { place = is.place; no_posting = is.no_posting; reached = is.reached; whole = is.whole; reads = same ∙ is.reads }
  unit-next committed from same (unit.Event event) is =
      record { no_tasks = is.no_tasks; held = is.held; posting = is.posting; its_event = is.its_event; reads = same ∙ is.reads }

  unit-leads : (committed : Record) (from : ℕ) (its : Committed)
      → behind_unit terms.program s.rest s.run (record committed { reads_from = from }) its
      ≡ behind_unit terms.program s.rest s.run committed its
  unit-leads committed from (unit.Task task) = refl
  unit-leads committed from (unit.Transaction tx) = refl
  unit-leads committed from (unit.Event event) = refl

  -- a time of the lines stays where a mark tells none, or no line shows it
  stays : (mark : Mark) → s.latest ≤ mark.at → ((number : ℕ) → mark.kind ≡ kind.Boot number → ⊥) → FollowsLost s s.lost mark
      → (t : Standing) → t.latest ≡ mark.at → t.lost ≡ s.lost → Trails t time
  stays mark in_time other follows t at lost = record {
    earlier = omega (arith, trails.earlier, in_time, at);
    lost = λ boot is. absurd (no-lost s mark boot other follows (sym lost ∙ is));
  }

  commit-goes : (at : ℕ) (committed : Record) (from : ℕ)
      → readings_in laid (record committed { reads_from = from }) ≡ readings_in all committed
      → IsLegalMark terms all s (mark_at at (kind.Commit committed))
      → Goes terms laid s time (placed_at from (line.Commit committed)) (mark_at at (kind.Commit committed))
  commit-goes at committed from same legal =
      let mark : Mark = mark_at at (kind.Commit committed) in
      let placed : Record = record committed { reads_from = from } in
      let other : (number : ℕ) → kind.Commit committed ≡ kind.Boot number → ⊥ = λ number is. absurd cc in
      record {
        next = time;
        legal = record {
          serial = unit-next committed from same committed.unit legal.serial;
          postings = record {
            in_time = le-self time;
            follows = follows-none s (timed s time) mark (mark_at time (kind.Commit placed)) other legal.postings.follows;
            order = legal.postings.order;
          };
          aborts = tt;
          boots = tt;
          end = tt;
        };
        leads = ap (λ (r : Stand). record s { run = r; rest = left_by committed.unit committed.posting s.rest; latest = time })
            (unit-leads committed from committed.unit);
        trails = stays mark legal.postings.in_time other legal.postings.follows (after_mark terms.program s mark) refl refl;
      }

  abort-goes : (at : ℕ) (aborted : AbortOf) → IsLegalMark terms all s (mark_at at (kind.Abort aborted))
      → Goes terms laid s time (line.Abort aborted) (mark_at at (kind.Abort aborted))
  abort-goes at aborted legal =
      let mark : Mark = mark_at at (kind.Abort aborted) in
      let other : (number : ℕ) → kind.Abort aborted ≡ kind.Boot number → ⊥ = λ number is. absurd cc in
      record {
        next = time;
        legal = record {
          serial = tt;
          postings = record {
            in_time = le-self time;
            follows = follows-none s (timed s time) mark (mark_at time (kind.Abort aborted)) other legal.postings.follows;
            order = tt;
          };
          aborts = record {
            mode = legal.aborts.mode;
            unit = legal.aborts.unit;
            held = legal.aborts.held;
            due = legal.aborts.due;
            posting = legal.aborts.posting;
            word = legal.aborts.word;
          };
          boots = tt;
          end = tt;
        };
        leads = refl;
        trails = stays mark legal.postings.in_time other legal.postings.follows (after_mark terms.program s mark) refl refl;
      }

-- lines: each is legal where those before it lead, and they lead where the marks lead, but for a time
record Shows (terms : Terms) (laid : List Reading) (s : Standing) (time : ℕ) (lines : List Line) (marks : List Mark) : Type 0 where
  next : ℕ
  legal : AreLinesLegal terms laid (timed s time) lines
  leads : behind_lines terms laid (timed s time) lines ≡ timed (walk (after_mark terms.program) s marks) next
  trails : Trails (walk (after_mark terms.program) s marks) next

-- one line more in front
shows-first : (terms : Terms) (laid : List Reading) (s : Standing) (time : ℕ) (shown : Line) (lines : List Line) (mark : Mark) (more : List Mark)
    → (goes : Goes terms laid s time shown mark) → Shows terms laid (after_mark terms.program s mark) goes.next lines more
    → Shows terms laid s time (shown ∷ lines) (mark ∷ more)
shows-first terms laid s time shown lines mark more goes rest = record {
  next = rest.next;
  legal = (goes.legal, subst (λ (t : Standing). AreLinesLegal terms laid t lines) (sym goes.leads) rest.legal);
  leads = ap (λ (t : Standing). behind_lines terms laid t lines) goes.leads ∙ rest.leads;
  trails = rest.trails;
}

-- the readings of a record that stands at its place among all that are shown
placed-readings : (all laid front rest : List Reading) (from : ℕ) (committed : Record) → length front ≡ from
    → HasReadings all (line.Commit committed) → laid ≡ front ++ (readings_in all committed ++ rest)
    → readings_in laid (record committed { reads_from = from }) ≡ readings_in all committed
placed-readings all laid front rest from committed counted has is =
    let own = readings_in all committed in
    ap (λ (r : List Reading). take committed.reads_len (drop from r)) is
    ∙ ap (take committed.reads_len) (drop_at front (own ++ rest) from counted)
    ∙ take_at own rest committed.reads_len (own-counted all (line.Commit committed) has)

-- marks whose readings begin here show lines
abbrev ShowsFrom : Terms → List Reading → List Reading → List Mark → Type 0
ShowsFrom terms all laid marks = (front : List Reading) (from : ℕ) (s : Standing) (time : ℕ) → length front ≡ from
    → AllByRecursion (HasReadings all) (lines_of marks) → laid ≡ front ++ flat_map (own_readings all) (lines_of marks)
    → Trails s time → Each (after_mark terms.program) (IsLegalMark terms all) s marks
    → Shows terms laid s time (laid_from from (lines_of marks)) marks

module _ (terms : Terms) (all laid front : List Reading) (from : ℕ) (s : Standing) (time : ℕ) (more : List Mark) (counted : length front ≡ from)
    (trails : Trails s time) (on : ShowsFrom terms all laid more) where
  -- a mark that no line shows
  unseen : (mark : Mark) → ((number : ℕ) → mark.kind ≡ kind.Boot number → ⊥) → (next : Standing) → next ≡ after_mark terms.program s mark
      → timed next time ≡ timed s time → next.latest ≡ mark.at → next.lost ≡ s.lost
      → AllByRecursion (HasReadings all) (lines_of more) → laid ≡ front ++ flat_map (own_readings all) (lines_of more)
      → IsLegalMark terms all s mark → Each (after_mark terms.program) (IsLegalMark terms all) next more
      → Shows terms laid s time (laid_from from (lines_of more)) (mark ∷ more)
  unseen mark other next is same at lost has readings here there =
      let kept : Trails next time = stays terms all laid s time trails mark here.postings.in_time other here.postings.follows next at lost in
      let rest = on front from next time counted has readings kept there in
      let lines = laid_from from (lines_of more) in
      record {
        next = rest.next;
        legal = subst (λ (t : Standing). AreLinesLegal terms laid t lines) same rest.legal;
        leads = ap (λ (t : Standing). behind_lines terms laid t lines) (sym same) ∙ rest.leads
            ∙ ap (λ (t : Standing). timed (walk (after_mark terms.program) t more) rest.next) is;
        trails = subst (λ (t : Standing). Trails (walk (after_mark terms.program) t more) rest.next) is rest.trails;
      }

  kind-shows : (its : MarkKind) (at : ℕ) → AllByRecursion (HasReadings all) (lines_of (mark_at at its ∷ more))
      → laid ≡ front ++ flat_map (own_readings all) (lines_of (mark_at at its ∷ more))
      → IsLegalMark terms all s (mark_at at its)
      → Each (after_mark terms.program) (IsLegalMark terms all) (after_mark terms.program s (mark_at at its)) more
      → Shows terms laid s time (laid_from from (lines_of (mark_at at its ∷ more))) (mark_at at its ∷ more)
  kind-shows (kind.Boot number) at has is here there =
      let goes = boot-goes terms all laid s time trails number at here in
      let none : length front ≡ from + 0 = omega (arith, counted) in
      shows-first terms laid s time (line.Boot number at) (laid_from (from + 0) (lines_of more)) (mark_at at (kind.Boot number)) more goes
      (on front (from + 0) (after_mark terms.program s (mark_at at (kind.Boot number))) goes.next none has.1 is goes.trails there)
  kind-shows (kind.Posted posted) at has is here there =
      let goes = post-goes terms all laid s time trails at posted here in
      let none : length front ≡ from + 0 = omega (arith, counted) in
      shows-first terms laid s time (line.Post at posted) (laid_from (from + 0) (lines_of more)) (mark_at at (kind.Posted posted)) more goes
      (on front (from + 0) (after_mark terms.program s (mark_at at (kind.Posted posted))) goes.next none has.1 is goes.trails there)
  kind-shows (kind.Done task) at has is here there =
      let other : (number : ℕ) → kind.Done task ≡ kind.Boot number → ⊥ = λ number is. absurd cc in
      unseen (mark_at at (kind.Done task)) other (after_mark terms.program s (mark_at at (kind.Done task))) refl refl refl refl has is here there
  kind-shows (kind.Commit committed) at has is here there =
      let own = readings_in all committed in
      let rest = flat_map (own_readings all) (lines_of more) in
      let same = placed-readings all laid front rest from committed counted has.0 is in
      let goes = commit-goes terms all laid s time trails at committed from same here in
      let next : length (front ++ own) ≡ from + committed.reads_len =
      omega (arith, length-append front own, own-counted all (line.Commit committed) has.0, counted) in
      let joined : laid ≡ (front ++ own) ++ rest = is ∙ sym (append_assoc front own rest) in
      shows-first terms laid s time (placed_at from (line.Commit committed)) (laid_from (from + committed.reads_len) (lines_of more))
      (mark_at at (kind.Commit committed)) more goes
      (on (front ++ own) (from + committed.reads_len) (after_mark terms.program s (mark_at at (kind.Commit committed))) goes.next
      next has.1 joined goes.trails there)
  kind-shows (kind.Abort aborted) at has is here there =
      let goes = abort-goes terms all laid s time trails at aborted here in
      let none : length front ≡ from + 0 = omega (arith, counted) in
      shows-first terms laid s time (line.Abort aborted) (laid_from (from + 0) (lines_of more)) (mark_at at (kind.Abort aborted)) more goes
      (on front (from + 0) (after_mark terms.program s (mark_at at (kind.Abort aborted))) goes.next none has.1 is goes.trails there)
  kind-shows (kind.End ending) at has is here there =
      let other : (number : ℕ) → kind.End ending ≡ kind.Boot number → ⊥ = λ number is. absurd cc in
      unseen (mark_at at (kind.End ending)) other (after_mark terms.program s (mark_at at (kind.End ending))) refl refl refl refl has is here there

marks-show : (terms : Terms) (all laid : List Reading) (marks : List Mark) → ShowsFrom terms all laid marks
marks-show terms all laid [] front from s time counted has is trails legal = record { next = time; legal = tt; leads = refl; trails = trails }
marks-show terms all laid (mark ∷ more) front from s time counted has is trails legal =
    kind-shows terms all laid front from s time more counted trails (marks-show terms all laid more) mark.kind mark.at has is legal.0 legal.1

-- the last of some marks, and those before it
module _ (step : Standing → Mark → Standing) (P : Standing → Mark → Type 0) where
  record Parts (s : Standing) (before : List Mark) (last : Mark) : Type 0 where
    front : Each step P s before
    here : P (walk step s before) last
    leads : walk step s (before ++ last ∷ []) ≡ step (walk step s before) last

  parts : (s : Standing) (before : List Mark) (last : Mark) → Each step P s (before ++ last ∷ []) → Parts s before last
  parts s [] last each = record { front = tt; here = each.0; leads = refl }
  parts s (first ∷ more) last each =
      let rest = parts (step s first) more last each.1 in
      record { front = (each.0, rest.front); here = rest.here; leads = rest.leads }

-- the value of a word
value-at : (word count inside : ℕ) (store : Store) → inside < count → slice_index (values_from word count store) inside ≡ store (word + inside)
value-at word zero inside store below = absurd (omega (arith, below))
value-at word (suc count) zero store below = let e : word ≡ word + zero = omega arith in ap store e
value-at word (suc count) (suc inside) store below =
    let less : inside < count = omega (arith, below) in
    let e : suc word + inside ≡ word + suc inside = omega arith in
    value-at (suc word) count inside store less ∙ ap store e

end-timed : (s : Standing) (time : ℕ) (its : End) → IsEndLegal s its → IsEndLegal (timed s time) its
end-timed s time end.Idle is = record { place = is.place; rest = is.rest }
end-timed s time end.Limit is = tt

pub run-serial : (terms : Terms) (past : Past) (before : List Mark) (at : ℕ) (ending : End) → IsLegalHistory terms past → IsEnded past before at ending
    → stand_of terms.program past ≡ (standing_of terms.program past.marks).run
    → IsSerialAndLegal terms (period_bound terms.program)
    (shown_of terms.program terms.mode before past.readings ending (stand_of terms.program past).store (length (rest_of terms.program past.marks)))
run-serial terms past before at ending legal ended stand =
    let program = terms.program in
    let step = after_mark program in
    let last : Mark = mark_at at (kind.End ending) in
    let start : Standing = opening program in
    let store = (stand_of program past).store in
    let held = length (rest_of program past.marks) in
    let shown = shown_of program terms.mode before past.readings ending store held in
    let P = IsLegalMark terms past.readings in
    let each : Each step P start (before ++ last ∷ []) = subst (λ (marks : List Mark). Each step P start marks) ended.last legal.marks in
    let found = parts step P start before last each in
    let begin : Trails start 0 = record { earlier = le-self 0; lost = λ boot is. refl } in
    let shows = marks-show terms past.readings shown.readings before [] 0 start 0 refl ended.kept refl begin found.front in
    let there : Standing = walk step start before in
    let told : Standing = behind_lines terms shown.readings start shown.lines in
    let other : (number : ℕ) → kind.End ending ≡ kind.Boot number → ⊥ = λ number is. absurd cc in
    let ends : IsLegalMark terms shown.readings (timed there shows.next) (mark_at shows.next (kind.End ending)) = record {
      serial = tt;
      postings = record {
        in_time = le-self shows.next;
        follows = follows-none there (timed there shows.next) last (mark_at shows.next (kind.End ending)) other found.here.postings.follows;
        order = tt;
      };
      aborts = tt;
      boots = tt;
      end = end-timed there shows.next ending found.here.end;
    } in
    let leads : told ≡ timed there shows.next = shows.leads in
    let all : standing_of program past.marks ≡ step there last =
    ap (walk step start) ended.last ∙ found.leads in
    let run : (stand_of program past).store ≡ told.run.store =
    ap (λ (r : Stand). r.store) (stand ∙ ap (λ (t : Standing). t.run) all) ∙ sym (ap (λ (t : Standing). t.run.store) leads) in
    record {
      mode = refl;
      bounds = refl;
      lines = shows.legal;
      end = subst (λ (t : Standing). IsLegalMark terms shown.readings t (mark_at t.latest (kind.End ending))) (sym leads) ends;
      values = record {
        count = length-values 0 (word_count program.vars) store;
        each = λ word inside.
            let below : word < word_count program.vars = omega (arith, inside, length-values 0 (word_count program.vars) store) in
            let here : 0 + word ≡ word = omega arith in
            value-at 0 (word_count program.vars) word store below ∙ ap store here ∙ ap (λ (found : Store). found word) run;
      };
      held = ap (λ (t : Standing). length t.rest) all ∙ sym (ap (λ (t : Standing). length t.rest) leads);
    }
