-- The numbers that legal marks tell are in range.
use Rattle.std.proofs.Common.{◌≡◌, ◌<◌, ◌≤◌, ◌+◌, ◌==◌, ℕ, suc, Bool, true, false, List, [], ◌∷◌, length, refl, sym, subst, ap, arith, if◌then◌else◌, length-append}
use Rattle.std.specs.Prelude.{Option, Some, None, flat_map}
use Rattle.std.specs.List.{AllByRecursion}
use Rattle.std.specs.Option.{option_map_or}
use Rattle.std.proofs.lemmas.Grind.{flat_map-append}
use Rattle.coati_word.specs.declared.limits.TheConstants.{EXECUTOR_STEPS}
use Rattle.coati_word.specs.declared.reading.Reading.{Reading}
use Rattle.coati_word.specs.OperatorLaws.{IsWord}
use Rattle.task_syntax.specs.declared.program.Program.{Program}
use Rattle.task_syntax.specs.Units.{Reached, task_effect, tasks_effect, whole_effect}
use Rattle.serial_log.specs.declared.abort.AbortOf.{AbortOf}
use Rattle.serial_log.specs.declared.held.Held.{Held}
use Rattle.serial_log.specs.declared.mark.Mark.{Mark}
use Rattle.serial_log.specs.declared.mark.MarkKind.{MarkKind}
use Rattle.serial_log.specs.declared.mark.MarkKind.TheVariants as kind
use Rattle.serial_log.specs.declared.posted.Answer.{Answer}
use Rattle.serial_log.specs.declared.posted.Answer.TheVariants as answer
use Rattle.serial_log.specs.declared.posted.Posted.{Posted as Raised}
use Rattle.serial_log.specs.declared.record.Record.{Record}
use Rattle.serial_log.specs.declared.script.Posting.{Posting}
use Rattle.serial_log.specs.declared.unit.Unit.{Unit as Committed}
use Rattle.serial_log.specs.declared.unit.Unit.TheVariants as unit
use Rattle.serial_log.specs.Aborts.{IsAbortLegal, IsUnitAt}
use Rattle.serial_log.specs.History.{readings_in}
use Rattle.serial_log.specs.Legal.{IsLegalMark}
use Rattle.serial_log.specs.Marks.{Entry}
use Rattle.serial_log.specs.Postings.{IsInOrder, IsLegalAnswer, IsLegalPost, Terms}
use Rattle.serial_log.specs.Printed.{lines_of, mark_at, shown_as}
use Rattle.serial_log.specs.Scripted.{Sent}
use Rattle.serial_log.specs.SerialRun.{IsUnitNext, Stand, behind_event, behind_tasks, behind_unit, posting_numbered}
use Rattle.serial_log.specs.Standing.{Standing, after_answer, after_mark, one_more_of, opening, standing_of}
use Rattle.serial_log.specs.Walk.{Each, walk}
use Rattle.executor.specs.InTurn as turn
use Rattle.executor.specs.InTurn.{IsFirstLeft, IsInTurn, Turns, behind_first}
use Rattle.trace_text.specs.Trace.{IsPosting}
use Rattle.trace_out.specs.Printed.{HasUnit, IsAbort, IsAnswerInRange, IsCounted, IsLine, IsOfTasks, IsPost, IsReading, greatest_number}
use Rattle.trace_out.specs.ShownRun.{own_readings}
use Rattle.word_values.specs.Words.{HoldsWords}
use Rattle.shown_runs.specs.Counts.{HaveTasksWithin, tasks_in}
use Rattle.shown_runs.proofs.Alls.{all-joined}
use Rattle.shown_runs.proofs.Effects.{HasEffects}
use Rattle.shown_runs.proofs.Touched.{shares-variable, some-tasks, whole-reached}
use Rattle.shown_runs.proofs.Transactions.{known-transaction}
use Rattle.shown_runs.proofs.Waiting.{IsWaiting, due-waits, found-waits, left-fewer, left-waits, more-wait}

module _ (terms : Terms) (all : List Reading) (postings : List Posting) (effects : HasEffects terms.program) (few : length postings ≤ 4096) where
  abbrev own : Program
  own = terms.program

  -- what is so where marks lead
  record Facts (s : Standing) (t : Turns) : Type 0 where
    boots : s.boots ≤ s.last_boot
    last : s.last_boot ≤ s.latest
    accepted : s.accepted ≤ s.latest
    waits : AllByRecursion (IsWaiting own s.accepted) s.rest
    held : length s.rest ≤ s.accepted
    raised : (device : ℕ) → s.raised device + length t.left ≤ length postings
    left : AllByRecursion (IsPosting own) t.left
    words : HoldsWords s.run.store

  -- what a mark tells is in range
  record Ranged (at : ℕ) (its : MarkKind) : Type 0 where
    lines : AllByRecursion (IsLine own) (shown_as at its)
    told : AllByRecursion (IsReading own) (flat_map (own_readings all) (shown_as at its))

  module _ (s : Standing) (t : Turns) (facts : Facts s t) (at : ℕ) (in_time : s.latest ≤ at) where
    -- the readings of a unit
    reads-ranged : (entry : Entry) (its : Committed) → IsUnitNext own s.rest s.run entry its → AllByRecursion (IsReading own) entry.reads
    reads-ranged entry (unit.Task task) next =
        subst (AllByRecursion (IsReading own)) (sym next.reads)
        (effects.units task 1 s.run.store (task_effect own task s.run.store) facts.words refl).reads
    reads-ranged entry (unit.Transaction tx) next =
        let reached = whole-reached own s.run.place s.run.store entry.committed.tasks next.reached next.whole in
        subst (AllByRecursion (IsReading own)) (sym next.reads)
        (effects.units s.run.place entry.committed.tasks s.run.store next.reached facts.words reached).reads
    reads-ranged entry (unit.Event event) next =
        let waits = found-waits own s.accepted entry.committed.posting s.rest next.held facts.waits next.posting in
        subst (AllByRecursion (IsReading own)) (sym next.reads)
        (effects.events event next.held.argument s.run.store waits.argument facts.words).reads

    -- in time
    module _ (most : at ≤ greatest_number) where
      unit-ranged : (entry : Entry) (its : Committed) → IsUnitNext own s.rest s.run entry its → IsInOrder s.rest entry.committed.posting its
          → entry.committed.tasks ≤ EXECUTOR_STEPS → HasUnit own its × IsCounted entry.committed its
      unit-ranged entry (unit.Task task) next order counted = (next.lone.there, (next.one_task, next.no_posting))
      unit-ranged entry (unit.Transaction tx) next order counted =
          let reached = whole-reached own s.run.place s.run.store entry.committed.tasks next.reached next.whole in
          let some = some-tasks own s.run.place s.run.store entry.committed.tasks next.reached reached in
          (known-transaction own tx s.run.place next.place, ((some, counted), next.no_posting))
      unit-ranged entry (unit.Event event) next order counted =
          let waits = found-waits own s.accepted entry.committed.posting s.rest next.held facts.waits next.posting in
          let due = due-waits own s.accepted s.rest order.oldest facts.waits order.due in
          let number = due.number in
          let same = order.number in
          let accepted = facts.accepted in (
            subst (λ (n : ℕ). n < length own.events) next.its_event waits.event,
            (next.no_tasks, omega (arith, number, same, accepted, in_time, most)),
          )

      unit-known : (its : Committed) → IsUnitAt own s.run.place its → HasUnit own its × IsOfTasks its
      unit-known (unit.Task task) is = (is.1.there, tt)
      unit-known (unit.Transaction tx) is = (known-transaction own tx s.run.place is, tt)
      unit-known (unit.Event event) is = absurd is

      abort-ranged : (aborted : AbortOf) → IsAbortLegal terms s aborted → aborted.tasks ≤ EXECUTOR_STEPS → IsAbort own aborted
      abort-ranged aborted legal counted =
          let clash = legal.word in
          let effect = effects.units s.run.place aborted.tasks s.run.store clash.reached facts.words clash.tasks in
          let known = unit-known aborted.unit legal.unit in
          let due = due-waits own s.accepted s.rest legal.held facts.waits legal.due in
          let number = due.number in
          let same = legal.posting in
          let accepted = facts.accepted in
          record {
            unit = known.0;
            of_tasks = known.1;
            tasks = (some-tasks own s.run.place s.run.store aborted.tasks clash.reached clash.tasks, counted);
            posting = omega (arith, number, same, accepted, in_time, most);
            word = shares-variable own clash.reached.done aborted.word effect.stays clash.least.clash.shared;
          }

      answer-ranged : (from : ℕ) (its : Answer) → s.latest ≤ from → IsLegalAnswer terms s at from its → (from ≤ at) × IsAnswerInRange its
      answer-ranged from (answer.Accepted number) after legal =
          let later = legal.handled.later in
          let is = legal.numbered in
          let accepted = facts.accepted in
          (omega (arith, later), omega (arith, later, is, accepted, after, most))
      answer-ranged from answer.Full after legal = let is = legal.at_once in (omega (arith, is), tt)
      answer-ranged from (answer.Lost boot) after legal =
          let later = legal.handled.later in
          let is = legal.numbered in
          let boots = facts.boots in
          let last = facts.last in
          (omega (arith, later), omega (arith, later, is, boots, last, after, most))

      post-ranged : (posted : Raised) → IsLegalPost terms s at posted → IsFirstLeft t posted → IsPost own at posted
      post-ranged posted legal turned =
          let first = subst (AllByRecursion (IsPosting own)) turned.left facts.left in
          let device = ap (λ (sent : Sent). sent.device) turned.sent in
          let event = ap (λ (sent : Sent). sent.event) turned.sent in
          let argument = ap (λ (sent : Sent). sent.argument) turned.sent in
          let left : length t.left ≡ suc (length turned.more) = ap length turned.left in
          let raised = facts.raised posted.device in
          let counted = legal.counted in
          let answered = answer-ranged posted.from posted.answer legal.raised legal.answer in
          let from = answered.0 in
          let own_device = first.0.device in
          let own_argument = first.0.argument in
          record {
            device = omega (arith, device, own_device);
            index = omega (arith, counted, raised, left, few);
            event = subst (λ (n : ℕ). n < length own.events) (sym event) first.0.event;
            argument = omega (arith, argument, own_argument);
            from = omega (arith, from, most);
            answered = most;
            answer = answered.1;
          }

      kind-ranged : (its : MarkKind) → IsLegalMark terms all s (mark_at at its) → IsInTurn t its → tasks_in its ≤ EXECUTOR_STEPS
          → Ranged at its
      kind-ranged (kind.Boot number) legal turned counted =
          let is = legal.boots.counted in
          let later = legal.boots.later in
          let boots = facts.boots in
          record { lines = ((omega (arith, is, later, boots, most), most), tt); told = tt }
      kind-ranged (kind.Posted posted) legal turned counted =
          record { lines = (post-ranged posted legal.postings.order turned, tt); told = tt }
      kind-ranged (kind.Done task) legal turned counted = record { lines = tt; told = tt }
      kind-ranged (kind.Commit committed) legal turned counted =
          let entry : Entry = record { committed = committed; reads = readings_in all committed } in
          let ranged = unit-ranged entry committed.unit legal.serial legal.postings.order counted in
          record {
            lines = (record { unit = ranged.0; counted = ranged.1 }, tt);
            told = all-joined (IsReading own) (readings_in all committed) []
                (reads-ranged entry committed.unit legal.serial) tt;
          }
      kind-ranged (kind.Abort aborted) legal turned counted =
          record { lines = (abort-ranged aborted legal.aborts counted, tt); told = tt }
      kind-ranged (kind.End end) legal turned counted = record { lines = tt; told = tt }

    -- where a unit leads
    behind-tasks : (stand : Stand) → HoldsWords stand.store → (task count : ℕ) (found : Option Reached)
        → ((reached : Reached) → found ≡ Some reached → tasks_effect own task stand.store count ≡ Some reached)
        → HoldsWords (option_map_or (behind_tasks stand) found stand).store
    behind-tasks stand words task count None so = words
    behind-tasks stand words task count (Some reached) so = (effects.units task count stand.store reached words (so reached refl)).store_after

    behind-event : (found : Option Held) → ((held : Held) → found ≡ Some held → IsWaiting own s.accepted held)
        → HoldsWords (option_map_or (behind_event own s.run) found s.run).store
    behind-event None so = facts.words
    behind-event (Some held) so = (effects.events held.event held.argument s.run.store (so held refl).argument facts.words).store_after

    behind-words : (committed : Record) (its : Committed) → HoldsWords (behind_unit own s.rest s.run committed its).store
    behind-words committed (unit.Task task) = (effects.units task 1 s.run.store (task_effect own task s.run.store) facts.words refl).store_after
    behind-words committed (unit.Transaction tx) =
        behind-tasks s.run facts.words s.run.place committed.tasks (whole_effect own s.run.place s.run.store committed.tasks)
        (whole-reached own s.run.place s.run.store committed.tasks)
    behind-words committed (unit.Event event) =
        behind-event (posting_numbered committed.posting s.rest)
        (λ held is. found-waits own s.accepted committed.posting s.rest held facts.waits is)

    -- where the mark leads
    -- as it was
    stays : (next : Standing) → next.boots ≡ s.boots → next.last_boot ≡ s.last_boot → next.accepted ≡ s.accepted → next.latest ≡ at
        → next.raised ≡ s.raised → AllByRecursion (IsWaiting own s.accepted) next.rest → length next.rest ≤ length s.rest
        → HoldsWords next.run.store → Facts next t
    stays next boots last accepted latest raised waits fewer words =
        let old_boots = facts.boots in
        let old_last = facts.last in
        let old_accepted = facts.accepted in
        record {
          boots = omega (arith, boots, last, old_boots);
          last = omega (arith, last, latest, old_last, in_time);
          accepted = omega (arith, accepted, latest, old_accepted, in_time);
          waits = subst (λ (n : ℕ). AllByRecursion (IsWaiting own n) next.rest) (sym accepted) waits;
          held = let held = facts.held in omega (arith, fewer, held, accepted);
          raised = subst (λ (counts : ℕ → ℕ). (device : ℕ) → counts device + length t.left ≤ length postings) (sym raised) facts.raised;
          left = facts.left;
          words = words;
        }

    behind-all : (left : List Posting) → AllByRecursion (IsPosting own) left → AllByRecursion (IsPosting own) (behind_first left)
    behind-all [] told = tt
    behind-all (first ∷ more) told = told.1

    raised-still : (posted : Raised) → IsFirstLeft t posted → (device : ℕ)
        → one_more_of posted.device s.raised device + length (behind_first t.left) ≤ length postings
    raised-still posted turned device = by (device == posted.device)
      where
        left : length t.left ≡ suc (length turned.more)
        left = ap length turned.left

        behind : length (behind_first t.left) ≡ length turned.more
        behind = ap (λ (postings : List Posting). length (behind_first postings)) turned.left

        by : (same : Bool) → (if same then s.raised device + 1 else s.raised device) + length (behind_first t.left) ≤ length postings
        by true = let raised = facts.raised device in omega (arith, raised, left, behind)
        by false = let raised = facts.raised device in omega (arith, raised, left, behind)

    answer-facts : (posted : Raised) (its : Answer) → IsLegalAnswer terms s at posted.from its → s.latest ≤ posted.from → IsFirstLeft t posted
        → Facts (record (after_answer s posted its) { latest = at }) (record { left = behind_first t.left; answered = at })
    answer-facts posted (answer.Accepted number) legal after turned =
        let later = legal.handled.later in
        let is = legal.numbered in
        let boots = facts.boots in
        let last = facts.last in
        let accepted = facts.accepted in
        let first = subst (AllByRecursion (IsPosting own)) turned.left facts.left in
        let event : posted.event < length own.events =
        subst (λ (n : ℕ). n < length own.events) (sym (ap (λ (sent : Sent). sent.event) turned.sent)) first.0.event in
        let waiting : Held = record { number = number; event = posted.event; argument = posted.argument } in
        let own_argument = first.0.argument in
        let same_argument = ap (λ (sent : Sent). sent.argument) turned.sent in
        let argument : IsWord posted.argument = omega (arith, own_argument, same_argument) in
        record {
          boots = boots;
          last = omega (arith, last, in_time);
          accepted = omega (arith, later, accepted, after);
          waits = all-joined (IsWaiting own (s.accepted + 1)) s.rest _ (more-wait own (s.accepted + 1) s.rest (omega arith) facts.waits)
              (record { number = omega (arith, is); event = event; argument = argument }, tt);
          held = let held = facts.held in omega (arith, held, length-append s.rest (waiting ∷ []));
          raised = raised-still posted turned;
          left = behind-all t.left facts.left;
          words = facts.words;
        }
    answer-facts posted answer.Full legal after turned =
        let boots = facts.boots in
        let last = facts.last in
        let accepted = facts.accepted in
        record {
          boots = boots;
          last = omega (arith, last, in_time);
          accepted = omega (arith, accepted, in_time);
          waits = facts.waits;
          held = facts.held;
          raised = raised-still posted turned;
          left = behind-all t.left facts.left;
          words = facts.words;
        }
    answer-facts posted (answer.Lost boot) legal after turned =
        let boots = facts.boots in
        let last = facts.last in
        let accepted = facts.accepted in
        record {
          boots = boots;
          last = omega (arith, last, in_time);
          accepted = omega (arith, accepted, in_time);
          waits = facts.waits;
          held = facts.held;
          raised = raised-still posted turned;
          left = behind-all t.left facts.left;
          words = facts.words;
        }

    kind-facts : (its : MarkKind) → IsLegalMark terms all s (mark_at at its) → IsInTurn t its
        → Facts (after_mark own s (mark_at at its)) (turn.after_mark t (mark_at at its))
    kind-facts (kind.Boot number) legal turned =
        let later = legal.boots.later in
        let boots = facts.boots in
        let accepted = facts.accepted in
        record {
          boots = omega (arith, later, boots);
          last = omega arith;
          accepted = omega (arith, accepted, in_time);
          waits = facts.waits;
          held = facts.held;
          raised = facts.raised;
          left = facts.left;
          words = facts.words;
        }
    kind-facts (kind.Posted posted) legal turned =
        answer-facts posted posted.answer legal.postings.order.answer legal.postings.order.raised turned
    kind-facts (kind.Done task) legal turned = stays _ refl refl refl refl refl facts.waits (omega arith) facts.words
    kind-facts (kind.Commit committed) legal turned =
        stays _ refl refl refl refl refl (left-waits own s.accepted committed.unit committed.posting s.rest facts.waits)
        (left-fewer committed.unit committed.posting s.rest) (behind-words committed committed.unit)
    kind-facts (kind.Abort aborted) legal turned = stays _ refl refl refl refl refl facts.waits (omega arith) facts.words
    kind-facts (kind.End end) legal turned = stays _ refl refl refl refl refl facts.waits (omega arith) facts.words

  -- where all marks lead
  pub record IsLast (s : Standing) : Type 0 where
    pub held : length s.rest ≤ s.latest
    pub words : HoldsWords s.run.store

  -- what marks tell is in range
  pub record AreRanged (marks : List Mark) : Type 0 where
    pub lines : AllByRecursion (IsLine own) (lines_of marks)
    pub told : AllByRecursion (IsReading own) (flat_map (own_readings all) (lines_of marks))

  -- none is later than where they lead
  record AreInTime (s : Standing) (marks : List Mark) (most : ℕ) : Type 0 where
    ranged : AreRanged marks
    in_time : s.latest ≤ most
    last : IsLast (walk (after_mark own) s marks)

  one-more : (mark : Mark) (more : List Mark) → Ranged mark.at mark.kind → AreRanged more → AreRanged (mark ∷ more)
  one-more mark more here there =
      let lines = shown_as mark.at mark.kind in
      record {
        lines = all-joined (IsLine own) lines (lines_of more) here.lines there.lines;
        told = subst (AllByRecursion (IsReading own)) (sym (flat_map-append (own_readings all) lines (lines_of more)))
            (all-joined (IsReading own) (flat_map (own_readings all) lines) (flat_map (own_readings all) (lines_of more)) here.told there.told);
      }

  all-ranged : (most : ℕ) → most ≤ greatest_number → (s : Standing) (t : Turns) (marks : List Mark) → Facts s t
      → Each (after_mark own) (IsLegalMark terms all) s marks → Each turn.after_mark (λ turns mark. IsInTurn turns mark.kind) t marks
      → HaveTasksWithin EXECUTOR_STEPS marks → (walk (after_mark own) s marks).latest ≤ most → AreInTime s marks most
  all-ranged most fits s t [] facts legal turned counted in_time =
      let held = facts.held in
      let accepted = facts.accepted in
      record {
        ranged = record { lines = tt; told = tt };
        in_time = in_time;
        last = record { held = omega (arith, held, accepted); words = facts.words };
      }
  all-ranged most fits s t (mark ∷ more) facts legal turned counted in_time =
      let after = legal.0.postings.in_time in
      let next = kind-facts s t facts mark.at after mark.kind legal.0 turned.0 in
      let rest = all-ranged most fits (after_mark own s mark) (turn.after_mark t mark) more next legal.1 turned.1 counted.1 in_time in
      let at : mark.at ≤ most = rest.in_time in
      let here = kind-ranged s t facts mark.at after (omega (arith, at, fits)) mark.kind legal.0 turned.0 counted.0 in
      record { ranged = one-more mark more here rest.ranged; in_time = omega (arith, after, at); last = rest.last }

  -- so are those from the opening on
  pub record MarksRanged (marks : List Mark) : Type 0 where
    pub ranged : AreRanged marks
    pub last : IsLast (standing_of own marks)

  pub marks-ranged : (most : ℕ) → most ≤ greatest_number → (marks : List Mark) → AllByRecursion (IsPosting own) postings
      → Each (after_mark own) (IsLegalMark terms all) (opening own) marks
      → Each turn.after_mark (λ turns mark. IsInTurn turns mark.kind) (turn.all_left postings) marks → HaveTasksWithin EXECUTOR_STEPS marks
      → (walk (after_mark own) (opening own) marks).latest ≤ most → HoldsWords (opening own).run.store → MarksRanged marks
  marks-ranged most fits marks told legal turned counted in_time words =
      let first : Facts (opening own) (turn.all_left postings) = record {
        boots = omega arith;
        last = omega arith;
        accepted = omega arith;
        waits = tt;
        raised = λ device. omega arith;
        left = told;
        held = omega arith;
        words = words;
      } in
      let all_so = all-ranged most fits (opening own) (turn.all_left postings) marks first legal turned counted in_time in
      record { ranged = all_so.ranged; last = all_so.last }
