-- The mark of an answered posting is legal, and the history stands for what the answer says.
use Rattle.std.proofs.Common.{◌≡◌, ◌≢◌, ◌⊎◌, ℕ, ◌+◌, ◌<◌, ◌≤◌, ◌==◌, List, [], ◌∷◌, ◌++◌, true, Option, Some, None, refl, sym, ap, subst, ◌∙◌, arith, inl, inr, length, length-append, map, append-nil}
use Rattle.std.specs.Prelude.{All, sum, take}
use Rattle.std.proofs.lemmas.Bool.{cases_eq}
use Rattle.std.proofs.lemmas.List.{map-append}
use Rattle.std.proofs.lemmas.List.Elements.{All-append, All-cons, All-nil, filter-append}
use Rattle.task_syntax.specs.declared.program.Program.{Program}
use Rattle.nv_memory.proofs.Looks.{test_other, test_same}
use Rattle.nv_memory.specs.State.{State}
use Rattle.nv_memory.specs.Words.{mode}
use Rattle.serial_log.specs.declared.held.Held.{Held}
use Rattle.serial_log.specs.declared.mark.Mark.{Mark}
use Rattle.serial_log.specs.declared.mark.MarkKind.{MarkKind}
use Rattle.serial_log.specs.declared.mark.MarkKind.TheVariants.{Boot, Posted, Done, Commit, Abort}
use Rattle.serial_log.specs.declared.mark.MarkKind.TheVariants as kind
use Rattle.serial_log.specs.declared.posted.Answer.{Answer}
use Rattle.serial_log.specs.declared.posted.Answer.TheVariants.{Accepted, Full, Lost}
use Rattle.serial_log.specs.declared.posted.Posted.{Posted as Raised}
use Rattle.serial_log.specs.History.{AreRecordsIn, Past, with_mark}
use Rattle.serial_log.specs.Laws.{HistoriesGoOn, MarksJoinUp, TurnsGoOn}
use Rattle.serial_log.specs.Legal.{AreMarksLegal, IsLegalMark}
use Rattle.serial_log.specs.Marks.{boot_times, raised_by, raised_postings}
use Rattle.serial_log.specs.Postings.{FollowsLost, IsDue, IsLegalAnswer, IsLegalPost, Terms}
use Rattle.serial_log.specs.Progresses.{IsServedFirst, Settled, awaited_of, settled_of}
use Rattle.serial_log.specs.Scripted.{Sent, ends_from, of_device, sent_as}
use Rattle.serial_log.specs.Standing.{Standing, after_answer, after_kind, after_mark, one_more_of, opening, standing_of}
use Rattle.serial_log.specs.Walk.{walk}
use Rattle.coati_device.specs.declared.device.Phase.{Phase}
use Rattle.coati_device.specs.declared.device.Phase.TheVariants.{Choose}
use Rattle.coati_device.specs.OpenUnit.{has_unit}
use Rattle.coati_device.specs.Points.{AreBootsTold, IsLegalBy, IsOfTask, ServesInTurn, TakeTurns}
use Rattle.coati_device.proofs.LeftAttempts.{due_stays}
use Rattle.coati_device.proofs.Times.{take_ends}

-- how many postings of a device these are
abbrev count_in : ℕ → List Raised → ℕ
count_in device raised = length (of_device device (map sent_as raised))

counts_more : (device : ℕ) (raised more : List Raised)
    → count_in device (raised ++ more) ≡ count_in device raised + count_in device more
counts_more device raised more =
    ap (λ (sent : List Sent). length (of_device device sent)) (map-append sent_as raised more)
    ∙ ap length (filter-append (λ (one : Sent). one.device == device) (map sent_as raised)
    (map sent_as more))
    ∙ length-append (of_device device (map sent_as raised)) (of_device device (map sent_as more))

one_counted : (device : ℕ) (counts : ℕ → ℕ) (posted : Raised)
    → one_more_of posted.device counts device ≡ counts device + count_in device (posted ∷ [])
one_counted device counts posted = elim (cases_eq posted.device device) [
  | inl own ↦ rw (test_same posted.device device own, test_same device posted.device (sym own))
      (omega arith)
  | inr other ↦
      rw (
        test_other posted.device device other,
        test_other device posted.device
            (λ e. other (sym e)),
      ) (omega arith)
]

answer_counted : (device : ℕ) (s : Standing) (posted : Raised) (answer : Answer)
    → (after_answer s posted answer).raised device
    ≡ s.raised device + count_in device (posted ∷ [])
answer_counted device s posted (Accepted number) = one_counted device s.raised posted
answer_counted device s posted Full = one_counted device s.raised posted
answer_counted device s posted (Lost boot) = one_counted device s.raised posted

kind_counted : (program : Program) (device : ℕ) (s : Standing) (at : ℕ) (sort : MarkKind)
    → (after_kind program s at sort).raised device
    ≡ s.raised device + count_in device (raised_by sort)
kind_counted program device s at (Boot number) = omega arith
kind_counted program device s at (Posted posted) = answer_counted device s posted posted.answer
kind_counted program device s at (Done task) = omega arith
kind_counted program device s at (Commit committed) = omega arith
kind_counted program device s at (Abort aborted) = omega arith
kind_counted program device s at (kind.End end) = omega arith

walk_counted : (program : Program) (device : ℕ) (s : Standing) (marks : List Mark)
    → (walk (after_mark program) s marks).raised device
    ≡ s.raised device + count_in device (raised_postings marks)
walk_counted program device s [] = omega arith
walk_counted program device s (mark ∷ more) =
    let here = kind_counted program device s mark.at mark.kind in
    let all = counts_more device (raised_by mark.kind) (raised_postings more) in
    walk_counted program device (after_mark program s mark) more ∙ (let both :
    (after_kind program s mark.at mark.kind).raised device + count_in device (raised_postings more)
    ≡ s.raised device + count_in device (raised_by mark.kind ++ raised_postings more) =
    omega (arith, here, all) in both)

-- a history counts each device's postings
pub raised_counted : (program : Program) (device : ℕ) (marks : List Mark)
    → (standing_of program marks).raised device
    ≡ length (of_device device (map sent_as (raised_postings marks)))
raised_counted program device marks =
    let all = walk_counted program device (opening program) marks in omega (arith, all)

abbrev pub posted_at : ℕ → Raised → Mark
posted_at at posted = record { at = at; kind = Posted posted }

abbrev pub boot_at : ℕ → ℕ → Mark
boot_at at number = record { at = at; kind = Boot number }

-- an accepted posting came after those that were accepted before
abbrev IsNumbered : ℕ → Answer → Type 0
IsNumbered accepted (Accepted number) = number ≡ accepted + 1
IsNumbered accepted Full = Unit {0}
IsNumbered accepted (Lost boot) = Unit {0}

numbered_by : (terms : Terms) (s : Standing) (at from : ℕ) (answer : Answer)
    → IsLegalAnswer terms s at from answer
    → IsNumbered s.accepted answer
numbered_by terms s at from (Accepted number) legal = legal.numbered
numbered_by terms s at from Full legal = tt
numbered_by terms s at from (Lost boot) legal = tt

waits_later : (settled : ℕ) (s : Standing) (posted : Raised) (answer : Answer)
    → IsNumbered s.accepted answer
    → settled ≤ s.accepted → All (λ held. settled < held.number) s.rest
    → All (λ held. settled < held.number) (after_answer s posted answer).rest
waits_later settled s posted (Accepted number) numbered low all =
    let held : Held =
    record { number = number; event = posted.event; argument = posted.argument } in
    let later : settled < number = omega (arith, numbered, low) in
    All-append (λ (one : Held). settled < one.number) s.rest (held ∷ []) all
    (All-cons (λ (one : Held). settled < one.number) held [] later
    (All-nil (λ (one : Held). settled < one.number)))
waits_later settled s posted Full numbered low all = all
waits_later settled s posted (Lost boot) numbered low all = all

accepted_more : (s : Standing) (posted : Raised) (answer : Answer)
    → s.accepted ≤ (after_answer s posted answer).accepted
accepted_more s posted (Accepted number) = omega arith
accepted_more s posted Full = omega arith
accepted_more s posted (Lost boot) = omega arith

module _ (go_on : HistoriesGoOn) (turns : TurnsGoOn) (join : MarksJoinUp) (terms : Terms) where
  pub posted_standing : (marks : List Mark) (at : ℕ) (posted : Raised)
      → standing_of terms.program (marks ++ posted_at at posted ∷ [])
      ≡ after_mark terms.program (standing_of terms.program marks) (posted_at at posted)
  posted_standing marks at posted = (go_on terms [] marks (posted_at at posted)).standing

  pub booted_standing : (marks : List Mark) (at number : ℕ)
      → standing_of terms.program (marks ++ boot_at at number ∷ [])
      ≡ after_mark terms.program (standing_of terms.program marks) (boot_at at number)
  booted_standing marks at number = (go_on terms [] marks (boot_at at number)).standing

  -- the marks are legal up to here, also where a lost posting still lacks its boot
  record AreLegalUpTo (past : Past) : Type 0 where
    records : AreRecordsIn (length past.readings) past.marks
    legal : AreMarksLegal terms past.readings past.marks

  posted_marks : (past : Past) (from at : ℕ) (posted : Raised) → IsLegalBy terms past from
      → from ≤ at
      → IsLegalPost terms (standing_of terms.program past.marks) at posted
      → AreLegalUpTo (with_mark past (posted_at at posted))
  posted_marks past from at posted h later legal =
      let standing : Standing = standing_of terms.program past.marks in
      let goes = go_on terms past.readings past.marks (posted_at at posted) in
      let latest = h.latest in
      let is : IsLegalMark terms past.readings standing (posted_at at posted) = record {
        serial = tt;
        postings = record {
          in_time = omega (arith, latest, later);
          follows =
              subst (λ (lost : Option ℕ). FollowsLost standing lost (posted_at at posted))
              (sym h.booted) tt;
          order = legal;
        };
        aborts = tt;
        boots = tt;
        end = tt;
      } in
      record { records = goes.records h.records tt; legal = goes.legal h.legal is }

  answer_leaves : (s : Standing) (posted : Raised) (answer : Answer)
      → ((boot : ℕ) → answer ≢ Lost boot)
      → (after_answer s posted answer).lost ≡ s.lost
  answer_leaves s posted (Accepted number) not_lost = refl
  answer_leaves s posted Full not_lost = refl
  answer_leaves s posted (Lost boot) not_lost = absurd (not_lost boot refl)

  -- a posting that wasn't lost
  pub posted_legal : (past : Past) (from at : ℕ) (posted : Raised) → IsLegalBy terms past from
      → from ≤ at
      → IsLegalPost terms (standing_of terms.program past.marks) at posted
      → ((boot : ℕ) → posted.answer ≢ Lost boot)
      → IsLegalBy terms (with_mark past (posted_at at posted)) at
  posted_legal past from at posted h later legal not_lost =
      let up_to = posted_marks past from at posted h later legal in
      let standing = posted_standing past.marks at posted in
      record {
        records = up_to.records;
        legal = up_to.legal;
        booted =
            ap (λ (s : Standing). s.lost) standing
            ∙ answer_leaves (standing_of terms.program past.marks) posted posted.answer not_lost
            ∙ h.booted;
        latest = let same = ap (λ (s : Standing). s.latest) standing in omega (arith, same);
      }

  -- a posting that was lost, and the boot behind it
  pub lost_legal : (past : Past) (from at boot : ℕ) (posted : Raised) → IsLegalBy terms past from
      → from ≤ at
      → IsLegalPost terms (standing_of terms.program past.marks) at posted
      → posted.answer ≡ Lost boot
      → boot ≡ (standing_of terms.program past.marks).boots + 1
      → (standing_of terms.program past.marks).last_boot < at
      → IsLegalBy terms (with_mark (with_mark past (posted_at at posted)) (boot_at at boot)) at
  lost_legal past from at boot posted h later legal lost counted behind =
      let up_to = posted_marks past from at posted h later legal in
      let old : Standing = standing_of terms.program past.marks in
      let marks : List Mark = past.marks ++ posted_at at posted ∷ [] in
      let s : Standing = standing_of terms.program marks in
      let is_s : s ≡ record (after_answer old posted (Lost boot)) { latest = at } =
      posted_standing past.marks at posted
      ∙ ap (λ (answer : Answer). record (after_answer old posted answer) { latest = at }) lost in
      let goes = go_on terms past.readings marks (boot_at at boot) in
      let latest : s.latest ≡ at = ap (λ (x : Standing). x.latest) is_s in
      let boots : s.boots ≡ old.boots = ap (λ (x : Standing). x.boots) is_s in
      let last : s.last_boot ≡ old.last_boot = ap (λ (x : Standing). x.last_boot) is_s in
      let waits : s.lost ≡ Some boot = ap (λ (x : Standing). x.lost) is_s in
      let is : IsLegalMark terms past.readings s (boot_at at boot) = record {
        serial = tt;
        postings = record {
          in_time = omega (arith, latest);
          follows =
              subst (λ (awaited : Option ℕ). FollowsLost s awaited (boot_at at boot)) (sym waits)
              (record { boots = refl; at_once = sym latest });
          order = tt;
        };
        aborts = tt;
        boots = record {
          counted = omega (arith, counted, boots);
          later = omega (arith, behind, last);
        };
        end = tt;
      } in
      let booted = booted_standing marks at boot in
      record {
        records = goes.records up_to.records tt;
        legal = goes.legal up_to.legal is;
        booted = ap (λ (x : Standing). x.lost) booted;
        latest = let same = ap (λ (x : Standing). x.latest) booted in omega (arith, same);
      }

  -- a posting tells no boot
  answer_told : (s : Standing) (posted : Raised) (answer : Answer)
      → ((after_answer s posted answer).boots ≡ s.boots)
      × ((after_answer s posted answer).last_boot ≡ s.last_boot)
  answer_told s posted (Accepted number) = (refl, refl)
  answer_told s posted Full = (refl, refl)
  answer_told s posted (Lost boot) = (refl, refl)

  pub posted_told : (periods : List ℕ) (boots : ℕ) (past : Past) (at : ℕ) (posted : Raised)
      → AreBootsTold periods boots terms.program past
      → AreBootsTold periods boots terms.program (with_mark past (posted_at at posted))
  posted_told periods boots past at posted h =
      let standing = posted_standing past.marks at posted in
      let told = answer_told (standing_of terms.program past.marks) posted posted.answer in
      record {
        times =
            (join past.marks (posted_at at posted ∷ [])).boots ∙ append-nil (boot_times past.marks)
            ∙ h.times;
        counted = ap (λ (s : Standing). s.boots) standing ∙ told.0 ∙ h.counted;
        last = ap (λ (s : Standing). s.last_boot) standing ∙ told.1 ∙ h.last;
      }

  -- the boot behind it is told at the end of its period
  pub booted_told : (periods : List ℕ) (boots : ℕ) (past : Past) (at : ℕ) → boots < length periods
      → at ≡ sum (take (boots + 1) periods) → AreBootsTold periods boots terms.program past
      → AreBootsTold periods (boots + 1) terms.program (with_mark past (boot_at at (boots + 1)))
  booted_told periods boots past at low end h =
      let standing = booted_standing past.marks at (boots + 1) in
      record {
        times =
            (join past.marks (boot_at at (boots + 1) ∷ [])).boots
            ∙ ap (λ (times : List ℕ). times ++ at ∷ []) h.times
            ∙ ap (λ (time : ℕ). take boots (ends_from 0 periods) ++ time ∷ []) end
            ∙ sym (take_ends boots periods low);
        counted = ap (λ (s : Standing). s.boots) standing ∙ ap (λ (n : ℕ). n + 1) h.counted;
        last = ap (λ (s : Standing). s.last_boot) standing ∙ end;
      }

  -- events are served in turn with a posting more
  serves_posted : (s t : State) (phase : Phase) (marks : List Mark) (at : ℕ) (posted : Raised)
      → has_unit t ≡ has_unit s
      → IsLegalPost terms (standing_of terms.program marks) at posted
      → ServesInTurn terms.program s phase marks
      → ServesInTurn terms.program t phase (marks ++ posted_at at posted ∷ [])
  serves_posted s t phase marks at posted unit legal h =
      let mark : Mark = posted_at at posted in
      let standing = posted_standing marks at posted in
      let takes = turns terms.program marks mark in
      let old : Standing = standing_of terms.program marks in
      let settled : (settled_of terms.program (marks ++ mark ∷ [])).settled
      ≡ (settled_of terms.program marks).settled =
      ap (λ (x : Settled). x.settled) takes.settled in
      let number = numbered_by terms old at posted.from posted.answer legal.answer in
      let more = accepted_more old posted posted.answer in
      let low = h.settled in
      let all = ap (λ (x : Standing). x.accepted) standing in
      record {
        serves = takes.split h.serves (λ ends. absurd ends);
        same =
            ap (λ (x : Settled). x.standing) takes.settled
            ∙ ap (λ (x : Standing). after_mark terms.program x mark) h.same
            ∙ sym standing;
        settled = omega (arith, settled, more, low, all);
        later = λ busy.
            let was = elim busy as (λ _. IsOfTask phase ⊎ (has_unit s ≡ true)) [
              | inl running ↦ inl running
              | inr opened ↦ inr (sym unit ∙ opened)
            ] in
            subst (λ (x : Standing). All (λ (held : Held).
            (settled_of terms.program (marks ++ mark ∷ [])).settled < held.number) x.rest)
            (sym standing)
            (subst (λ (n : ℕ). All (λ (held : Held). n < held.number)
            (after_answer old posted posted.answer).rest) (sym settled)
            (waits_later (settled_of terms.program marks).settled old posted posted.answer number
            low (h.later was)));
      }

  -- and with a boot more
  serves_booted : (s : State) (phase : Phase) (marks : List Mark) (at number : ℕ)
      → ServesInTurn terms.program s phase marks
      → ServesInTurn terms.program s Choose (marks ++ boot_at at number ∷ [])
  serves_booted s phase marks at number h =
      let mark : Mark = boot_at at number in
      let standing = booted_standing marks at number in
      let takes = turns terms.program marks mark in
      let settled : (settled_of terms.program (marks ++ mark ∷ [])).settled
      ≡ (settled_of terms.program marks).settled =
      ap (λ (x : Settled). x.settled) takes.settled in
      let low = h.settled in
      let all = ap (λ (x : Standing). x.accepted) standing in
      record {
        serves = takes.split h.serves (λ ends. absurd ends);
        same =
            ap (λ (x : Settled). x.standing) takes.settled
            ∙ ap (λ (x : Standing). after_mark terms.program x mark) h.same
            ∙ sym standing;
        settled = omega (arith, settled, low, all);
        later = λ busy.
            let was = elim busy as (λ _. IsOfTask phase ⊎ (has_unit s ≡ true)) [
              | inl running ↦ absurd running
              | inr opened ↦ inr opened
            ] in
            subst (λ (x : Standing). All (λ (held : Held).
            (settled_of terms.program (marks ++ mark ∷ [])).settled < held.number) x.rest)
            (sym standing)
            (subst (λ (n : ℕ). All (λ (held : Held). n < held.number)
            (standing_of terms.program marks).rest) (sym settled)
            (h.later was));
      }

  -- a posting that is accepted comes behind those that wait
  answer_due : (s : Standing) (posted : Raised) (answer : Answer) (posting : ℕ)
      → IsDue s.rest posting → IsDue (after_answer s posted answer).rest posting
  answer_due s posted (Accepted number) posting due =
      let newest : Held =
      record { number = number; event = posted.event; argument = posted.argument } in
      record {
        oldest = due.oldest;
        due = due_stays s.rest (newest ∷ []) due.oldest due.due;
        number = due.number;
      }
  answer_due s posted Full posting due = due
  answer_due s posted (Lost boot) posting due = due

  -- tasks and events take turns with a posting more
  pub posted_turns : (s t : State) (phase : Phase) (marks : List Mark) (at : ℕ) (posted : Raised)
      → has_unit t ≡ has_unit s → mode t ≡ mode s
      → IsLegalPost terms (standing_of terms.program marks) at posted
      → TakeTurns terms.program s phase marks
      → TakeTurns terms.program t phase (marks ++ posted_at at posted ∷ [])
  posted_turns s t phase marks at posted unit same legal h =
      let mark : Mark = posted_at at posted in
      let takes = turns terms.program marks mark in
      let standing = posted_standing marks at posted in
      record {
        split = λ split.
            serves_posted s t phase marks at posted unit legal (h.split (sym same ∙ split));
        buffi = λ buffi. takes.buffi (h.buffi (sym same ∙ buffi)) (λ ends. absurd ends);
        aborts = takes.aborts h.aborts (served_by_posted (awaited_of marks));
        awaits = λ posting awaited.
            let was = h.awaits posting (sym takes.awaited ∙ awaited) in
            record {
              mode = same ∙ was.mode;
              chooses = was.chooses;
              no_unit = unit ∙ was.no_unit;
              due =
                  subst (λ (x : Standing). IsDue x.rest posting) (sym standing)
                  (answer_due (standing_of terms.program marks) posted posted.answer posting
                  was.due);
            };
      }
    where
      served_by_posted : (awaited : Option ℕ) → IsServedFirst awaited (Posted posted)
      served_by_posted None = tt
      served_by_posted (Some posting) = tt

  -- and with a boot more
  pub booted_turns : (s : State) (phase : Phase) (marks : List Mark) (at number : ℕ)
      → TakeTurns terms.program s phase marks
      → TakeTurns terms.program s Choose (marks ++ boot_at at number ∷ [])
  booted_turns s phase marks at number h =
      let mark : Mark = boot_at at number in
      let takes = turns terms.program marks mark in
      let standing = booted_standing marks at number in
      record {
        split = λ split. serves_booted s phase marks at number (h.split split);
        buffi = λ buffi. takes.buffi (h.buffi buffi) (λ ends. absurd ends);
        aborts = takes.aborts h.aborts (served_by_boot (awaited_of marks));
        awaits = λ posting awaited.
            let was = h.awaits posting (sym takes.awaited ∙ awaited) in
            record {
              mode = was.mode;
              chooses = refl;
              no_unit = was.no_unit;
              due = subst (λ (x : Standing). IsDue x.rest posting) (sym standing) was.due;
            };
      }
    where
      served_by_boot : (awaited : Option ℕ) → IsServedFirst awaited (Boot number)
      served_by_boot None = tt
      served_by_boot (Some posting) = tt
