-- A history keeps pace, act by act.
use Rattle.std.proofs.Common.{◌≡◌, ℕ, zero, suc, ◌+◌, ◌-◌, ◌<◌, ◌≤◌, ◌⊎◌, inl, inr, List, [], ◌∷◌, ◌++◌, refl, arith, true, false, Bool, nat_lt, nat_le}
use Rattle.std.specs.List.{All, Any, filter}
use Rattle.std.proofs.lemmas.List.Elements.{All-head, All-tail, All-push, All-weaker, filter-append}
use Rattle.std.proofs.lemmas.List.Quantifiers.{Any-push}
use Rattle.std.proofs.lemmas.List.{append-nil}
use Rattle.std.proofs.lemmas.Bool.{le-leb, lt-leb, cases_lt, lt-ltb, le-ltb}
use Rattle.task_syntax.specs.declared.program.Program.{Program}
use Rattle.serial_log.specs.declared.mark.Mark.{Mark}
use Rattle.serial_log.specs.declared.mark.MarkKind.{MarkKind}
use Rattle.serial_log.specs.declared.mark.MarkKind.TheVariants.{Boot, Posted, Done, Commit, Abort, End}
use Rattle.serial_log.specs.declared.posted.Posted.{Posted as Raised}
use Rattle.serial_log.specs.declared.posted.Answer.{Answer}
use Rattle.serial_log.specs.declared.posted.Answer.TheVariants.{Full}
use Rattle.serial_log.specs.declared.unit.Unit.{Unit as Committed}
use Rattle.serial_log.specs.declared.unit.Unit.TheVariants.{Event, Task, Transaction}
use Rattle.serial_log.specs.Legal.{IsDoneWith}
use Rattle.serial_log.specs.Progresses.{ComesFurther, EndsTask, EndsTasksInTime, IsLeftAlone, IsOfTasks, standing_at}
use Rattle.serial_log.specs.Standing.{Standing, after_answer, after_mark, opening, standing_of}
use Rattle.serial_log.proofs.Walks.{walk_push}
use Rattle.coati_pace.specs.Pace.{GoesOn, IsOfEvent, IsOfEvents, IsOnPace, Pace, counted_by, counted_unit, last_counted, marked}
use Rattle.coati_pace.specs.Pace.GoesOn.{steps, serves, ends, boots, answers, refuses, closes}
use Rattle.coati_pace.proofs.Windows.{IsBefore, IsBy, alone_before, any_more, count, in_handler, last_low}

abbrev up_to : ℕ → Mark → Bool
up_to time = λ (mark : Mark). nat_le mark.at time

abbrev mark_at : ℕ → MarkKind → Mark
mark_at at kind = record { at = at; kind = kind }

abbrev pace : (clock need : ℕ) → List Mark → Pace
pace clock need marks = record { clock = clock; need = need; marks = marks }

last_push : (marks : List Mark) (mark : Mark) →
    last_counted (marks ++ mark ∷ []) ≡ count (last_counted marks) mark
last_push marks mark = walk_push count 0 marks mark

-- marks up to a time are all of them
whole : (time : ℕ) (marks : List Mark) → All (IsBy time) marks →
    filter (up_to time) marks ≡ marks
whole time [] by = refl
whole time (mark ∷ more) by =
    let first : mark.at ≤ time = All-head (IsBy time) mark more by in
    let here : nat_le mark.at time ≡ true = le-leb mark.at time first in
    rw (here, whole time more (All-tail (IsBy time) mark more by)) refl

-- a later mark is not seen
later_unseen : (program : Program) (time : ℕ) (marks : List Mark) (mark : Mark) →
    time < mark.at →
    standing_at program (marks ++ mark ∷ []) time ≡ standing_at program marks time
later_unseen program time marks mark later =
    rw (
      filter-append (up_to time) marks (mark ∷ []),
      lt-leb mark.at time later,
      append-nil (filter (up_to time) marks),
    ) refl

-- by a mark of this kind nothing comes to be left to do
abbrev LeavesDone : Program → Mark → Type 0
LeavesDone program mark = (s : Standing) → IsDoneWith s → IsDoneWith (after_mark program s mark)

done_stays : (program : Program) (time : ℕ) (marks : List Mark) (mark : Mark) (seen : Bool) →
    nat_le mark.at time ≡ seen → LeavesDone program mark →
    IsDoneWith (standing_at program marks time) →
    IsDoneWith (standing_at program (marks ++ mark ∷ []) time)
done_stays program time marks mark true is leaves done =
    rw (
      filter-append (up_to time) marks (mark ∷ []),
      is,
      walk_push (after_mark program) (opening program) (filter (up_to time) marks) mark,
    )
    (leaves (standing_at program marks time) done)
done_stays program time marks mark false is leaves done =
    rw (
      filter-append (up_to time) marks (mark ∷ []),
      is,
      append-nil (filter (up_to time) marks),
    ) done

-- a stretch that was over before
over_before : (program : Program) (bound clock from : ℕ) (marks : List Mark) (mark : Mark) →
    EndsTasksInTime program bound clock marks → from + bound ≤ clock →
    (IsDoneWith (standing_at program marks (from + bound)) →
    IsDoneWith (standing_at program (marks ++ mark ∷ []) (from + bound))) →
    IsLeftAlone from (from + bound) (marks ++ mark ∷ []) →
    Any (ComesFurther from (from + bound)) (marks ++ mark ∷ [])
    ⊎ IsDoneWith (standing_at program (marks ++ mark ∷ []) (from + bound))
over_before program bound clock from marks mark in_time over stays alone =
    elim (in_time from over (alone_before from (from + bound) marks mark alone)) [
      | inl z ↦ inl (any_more (ComesFurther from (from + bound)) marks (mark ∷ []) z)
      | inr z ↦ inr (stays z)
    ]

over_later : (program : Program) (bound clock from : ℕ) (marks : List Mark) (mark : Mark) →
    EndsTasksInTime program bound clock marks → from + bound ≤ clock → clock < mark.at →
    IsLeftAlone from (from + bound) (marks ++ mark ∷ []) →
    Any (ComesFurther from (from + bound)) (marks ++ mark ∷ [])
    ⊎ IsDoneWith (standing_at program (marks ++ mark ∷ []) (from + bound))
over_later program bound clock from marks mark in_time over later alone =
    over_before program bound clock from marks mark in_time over
    (λ done. rw (later_unseen program (from + bound) marks mark (omega (arith, over, later))) done)
    alone

near_step : (bound clock need less last : ℕ) → less ≤ need - 1 →
    (0 < need → clock + need ≤ last + bound) → 0 < less → clock + 1 + less ≤ last + bound
near_step bound clock need less last falls near some =
    let still : 0 < need = omega (arith, falls, some) in
    omega (arith, near still, falls, some)

nothing_left : (bound clock from need less last : ℕ) → less ≤ need - 1 →
    (0 < need → clock + need ≤ last + bound) → last ≤ from → from + bound ≡ clock + 1 → less ≡ 0
nothing_left bound clock from zero less last falls near low over = omega (arith, falls)
nothing_left bound clock from (suc need) less last falls near low over =
    let within : clock + suc need ≤ last + bound = near (omega arith) in
    omega (arith, falls, within, low, over)

-- the stretch that a step ends, where it makes no end of a task
just_over : (program : Program) (bound from less : ℕ) (old : Pace) →
    IsOnPace program bound old → less ≤ old.need - 1 → from + bound ≡ old.clock + 1 →
    IsLeftAlone from (from + bound) old.marks →
    Any (ComesFurther from (from + bound)) old.marks ⊎ (less ≡ 0)
just_over program bound from less old ok falls over alone =
    elim (last_low from (from + bound) 0 old.marks (omega arith)
    (All-weaker (IsBy old.clock) (IsBefore (from + bound)) (λ mark by. omega (arith, by, over))
    old.marks ok.in_time) alone) [
      | inl low ↦ inr (nothing_left bound old.clock from old.need less (last_counted old.marks)
          falls ok.near low over)
      | inr z ↦ inl z
    ]

by_more : (clock later : ℕ) (marks : List Mark) (mark : Mark) → All (IsBy clock) marks →
    clock ≤ later → mark.at ≤ later → All (IsBy later) (marks ++ mark ∷ [])
by_more clock later marks mark by more here =
    All-push (IsBy later) marks mark
    (All-weaker (IsBy clock) (IsBy later) (λ other before. omega (arith, before, more)) marks by)
    here

cases_over : (a b : ℕ) → a ≤ b + 1 → (a ≤ b) ⊎ (a ≡ b + 1)
cases_over a b within = elim (cases_lt b a) [
  | inl z ↦ inr (omega (arith, z, within))
  | inr z ↦ inl z
]

done_now : (program : Program) (time clock : ℕ) (marks : List Mark) → All (IsBy clock) marks →
    time ≡ clock → IsDoneWith (standing_of program marks) →
    IsDoneWith (standing_at program marks time)
done_now program time clock marks by is done = rw (is, whole clock marks by) done

step_paces : (program : Program) (bound less : ℕ) (old : Pace) → IsOnPace program bound old →
    less ≤ old.need - 1 → (less ≡ 0 → IsDoneWith (standing_of program old.marks)) →
    IsOnPace program bound (pace (old.clock + 1) less old.marks)
step_paces program bound less old ok falls done =
    let clock = old.clock + 1 in
    let by : All (IsBy clock) old.marks =
    All-weaker (IsBy old.clock) (IsBy clock) (λ mark before. omega (arith, before)) old.marks
    ok.in_time in
    record {
      in_time = by;
      near = near_step bound old.clock old.need less (last_counted old.marks) falls ok.near;
      ends = λ from over alone. elim (cases_over (from + bound) old.clock over) [
        | inl z ↦ ok.ends from z alone
        | inr z ↦ elim (just_over program bound from less old ok falls z alone) [
          | inl y ↦ inl y
          | inr y ↦ inr (done_now program (from + bound) clock old.marks by z (done y))
        ]
      ];
    }

-- a step with a mark that does not count
serve_paces : (program : Program) (bound less : ℕ) (kind : MarkKind) (old : Pace) →
    ((last at : ℕ) → counted_by last at kind ≡ last) → IsOnPace program bound old →
    less ≤ old.need - 1 →
    (less ≡ 0 → IsDoneWith (standing_of program (marked old.marks (old.clock + 1) kind))) →
    IsOnPace program bound (pace (old.clock + 1) less (marked old.marks (old.clock + 1) kind))
serve_paces program bound less kind old aside ok falls done =
    let clock = old.clock + 1 in
    let mark : Mark = mark_at clock kind in
    let by : All (IsBy clock) (old.marks ++ mark ∷ []) =
    by_more old.clock clock old.marks mark ok.in_time (omega arith) (omega arith) in
    record {
      in_time = by;
      near = rw (last_push old.marks mark, aside (last_counted old.marks) clock)
          (near_step bound old.clock old.need less (last_counted old.marks) falls ok.near);
      ends = λ from over alone. elim (cases_over (from + bound) old.clock over) [
        | inl z ↦ over_later program bound old.clock from old.marks mark ok.ends z (omega arith)
            alone
        | inr z ↦ elim (just_over program bound from less old ok falls z
            (alone_before from (from + bound) old.marks mark alone)) [
              | inl y ↦ inl (any_more (ComesFurther from (from + bound)) old.marks (mark ∷ []) y)
              | inr y ↦ inr (done_now program (from + bound) clock (old.marks ++ mark ∷ []) by z
                  (done y))
            ]
      ];
    }

-- the end of a task
end_paces : (program : Program) (bound need : ℕ) (kind : MarkKind) (old : Pace) → 1 ≤ bound →
    EndsTask kind → ((last at : ℕ) → counted_by last at kind ≡ at) →
    IsOnPace program bound old → need ≤ bound →
    IsOnPace program bound (pace (old.clock + 1) need (marked old.marks (old.clock + 1) kind))
end_paces program bound need kind old some ending counts ok few =
    let clock = old.clock + 1 in
    let mark : Mark = mark_at clock kind in
    record {
      in_time = by_more old.clock clock old.marks mark ok.in_time (omega arith) (omega arith);
      near = λ needed. rw (last_push old.marks mark, counts (last_counted old.marks) clock)
          (omega (arith, few));
      ends = λ from over alone. elim (cases_over (from + bound) old.clock over) [
        | inl z ↦ over_later program bound old.clock from old.marks mark ok.ends z (omega arith)
            alone
        | inr z ↦ inl (Any-push (ComesFurther from (from + bound)) old.marks mark (record {
          behind = omega (arith, z, some);
          up_to = omega (arith, z);
          ends = ending;
        }))
      ];
    }

boot_leaves : (program : Program) (at number : ℕ) → LeavesDone program (mark_at at (Boot number))
boot_leaves program at number s done = record { place = done.place; rest = done.rest }

boot_paces : (program : Program) (bound need number : ℕ) (old : Pace) →
    IsOnPace program bound old → need ≤ bound →
    IsOnPace program bound (pace old.clock need (marked old.marks old.clock (Boot number)))
boot_paces program bound need number old ok few =
    let mark : Mark = mark_at old.clock (Boot number) in
    record {
      in_time = by_more old.clock old.clock old.marks mark ok.in_time (omega arith) (omega arith);
      near = λ needed. rw (last_push old.marks mark) (omega (arith, few));
      ends = λ from over alone. over_before program bound old.clock from old.marks mark ok.ends
          over
          (done_stays program (from + bound) old.marks mark (nat_le old.clock (from + bound)) refl
          (boot_leaves program old.clock number)) alone;
    }

answer_paces : (program : Program) (bound clock need : ℕ) (posted : Raised) (old : Pace) →
    1 ≤ bound → posted.from ≡ old.clock → old.clock < clock → IsOnPace program bound old →
    need ≤ bound →
    IsOnPace program bound (pace clock need (marked old.marks clock (Posted posted)))
answer_paces program bound clock need posted old some raised later ok few =
    let mark : Mark = mark_at clock (Posted posted) in
    let before : posted.from < clock = omega (arith, raised, later) in
    let begun : nat_lt posted.from clock ≡ true = lt-ltb posted.from clock before in
    record {
      in_time = by_more old.clock clock old.marks mark ok.in_time (omega (arith, later))
          (omega arith);
      near = λ needed. rw (last_push old.marks mark, begun) (omega (arith, few));
      ends = λ from over alone. elim (cases_lt old.clock (from + bound)) [
        | inl z ↦ absurd (in_handler from (from + bound) clock old.marks posted
            (omega (arith, raised, z)) over (omega (arith, some)) alone)
        | inr z ↦ over_later program bound old.clock from old.marks mark ok.ends z later alone
      ];
    }

-- a mark without a step
still_paces : (program : Program) (bound : ℕ) (kind : MarkKind) (old : Pace) →
    ((last : ℕ) → counted_by last old.clock kind ≡ last) →
    LeavesDone program (mark_at old.clock kind) → IsOnPace program bound old →
    IsOnPace program bound (pace old.clock old.need (marked old.marks old.clock kind))
still_paces program bound kind old aside leaves ok =
    let mark : Mark = mark_at old.clock kind in
    record {
      in_time = by_more old.clock old.clock old.marks mark ok.in_time (omega arith) (omega arith);
      near = rw (last_push old.marks mark, aside (last_counted old.marks)) ok.near;
      ends = λ from over alone. over_before program bound old.clock from old.marks mark ok.ends
          over
          (done_stays program (from + bound) old.marks mark (nat_le old.clock (from + bound)) refl
          leaves) alone;
    }

full_answers_leave : (s : Standing) (posted : Raised) (answer : Answer) → answer ≡ Full →
    IsDoneWith s → IsDoneWith (after_answer s posted answer)
full_answers_leave s posted answer full done =
    rw full record { place = done.place; rest = done.rest }

full_leaves : (program : Program) (at : ℕ) (posted : Raised) → posted.answer ≡ Full →
    LeavesDone program (mark_at at (Posted posted))
full_leaves program at posted full s done =
    let left = full_answers_leave s posted posted.answer full done in
    record { place = left.place; rest = left.rest }

end_leaves : (program : Program) (at : ℕ) (ended : _) → LeavesDone program (mark_at at (End ended))
end_leaves program at ended s done = record { place = done.place; rest = done.rest }

no_step : (last at : ℕ) (posted : Raised) → posted.from ≡ at →
    counted_by last at (Posted posted) ≡ last
no_step last at posted raised =
    let none : nat_lt posted.from at ≡ false = le-ltb posted.from at (omega (arith, raised)) in
    rw none refl

event_aside : (last at : ℕ) (unit : Committed) → IsOfEvent unit → counted_unit unit last at ≡ last
event_aside last at (Event event) is = refl
event_aside last at (Task task) is = absurd is
event_aside last at (Transaction transaction) is = absurd is

aside : (kind : MarkKind) → IsOfEvents kind → (last at : ℕ) → counted_by last at kind ≡ last
aside (Boot number) is last at = absurd is
aside (Posted posted) is last at = absurd is
aside (Done task) is last at = absurd is
aside (Commit committed) is last at = event_aside last at committed.unit is
aside (Abort aborted) is last at = refl
aside (End ended) is last at = absurd is

tasks_count : (last at : ℕ) (unit : Committed) → IsOfTasks unit → counted_unit unit last at ≡ at
tasks_count last at (Event event) is = absurd is
tasks_count last at (Task task) is = refl
tasks_count last at (Transaction transaction) is = refl

counts : (kind : MarkKind) → EndsTask kind → (last at : ℕ) → counted_by last at kind ≡ at
counts (Boot number) is last at = absurd is
counts (Posted posted) is last at = absurd is
counts (Done task) is last at = refl
counts (Commit committed) is last at = tasks_count last at committed.unit is
counts (Abort aborted) is last at = absurd is
counts (End ended) is last at = absurd is

-- the pace at equal clock, need and marks
same_pace : (program : Program) (bound clock need : ℕ) (marks : List Mark) (new : Pace) →
    new.clock ≡ clock → new.need ≡ need → new.marks ≡ marks →
    IsOnPace program bound (pace clock need marks) → IsOnPace program bound new
same_pace program bound clock need marks new at needs are ok = record {
  in_time = rw (at, are) ok.in_time;
  near = rw (at, needs, are) ok.near;
  ends = rw (at, are) ok.ends;
}

pub paces_go_on : (program : Program) (bound : ℕ) (old new : Pace) → 1 ≤ bound →
    IsOnPace program bound old → GoesOn bound old new →
    (new.need ≡ 0 → IsDoneWith (standing_of program new.marks)) → IsOnPace program bound new
paces_go_on program bound old new some ok (steps at falls are) done =
    same_pace program bound (old.clock + 1) new.need old.marks new at refl are
    (step_paces program bound new.need old ok falls (rw are at done))
paces_go_on program bound old new some ok (serves kind is at falls are) done =
    same_pace program bound (old.clock + 1) new.need (marked old.marks (old.clock + 1) kind) new
    at refl are
    (serve_paces program bound new.need kind old (aside kind is) ok falls (rw are at done))
paces_go_on program bound old new some ok (ends kind is at few are) done =
    same_pace program bound (old.clock + 1) new.need (marked old.marks (old.clock + 1) kind) new
    at refl are
    (end_paces program bound new.need kind old some is (counts kind is) ok few)
paces_go_on program bound old new some ok (boots number at few are) done =
    same_pace program bound old.clock new.need (marked old.marks old.clock (Boot number)) new
    at refl are (boot_paces program bound new.need number old ok few)
paces_go_on program bound old new some ok (answers posted raised later few are) done =
    same_pace program bound new.clock new.need (marked old.marks new.clock (Posted posted)) new
    refl refl are
    (answer_paces program bound new.clock new.need posted old some raised later ok few)
paces_go_on program bound old new some ok (refuses posted raised full at needs are) done =
    same_pace program bound old.clock old.need (marked old.marks old.clock (Posted posted)) new
    at needs are (still_paces program bound (Posted posted) old
    (λ last. no_step last old.clock posted raised) (full_leaves program old.clock posted full) ok)
paces_go_on program bound old new some ok (closes ended at needs are) done =
    same_pace program bound old.clock old.need (marked old.marks old.clock (End ended)) new
    at needs are (still_paces program bound (End ended) old (λ last. refl)
    (end_leaves program old.clock ended) ok)
