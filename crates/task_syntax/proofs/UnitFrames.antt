-- Tasks of a unit, one after another.
use Rattle.std.proofs.Common.{◌≡◌, ◌∙◌, ℕ, zero, suc, ◌+◌, ◌<◌, ◌≤◌, ◌++◌, refl, ap, sym, subst, arith, inl, inr, true, false, Option, Some, None}
use Rattle.std.specs.Prelude.{option_and_then, All}
use Rattle.std.proofs.lemmas.Bool.{cases_eq, cases_Bool, cases_order}
use Rattle.std.proofs.lemmas.List.Elements.{All-append}
use Rattle.task_syntax.specs.declared.program.Program.{Program}
use Rattle.task_syntax.specs.Course.{Store, Access, after}
use Rattle.task_syntax.specs.CourseLaws.{AgreeOnShared}
use Rattle.task_syntax.specs.ProgramLaws.{ReachTheSame, TasksDoTheSame, UnitDoesTheSame}
use Rattle.task_syntax.specs.Units.{Reached, is_inside, followed_by, one_more, task_and_more, task_course, task_effect, tasks_effect, whole_effect, unless_inside, IsWhole}
use Rattle.task_syntax.proofs.Frames.{are_same, does_the_same, is_shared-front, agree_behind}

-- what is reached by one task more: those before it have reached a place inside
pub record Further (program : Program) (task : ℕ) (store : Store) (before reached : Reached) : Type 0 where
  pub inside : is_inside program task before.place ≡ true
  pub is : followed_by before (task_effect program before.place (after before.done store)) ≡ reached

further_by : (program : Program) (task : ℕ) (store : Store) (before reached : Reached) → one_more program task store before ≡ Some reached → Further program task store before reached
further_by program task store before reached e =
    elim (cases_Bool (is_inside program task before.place)) [
      | inl inside ↦ let some : Some (followed_by before (task_effect program before.place (after before.done store))) ≡ Some reached = rw inside at e in
          record { inside = inside; is = cc }
      | inr outside ↦ absurd (let none : None ≡ Some reached = rw outside at e in cc)
    ]

-- a task does the same on two stores that agree on the words that it shares
task_frame : (program : Program) (task : ℕ) (s t : Store) → AgreeOnShared (task_effect program task s).done s t → task_effect program task t ≡ task_effect program task s
task_frame program task s t agree =
    let same = does_the_same (task_course program task) s t agree in
    rw (same.done, same.result) refl

step_frame : (program : Program) (task : ℕ) (s t : Store) (more : ℕ) (reached : Reached) (found : Option Reached) →
    option_and_then (one_more program task s) found ≡ Some reached → AgreeOnShared reached.done s t →
    ((before : Reached) → found ≡ Some before → AgreeOnShared before.done s t → task_and_more program task t more ≡ Some before) →
    option_and_then (one_more program task t) (task_and_more program task t more) ≡ Some reached
step_frame program task s t more reached None is agree earlier = absurd (let none : None ≡ Some reached = is in cc)
step_frame program task s t more reached (Some before) is agree earlier =
    let step = further_by program task s before reached is in
    let last = task_effect program before.place (after before.done s) in
    let agreed : AgreeOnShared (before.done ++ last.done) s t = subst (λ (r : Reached). AgreeOnShared r.done s t) (sym step.is) agree in
    let first : task_and_more program task t more ≡ Some before = earlier before refl (λ word shared. agreed word (is_shared-front before.done last.done word shared)) in
    let same = task_frame program before.place (after before.done s) (after before.done t) (agree_behind before.done last.done s t agreed) in
    rw first (rw step.inside (ap (λ r. Some (followed_by before r)) same ∙ ap (λ r. Some r) step.is))

-- so do tasks of a unit
pub more_frame : (program : Program) (task : ℕ) (s t : Store) (more : ℕ) (reached : Reached) →
    task_and_more program task s more ≡ Some reached → AgreeOnShared reached.done s t → task_and_more program task t more ≡ Some reached
more_frame program task s t zero reached is agree =
    let same : task_effect program task s ≡ reached = cc in
    ap (λ r. Some r) (task_frame program task s t (subst (λ (r : Reached). AgreeOnShared r.done s t) (sym same) agree) ∙ same)
more_frame program task s t (suc more) reached is agree =
    step_frame program task s t more reached (task_and_more program task s more) is agree (λ before was agreed. more_frame program task s t more before was agreed)

pub tasks_frame : (program : Program) (task : ℕ) (s t : Store) (count : ℕ) (reached : Reached) →
    tasks_effect program task s count ≡ Some reached → AgreeOnShared reached.done s t → tasks_effect program task t count ≡ Some reached
tasks_frame program task s t zero reached is agree = absurd (let none : None ≡ Some reached = is in cc)
tasks_frame program task s t (suc more) reached is agree = more_frame program task s t more reached is agree

-- what is shared by the fewer tasks before is shared by all
earlier_agree : (program : Program) (task : ℕ) (s t : Store) (more : ℕ) (reached : Reached) (found : Option Reached) → task_and_more program task s more ≡ found →
    option_and_then (one_more program task s) found ≡ Some reached → AgreeOnShared reached.done s t →
    ((before : Reached) → task_and_more program task s more ≡ Some before → AgreeOnShared before.done s t →
    (fewer : ℕ) → fewer ≤ more → task_and_more program task t fewer ≡ task_and_more program task s fewer) →
    (fewer : ℕ) → fewer ≤ more → task_and_more program task t fewer ≡ task_and_more program task s fewer
earlier_agree program task s t more reached None was is agree earlier fewer few = absurd (let none : None ≡ Some reached = is in cc)
earlier_agree program task s t more reached (Some before) was is agree earlier fewer few =
    let step = further_by program task s before reached is in
    let last = task_effect program before.place (after before.done s) in
    let agreed : AgreeOnShared (before.done ++ last.done) s t = subst (λ (r : Reached). AgreeOnShared r.done s t) (sym step.is) agree in
    earlier before was (λ word shared. agreed word (is_shared-front before.done last.done word shared)) fewer few

fewer_frame : (program : Program) (task : ℕ) (s t : Store) (more : ℕ) (reached : Reached) → task_and_more program task s more ≡ Some reached →
    AgreeOnShared reached.done s t → (fewer : ℕ) → fewer ≤ more → task_and_more program task t fewer ≡ task_and_more program task s fewer
fewer_frame program task s t zero reached is agree fewer few =
    let none : fewer ≡ 0 = omega (arith, few) in
    rw none (more_frame program task s t zero reached is agree ∙ sym is)
fewer_frame program task s t (suc more) reached is agree fewer few =
    elim (cases_eq fewer (suc more)) [
      | inl all ↦ rw all (more_frame program task s t (suc more) reached is agree ∙ sym is)
      | inr less ↦ earlier_agree program task s t more reached (task_and_more program task s more) refl is agree
          (λ before was agreed. fewer_frame program task s t more before was agreed) fewer (omega (arith, few, less))
    ]

earlier_frame : (program : Program) (task : ℕ) (s t : Store) (count : ℕ) (reached : Reached) → tasks_effect program task s count ≡ Some reached →
    AgreeOnShared reached.done s t → (fewer : ℕ) → fewer ≤ count → tasks_effect program task t fewer ≡ tasks_effect program task s fewer
earlier_frame program task s t count reached is agree zero few = refl
earlier_frame program task s t zero reached is agree (suc fewer) few = absurd (let none : None ≡ Some reached = is in cc)
earlier_frame program task s t (suc more) reached is agree (suc fewer) few = fewer_frame program task s t more reached is agree fewer (omega (arith, few))

reach_the_same : (there reached : Reached) → there ≡ reached → ReachTheSame there reached
reach_the_same there reached same = record {
  same = are_same there.done reached.done (ap (λ (r : Reached). r.done) same);
  endings = ap (λ (r : Reached). r.endings) same;
  place = ap (λ (r : Reached). r.place) same;
}

pub tasks_do_the_same : (program : Program) (task : ℕ) (s t : Store) (count : ℕ) (reached : Reached) →
    tasks_effect program task s count ≡ Some reached → AgreeOnShared reached.done s t → TasksDoTheSame program task s t count reached
tasks_do_the_same program task s t count reached is agree =
    let tasks = tasks_frame program task s t count reached is agree in
    record {
      tasks = tasks;
      told = λ there found. let some : Some there ≡ Some reached = sym found ∙ tasks in reach_the_same there reached cc;
      earlier = earlier_frame program task s t count reached is agree;
    }

-- no task more where the unit has ended
none_later : (program : Program) (task : ℕ) (store : Store) (more later : ℕ) (before : Reached) →
    task_and_more program task store more ≡ Some before → is_inside program task before.place ≡ false → more < later → task_and_more program task store later ≡ None
none_later program task store more zero before is outside below = absurd (omega arith)
none_later program task store more (suc later) before is outside below =
    elim (cases_eq more later) [
      | inl same ↦ let there : task_and_more program task store later ≡ Some before = rw (← same) is in rw there (rw outside refl)
      | inr apart ↦ let there : task_and_more program task store later ≡ None = none_later program task store more later before is outside (omega arith) in rw there refl
    ]

pub ended-later : (program : Program) (task : ℕ) (store : Store) (count later : ℕ) (before : Reached) →
    tasks_effect program task store count ≡ Some before → is_inside program task before.place ≡ false → count < later → tasks_effect program task store later ≡ None
ended-later program task store zero later before is outside below = absurd (let none : None ≡ Some before = is in cc)
ended-later program task store (suc more) zero before is outside below = absurd (omega arith)
ended-later program task store (suc more) (suc later) before is outside below = none_later program task store more later before is outside (omega arith)

pub further : (program : Program) (task : ℕ) (store : Store) (count : ℕ) →
    tasks_effect program task store (count + 2) ≡ option_and_then (one_more program task store) (tasks_effect program task store (count + 1))
further program task store count =
    let two : count + 2 ≡ suc (suc count) = omega arith in
    let one : count + 1 ≡ suc count = omega arith in
    rw (two, one) refl

-- a unit is whole after one count of tasks alone
pub whole-once : (program : Program) (task : ℕ) (store : Store) (m n : ℕ) → IsWhole program task store m → IsWhole program task store n → m ≡ n
whole-once program task store m n first second =
    elim (cases_order m n) [
      | inl same ↦ same
      | inr (inl below) ↦ absurd (let none = ended-later program task store m n first.reached first.tasks first.ended below in let some = second.tasks in cc)
      | inr (inr above) ↦ absurd (let none = ended-later program task store n m second.reached second.tasks second.ended above in let some = first.tasks in cc)
    ]

-- what holds of each word of each task's accesses holds of those of a unit
step_all : (P : Access → Type 0) (program : Program) (task : ℕ) (store : Store) (reached : Reached) (found : Option Reached) →
    ((place : ℕ) (s : Store) → All P (task_effect program place s).done) →
    option_and_then (one_more program task store) found ≡ Some reached → ((before : Reached) → found ≡ Some before → All P before.done) → All P reached.done
step_all P program task store reached None each is earlier = absurd (let none : None ≡ Some reached = is in cc)
step_all P program task store reached (Some before) each is earlier =
    let step = further_by program task store before reached is in
    let last = task_effect program before.place (after before.done store) in
    let joined : All P (before.done ++ last.done) = All-append P before.done last.done (earlier before refl) (each before.place (after before.done store)) in
    subst (λ (r : Reached). All P r.done) step.is joined

more_all : (P : Access → Type 0) (program : Program) (task : ℕ) (store : Store) (more : ℕ) (reached : Reached) →
    ((place : ℕ) (s : Store) → All P (task_effect program place s).done) → task_and_more program task store more ≡ Some reached → All P reached.done
more_all P program task store zero reached each is =
    let same : task_effect program task store ≡ reached = cc in subst (λ (r : Reached). All P r.done) same (each task store)
more_all P program task store (suc more) reached each is =
    step_all P program task store reached (task_and_more program task store more) each is (λ before was. more_all P program task store more before each was)

pub tasks_all : (P : Access → Type 0) (program : Program) (task : ℕ) (store : Store) (count : ℕ) (reached : Reached) →
    ((place : ℕ) (s : Store) → All P (task_effect program place s).done) → tasks_effect program task store count ≡ Some reached → All P reached.done
tasks_all P program task store zero reached each is = absurd (let none : None ≡ Some reached = is in cc)
tasks_all P program task store (suc more) reached each is = more_all P program task store more reached each is

-- a unit that is whole has come as far, and to a place outside
ended_there : (program : Program) (task : ℕ) (reached last : Reached) → unless_inside program task last ≡ Some reached → last ≡ reached
ended_there program task reached last is =
    elim (cases_Bool (is_inside program task last.place)) [
      | inl inside ↦ absurd (let none : None ≡ Some reached = rw inside at is in cc)
      | inr outside ↦ let some : Some last ≡ Some reached = rw outside at is in cc
    ]

whole_tasks : (program : Program) (task : ℕ) (reached : Reached) (found : Option Reached) → option_and_then (unless_inside program task) found ≡ Some reached → found ≡ Some reached
whole_tasks program task reached None is = absurd (let none : None ≡ Some reached = is in cc)
whole_tasks program task reached (Some last) is = ap (λ (r : Reached). Some r) (ended_there program task reached last is)

-- a whole unit does the same
pub whole_does_the_same : (program : Program) (task : ℕ) (s t : Store) (count : ℕ) (reached : Reached) →
    whole_effect program task s count ≡ Some reached → AgreeOnShared reached.done s t → UnitDoesTheSame program task s t count reached
whole_does_the_same program task s t count reached is agree =
    let found = whole_tasks program task reached (tasks_effect program task s count) is in
    let same = tasks_do_the_same program task s t count reached found agree in
    record {
      whole = ap (option_and_then (unless_inside program task)) (same.tasks ∙ sym found) ∙ is;
      tasks = same;
    }
