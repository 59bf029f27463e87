-- What a program of words does on a store of words.
use Rattle.std.proofs.Common.{◌≡◌, ℕ, zero, suc, Bool, true, false, List, [], ◌∷◌, ◌++◌, refl, sym, subst, arith, if◌then◌else◌}
use Rattle.std.specs.Prelude.{Option, Some, None, option_and_then, slice_index}
use Rattle.std.specs.List.{AllByRecursion}
use Rattle.coati_word.specs.declared.reading.Reading.{Reading}
use Rattle.coati_word.specs.OperatorLaws.{IsWord}
use Rattle.task_syntax.specs.declared.program.Program.{Program}
use Rattle.task_syntax.specs.Course.{Access, Course, Store, accesses, after, put, readings}
use Rattle.task_syntax.specs.CourseLaws.{AccessesJoinUp}
use Rattle.task_syntax.specs.Units.{Reached, followed_by, is_inside, one_more, task_and_more, task_course, task_effect, tasks_effect}
use Rattle.word_values.specs.Words.{AreWords, EndsInWords, GivesWords, HoldsWords, IsOfWords, StayInWords}
use Rattle.word_values.proofs.Gives.{all-joined, put-words}

pub index-word : (values : List ℕ) (at : ℕ) → AreWords values → IsWord (slice_index values at)
index-word [] at all = omega arith
index-word (value ∷ more) zero all = all.0
index-word (value ∷ more) (suc at) all = index-word more at all.1

pub course-stays : {A : Type 0} (P : A → Type 0) (course : Course A) (store : Store) → GivesWords P course → HoldsWords store
    → StayInWords (accesses course store) store
course-stays P (Course.ends result) store gives holds = record { reads = tt; store_after = holds }
course-stays P (Course.reads word go_on) store gives holds =
    let rest = course-stays P (go_on (store word)) store (gives (store word) (holds word)) holds in
    record { reads = (holds word, rest.reads); store_after = rest.store_after }
course-stays P (Course.writes word value rest) store gives holds =
    let behind = course-stays P rest (put word value store) gives.1 (put-words word value store gives.0 holds) in
    record { reads = behind.reads; store_after = behind.store_after }

module _ (join : AccessesJoinUp) (program : Program) (words : IsOfWords program) where
  both-stay : (first more : List Access) (store : Store) → StayInWords first store → StayInWords more (after first store)
      → StayInWords (first ++ more) store
  both-stay first more store one other =
      let joined = join first more in
      record {
        reads = subst (λ (reads : List Reading). AllByRecursion (λ (reading : Reading). IsWord reading.value) reads) (sym joined.read)
            (all-joined (λ (reading : Reading). IsWord reading.value) (readings first) (readings more) one.reads other.reads);
        store_after = subst HoldsWords (sym (joined.store_after store)) other.store_after;
      }

  task-stays : (task : ℕ) (store : Store) → HoldsWords store → StayInWords (task_effect program task store).done store
  task-stays task store holds = course-stays EndsInWords (task_course program task) store (words.tasks task) holds

  -- with one task more
  further : (task : ℕ) (store : Store) (found : Option Reached) (reached : Reached)
      → ((before : Reached) → found ≡ Some before → StayInWords before.done store)
      → option_and_then (one_more program task store) found ≡ Some reached → StayInWords reached.done store
  further task store None reached so is = absurd cc
  further task store (Some before) reached so is = by (is_inside program task before.place) is
    where
      next : Reached
      next = task_effect program before.place (after before.done store)

      here : StayInWords before.done store
      here = so before refl

      by : (inside : Bool) → (if inside then Some (followed_by before next) else None) ≡ Some reached → StayInWords reached.done store
      by true same =
          let e : followed_by before next ≡ reached = cc in
          subst (λ (r : Reached). StayInWords r.done store) e
          (both-stay before.done next.done store here (task-stays before.place (after before.done store) here.store_after))
      by false same = absurd cc

  more-stay : (task : ℕ) (store : Store) (more : ℕ) (reached : Reached) → HoldsWords store
      → task_and_more program task store more ≡ Some reached → StayInWords reached.done store
  more-stay task store zero reached holds is =
      let e : task_effect program task store ≡ reached = cc in
      subst (λ (r : Reached). StayInWords r.done store) e (task-stays task store holds)
  more-stay task store (suc more) reached holds is =
      further task store (task_and_more program task store more) reached
      (λ before same. more-stay task store more before holds same) is

  pub unit-stays : (task count : ℕ) (store : Store) (reached : Reached) → HoldsWords store
      → tasks_effect program task store count ≡ Some reached → StayInWords reached.done store
  unit-stays task zero store reached holds is = absurd cc
  unit-stays task (suc more) store reached holds is = more-stay task store more reached holds is
