-- A unit that grows by the task that has ended: what its tasks did together, where it leads, and
-- what the logs hold of it.
use Rattle.std.proofs.Common.{◌≡◌, ℕ, zero, suc, ◌+◌, refl, sym, ap, ◌∙◌, arith, List, ◌++◌, Bool, true, Some, None, Option, if◌then◌else◌}
use Rattle.std.specs.Prelude.{option_and_then}
use Rattle.std.specs.Option.{option_or}
use Rattle.coati_word.specs.declared.reading.Reading.{Reading}
use Rattle.task_syntax.specs.declared.program.Program.{Program}
use Rattle.task_syntax.specs.Course.{Access, Store, accesses, after, answer, readings}
use Rattle.task_syntax.specs.CourseLaws.{AccessesJoinUp}
use Rattle.task_syntax.specs.Units.{Reached, followed_by, is_inside, one_more, place_after, task_course, task_effect, tasks_effect}
use Rattle.task_syntax.specs.Written.{last_written}
use Rattle.serial_log.specs.SerialRun.{Stand}
use Rattle.nv_memory.specs.declared.log.Log.TheVariants as log
use Rattle.nv_memory.specs.Logs.{log_value}
use Rattle.nv_memory.specs.StandsFor.{first_value, unit_value}
use Rattle.nv_memory.specs.State.{State}
use Rattle.nv_memory.specs.Words.{current}
use Rattle.commit_log.specs.OpenUnit.{unit_log, unit_next}
use Rattle.coati_device.specs.OpenUnit.{HasFinished, HasNoneFinished}

-- so many tasks of a unit together
pub record HasGrown (program : Program) (s : State) (stand : Stand) (read : List Reading)
    (finished place : ℕ) : Type 0 where
  pub whole : Reached
  pub tasks : tasks_effect program stand.place stand.store finished ≡ Some whole
  pub leads : whole.place ≡ place
  pub log : (word : ℕ) → unit_value s word ≡ last_written whole.done word
  pub reads : read ≡ readings whole.done

-- the last task, on what those before it left
pub record IsLast (program : Program) (s : State) (base : Store) (read : List Reading)
    (place : ℕ) : Type 0 where
  pub log : (word : ℕ) → log_value s log.Task word
      ≡ last_written (accesses (task_course program (current s)) base) word
  pub reads : read ≡ readings (accesses (task_course program (current s)) base)
  pub leads : place ≡ place_after (answer (task_course program (current s)) base)

either_is : (one other : Option ℕ) → first_value one other ≡ option_or one other
either_is (Some value) other = refl
either_is None other = refl

none_behind : (one : Option ℕ) → first_value one None ≡ one
none_behind (Some value) = refl
none_behind None = refl

-- what a task did on a store
abbrev done_by : Program → Store → ℕ → List Access
done_by program base task = accesses (task_course program task) base

-- and where it leads
abbrev led_by : Program → Store → ℕ → ℕ
led_by program base task = place_after (answer (task_course program task) base)

pub first_task_alone : (program : Program) (s : State) (stand : Stand) (read more : List Reading)
    (finished place : ℕ) → current s ≡ stand.place →
    ((word : ℕ) → log_value s log.Tx word ≡ None) → HasNoneFinished read finished →
    IsLast program s stand.store more place →
    HasGrown program s stand (read ++ more) (finished + 1) place
first_task_alone program s stand read more finished place at empty none last = record {
  whole = task_effect program stand.place stand.store;
  tasks = ap (λ (n : ℕ). tasks_effect program stand.place stand.store (n + 1)) none.none;
  leads = ap (led_by program stand.store) (sym at) ∙ sym last.leads;
  log = λ word.
      ap (first_value (log_value s log.Task word)) (empty word)
      ∙ none_behind (log_value s log.Task word) ∙ last.log word
      ∙ ap (λ (task : ℕ). last_written (done_by program stand.store task) word) at;
  reads = ap (λ (xs : List Reading). xs ++ more) none.nothing ∙ last.reads
      ∙ ap (λ (task : ℕ). readings (done_by program stand.store task)) at;
}

-- one task more, where the tasks before it lead inside
pub more_tasks : (program : Program) (stand : Stand) (n : ℕ) (reached : Reached) →
    tasks_effect program stand.place stand.store n ≡ Some reached →
    is_inside program stand.place reached.place ≡ true →
    tasks_effect program stand.place stand.store (n + 1)
    ≡ Some (followed_by reached
    (task_effect program reached.place (after reached.done stand.store)))
more_tasks program stand zero reached is inside = absurd cc
more_tasks program stand (suc n) reached is inside =
    let task = task_effect program reached.place (after reached.done stand.store) in
    ap (λ (k : ℕ). tasks_effect program stand.place stand.store k)
    (let e : suc n + 1 ≡ suc (suc n) = omega arith in e)
    ∙ ap (λ (o : Option Reached).
    option_and_then (one_more program stand.place stand.store) o) is
    ∙ ap (λ (b : Bool). if b then Some (followed_by reached task) else None) inside

pub one_task_more : (program : Program) (s : State) (stand : Stand) (read more : List Reading)
    (finished place : ℕ) → AccessesJoinUp →
    ((word : ℕ) → log_value s log.Tx word ≡ unit_log s word) → current s ≡ unit_next s →
    (fits : HasFinished program s stand read finished) →
    IsLast program s (after fits.reached.done stand.store) more place →
    HasGrown program s stand (read ++ more) (finished + 1) place
one_task_more program s stand read more finished place joins tx at fits last =
    let base = after fits.reached.done stand.store in
    let task = task_effect program fits.reached.place base in
    let here : current s ≡ fits.reached.place = at ∙ fits.next in
    record {
      whole = followed_by fits.reached task;
      tasks = more_tasks program stand finished fits.reached fits.tasks fits.inside;
      leads = ap (led_by program base) (sym here) ∙ sym last.leads;
      log = λ word.
          either_is (log_value s log.Task word) (log_value s log.Tx word)
          ∙ ap (λ (o : Option ℕ). option_or o (log_value s log.Tx word)) (last.log word
          ∙ ap (λ (t : ℕ). last_written (done_by program base t) word) here)
          ∙ ap (λ (o : Option ℕ). option_or (last_written task.done word) o)
          (tx word ∙ fits.log word)
          ∙ sym ((joins fits.reached.done task.done).last word);
      reads = ap (λ (xs : List Reading). xs ++ more) fits.reads
          ∙ ap (λ (xs : List Reading). readings fits.reached.done ++ xs) (last.reads
          ∙ ap (λ (t : ℕ). readings (done_by program base t)) here)
          ∙ sym (joins fits.reached.done task.done).read;
    }
