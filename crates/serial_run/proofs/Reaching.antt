-- The tasks of a unit, one after another.
use Rattle.std.proofs.Common.{◌≡◌, ℕ, zero, suc, ◌+◌, ◌<◌, ◌≤◌, refl, arith, inl, inr, true, false}
use Rattle.std.specs.Prelude.{Some, None}
use Rattle.std.proofs.Math.Nat.{eq-or-lt_of_le}
use Rattle.std.proofs.Math.Numerals.{add-one}
use Rattle.task_syntax.specs.declared.program.Program.{Program}
use Rattle.task_syntax.specs.Course.{Store, after}
use Rattle.task_syntax.specs.Units.{Reached, followed_by, is_inside, place_after, task_course, task_effect, tasks_effect}
use Rattle.serial_run.specs.Moments.{Moment, behind, end_of}
use Rattle.serial_run.specs.Units.{TasksLead}
use Rattle.serial_run.proofs.Steps.{behind_all-append, store-behind_all}

module _ (program : Program) (task : ℕ) (store : Store) where
  pub one-further : (count : ℕ) (before : Reached) → tasks_effect program task store count ≡ Some before → is_inside program task before.place ≡ true →
      tasks_effect program task store (count + 1) ≡ Some (followed_by before (task_effect program before.place (after before.done store)))
  one-further zero before found inside = absurd (let never : None ≡ Some before = found in cc)
  one-further (suc count) before found inside = rw (add-one, found, inside) refl

  -- behind the end of the unit no task runs
  pub ended : (count later : ℕ) (before : Reached) → tasks_effect program task store count ≡ Some before → is_inside program task before.place ≡ false → count < later → tasks_effect program task store later ≡ None
  ended count zero before found outside below = absurd (omega arith)
  ended count (suc zero) before found outside below = let first : count ≡ 0 = omega arith in absurd (let never : None ≡ Some before = rw first at found in cc)
  ended count (suc (suc later)) before found outside below =
      let before_it : count ≤ suc later = omega arith in
      elim (eq-or-lt_of_le before_it) [
        | inl same ↦ let found_there : tasks_effect program task store (suc later) ≡ Some before = rw same at found in rw (found_there, outside) refl
        | inr less ↦ rw (ended count (suc later) before found outside less) refl
      ]

module _ (program : Program) (task : ℕ) (m n : Moment) (place : ℕ) where
  pub has-begun : n ≡ behind (task_course program task) m → place ≡ place_after (end_of (task_course program task) m) → TasksLead program task m 1 n place
  unfolding behind end_of
  has-begun moment leads = record { reached = task_effect program task m.store; tasks_done = refl; moment = moment; place_is = leads }

  pub goes-further : (count : ℕ) (between : Moment) (at : ℕ) → TasksLead program task m count between at → is_inside program task at ≡ true →
      n ≡ behind (task_course program at) between → place ≡ place_after (end_of (task_course program at) between) → TasksLead program task m (count + 1) n place
  unfolding behind end_of
  goes-further count between at before inside moment leads =
      let inside_there : is_inside program task before.reached.place ≡ true = rw (← before.place_is) inside in
      record {
        reached = followed_by before.reached (task_effect program before.reached.place (after before.reached.done m.store));
        tasks_done = one-further program task m.store count before.reached before.tasks_done inside_there;
        moment = rw (behind_all-append, ← store-behind_all before.reached.done m, ← before.moment, ← before.place_is) moment;
        place_is = rw (← store-behind_all before.reached.done m, ← before.moment, ← before.place_is) leads;
      }

  pub goes-no-further : (count later : ℕ) → TasksLead program task m count n place → is_inside program task place ≡ false → count < later → tasks_effect program task m.store later ≡ None
  goes-no-further count later before outside below =
      let outside_there : is_inside program task before.reached.place ≡ false = rw (← before.place_is) outside in
      ended program task m.store count later before.reached before.tasks_done outside_there below
