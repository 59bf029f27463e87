-- What is told of a run.
use Rattle.std.proofs.Common.{◌≡◌, ℕ, List, [], refl, ap, subst, ◌∙◌, false}
use Rattle.std.specs.Prelude.{slice_index, Some}
use Rattle.coati_word.specs.declared.ending.Ending.{Ending}
use Rattle.task_syntax.specs.declared.program.Program.{Program}
use Rattle.task_syntax.specs.Course.{Course, Store, Access, accesses, answer}
use Rattle.task_syntax.specs.Units.{Reached, is_inside, tasks_effect, whole_effect}
use Rattle.task_syntax.specs.Written.{is_shared, is_written}
use Rattle.serial_run.specs.declared.outcome.Outcome.{Outcome}
use Rattle.serial_run.specs.Moments.{Leaves, Moment, Notes, behind, behind_all, end_of, readings_in, reading_from, shared_in, touching_from, written_in}
use Rattle.serial_run.specs.Outcomes.{Tells}
use Rattle.serial_run.specs.Units.{TasksLead}
use Rattle.serial_run.proofs.Keeping.{kept-behind_all, noted-readings, marks-are}
use Rattle.serial_run.proofs.Steps.{count-behind_all, store-behind_all}

module _ (before words : List ℕ) (done : List Access) (ending : Ending) (outcome : Outcome) (n : Moment)
    (came : n ≡ behind_all done (reading_from before)) where
  pub tells : Leaves n words outcome.readings → outcome.ending ≡ ending → Tells before done ending words outcome
  tells left ends = record {
    store_after = left.store ∙ ap (λ (m : Moment). m.store) came ∙ store-behind_all done (reading_from before);
    words = left.count ∙ ap (λ (m : Moment). m.count) came ∙ count-behind_all done (reading_from before);
    readings_told =
        left.readings_kept ∙ ap (λ (m : Moment). readings_in m.kept) came ∙ ap readings_in (kept-behind_all done (reading_from before) ∙ noted-readings done []);
    ending_told = ends;
  }

-- tasks of a unit that began on these words
pub reached-from : (program : Program) (task count place : ℕ) (m begun n : Moment) → m ≡ begun → TasksLead program task m count n place → TasksLead program task begun count n place
reached-from program task count place m begun n is reached = subst (λ (moment : Moment). TasksLead program task moment count n place) is reached

module _ (before : List ℕ) (done : List Access) (n : Moment) (came : n ≡ behind_all done (touching_from before)) where
  touched-is : n.kept ≡ Notes.touched (is_shared done) (is_written done)
  touched-is = ap (λ (m : Moment). m.kept) came ∙ kept-behind_all done (touching_from before) ∙ marks-are done

  pub shared-is : shared_in n.kept ≡ is_shared done
  shared-is = ap shared_in touched-is

  pub written-is : written_in n.kept ≡ is_written done
  written-is = ap written_in touched-is

-- a course that runs from a moment on
pub came-behind : {A : Type 0} (course : Course A) (m : Moment) → behind course m ≡ behind_all (accesses course m.store) m
unfolding behind
came-behind course m = refl

pub ends-with : {A : Type 0} (course : Course A) (m : Moment) → end_of course m ≡ answer course m.store
unfolding end_of
ends-with course m = refl

-- a unit that has come to a place outside is whole, and one that is inside isn't
pub whole-outside : (program : Program) (task : ℕ) (store : Store) (count : ℕ) (reached : Reached) → tasks_effect program task store count ≡ Some reached → is_inside program task reached.place ≡ false →
    whole_effect program task store count ≡ Some reached
whole-outside program task store count reached found outside = rw (found, outside) refl

-- a run of a course that began on these words
pub ran-from : {A : Type 0} (course : Course A) (before : List ℕ) (m n : Moment) → m ≡ reading_from before → n ≡ behind course m → n ≡ behind_all (accesses course (slice_index before)) (reading_from before)
ran-from course before m n begun came = came ∙ ap (behind course) begun ∙ came-behind course (reading_from before)

pub touched-from : {A : Type 0} (course : Course A) (before : List ℕ) (m n : Moment) → m ≡ touching_from before → n ≡ behind course m → n ≡ behind_all (accesses course (slice_index before)) (touching_from before)
touched-from course before m n begun came = came ∙ ap (behind course) begun ∙ came-behind course (touching_from before)

pub ended-from : {A : Type 0} (course : Course A) (before : List ℕ) (m : Moment) (result : A) → m ≡ reading_from before → result ≡ end_of course m → result ≡ answer course (slice_index before)
ended-from course before m result begun ends = ends ∙ ap (end_of course) begun ∙ ends-with course (reading_from before)
