-- A machine that is started on a body that computes a course keeps to the course.
use Rattle.std.proofs.Common.{◌≡◌, ℕ, ◌+◌, ◌-◌, ◌≤◌, List, [], ◌++◌, length, refl, sym, ap, subst, ◌∙◌, arith}
use Rattle.std.specs.Prelude.{slice_index}
use Rattle.coati_word.specs.declared.ending.Ending.{Ending}
use Rattle.coati_word.specs.declared.reading.Reading.{Reading}
use Rattle.task_syntax.specs.declared.body.BodyId.{BodyId}
use Rattle.task_syntax.specs.Course.{Course, Store, Access, readings}
use Rattle.task_syntax.specs.CourseLaws.{AccessesJoinUp}
use Rattle.word_code.specs.declared.instruction.Instr.{Instr}
use Rattle.word_code.specs.Code.{Bodies, body_words}
use Rattle.word_code.specs.Following.{Computes}
use Rattle.word_code.specs.Machine.{StartsAt, move_of}
use Rattle.word_cpu.specs.Meaning.{Meaning}
use Rattle.word_cpu.specs.declared.cpu.Cpu.{Cpu}
use Rattle.word_cpu.specs.declared.turn.Turn.{Turn}
use Rattle.word_cpu.specs.declared.turn.Turn.TheVariants.{Went, Storing, Ended}
use Rattle.word_cpu.specs.OnCourse.{done_by, read_by}
use Rattle.word_cpu.specs.Reached.{Comes, HasDone, HasNotEnded, KeepsToTheCourse}
use Rattle.word_cpu.specs.Turning.{IsStep, state_of}
use Rattle.word_cpu.specs.UnderWay.{CameFurther, CameToTheEnd, ComesOn, IsAtStart, IsUnderWay, MachinesUnderWayAreReady, MachinesUnderWayComeOn, StartedMachinesAreUnderWay}

module _ {V : Type 0} (meaning : Meaning V) (code : Bodies)
    (joins : AccessesJoinUp) (starts_under_way : StartedMachinesAreUnderWay meaning) (ready : MachinesUnderWayAreReady meaning)
    (steps_under_way : MachinesUnderWayComeOn meaning)
    (cost : ℕ) (course : Course Ending) (body : BodyId) (params : List ℕ) (view : V) where
  abbrev base : Store
  base = slice_index (meaning.words view)

  -- where the machine has come it is under way, in time, and what it read is kept
  record IsThere (spent : ℕ) (done : List Access) (read : List Reading) (cpu : Cpu) (now : V) : Type 0 where
    left : ℕ
    in_time : spent + left + 1 ≤ cost
    body_is : cpu.body ≡ body
    count : length (meaning.words now) ≡ length (meaning.words view)
    under_way : IsUnderWay meaning code cpu now left course base done
    told : read ≡ readings done

  at_the_start : Computes (body_words code body) (length (meaning.words view)) cost params course → (cpu : Cpu) → IsAtStart body params cpu → IsThere 0 [] [] cpu view
  at_the_start computes cpu at =
      let some = computes.in_time in
      record {
        left = cost - 1;
        in_time = omega (arith, some);
        body_is = at.body_is;
        count = refl;
        under_way = starts_under_way code cpu view body params cost (cost - 1) course computes at (omega arith);
        told = refl;
      }

  module _ (spent : ℕ) (done : List Access) (read : List Reading) (before next : Cpu) (old new : V) (instr : Instr)
      (starts : StartsAt (body_words code before.body) instr (state_of before)) (here : IsThere spent done read before old) where
    there_behind : (turn : Turn) → IsStep meaning code before next old new turn →
        CameFurther meaning code here.left course base done before next old new turn →
        IsThere (spent + 1) (done ++ done_by turn (move_of instr (state_of before))) (read ++ read_by turn) next new
    there_behind turn step came =
        let made = done_by turn (move_of instr (state_of before)) in
        let is : made ≡ came.more = came.more_is instr starts in
        record {
          left = came.remaining;
          in_time = omega (arith, here.in_time, came.in_time);
          body_is = step.body ∙ here.body_is;
          count = came.count ∙ here.count;
          under_way = subst (λ (more : List Access). IsUnderWay meaning code next new came.remaining course base (done ++ more)) (sym is) came.under_way;
          told =
              ap (λ (earlier : List Reading). earlier ++ read_by turn) here.told
              ∙ ap (λ (later : List Reading). readings done ++ later) (sym came.reads ∙ sym (ap readings is))
              ∙ sym (joins done made).read;
        }

    there_after : (turn : Turn) → HasNotEnded turn → IsStep meaning code before next old new turn →
        ComesOn meaning code here.left course base done before next old new turn →
        IsThere (spent + 1) (done ++ done_by turn (move_of instr (state_of before))) (read ++ read_by turn) next new
    there_after (Went reading) goes_on step came = there_behind (Went reading) step came
    there_after Storing goes_on step came = there_behind Storing step came
    there_after (Ended ending) goes_on step came = absurd goes_on

  is_there : Computes (body_words code body) (length (meaning.words view)) cost params course → (spent : ℕ) (done : List Access) (read : List Reading) (cpu : Cpu) (now : V) →
      Comes meaning code body params view spent done read cpu now → IsThere spent done read cpu now
  is_there computes spent done read cpu now (Comes.starts _ at) = at_the_start computes cpu at
  is_there computes spent done read cpu now (Comes.steps before_spent before_done before_read before _ old _ turn instr came starts step goes_on) =
      let here = is_there computes before_spent before_done before_read before old came in
      there_after before_spent before_done before_read before cpu old now instr starts here turn goes_on step
      (steps_under_way code before cpu old now turn here.left course base before_done here.under_way step)

  -- where the body ends, all of the course is done
  all_done : (spent : ℕ) (done : List Access) (read : List Reading) (cpu : Cpu) (now new : V) (ending : Ending) → IsThere spent done read cpu now →
      CameToTheEnd meaning course base done now new ending → HasDone course (meaning.words view) done read ending (meaning.words new)
  all_done spent done read cpu now new ending here end = record {
    readings_are = here.told;
    accesses_are = end.all;
    ending_is = end.ending_is;
    words_are = ap (λ (v : V). slice_index (meaning.words v)) end.view ∙ here.under_way.sees;
    count = ap (λ (v : V). length (meaning.words v)) end.view ∙ here.count;
  }

  pub keeps_to_the_course : Computes (body_words code body) (length (meaning.words view)) cost params course → (spent : ℕ) (done : List Access) (read : List Reading) (cpu : Cpu) (now : V) →
      Comes meaning code body params view spent done read cpu now → KeepsToTheCourse meaning code cost course view body spent done read cpu now
  keeps_to_the_course computes spent done read cpu now came =
      let here = is_there computes spent done read cpu now came in
      let set = ready code cpu now here.left course base done here.under_way in
      record {
        body_is = here.body_is;
        count = here.count;
        can_step = set.can_step;
        is_begun = set.is_begun;
        in_time = omega (arith, here.in_time);
        ends = λ last new ending step.
            all_done spent done read cpu now new ending here
            (steps_under_way code cpu last now new (Ended ending) here.left course base done here.under_way step);
      }
