-- A machine that is started on a body is under way in it until the body ends.
use Rattle.std.proofs.Common.{◌≡◌, ℕ, ◌+◌, ◌≤◌, ◌<◌, List, [], ◌++◌, length, refl, sym, ap, subst, ◌∙◌, arith, append-nil}
use Rattle.std.specs.Prelude.{slice_index}
use Rattle.coati_word.specs.declared.ending.Ending.{Ending}
use Rattle.task_syntax.specs.declared.body.BodyId.{BodyId}
use Rattle.task_syntax.specs.Course.{Course, Store, Access, accesses, after, answer}
use Rattle.task_syntax.specs.CourseLaws.{AccessesJoinUp, AgreeOnShared, CoursesUnderWayGoOn}
use Rattle.task_syntax.specs.UnderWay.{HasReached}
use Rattle.word_code.specs.Code.{Bodies, body_words}
use Rattle.word_code.specs.Following.{Computes}
use Rattle.word_code.specs.FollowingLaws.{FollowsToTheEnd}
use Rattle.word_code.specs.Machine.{Move, State}
use Rattle.word_cpu.specs.Meaning.{Meaning}
use Rattle.word_cpu.specs.declared.cpu.Cpu.{Cpu}
use Rattle.word_cpu.specs.declared.turn.Turn.{Turn}
use Rattle.word_cpu.specs.declared.turn.Turn.TheVariants.{Went, Storing, Ended}
use Rattle.word_cpu.specs.OnCourse.{IsOnCourse, GoesAlong, WentAlong, MachinesOnCourseCanStep, StepsGoAlongTheCourse}
use Rattle.word_cpu.specs.Turning.{IsBegun, IsStep, OfTheMove, state_of}
use Rattle.word_cpu.specs.UnderWay.{CameFurther, CameToTheEnd, ComesOn, IsAtStart, IsReady, IsUnderWay, LeavesTheStore, StaysUnderWay}
use Rattle.word_cpu.proofs.Begun.{none_made}

-- a change of the view leaves what is begun, where it leaves the store under way
begun_stays : (begun then : ℕ → ℕ → ℕ → Type 0) (part : ℕ) (move : Move) →
    ((word value : ℕ) → 0 < part → begun word value part → then word value part) → IsBegun begun part move → IsBegun then part move
begun_stays begun then part (Move.goes next) leaves is = is
begun_stays begun then part (Move.loads word next) leaves is = is
begun_stays begun then part (Move.stores word value next) leaves is = λ some. leaves word value some (is some)
begun_stays begun then part (Move.ends ending) leaves is = is

-- the machine stays on its course on a view with as many words
course_stays : (code : Bodies) (cpu : Cpu) (count left : ℕ) (begun then : ℕ → ℕ → ℕ → Type 0) (course : Course Ending) →
    ((word value : ℕ) → 0 < cpu.part → begun word value cpu.part → then word value cpu.part) →
    IsOnCourse code cpu count left begun course → IsOnCourse code cpu count left then course
course_stays code cpu count left begun then course leaves on = record {
  limit = on.limit;
  follows = on.follows;
  in_time = on.in_time;
  few_parts = on.few_parts;
  is_begun = λ instr starts. begun_stays begun then cpu.part _ leaves (on.is_begun instr starts);
}

-- one base store lets each course come as far as it came
agree-itself : (done : List Access) (base : Store) → AgreeOnShared done base base
agree-itself done base word shared = refl

module _ {V : Type 0} (meaning : Meaning V) where
  pub starts_under_way : (code : Bodies) (cpu : Cpu) (view : V) (body : BodyId) (params : List ℕ) (cost left : ℕ) (course : Course Ending) →
      Computes (body_words code body) (length (meaning.words view)) cost params course → IsAtStart body params cpu → cost ≤ left + 1 →
      IsUnderWay meaning code cpu view left course (slice_index (meaning.words view)) []
  starts_under_way code cpu view body params cost left course computes at enough =
      let count = length (meaning.words view) in
      record {
        rest = course;
        come = HasReached.starts course (slice_index (meaning.words view));
        sees = refl;
        on_course = record {
          limit = computes.limit;
          follows =
              subst (λ (b : BodyId). FollowsToTheEnd (body_words code b) count computes.limit (state_of cpu) course) (sym at.body_is)
              (subst (λ (s : State). FollowsToTheEnd (body_words code body) count computes.limit s course) (sym at.state) computes.follows);
          in_time = omega (arith, computes.in_time, enough);
          few_parts = omega (arith, at.part);
          is_begun = λ instr starts. none_made (meaning.begun view) cpu.part _ at.part;
        };
      }

  pub ready_under_way : MachinesOnCourseCanStep meaning → (code : Bodies) (cpu : Cpu) (view : V) (left : ℕ) (whole : Course Ending) (base : Store) (done : List Access) →
      IsUnderWay meaning code cpu view left whole base done → IsReady meaning code cpu view
  ready_under_way can_step code cpu view left whole base done here = record {
    can_step = can_step code cpu view left here.rest here.on_course;
    is_begun = here.on_course.is_begun;
  }

  module _ (joins : AccessesJoinUp) (goes_on : CoursesUnderWayGoOn Ending) (steps : StepsGoAlongTheCourse meaning)
      (code : Bodies) (cpu next : Cpu) (old new : V) (left : ℕ) (whole : Course Ending) (base : Store) (done : List Access)
      (here : IsUnderWay meaning code cpu old left whole base done) where
    comes_further : (turn : Turn) → WentAlong meaning code left here.rest cpu next old new turn → CameFurther meaning code left whole base done cpu next old new turn
    comes_further turn went =
        let further = goes_on whole base done here.rest here.come in
        record {
          more = went.done;
          remaining = went.remaining;
          in_time = went.in_time;
          more_is = went.done_is;
          reads = went.reads;
          count = went.count;
          touches = went.touches;
          under_way = record {
            rest = went.rest;
            come = further.behind_more went.done went.rest (subst (λ (s : Store). HasReached here.rest s went.done went.rest) here.sees went.come);
            sees = went.sees ∙ ap (after went.done) here.sees ∙ sym ((joins done went.done).store_after base);
            on_course = went.on_course;
          };
        }

    comes_to_the_end : (ending : Ending) → here.rest ≡ Course.ends ending → new ≡ old → CameToTheEnd meaning whole base done old new ending
    comes_to_the_end ending ends same =
        let further = goes_on whole base done here.rest here.come in
        record {
          all = sym (further.path ∙ ap (λ (c : Course Ending). done ++ accesses c (after done base)) ends ∙ append-nil done);
          ending_is = sym (further.result ∙ ap (λ (c : Course Ending). answer c (after done base)) ends);
          view = same;
        }

    comes_on : (turn : Turn) → GoesAlong meaning code left here.rest cpu next old new turn → ComesOn meaning code left whole base done cpu next old new turn
    comes_on (Went reading) went = comes_further (Went reading) went
    comes_on Storing went = comes_further Storing went
    comes_on (Ended ending) end = comes_to_the_end ending end.0 end.1

    pub steps_under_way : (turn : Turn) → IsStep meaning code cpu next old new turn → ComesOn meaning code left whole base done cpu next old new turn
    steps_under_way turn step = comes_on turn (steps code cpu next old new turn left here.rest here.on_course step)

  elsewhere : CoursesUnderWayGoOn Ending → (code : Bodies) (cpu : Cpu) (old new : V) (left : ℕ) (whole : Course Ending) (base other : Store) (done : List Access) →
      IsUnderWay meaning code cpu old left whole base done → LeavesTheStore meaning cpu.part old new → AgreeOnShared done base other →
      length (meaning.words new) ≡ length (meaning.words old) → slice_index (meaning.words new) ≡ after done other →
      IsUnderWay meaning code cpu new left whole other done
  elsewhere goes_on code cpu old new left whole base other done here leaves agree count sees = record {
    rest = here.rest;
    come = (goes_on whole base done here.rest here.come).on_others other agree;
    sees = sees;
    on_course =
        course_stays code cpu (length (meaning.words new)) left (meaning.begun old) (meaning.begun new) here.rest leaves
        (subst (λ (n : ℕ). IsOnCourse code cpu n left (meaning.begun old) here.rest) (sym count) here.on_course);
  }

  pub stays_under_way : CoursesUnderWayGoOn Ending → (code : Bodies) (cpu : Cpu) (view : V) (left : ℕ) (whole : Course Ending) (base : Store) (done : List Access) →
      IsUnderWay meaning code cpu view left whole base done → StaysUnderWay meaning code cpu view left whole base done
  stays_under_way goes_on code cpu view left whole base done here = record {
    on_these_words = λ new leaves same.
        elsewhere goes_on code cpu view new left whole base base done here leaves (agree-itself done base) (ap length same) (ap slice_index same ∙ here.sees);
    on_other_words = λ new other leaves agree count sees. elsewhere goes_on code cpu view new left whole base other done here leaves agree count sees;
  }
