-- Where a machine comes to that is started on a body: what it did on its way is what the body's
-- course does.
use Rattle.std.specs.Prelude.{ℕ, ◌≡◌, ◌+◌, ◌≤◌, List, [], ◌++◌, length, slice_index}
use Rattle.coati_word.specs.declared.ending.Ending.{Ending}
use Rattle.coati_word.specs.declared.reading.Reading.{Reading}
use Rattle.task_syntax.specs.declared.body.BodyId.{BodyId}
use Rattle.task_syntax.specs.Course.{Course, Access, accesses, after, answer, readings}
use Rattle.word_code.specs.declared.instruction.Instr.{Instr}
use Rattle.word_code.specs.Code.{Bodies, body_words}
use Rattle.word_code.specs.Following.{Computes}
use Rattle.word_code.specs.Machine.{StartsAt, move_of}
use Rattle.word_cpu.specs.Meaning.{Meaning}
use Rattle.word_cpu.specs.declared.cpu.Cpu.{Cpu}
use Rattle.word_cpu.specs.declared.turn.Turn.{Turn}
use Rattle.word_cpu.specs.declared.turn.Turn.TheVariants.{Went, Storing, Ended}
use Rattle.word_cpu.specs.OnCourse.{done_by, read_by}
use Rattle.word_cpu.specs.UnderWay.{IsAtStart}
use Rattle.word_cpu.specs.Turning.{CanStep, IsBegun, IsStep, OfTheMove, state_of}

-- the body hasn't ended
abbrev pub HasNotEnded : Turn → Type 0
HasNotEnded (Went reading) = Unit {0}
HasNotEnded Storing = Unit {0}
HasNotEnded (Ended ending) = ⊥

-- what a body did from its start to its end, on a list of words, is what its course does there
pub record HasDone (course : Course Ending) (old : List ℕ) (done : List Access)
    (read : List Reading) (ending : Ending) (new : List ℕ) : Type 0 where
  pub accesses_are : done ≡ accesses course (slice_index old)
  pub readings_are : read ≡ readings done
  pub ending_is : ending ≡ answer course (slice_index old)
  pub words_are : slice_index new ≡ after done (slice_index old)
  pub count : length new ≡ length old

module _ {V : Type 0} (meaning : Meaning V) (code : Bodies) where
  -- a machine that was started on a body comes here by so many steps with these accesses and
  -- readings, and the view with it
  pub data Comes (body : BodyId) (params : List ℕ) (view : V) : ℕ → List Access → List Reading →
      Cpu → V → Type 0 where
    starts : (cpu : Cpu) → IsAtStart body params cpu → Comes body params view 0 [] [] cpu view
    steps : (spent : ℕ) (done : List Access) (read : List Reading) (before after : Cpu)
        (old new : V) (turn : Turn) (instr : Instr) →
        Comes body params view spent done read before old →
        StartsAt (body_words code before.body) instr (state_of before) →
        IsStep meaning code before after old new turn → HasNotEnded turn →
        Comes body params view (spent + 1) (done
        ++ done_by turn (move_of instr (state_of before))) (read ++ read_by turn) after new

  -- the machine can make a step within the cost, and where the body ends by it, all is done that
  -- its course does
  pub record KeepsToTheCourse (cost : ℕ) (course : Course Ending) (view : V) (body : BodyId)
      (spent : ℕ) (done : List Access) (read : List Reading) (cpu : Cpu) (now : V) : Type 0 where
    pub body_is : cpu.body ≡ body
    pub count : length (meaning.words now) ≡ length (meaning.words view)
    pub can_step : CanStep code cpu (length (meaning.words now))
    pub is_begun : OfTheMove code cpu (IsBegun (meaning.begun now) cpu.part)
    pub in_time : spent + 1 ≤ cost
    pub ends : (last : Cpu) (new : V) (ending : Ending) →
        IsStep meaning code cpu last now new (Ended ending) →
        HasDone course (meaning.words view) done read ending (meaning.words new)

-- so it is wherever a machine comes to that was started on a body that computes a course
abbrev pub MachinesKeepToTheCourse : {V : Type 0} → Meaning V → Type 0
MachinesKeepToTheCourse {V} meaning =
    (code : Bodies) (cost : ℕ) (course : Course Ending) (body : BodyId) (params : List ℕ)
    (view : V) →
    Computes (body_words code body) (length (meaning.words view)) cost params course →
    (spent : ℕ) (done : List Access) (read : List Reading) (cpu : Cpu) (now : V) →
    Comes meaning code body params view spent done read cpu now →
    KeepsToTheCourse meaning code cost course view body spent done read cpu now
