-- A machine that is on a course: what it does from here on is what the course says.
use Rattle.std.specs.Prelude.{ℕ, ◌≡◌, ◌+◌, ◌≤◌, ◌<◌, List, [], ◌∷◌, map, length, slice_index, true, false, Some, None}
use Rattle.coati_word.specs.declared.ending.Ending.{Ending}
use Rattle.coati_word.specs.declared.reading.Reading.{Reading}
use Rattle.task_syntax.specs.Course.{Course, Access, after, readings}
use Rattle.task_syntax.specs.UnderWay.{HasReached}
use Rattle.word_code.specs.Code.{Bodies, body_words}
use Rattle.word_code.specs.FollowingLaws.{FollowsToTheEnd}
use Rattle.word_code.specs.Machine.{Move}
use Rattle.word_cpu.specs.Meaning.{Meaning}
use Rattle.word_cpu.specs.declared.cpu.Cpu.{Cpu}
use Rattle.word_cpu.specs.declared.turn.Turn.{Turn}
use Rattle.word_cpu.specs.declared.turn.Turn.TheVariants.{Went, Storing, Ended}
use Rattle.word_cpu.specs.Turning.{CanStep, IsBegun, IsStep, OfTheMove, state_of}

-- the machine follows a course in the words of its body, on a view of so many words, and ends
-- after so many machine steps more at most; the parts of a store under way that are made aren't
-- among these
pub record IsOnCourse (code : Bodies) (cpu : Cpu) (count left : ℕ) (begun : ℕ → ℕ → ℕ →
    Type 0) (course : Course Ending) : Type 0 where
  pub limit : ℕ
  pub follows : FollowsToTheEnd (body_words code cpu.body) count limit (state_of cpu) course
  pub in_time : limit ≤ left + cpu.part
  pub few_parts : cpu.part < 3
  pub is_begun : OfTheMove code cpu (IsBegun begun cpu.part)

-- what a step read
abbrev pub read_by : Turn → List Reading
read_by (Went None) = []
read_by (Went (Some reading)) = reading ∷ []
read_by Storing = []
read_by (Ended ending) = []

-- what a step wrote that stores a value in a word: the last part writes it
abbrev pub written_by : ℕ → ℕ → Turn → List Access
written_by word value (Went reading) = Access.wrote word value ∷ []
written_by word value Storing = []
written_by word value (Ended ending) = []

-- the access of a step that makes a move, or a part of it
abbrev pub done_by : Turn → Move → List Access
done_by turn (Move.goes next) = []
done_by turn (Move.loads word next) = map (λ (reading : Reading). Access.read reading.word
    reading.value) (read_by turn)
done_by turn (Move.stores word value next) = written_by word value turn
done_by turn (Move.ends ending) = []

module _ {V : Type 0} (meaning : Meaning V) where
  -- what a step makes of the view, by the accesses that it makes: nothing, or a load, or a part of
  -- a store, of which those before are written
  pub data Touches (part : ℕ) (old new : V) : List Access → Type 0 where
    leaves : new ≡ old → Touches part old new []
    loads : (word : ℕ) → meaning.loaded old word new →
        Touches part old new (Access.read word (slice_index (meaning.words old) word) ∷ [])
    prepares : (word value : ℕ) → (0 < part → meaning.begun old word value part) → part < 2 →
        meaning.stored old word value part new false → meaning.words new ≡ meaning.words old →
        Touches part old new []
    stores : (word value : ℕ) → (0 < part → meaning.begun old word value part) →
        meaning.stored old word value part new true →
        Touches part old new (Access.wrote word value ∷ [])

  -- a step went along a course: it had time, made these accesses, and read what it answers; and
  -- what is left of the course the machine follows in the time that is left
  pub record WentAlong (code : Bodies) (left : ℕ) (course : Course Ending) (cpu next : Cpu)
      (old new : V) (turn : Turn) : Type 0 where
    pub done : List Access
    pub rest : Course Ending
    pub remaining : ℕ
    pub in_time : remaining + 1 ≤ left
    pub done_is : OfTheMove code cpu (λ move. done_by turn move ≡ done)
    pub reads : readings done ≡ read_by turn
    pub come : HasReached course (slice_index (meaning.words old)) done rest
    pub sees : slice_index (meaning.words new) ≡ after done (slice_index (meaning.words old))
    pub count : length (meaning.words new) ≡ length (meaning.words old)
    pub touches : Touches cpu.part old new done
    pub on_course : IsOnCourse code next (length (meaning.words new)) remaining
        (meaning.begun new) rest

  -- a step goes along the course, or it ends the body as the course ends and leaves the view
  abbrev pub GoesAlong : Bodies → ℕ → Course Ending → Cpu → Cpu → V → V → Turn → Type 0
  GoesAlong code left course cpu next old new (Went reading) =
      WentAlong code left course cpu next old new (Went reading)
  GoesAlong code left course cpu next old new Storing =
      WentAlong code left course cpu next old new Storing
  GoesAlong code left course cpu next old new (Ended ending) = (course ≡ Course.ends ending)
      × (new ≡ old)

  -- a machine that is on a course can make a step
  abbrev pub MachinesOnCourseCanStep : Type 0
  MachinesOnCourseCanStep =
      (code : Bodies) (cpu : Cpu) (view : V) (left : ℕ) (course : Course Ending) →
      IsOnCourse code cpu (length (meaning.words view)) left (meaning.begun view) course →
      CanStep code cpu (length (meaning.words view))

  -- and each of its steps goes along the course
  abbrev pub StepsGoAlongTheCourse : Type 0
  StepsGoAlongTheCourse =
      (code : Bodies) (cpu next : Cpu) (old new : V) (turn : Turn) (left : ℕ)
      (course : Course Ending) →
      IsOnCourse code cpu (length (meaning.words old)) left (meaning.begun old) course →
      IsStep meaning code cpu next old new turn → GoesAlong code left course cpu next old new turn
