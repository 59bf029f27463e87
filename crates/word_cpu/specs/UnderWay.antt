-- A machine under way in a body: the accesses that it has made since the body started, what is
-- left of the body's course, and the time for it. So it stays while the view changes between
-- steps, as long as its words and the store under way stay.
use Rattle.std.specs.Prelude.{ℕ, ◌≡◌, ◌+◌, ◌≤◌, ◌<◌, List, [], ◌++◌, length, slice_index}
use Rattle.coati_word.specs.declared.ending.Ending.{Ending}
use Rattle.task_syntax.specs.declared.body.BodyId.{BodyId}
use Rattle.task_syntax.specs.Course.{Course, Access, Store, accesses, after, answer, readings}
use Rattle.task_syntax.specs.CourseLaws.{AgreeOnShared}
use Rattle.task_syntax.specs.UnderWay.{HasReached}
use Rattle.word_code.specs.Code.{Bodies, body_words}
use Rattle.word_code.specs.Following.{Computes}
use Rattle.word_code.specs.Machine.{start}
use Rattle.word_cpu.specs.Meaning.{Meaning}
use Rattle.word_cpu.specs.declared.cpu.Cpu.{Cpu}
use Rattle.word_cpu.specs.declared.turn.Turn.{Turn}
use Rattle.word_cpu.specs.declared.turn.Turn.TheVariants.{Went, Storing, Ended}
use Rattle.word_cpu.specs.OnCourse.{IsOnCourse, Touches, done_by, read_by}
use Rattle.word_cpu.specs.Turning.{CanStep, IsBegun, IsStep, OfTheMove, state_of}

-- the machine is at the start of a body on these parameters
pub record IsAtStart (body : BodyId) (params : List ℕ) (cpu : Cpu) : Type 0 where
  pub body_is : cpu.body ≡ body
  pub state : state_of cpu ≡ start params
  pub part : cpu.part ≡ 0

module _ {V : Type 0} (meaning : Meaning V) where
  -- the machine is under way: the course of its body has made these accesses on a base store, the
  -- view holds what they leave of it, and what is left of the course the machine follows in so
  -- many steps more at most
  pub record IsUnderWay (code : Bodies) (cpu : Cpu) (view : V) (left : ℕ) (whole : Course Ending)
      (base : Store) (done : List Access) : Type 0 where
    pub rest : Course Ending
    pub come : HasReached whole base done rest
    pub sees : slice_index (meaning.words view) ≡ after done base
    pub on_course : IsOnCourse code cpu (length (meaning.words view)) left
        (meaning.begun view) rest

  -- a machine that is started on a body that computes a course is under way in it
  abbrev pub StartedMachinesAreUnderWay : Type 0
  StartedMachinesAreUnderWay =
      (code : Bodies) (cpu : Cpu) (view : V) (body : BodyId) (params : List ℕ) (cost left : ℕ)
      (course : Course Ending) →
      Computes (body_words code body) (length (meaning.words view)) cost params course →
      IsAtStart body params cpu →
      cost ≤ left + 1 → IsUnderWay code cpu view left course (slice_index (meaning.words view)) []

  -- what a step asks for
  pub record IsReady (code : Bodies) (cpu : Cpu) (view : V) : Type 0 where
    pub can_step : CanStep code cpu (length (meaning.words view))
    pub is_begun : OfTheMove code cpu (IsBegun (meaning.begun view) cpu.part)

  -- a machine that is under way can make a step
  abbrev pub MachinesUnderWayAreReady : Type 0
  MachinesUnderWayAreReady =
      (code : Bodies) (cpu : Cpu) (view : V) (left : ℕ) (whole : Course Ending) (base : Store)
      (done : List Access) →
      IsUnderWay code cpu view left whole base done → IsReady code cpu view

  -- a step brought the machine further, by these accesses more, and answered what it read
  pub record CameFurther (code : Bodies) (left : ℕ) (whole : Course Ending) (base : Store)
      (done : List Access) (cpu next : Cpu) (old new : V) (turn : Turn) : Type 0 where
    pub more : List Access
    pub remaining : ℕ
    pub in_time : remaining + 1 ≤ left
    pub more_is : OfTheMove code cpu (λ move. done_by turn move ≡ more)
    pub reads : readings more ≡ read_by turn
    pub count : length (meaning.words new) ≡ length (meaning.words old)
    pub touches : Touches meaning cpu.part old new more
    pub under_way : IsUnderWay code next new remaining whole base (done ++ more)

  -- a step ended the body: all accesses of the course are made, the ending is its own, and the
  -- view is as it was
  pub record CameToTheEnd (whole : Course Ending) (base : Store) (done : List Access) (old new : V)
      (ending : Ending) : Type 0 where
    pub all : done ≡ accesses whole base
    pub ending_is : ending ≡ answer whole base
    pub view : new ≡ old

  -- what a step comes to
  abbrev pub ComesOn : Bodies → ℕ → Course Ending → Store → List Access → Cpu → Cpu → V → V →
      Turn → Type 0
  ComesOn code left whole base done cpu next old new (Went reading) =
      CameFurther code left whole base done cpu next old new (Went reading)
  ComesOn code left whole base done cpu next old new Storing =
      CameFurther code left whole base done cpu next old new Storing
  ComesOn code left whole base done cpu next old new (Ended ending) =
      CameToTheEnd whole base done old new ending

  -- each step of a machine that is under way brings it further, or to the end
  abbrev pub MachinesUnderWayComeOn : Type 0
  MachinesUnderWayComeOn =
      (code : Bodies) (cpu next : Cpu) (old new : V) (turn : Turn) (left : ℕ)
      (whole : Course Ending) (base : Store) (done : List Access) →
      IsUnderWay code cpu old left whole base done → IsStep meaning code cpu next old new turn →
      ComesOn code left whole base done cpu next old new turn

  -- a change of the view between two steps leaves the store under way
  abbrev pub LeavesTheStore : ℕ → V → V → Type 0
  LeavesTheStore part old new = (word value : ℕ) → 0 < part → meaning.begun old word value part →
      meaning.begun new word value part

  -- a machine that is under way stays so while the view changes
  pub record StaysUnderWay (code : Bodies) (cpu : Cpu) (old : V) (left : ℕ) (whole : Course Ending)
      (base : Store) (done : List Access) : Type 0 where
    -- where the words of the view stay
    pub on_these_words : (new : V) → LeavesTheStore cpu.part old new →
        meaning.words new ≡ meaning.words old →
        IsUnderWay code cpu new left whole base done
    -- and where they change with the base store, in no word that the accesses read before they
    -- wrote it
    pub on_other_words : (new : V) (other : Store) → LeavesTheStore cpu.part old new →
        AgreeOnShared done base other →
        length (meaning.words new) ≡ length (meaning.words old) →
        slice_index (meaning.words new) ≡ after done other →
        IsUnderWay code cpu new left whole other done

  -- so does each
  abbrev pub MachinesStayUnderWay : Type 0
  MachinesStayUnderWay =
      (code : Bodies) (cpu : Cpu) (view : V) (left : ℕ) (whole : Course Ending) (base : Store)
      (done : List Access) →
      IsUnderWay code cpu view left whole base done →
      StaysUnderWay code cpu view left whole base done
