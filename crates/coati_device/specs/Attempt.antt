-- The attempt under way: its task runs on the committed words, changed by the open transaction,
-- and its log and its readings are what the body has written and read so far.
use Rattle.std.specs.Prelude.{ℕ, ◌+◌, ◌≡◌, ◌≤◌, ◌<◌, ◌&&◌, ◌⊎◌, Bool, List, length, not, is_some, Some}
use Rattle.std.specs.Option.{unwrap_or}
use Rattle.coati_word.specs.declared.ending.Ending.{Ending}
use Rattle.coati_word.specs.declared.reading.Reading.{Reading}
use Rattle.task_syntax.specs.declared.program.Program.{Program}
use Rattle.task_syntax.specs.declared.body.BodyId.{BodyId}
use Rattle.task_syntax.specs.declared.body.BodyId.TheVariants.{Bottom, Task, Top}
use Rattle.task_syntax.specs.Course.{Access, Course, Store, accesses, answer, readings}
use Rattle.task_syntax.specs.Events.{event_course}
use Rattle.task_syntax.specs.Names.{tasks}
use Rattle.task_syntax.specs.Units.{place_after, task_course}
use Rattle.task_syntax.specs.Written.{is_shared, last_written}
use Rattle.nv_memory.specs.declared.log.Log.TheVariants as log
use Rattle.nv_memory.specs.Logs.{log_value}
use Rattle.nv_memory.specs.Seats.{Memory}
use Rattle.nv_memory.specs.StandsFor.{committed_word}
use Rattle.nv_memory.specs.State.{State, state}
use Rattle.nv_memory.specs.Words.{attempt_flag, current, doomed, mark, mode}
use Rattle.serial_log.specs.declared.held.Held.{Held}
use Rattle.serial_log.specs.Postings.{due_posting}
use Rattle.task_cost.specs.Limits.{attempt_bound}
use Rattle.word_code.specs.Code.{Bodies}
use Rattle.word_cpu.specs.declared.cpu.Cpu.{Cpu}
use Rattle.word_cpu.specs.UnderWay.{IsUnderWay}
use Rattle.coati_device.specs.declared.device.Phase.{Phase}
use Rattle.coati_device.specs.declared.device.Phase.TheVariants.{Choose, Run, End, EndBottom}
use Rattle.coati_device.specs.BottomView.{bottom_view, head_log}
use Rattle.coati_device.specs.Rows.{ComesToEvents, IsClear}
use Rattle.coati_device.specs.TaskView.{task_view}

-- what the task runs on
abbrev pub base_word : State → Store
base_word s word = unwrap_or (log_value s log.Tx word) (committed_word s word)

-- no commit and no undo is under way, and the task to run is there
pub record IsAtTask (program : Program) (s : State) : Type 0 where
  pub clear : IsClear s
  pub task : current s < length (tasks program)

-- the attempt reads a word before it or the open transaction wrote it
abbrev pub is_read_below : State → List Access → ℕ → Bool
is_read_below s done word = not (is_some (log_value s log.Tx word)) && is_shared done word

-- the body of the task to run has made accesses: its log holds what they wrote, they read this,
-- and in buffi the attempt's flags are of the words that they read from the variables
pub record HasMade (s : State) (read : List Reading) (done : List Access) : Type 0 where
  pub log : (word : ℕ) → log_value s log.Task word ≡ last_written done word
  pub reads : read ≡ readings done
  pub flags : mode s ≡ 1 → (word : ℕ) → word < s.n →
      attempt_flag s word ≡ is_read_below s done word

-- a body has so many steps left before the one that ends it, of which at most `most` are told, and
-- these are within an attempt with its start and its end
pub record IsInTime (program : Program) (left most : ℕ) : Type 0 where
  pub told : left ≤ most
  pub within : most + 2 ≤ attempt_bound program

-- the machine is under way in the task to run, with so many steps left at most
pub record IsRunning (program : Program) (code : Bodies) (m : Memory) (read : List Reading)
    (cpu : Cpu) (most : ℕ) : Type 0 where
  pub at : IsAtTask program (state m)
  pub body : cpu.body ≡ Task (current (state m))
  pub done : List Access
  pub made : HasMade (state m) read done
  pub left : ℕ
  pub in_time : IsInTime program left most
  pub under_way : IsUnderWay task_view code cpu m left (task_course program (current (state m)))
      (base_word (state m)) done

-- the task to run has ended: no commit of a task or unit and no undo is under way, but that of an
-- event may be
pub record IsBehindTask (program : Program) (s : State) : Type 0 where
  pub mark : (mark s ≡ 0) ⊎ (mark s ≡ 3)
  pub doomed : doomed s ≡ 0
  pub task : current s < length (tasks program)

-- and the program goes on at this place
pub record HasEnded (program : Program) (m : Memory) (read : List Reading) (place : ℕ)
    : Type 0 where
  pub at : IsBehindTask program (state m)
  pub made : HasMade (state m) read (accesses (task_course program (current (state m)))
      (base_word (state m)))
  pub leads : place ≡ place_after (answer (task_course program (current (state m)))
      (base_word (state m)))

-- neither a commit nor an undo is under way, no transaction is open, and this is the oldest held
-- posting
pub record IsAtPosting (s : State) (rest : List Held) : Type 0 where
  pub clear : IsClear s
  pub events : ComesToEvents s
  pub held : Held
  pub due : due_posting rest ≡ Some held

-- the bottom half has made accesses: the log of the entry at the head holds what they wrote, and
-- they read this
pub record HasMadeAtHead (s : State) (read : List Reading) (done : List Access) : Type 0 where
  pub log : (word : ℕ) → log_value s (head_log s) word ≡ last_written done word
  pub reads : read ≡ readings done

-- the course of the oldest held posting's bottom half
abbrev pub course_at : Program → Held → Course Ending
course_at program held = event_course program held.event held.argument

-- the machine is under way in the bottom half of the oldest held posting, on the committed words
pub record IsInBottom (program : Program) (code : Bodies) (m : Memory) (rest : List Held)
    (read : List Reading) (cpu : Cpu) (most : ℕ) : Type 0 where
  pub at : IsAtPosting (state m) rest
  pub body : cpu.body ≡ Bottom at.held.event
  pub done : List Access
  pub made : HasMadeAtHead (state m) read done
  pub left : ℕ
  pub in_time : IsInTime program left most
  pub under_way : IsUnderWay bottom_view code cpu m left (course_at program at.held)
      (committed_word (state m)) done

-- the bottom half has ended
pub record HasEndedBottom (program : Program) (m : Memory) (rest : List Held) (read : List Reading)
    : Type 0 where
  pub at : IsAtPosting (state m) rest
  pub made : HasMadeAtHead (state m) read (accesses (course_at program at.held)
      (committed_word (state m)))

-- what a running machine says, by its body
abbrev pub IsRunningIn : Program → Bodies → Memory → List Held → List Reading → Cpu →
    (most : ℕ) → BodyId → Type 0
IsRunningIn program code m rest read cpu most (Task task) =
    IsRunning program code m read cpu most
IsRunningIn program code m rest read cpu most (Top event) = ⊥
IsRunningIn program code m rest read cpu most (Bottom event) =
    IsInBottom program code m rest read cpu most

-- what the phase says of the attempt, where these postings wait
abbrev pub IsAttempt : Program → Bodies → Memory → List Held → List Reading → Phase → Type 0
IsAttempt program code m rest read Choose = Unit {0}
IsAttempt program code m rest read (Run cpu most) =
    IsRunningIn program code m rest read cpu most cpu.body
IsAttempt program code m rest read (End place) = HasEnded program m read place
IsAttempt program code m rest read EndBottom = HasEndedBottom program m rest read
