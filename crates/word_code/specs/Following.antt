-- What it is for the machine to follow a course: where the course reads a word the machine loads
-- that word and goes on with what it got, whatever that is; where the course writes one the
-- machine stores that value there; and where the course has ended, the machine has arrived. All
-- the while an instruction can run.
use Rattle.std.specs.Prelude.{ℕ, ◌≡◌, ◌+◌, ◌≤◌, List}
use Rattle.coati_word.specs.declared.ending.Ending.{Ending}
use Rattle.task_syntax.specs.Course.{Course}
use Rattle.word_code.specs.declared.instruction.Instr.{Instr}
use Rattle.word_code.specs.Machine.{State, Move, move_of, CanRun, StartsAt, steps, start}

-- the instruction starts at the state's place in the body and can run
pub record Runs (words : List ℕ) (count : ℕ) (instr : Instr) (s : State) : Type 0 where
  pub starts : StartsAt words instr s
  pub can_run : CanRun count instr s

-- within so many machine steps the machine follows the course from this state until it has arrived
pub data Follows {A : Type 0} (words : List ℕ) (count : ℕ) (Arrived : A → State → Type 0) : ℕ →
    State → Course A → Type 0 where
  arrives : (limit : ℕ) (s : State) (result : A) → Arrived result s →
      Follows words count Arrived limit s (Course.ends result)
  goes : (limit left : ℕ) (s next : State) (course : Course A) (instr : Instr) →
      Runs words count instr s → move_of instr s ≡ Move.goes next → steps instr + left ≤ limit →
      Follows words count Arrived left next course → Follows words count Arrived limit s course
  loads : (limit left : ℕ) (s : State) (word : ℕ) (next : ℕ → State) (go_on : ℕ →
      Course A) (instr : Instr) →
      Runs words count instr s → move_of instr s ≡ Move.loads word next →
      steps instr + left ≤ limit →
      ((value : ℕ) → Follows words count Arrived left (next value) (go_on value)) →
      Follows words count Arrived limit s (Course.reads word go_on)
  stores : (limit left : ℕ) (s : State) (word value : ℕ) (next : State) (rest : Course A)
      (instr : Instr) →
      Runs words count instr s → move_of instr s ≡ Move.stores word value next →
      steps instr + left ≤ limit →
      Follows words count Arrived left next rest →
      Follows words count Arrived limit s (Course.writes word value rest)

-- the instruction at the state's place ends the body with this ending
pub record EndsWith (words : List ℕ) (count : ℕ) (ending : Ending) (s : State) : Type 0 where
  pub instr : Instr
  pub runs : Runs words count instr s
  pub is_end : move_of instr s ≡ Move.ends ending

-- a body does what the course says: from the start it follows it to its ending, which is one step
-- more
pub record Computes (words : List ℕ) (count : ℕ) (cost : ℕ) (params : List ℕ)
    (course : Course Ending) : Type 0 where
  pub limit : ℕ
  pub in_time : limit + 1 ≤ cost
  pub follows : Follows words count (EndsWith words count) limit (start params) course
