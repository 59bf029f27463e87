-- Laws of following. A body that computes a course has its effect on each store, within its cost,
-- and is never stuck, whatever its loads give.
use Rattle.std.specs.Prelude.{ℕ, ◌≡◌, ◌+◌, ◌≤◌, List, []}
use Rattle.coati_word.specs.declared.ending.Ending.{Ending}
use Rattle.task_syntax.specs.Course.{Course, chain, Store, accesses, answer, after}
use Rattle.word_code.specs.declared.instruction.Instr.{Instr}
use Rattle.word_code.specs.Machine.{State, Move, move_of, steps, start}
use Rattle.word_code.specs.Following.{Runs, Follows, EndsWith, Computes}
use Rattle.word_code.specs.Running.{Machine, Reaches, Log, logged, giving}

-- a body at its start on these parameters
abbrev pub started : {M : Type 0} → List ℕ → M → Machine M
started params m = record { state = start params; memory = m }

-- on a store the body runs to its end within the cost, and what it did is what the course does
-- there
pub record HasEffect (words : List ℕ) (count cost : ℕ) (params : List ℕ) (course : Course Ending)
    (store : Store) : Type 0 where
  pub spent : ℕ
  pub last : Machine Log
  pub reached : Reaches logged words spent (started params (record {
    store = store;
    done = [];
  })) last
  pub in_time : spent + 1 ≤ cost
  pub ended : EndsWith words count (answer course store) last.state
  pub done : last.memory.done ≡ accesses course store
  pub store_is : last.memory.store ≡ after (accesses course store) store

abbrev pub BodiesHaveTheirEffect : Type 0
BodiesHaveTheirEffect =
    (words : List ℕ) (count cost : ℕ) (params : List ℕ) (course : Course Ending) →
    Computes words count cost params course → (store : Store) →
    HasEffect words count cost params course store

-- wherever the body comes to, an instruction can run, and there is time for it
pub record IsNotStuck (words : List ℕ) (count cost spent : ℕ) (s : State) : Type 0 where
  pub instr : Instr
  pub runs : Runs words count instr s
  pub in_time : spent + steps instr ≤ cost

-- so it is, whatever its loads give
abbrev pub BodiesAreNeverStuck : Type 0
BodiesAreNeverStuck =
    (words : List ℕ) (count cost : ℕ) (params : List ℕ) (course : Course Ending) →
    Computes words count cost params course →
    (values : List ℕ) (spent : ℕ) (at : Machine (List ℕ)) →
    Reaches giving words spent (started params values) at →
    IsNotStuck words count cost spent at.state

-- a body's course from a state on, followed within so many machine steps
abbrev pub FollowsToTheEnd : List ℕ → ℕ → ℕ → State → Course Ending → Type 0
FollowsToTheEnd words count limit s course = Follows words count (EndsWith words count) limit
    s course

-- so it is after so many machine steps more
abbrev pub FollowsAfter : List ℕ → ℕ → ℕ → ℕ → State → Course Ending → Type 0
FollowsAfter words count spent limit s course = (left : ℕ) × (spent + left ≤ limit)
    × FollowsToTheEnd words count left s course

-- what the course says of a move of so many machine steps: where the move leads the course goes on
abbrev pub GoesOn : List ℕ → ℕ → ℕ → ℕ → Move → Course Ending → Type 0
GoesOn words count spent limit (Move.goes next) course =
    FollowsAfter words count spent limit next course
GoesOn words count spent limit (Move.loads word next) course =
    (go_on : ℕ → Course Ending) × (course ≡ Course.reads word go_on)
    × ((value : ℕ) → FollowsAfter words count spent limit (next value) (go_on value))
GoesOn words count spent limit (Move.stores word value next) course =
    (rest : Course Ending) × (course ≡ Course.writes word value rest)
    × FollowsAfter words count spent limit next rest
GoesOn words count spent limit (Move.ends ending) course = course ≡ Course.ends ending

-- an instruction starts in the state and can run, and with its move the course goes on
pub record GoesOnFrom (words : List ℕ) (count limit : ℕ) (s : State) (course : Course Ending)
    : Type 0 where
  pub instr : Instr
  pub runs : Runs words count instr s
  pub goes_on : GoesOn words count (steps instr) limit (move_of instr s) course

-- a state from which a course is followed moves as the course says
abbrev pub FollowingGoesOn : Type 0
FollowingGoesOn =
    (words : List ℕ) (count limit : ℕ) (s : State) (course : Course Ending) →
    FollowsToTheEnd words count limit s course → GoesOnFrom words count limit s course

-- where a course is followed to a state by its answer, and what comes next from there, the chain
-- of both is followed
abbrev pub ChainsAreFollowedInTurn : Type 0 → Type 0 → Type 0
ChainsAreFollowedInTurn A B =
    (words : List ℕ) (count limit more : ℕ) (there : A → State) (last : B →
    State) (s : State) (first : Course A) (next : A → Course B) →
    Follows words count (λ result t. t ≡ there result) limit s first →
    ((result : A) → Follows words count (λ answer t. t ≡ last answer) more (there result)
    (next result)) →
    Follows words count (λ answer t. t ≡ last answer) (limit + more) s (chain first next)
