-- Runs of the machine on a memory. The memory is given by what its loads and stores do, so one
-- relation serves a store that keeps all accesses in their order, and one whose loads give
-- anything.
use Rattle.std.specs.Prelude.{ℕ, ◌≡◌, ◌+◌, List, [], ◌∷◌, ◌++◌, slice_index, slice_set, Option, Some, None}
use Rattle.task_syntax.specs.Course.{Store, put, Access}
use Rattle.word_code.specs.declared.instruction.Instr.{Instr}
use Rattle.word_code.specs.Machine.{State, Move, move_of, StartsAt, steps}

-- what loads and stores do: a load may change the memory, as one that notes it
pub record Memory (M : Type 0) : Type 0 where
  pub load : M → ℕ → ℕ × M
  pub store : M → ℕ → ℕ → M

-- the machine and its memory
pub record Machine (M : Type 0) : Type 0 where
  pub state : State
  pub memory : M

-- where a move leads; the end of the body leads nowhere
abbrev pub moved : {M : Type 0} → Memory M → Move → M → Option (Machine M)
moved memory (Move.goes next) m = Some (record { state = next; memory = m })
moved memory (Move.loads word next) m = Some (record {
  state = next (memory.load m word).0;
  memory = (memory.load m word).1;
})
moved memory (Move.stores word value next) m =
    Some (record { state = next; memory = memory.store m word value })
moved memory (Move.ends ending) m = None

-- one instruction after another leads from one state to another, in so many machine steps
pub data Reaches {M : Type 0} (memory : Memory M) (words : List ℕ) : ℕ → Machine M → Machine M →
    Type 0 where
  stays : (at : Machine M) → Reaches memory words 0 at at
  steps_on : (spent : ℕ) (from next to : Machine M) (instr : Instr) →
      StartsAt words instr from.state → moved memory (move_of instr from.state) from.memory
      ≡ Some next →
      Reaches memory words spent next to → Reaches memory words (steps instr + spent) from to

-- the memory that is a list of words
abbrev pub word_list : Memory (List ℕ)
word_list = record {
  load = λ words word. (slice_index words word, words);
  store = λ words word value. slice_set words word value;
}

-- a store, and what was done on it
pub record Log : Type 0 where
  pub store : Store
  pub done : List Access

-- the memory that keeps all accesses in their order
abbrev pub logged : Memory Log
logged = record {
  load = λ log word. (
    log.store word,
    record {
      store = log.store;
      done = log.done
          ++ Access.read word (log.store word) ∷ [];
    },
  );
  store = λ log word value. record {
    store = put word value log.store;
    done = log.done
        ++ Access.wrote word value ∷ [];
  };
}

-- a value and those behind it
abbrev pub taken : List ℕ → ℕ × List ℕ
taken [] = (0, [])
taken (value ∷ values) = (value, values)

-- the memory whose loads give these values, one after another, whatever is stored
abbrev pub giving : Memory (List ℕ)
giving = record { load = λ values word. taken values; store = λ values word value. values }
