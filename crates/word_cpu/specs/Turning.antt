-- What a machine step does, told by the move of the instruction that starts in the machine's
-- state. A load gives what the view has in that word. A store may take several steps, its parts,
-- and leaves state and words until the last of them.
use Rattle.std.specs.Prelude.{ℕ, ◌≡◌, ◌+◌, ◌<◌, List, slice_index, slice_set, Bool, true, false, Some, None}
use Rattle.coati_word.specs.declared.ending.Ending.{Ending}
use Rattle.word_code.specs.declared.instruction.Instr.{Instr}
use Rattle.word_code.specs.Code.{Bodies, body_words}
use Rattle.word_code.specs.Machine.{State, Move, move_of, StartsAt}
use Rattle.word_code.specs.Following.{Runs}
use Rattle.word_code.specs.Running.{moved, word_list}
use Rattle.word_cpu.specs.Meaning.{Meaning}
use Rattle.word_cpu.specs.declared.cpu.Cpu.{Cpu}
use Rattle.word_cpu.specs.declared.turn.Turn.{Turn}
use Rattle.word_cpu.specs.declared.turn.Turn.TheVariants.{Went, Storing, Ended}

-- the state of the machine
abbrev pub state_of : Cpu → State
state_of cpu = record { place = cpu.place; operands = cpu.operands; locals = cpu.locals }

-- an instruction starts in the machine's state and can run, where there are so many variable words
abbrev pub CanStep : Bodies → Cpu → ℕ → Type 0
CanStep code cpu count = (instr : Instr) × Runs (body_words code cpu.body) count instr
    (state_of cpu)

-- so it is of the move of the instruction that starts in the machine's state
abbrev pub OfTheMove : Bodies → Cpu → (Move → Type 0) → Type 0
OfTheMove code cpu Fact = (instr : Instr) → StartsAt (body_words code cpu.body) instr
    (state_of cpu) → Fact (move_of instr (state_of cpu))

-- the move is a store of which the parts before this one are written
abbrev pub IsBegunStore : (ℕ → ℕ → ℕ → Type 0) → ℕ → Move → Type 0
IsBegunStore begun part (Move.goes next) = ⊥
IsBegunStore begun part (Move.loads word next) = ⊥
IsBegunStore begun part (Move.stores word value next) = begun word value part
IsBegunStore begun part (Move.ends ending) = ⊥

-- where parts of a store are made, the move is that store
abbrev pub IsBegun : (ℕ → ℕ → ℕ → Type 0) → ℕ → Move → Type 0
IsBegun begun part move = 0 < part → IsBegunStore begun part move

-- the move touches no variable word and doesn't end the body
abbrev pub IsGoing : Move → Type 0
IsGoing (Move.goes next) = Unit {0}
IsGoing (Move.loads word next) = ⊥
IsGoing (Move.stores word value next) = ⊥
IsGoing (Move.ends ending) = ⊥

-- the machine went on, and the view is as before
pub record WentOn {V : Type 0} (next : State) (before after : Cpu) (old new : V) (turn : Turn)
    : Type 0 where
  pub answer : turn ≡ Went None
  pub state : state_of after ≡ next
  pub part : after.part ≡ 0
  pub view : new ≡ old

-- the body ended, and all is as before
pub record HasEnded {V : Type 0} (ending : Ending) (before after : Cpu) (old new : V) (turn : Turn)
    : Type 0 where
  pub answer : turn ≡ Ended ending
  pub state : state_of after ≡ state_of before
  pub part : after.part ≡ 0
  pub view : new ≡ old

module _ {V : Type 0} (meaning : Meaning V) where
  -- a word was loaded and read, and the machine went on with it
  pub record HasLoaded (word : ℕ) (next : ℕ →
      State) (before after : Cpu) (old new : V) (turn : Turn) : Type 0 where
    pub answer : turn ≡ Went (Some (record {
      word = word;
      value = slice_index (meaning.words old) word;
    }))
    pub state : state_of after ≡ next (slice_index (meaning.words old) word)
    pub part : after.part ≡ 0
    pub words_stay : meaning.words new ≡ meaning.words old
    pub view : meaning.loaded old word new

  -- a value was stored in a word by the last part of the store, and the machine went on
  pub record HasStored (word value : ℕ) (next : State) (before after : Cpu) (old new : V)
      : Type 0 where
    pub state : state_of after ≡ next
    pub part : after.part ≡ 0
    pub words_are : meaning.words new ≡ slice_set (meaning.words old) word value
    pub view : meaning.stored old word value before.part new true

  -- a part of the store was made that wasn't the last
  pub record IsStoring (word value : ℕ) (before after : Cpu) (old new : V) : Type 0 where
    pub state : state_of after ≡ state_of before
    pub part : after.part ≡ before.part + 1
    pub few : before.part < 2
    pub words_stay : meaning.words new ≡ meaning.words old
    pub is_begun : meaning.begun new word value (before.part + 1)
    pub view : meaning.stored old word value before.part new false

  -- a part of a store, by what the step answered
  abbrev pub StoresPart : ℕ → ℕ → State → Cpu → Cpu → V → V → Turn → Type 0
  StoresPart word value next before after old new (Went None) =
      HasStored word value next before after old new
  StoresPart word value next before after old new (Went (Some reading)) = ⊥
  StoresPart word value next before after old new Storing =
      IsStoring word value before after old new
  StoresPart word value next before after old new (Ended ending) = ⊥

  -- a step makes this move, or a part of it where it is a store
  abbrev pub Makes : Cpu → Cpu → V → V → Turn → Move → Type 0
  Makes before after old new turn (Move.goes next) = WentOn next before after old new turn
  Makes before after old new turn (Move.loads word next) =
      HasLoaded word next before after old new turn
  Makes before after old new turn (Move.stores word value next) =
      StoresPart word value next before after old new turn
  Makes before after old new turn (Move.ends ending) = HasEnded ending before after old new turn

  -- a step that went on is one step of the instruction relation on the view's words; a part of a
  -- store that isn't the last leaves state and words; and where the body ended nothing follows
  abbrev pub StepsOnWords : Cpu → Cpu → V → V → Turn → Move → Type 0
  StepsOnWords before after old new (Went reading) move =
      moved word_list move (meaning.words old)
      ≡ Some (record { state = state_of after; memory = meaning.words new })
  StepsOnWords before after old new Storing move = (state_of after ≡ state_of before)
      × (meaning.words new ≡ meaning.words old)
  StepsOnWords before after old new (Ended ending) move =
      moved word_list move (meaning.words old) ≡ None

  -- a machine step: it makes the move of the instruction that starts in the machine's state, or a
  -- part of it; and behind it the parts that are made of a store are those of the move that comes
  -- next
  pub record IsStep (code : Bodies) (before after : Cpu) (old new : V) (turn : Turn) : Type 0 where
    pub body : after.body ≡ before.body
    pub makes : OfTheMove code before (Makes before after old new turn)
    pub is_begun : OfTheMove code after (IsBegun (meaning.begun new) after.part)
