-- What one instruction does. Besides the memory the machine has a place in its body, operands and
-- locals, and on these alone each instruction makes one move: it goes on at once, or with a
-- variable word that it loads, or after a store, or it ends the body. So one definition serves
-- each memory, and also "whatever is loaded".
use Rattle.std.specs.Prelude.{ℕ, ◌≡◌, ◌+◌, ◌-◌, ◌<◌, ◌≤◌, ◌==◌, if◌then◌else◌, List, [], ◌∷◌, ◌++◌, length, take, drop, reverse, replicate, slice_index_or, slice_set, Some}
use Rattle.coati_word.specs.Operator.{operator_value, unary_value, remainder}
use Rattle.coati_word.specs.declared.ending.Ending.{Ending}
use Rattle.coati_word.specs.declared.ending.Ending.TheVariants as ending
use Rattle.word_code.specs.declared.instruction.Instr.{Instr}
use Rattle.word_code.specs.declared.instruction.Instr.TheVariants.{Push, GetL, SetL, LoadV, StoreV, LoadX, StoreX, Jump, JumpZ, Next, Halt, Done, Give, Two, One}
use Rattle.word_code.specs.Instruction.{width, decoded}

-- the machine without its memory; the operands have the last one first
pub record State : Type 0 where
  pub place : ℕ
  pub operands : List ℕ
  pub locals : List ℕ

-- what an instruction does
pub data Move : Type 0 where
  goes : State → Move
  loads : (word : ℕ) → (ℕ → State) → Move
  stores : (word value : ℕ) → State → Move
  ends : Ending → Move

abbrev pub top : List ℕ → ℕ
top [] = 0
top (word ∷ words) = word

abbrev pub below : List ℕ → List ℕ
below [] = []
below (word ∷ words) = words

-- at another place, with these operands
abbrev pub at_place : ℕ → List ℕ → State → State
at_place place operands s = record { place = place; operands = operands; locals = s.locals }

-- behind an instruction of so many words, with these operands
abbrev pub behind : ℕ → List ℕ → State → State
behind count operands s = at_place (s.place + count) operands s

-- the move of an instruction
abbrev pub move_of : Instr → State → Move
move_of (Push k) s = Move.goes (behind 2 (k ∷ s.operands) s)
move_of (GetL i) s = Move.goes (behind 2 (slice_index_or s.locals i 0 ∷ s.operands) s)
move_of (SetL i) s = Move.goes (record {
  place = s.place + 2;
  operands = below s.operands;
  locals = slice_set s.locals i (top s.operands);
})
move_of (LoadV a) s = Move.loads a (λ value. behind 2 (value ∷ s.operands) s)
move_of (StoreV a) s = Move.stores a (top s.operands) (behind 2 (below s.operands) s)
move_of (LoadX a n) s = Move.loads (a + remainder (top s.operands) n)
    (λ value. behind 3 (value ∷ below s.operands) s)
move_of (StoreX a n) s = Move.stores (a + remainder (top (below s.operands)) n) (top s.operands)
    (behind 3 (below (below s.operands)) s)
move_of (Jump t) s = Move.goes (at_place t s.operands s)
move_of (JumpZ t) s = Move.goes (at_place (if top s.operands == 0 then t
    else s.place + 2) (below s.operands) s)
move_of (Next t) s = Move.ends (ending.Next t)
move_of Halt s = Move.ends ending.Halt
move_of Done s = Move.ends ending.Done
move_of (Give n) s = Move.ends (ending.Given (reverse (take n s.operands)))
move_of (Two op) s = Move.goes (behind 1 (operator_value op (top (below s.operands))
    (top s.operands) ∷ below (below s.operands)) s)
move_of (One op) s = Move.goes (behind 1 (unary_value op (top s.operands) ∷ below s.operands) s)

-- how many operands an instruction pops
abbrev pub popped : Instr → ℕ
popped (SetL i) = 1
popped (StoreV a) = 1
popped (LoadX a n) = 1
popped (StoreX a n) = 2
popped (JumpZ t) = 1
popped (Give n) = n
popped (Two op) = 2
popped (One op) = 1
popped _ = 0

-- how many it pushes then
abbrev pub pushed : Instr → ℕ
pushed (Push k) = 1
pushed (GetL i) = 1
pushed (LoadV a) = 1
pushed (LoadX a n) = 1
pushed (Two op) = 1
pushed (One op) = 1
pushed _ = 0

-- the variable word of a move is one of so many
abbrev pub IsWithin : ℕ → Move → Type 0
IsWithin count (Move.goes next) = Unit {0}
IsWithin count (Move.loads word next) = word < count
IsWithin count (Move.stores word value next) = word < count
IsWithin count (Move.ends ending) = Unit {0}

-- the instruction can run where there are so many variable words: its operands are there, at most
-- 32 remain, and its word is one of them
pub record CanRun (count : ℕ) (instr : Instr) (s : State) : Type 0 where
  pub operands : popped instr ≤ length s.operands
  pub room : length s.operands + pushed instr ≤ 32 + popped instr
  pub word : IsWithin count (move_of instr s)

-- the instruction starts at the state's place in the body
abbrev pub StartsAt : List ℕ → Instr → State → Type 0
StartsAt words instr s = decoded (drop s.place words) ≡ Some (instr, width instr)

-- the machine steps of an instruction
abbrev pub steps : Instr → ℕ
steps (StoreV a) = 3
steps (StoreX a n) = 3
steps _ = 1

-- how many locals there are
abbrev pub local_count : ℕ
local_count = 32

-- where a body starts on its parameters: they are the first locals, and the others are 0
abbrev pub start : List ℕ → State
start params = record {
  place = 0;
  operands = [];
  locals = params
      ++ replicate (local_count - length params) 0;
}
