-- Code that is put at a place among the words of a body. Jumps count words from the body's start,
-- so what a code is depends on where it stands.
use Rattle.std.specs.Prelude.{ℕ, ◌+◌, List, [], ◌∷◌, ◌++◌, flat_map}
use Rattle.coati_word.specs.declared.operator.Op.TheVariants as op
use Rattle.word_code.specs.declared.instruction.Instr.{Instr}
use Rattle.word_code.specs.declared.instruction.Instr.TheVariants.{Push, GetL, SetL, Jump, JumpZ, Two}
use Rattle.word_code.specs.Instruction.{encoded, width, IsEncodable}

-- the words of instructions, one after another
abbrev pub words_of : List Instr → List ℕ
words_of instrs = flat_map encoded instrs

-- how many words they have
abbrev pub size : List Instr → ℕ
size [] = 0
size (instr ∷ more) = width instr + size more

-- each instruction has its operands in their ranges
abbrev pub AreEncodable : List Instr → Type 0
AreEncodable [] = Unit {0}
AreEncodable (instr ∷ more) = IsEncodable instr × AreEncodable more

-- code by the word at which it begins
abbrev pub Code : Type 0
Code = ℕ → List Instr

-- one code behind another
abbrev pub then_code : Code → Code → Code
then_code first second at = first at ++ second (at + size (first at))

-- where a code that begins at a word ends
abbrev pub end_of : Code → ℕ → ℕ
end_of code at = at + size (code at)

-- a test, and then a code
abbrev pub test_code : List Instr → Code → Code
test_code test code at = test ++ code (at + size test)

-- behind a test: a jump past the block, and the block
abbrev pub when_code : Code → Code
when_code block at = JumpZ (end_of block (at + 2)) ∷ block (at + 2)

-- behind a test, where the block for 0 begins: behind the other block and a jump
abbrev pub other_at : Code → ℕ → ℕ
other_at block at = end_of block (at + 2) + 2

-- behind a test: a jump to the block for 0, the other block, a jump past the block for 0, and that
-- block
abbrev pub either_code : Code → Code → Code
either_code block other at =
    JumpZ (other_at block at) ∷ (block (at + 2)
    ++ (Jump (end_of other (other_at block at)) ∷ other (other_at block at)))

-- the head of a loop, four words behind its start: where the turns are over it jumps to the end
abbrev pub head_code : ℕ → ℕ → ℕ → List Instr
head_code slot count end = GetL slot ∷ Push count ∷ Two op.Lt ∷ JumpZ end ∷ []

-- the end of a turn: one more, and back to the head
abbrev pub turn_code : ℕ → ℕ → List Instr
turn_code slot head = GetL slot ∷ Push 1 ∷ Two op.Add ∷ SetL slot ∷ Jump head ∷ []

-- a loop: its block stands eleven words behind its start, and nine words behind the block it ends
abbrev pub loop_code : ℕ → ℕ → Code → Code
loop_code slot count block at =
    Push 0 ∷ SetL slot ∷ (head_code slot count (end_of block (at + 11) + 9)
    ++ (block (at + 11) ++ turn_code slot (at + 4)))
