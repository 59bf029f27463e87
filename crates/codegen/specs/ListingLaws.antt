-- What the lines of a body tell: each of its instructions, at the word where it starts.
use Rattle.std.specs.Prelude.{ℕ, ◌≡◌, ◌+◌, List, [], ◌∷◌, ◌++◌}
use Rattle.word_code.specs.declared.instruction.Instr.{Instr}
use Rattle.word_code.specs.Instruction.{width}
use Rattle.codegen.specs.Code.{AreEncodable, words_of}
use Rattle.codegen.specs.Listing.{instr_line, lines_from}

-- the lines of instructions that stand one behind another from a word on
abbrev pub instr_lines : ℕ → List Instr → List ℕ
instr_lines at [] = []
instr_lines at (instr ∷ more) = instr_line at instr ++ instr_lines (at + width instr) more

-- the words of encodable instructions are listed as these instructions
abbrev pub EachInstructionHasItsLine : Type 0
EachInstructionHasItsLine = (instrs : List Instr) (at : ℕ) → AreEncodable instrs →
    lines_from at 0 (words_of instrs) ≡ instr_lines at instrs
