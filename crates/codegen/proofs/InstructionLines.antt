-- The words of instructions are listed as the instructions.
use Rattle.std.proofs.Common.{◌≡◌, ℕ, zero, suc, ◌+◌, ◌-◌, ◌<◌, List, [], ◌∷◌, ◌++◌, drop, refl, ap, ◌∙◌, arith}
use Rattle.std.specs.Prelude.{Some}
use Rattle.std.proofs.lemmas.List as lists
use Rattle.word_code.specs.declared.instruction.Instr.{Instr}
use Rattle.word_code.specs.declared.instruction.Instr.TheVariants as instr
use Rattle.word_code.specs.Instruction.{decoded, encoded, width}
use Rattle.word_code.specs.InstructionLaws.{EncodedIsDecoded}
use Rattle.codegen.specs.Code.{AreEncodable, words_of}
use Rattle.codegen.specs.Listing.{instr_line, line_at, lines_from, operand_count}
use Rattle.codegen.specs.ListingLaws.{instr_lines}

-- no line begins at an operand
past_operands : (at operands : ℕ) (words : List ℕ) → lines_from at operands words ≡ lines_from (at + operands) 0 (drop operands words)
past_operands at zero words = let same : at ≡ at + 0 = omega arith in ap (λ n. lines_from n 0 words) same
past_operands at (suc operands) [] = refl
past_operands at (suc operands) (word ∷ words) =
    let same : at + 1 + operands ≡ at + suc operands = omega arith in
    past_operands (at + 1) operands words ∙ ap (λ n. lines_from n 0 (drop operands words)) same

-- the first line is that of the instruction that starts there
first_line : (at : ℕ) (words : List ℕ) (instr : Instr) (count : ℕ) → decoded words ≡ Some (instr, count) → 0 < count →
    lines_from at 0 words ≡ instr_line at instr ++ lines_from (at + count) 0 (drop count words)
first_line at [] instr count is some = absurd cc
first_line at (word ∷ words) instr zero is some = absurd (omega arith)
first_line at (word ∷ words) instr (suc operands) is some =
    let one : suc operands - 1 ≡ operands = omega arith in
    let next : at + 1 + operands ≡ at + suc operands = omega arith in
    ap (λ found. line_at at found ++ lines_from (at + 1) (operand_count found) words) is
    ∙ ap (λ n. instr_line at instr ++ lines_from (at + 1) n words) one
    ∙ ap (λ lines. instr_line at instr ++ lines) (past_operands (at + 1) operands words ∙ ap (λ n. lines_from n 0 (drop operands words)) next)

width_some : (instr : Instr) → 0 < width instr
width_some (instr.Push k) = omega arith
width_some (instr.GetL i) = omega arith
width_some (instr.SetL i) = omega arith
width_some (instr.LoadV a) = omega arith
width_some (instr.StoreV a) = omega arith
width_some (instr.LoadX a n) = omega arith
width_some (instr.StoreX a n) = omega arith
width_some (instr.Jump t) = omega arith
width_some (instr.JumpZ t) = omega arith
width_some (instr.Next t) = omega arith
width_some instr.Halt = omega arith
width_some instr.Done = omega arith
width_some (instr.Give n) = omega arith
width_some (instr.Two o) = omega arith
width_some (instr.One o) = omega arith

pub each_line : EncodedIsDecoded → (instrs : List Instr) (at : ℕ) → AreEncodable instrs → lines_from at 0 (words_of instrs) ≡ instr_lines at instrs
each_line round [] at all = refl
each_line round (instr ∷ more) at all =
    first_line at (encoded instr ++ words_of more) instr (width instr) (round instr (words_of more) all.0) (width_some instr)
    ∙ ap (λ words. instr_line at instr ++ lines_from (at + width instr) 0 words) (lists.drop_at (encoded instr) (words_of more) (width instr) refl)
    ∙ ap (λ lines. instr_line at instr ++ lines) (each_line round more (at + width instr) all.1)
