-- An instruction and its words determine each other.
use Rattle.std.specs.Prelude.{ℕ, ◌≡◌, ◌+◌, ◌<◌, ◌≤◌, List, ◌++◌, length, drop, Some}
use Rattle.word_code.specs.declared.instruction.Instr.{Instr}
use Rattle.word_code.specs.Instruction.{encoded, width, IsEncodable, decoded}

-- the words of an instruction are decoded to it, whatever follows
abbrev pub EncodedIsDecoded : Type 0
EncodedIsDecoded = (instr : Instr) (more : List ℕ) → IsEncodable instr →
    decoded (encoded instr ++ more) ≡ Some (instr, width instr)

-- words begin with those of an instruction, which has so many
pub record BeginsWith (words : List ℕ) (instr : Instr) (count : ℕ) : Type 0 where
  pub in_range : IsEncodable instr
  pub counted : count ≡ width instr
  pub words_are : words ≡ encoded instr ++ drop count words

-- nothing else is decoded
abbrev pub DecodedIsEncoded : Type 0
DecodedIsEncoded = (words : List ℕ) (instr : Instr) (count : ℕ) →
    decoded words ≡ Some (instr, count) → BeginsWith words instr count

-- the words of an instruction, of which there are so many, stand at a place
pub record StandsAt (words : List ℕ) (at : ℕ) (instr : Instr) (count : ℕ) : Type 0 where
  pub begins : BeginsWith (drop at words) instr count
  pub not_empty : 0 < count
  pub within : at + count ≤ length words
