-- Laws of the operators' values.
use Rattle.std.specs.Prelude.{ℕ, ◌<◌}
use Rattle.coati_word.specs.declared.operator.Op.{Op}
use Rattle.coati_word.specs.declared.operator.Op1.{Op1}
use Rattle.coati_word.specs.Operator.{word_count, operator_value, unary_value}

abbrev pub IsWord : ℕ → Type 0
IsWord n = n < word_count

-- on words the value of a binary operator is a word
abbrev pub OperatorsGiveWords : Type 0
OperatorsGiveWords = (op : Op) (a b : ℕ) → IsWord a → IsWord b → IsWord (operator_value op a b)

-- so is that of a unary operator
abbrev pub UnaryOperatorsGiveWords : Type 0
UnaryOperatorsGiveWords = (op : Op1) (a : ℕ) → IsWord a → IsWord (unary_value op a)
