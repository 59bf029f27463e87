-- The value of each operator on words, computed on whole numbers. No operator is without a value.
use Rattle.std.specs.Prelude.{ℕ, zero, suc, ◌+◌, ◌-◌, ◌*◌, ◌/◌, ◌%◌, ◌^◌, Bool, nat_lt, nat_le, ◌==◌, not, if◌then◌else◌, bit_and, bit_or, bit_xor}
use Rattle.coati_word.specs.declared.operator.Op.{Op}
use Rattle.coati_word.specs.declared.operator.Op.TheVariants as op
use Rattle.coati_word.specs.declared.operator.Op1.{Op1}
use Rattle.coati_word.specs.declared.operator.Op1.TheVariants as op1

-- how many words there are
abbrev pub word_count : ℕ
word_count = 65536

-- 1 where the test holds, else 0
abbrev pub truth : Bool → ℕ
truth test = if test then 1 else 0

abbrev pub quotient : ℕ → ℕ → ℕ
quotient a zero = 0
quotient a (suc b) = a / suc b

abbrev pub remainder : ℕ → ℕ → ℕ
remainder a zero = 0
remainder a (suc b) = a % suc b

-- the value of a binary operator
abbrev pub operator_value : Op → ℕ → ℕ → ℕ
operator_value op.Or a b = bit_or a b
operator_value op.Xor a b = bit_xor a b
operator_value op.And a b = bit_and a b
operator_value op.Eq a b = truth (a == b)
operator_value op.Ne a b = truth (not (a == b))
operator_value op.Lt a b = truth (nat_lt a b)
operator_value op.Le a b = truth (nat_le a b)
operator_value op.Gt a b = truth (nat_lt b a)
operator_value op.Ge a b = truth (nat_le b a)
operator_value op.Shl a b = if nat_lt b 16 then a * 2 ^ b % word_count else 0
operator_value op.Shr a b = if nat_lt b 16 then a / 2 ^ b else 0
operator_value op.Add a b = (a + b) % word_count
operator_value op.Sub a b = (a + (word_count - b)) % word_count
operator_value op.Mul a b = a * b % word_count
operator_value op.Div a b = quotient a b
operator_value op.Rem a b = remainder a b

-- the value of a unary operator
abbrev pub unary_value : Op1 → ℕ → ℕ
unary_value op1.Neg a = (word_count - a) % word_count
unary_value op1.Inv a = word_count - 1 - a
unary_value op1.Zero a = truth (a == 0)
