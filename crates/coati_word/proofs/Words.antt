-- The values of operators on words are words.
use Rattle.std.proofs.Common.{ℕ, zero, suc, ◌*◌, ◌/◌, ◌%◌, ◌^◌, Bool, true, false, arith}
use Rattle.std.specs.Prelude.{nat_lt, nat_le, ◌==◌, not, if◌then◌else◌}
use Rattle.std.proofs.lemmas.Nat.{or_of_16, xor_lt, and_le_l}
use Rattle.std.proofs.Math.Nat.{div-le_self}
use Rattle.coati_word.specs.declared.operator.Op.{Op}
use Rattle.coati_word.specs.declared.operator.Op.TheVariants as op
use Rattle.coati_word.specs.declared.operator.Op1.{Op1}
use Rattle.coati_word.specs.declared.operator.Op1.TheVariants as op1
use Rattle.coati_word.specs.Operator.{word_count, truth, quotient, remainder, operator_value, unary_value}
use Rattle.coati_word.specs.OperatorLaws.{IsWord}

truth-word : (test : Bool) → IsWord (truth test)
truth-word true = omega arith
truth-word false = omega arith

either-word : (test : Bool) (a : ℕ) → IsWord a → IsWord (if test then a else 0)
either-word true a word = word
either-word false a word = omega arith

quotient-word : (a b : ℕ) → IsWord a → IsWord (quotient a b)
quotient-word a zero word = omega arith
quotient-word a (suc b) word = omega (arith, div-le_self a (suc b))

remainder-word : (a b : ℕ) → IsWord a → IsWord (remainder a b)
remainder-word a zero word = omega arith
remainder-word a (suc b) word = omega arith

pub operator_value-word : (o : Op) (a b : ℕ) → IsWord a → IsWord b → IsWord (operator_value o a b)
operator_value-word op.Or a b left right = or_of_16 a b left right
operator_value-word op.Xor a b left right = xor_lt 16 a b left right
operator_value-word op.And a b left right = omega (arith, and_le_l a b)
operator_value-word op.Eq a b left right = truth-word (a == b)
operator_value-word op.Ne a b left right = truth-word (not (a == b))
operator_value-word op.Lt a b left right = truth-word (nat_lt a b)
operator_value-word op.Le a b left right = truth-word (nat_le a b)
operator_value-word op.Gt a b left right = truth-word (nat_lt b a)
operator_value-word op.Ge a b left right = truth-word (nat_le b a)
operator_value-word op.Shl a b left right = either-word (nat_lt b 16) (a * 2 ^ b % word_count) (omega arith)
operator_value-word op.Shr a b left right = either-word (nat_lt b 16) (a / 2 ^ b) (omega (arith, div-le_self a (2 ^ b)))
operator_value-word op.Add a b left right = omega arith
operator_value-word op.Sub a b left right = omega arith
operator_value-word op.Mul a b left right = omega arith
operator_value-word op.Div a b left right = quotient-word a b left
operator_value-word op.Rem a b left right = remainder-word a b left

pub unary_value-word : (o : Op1) (a : ℕ) → IsWord a → IsWord (unary_value o a)
unary_value-word op1.Neg a word = omega arith
unary_value-word op1.Inv a word = omega arith
unary_value-word op1.Zero a word = truth-word (a == 0)
