-- What signs stand for in expressions, and how tight operators bind.
use Rattle.std.specs.Prelude.{ℕ, Option, Some, None}
use Rattle.coati_word.specs.declared.operator.Op.{Op}
use Rattle.coati_word.specs.declared.operator.Op.TheVariants as op
use Rattle.coati_word.specs.declared.operator.Op1.{Op1}
use Rattle.coati_word.specs.declared.operator.Op1.TheVariants as op1
use Rattle.task_lex.specs.declared.symbol.Symbol.{Symbol}
use Rattle.task_lex.specs.declared.symbol.Symbol.TheVariants as sign

-- the operator that a sign stands for between operands
abbrev pub operator_of : Symbol → Option Op
operator_of sign.Or = Some op.Or
operator_of sign.Xor = Some op.Xor
operator_of sign.And = Some op.And
operator_of sign.Equal = Some op.Eq
operator_of sign.NotEqual = Some op.Ne
operator_of sign.Below = Some op.Lt
operator_of sign.AtMost = Some op.Le
operator_of sign.Above = Some op.Gt
operator_of sign.AtLeast = Some op.Ge
operator_of sign.ShiftLeft = Some op.Shl
operator_of sign.ShiftRight = Some op.Shr
operator_of sign.Plus = Some op.Add
operator_of sign.Minus = Some op.Sub
operator_of sign.Times = Some op.Mul
operator_of sign.Divide = Some op.Div
operator_of sign.Remainder = Some op.Rem
operator_of _ = None

-- the operator that a sign stands for before an operand
abbrev pub unary_of : Symbol → Option Op1
unary_of sign.Minus = Some op1.Neg
unary_of sign.Invert = Some op1.Inv
unary_of sign.Not = Some op1.Zero
unary_of _ = None

-- how tight an operator binds: those of a greater level are joined first
abbrev pub level : Op → ℕ
level op.Or = 0
level op.Xor = 1
level op.And = 2
level op.Eq = 3
level op.Ne = 3
level op.Lt = 4
level op.Le = 4
level op.Gt = 4
level op.Ge = 4
level op.Shl = 5
level op.Shr = 5
level op.Add = 6
level op.Sub = 6
level op.Mul = 7
level op.Div = 7
level op.Rem = 7
