-- The course of an expression: operands left side first, an index before its element. Each
-- evaluation of a variable word reads it; locals are not in memory. A name that is no variable's
-- is a local.
use Rattle.std.specs.Prelude.{ℕ, ◌+◌, List, [], ◌∷◌, Option, Some, None, if◌then◌else◌}
use Rattle.std.specs.Str.{bytes_eq}
use Rattle.coati_word.specs.Operator.{operator_value, unary_value, remainder}
use Rattle.coati_word.specs.declared.reading.Reading.{Reading}
use Rattle.task_syntax.specs.declared.program.Program.{Program}
use Rattle.task_syntax.specs.declared.expression.Expr.{Expr}
use Rattle.task_syntax.specs.declared.expression.Place.{Place}
use Rattle.task_syntax.specs.declared.expression.Expr.TheOpen.{Expr-F, Place-F}
use Rattle.task_syntax.specs.declared.expression.Expr.TheFolds.{fold-Expr, fold-Place}
use Rattle.task_syntax.specs.Course.{Course, chain, Store, accesses, answer, readings}
use Rattle.task_syntax.specs.Names.{Words, words_of, count_of}

-- the locals of a body: what each name stands for
abbrev pub Locals : Type 0
Locals = List ℕ → ℕ

-- before anything is declared
abbrev pub no_locals : Locals
no_locals name = 0

-- the locals with one name set
abbrev pub with_local : List ℕ → ℕ → Locals → Locals
with_local name value locals = λ other. if bytes_eq other name then value else locals other

-- where a place is: a local, or a variable word
pub data Aim : Type 0 where
  named : List ℕ → Aim
  in_word : ℕ → Aim

-- a name without an index; of an array it is the first word
abbrev pub plain_aim : List ℕ → Option Words → Aim
plain_aim name None = Aim.named name
plain_aim name (Some words) = Aim.in_word words.first

-- an index is taken modulo the array's length
abbrev pub item_aim : List ℕ → ℕ → Option Words → Aim
item_aim name index None = Aim.named name
item_aim name index (Some words) = Aim.in_word (words.first
    + remainder index (count_of words.length))

-- what stands at a place
abbrev pub value_at : Locals → Aim → Course ℕ
value_at locals (Aim.named name) = Course.ends (locals name)
value_at locals (Aim.in_word word) = Course.reads word (λ value. Course.ends value)

module _ (program : Program) where
  -- one layer of an expression, with the courses of the expressions in it
  abbrev pub expression_step : Expr-F (Locals → Course ℕ) (Locals → Course Aim) → Locals → Course ℕ
  expression_step (Expr-F.Num number) locals = Course.ends number
  expression_step (Expr-F.Get place) locals = chain (place locals) (value_at locals)
  expression_step (Expr-F.One op operand) locals =
      chain (operand locals) (λ a. Course.ends (unary_value op a))
  expression_step (Expr-F.Two op left right) locals =
      chain (left locals) (λ a. chain (right locals) (λ b. Course.ends (operator_value op a b)))

  -- one layer of a place
  abbrev pub aim_step : Place-F (Locals → Course ℕ) (Locals → Course Aim) → Locals → Course Aim
  aim_step (Place-F.Plain name) locals = Course.ends
      (plain_aim name.text (words_of program name.text))
  aim_step (Place-F.Item name index) locals =
      chain (index locals) (λ i. Course.ends (item_aim name.text i (words_of program name.text)))

  -- the course of an expression, which ends with its value
  abbrev pub expression : Expr → Locals → Course ℕ
  expression = fold-Expr (Locals → Course ℕ) (Locals → Course Aim) expression_step aim_step

  -- the course of a place's index, which ends with where the place is
  abbrev pub aim : Place → Locals → Course Aim
  aim = fold-Place (Locals → Course ℕ) (Locals → Course Aim) expression_step aim_step

  -- the courses of expressions one after another, which end with their values
  abbrev pub expressions : List Expr → Locals → Course (List ℕ)
  expressions [] locals = Course.ends []
  expressions (first ∷ more) locals =
      chain (expression first locals) (λ a. chain (expressions more locals)
      (λ rest. Course.ends (a ∷ rest)))

  -- the value of an expression on locals and a store
  abbrev pub value_of : Expr → Locals → Store → ℕ
  value_of e locals store = answer (expression e locals) store

  -- its readings, in their order
  abbrev pub readings_of : Expr → Locals → Store → List Reading
  readings_of e locals store = readings (accesses (expression e locals) store)
