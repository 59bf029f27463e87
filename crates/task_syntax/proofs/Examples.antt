-- Small programs, and what their expressions and statements mean.
use Rattle.std.proofs.Common.{◌≡◌, ℕ, List, [], ◌∷◌}
use Rattle.std.specs.Prelude.{Some, None, codes}
use Rattle.coati_word.specs.declared.ending.Ending.TheVariants.{Next, Halt}
use Rattle.coati_word.specs.declared.operator.Op.TheVariants as op
use Rattle.task_syntax.specs.declared.program.Program.{Program}
use Rattle.task_syntax.specs.declared.expression.Expr.{Expr}
use Rattle.task_syntax.specs.declared.statement.Stmt.{Stmt}
use Rattle.task_syntax.specs.Course.{Access, accesses}
use Rattle.task_syntax.specs.Expressions.{value_of, no_locals}
use Rattle.task_syntax.specs.Statements.{body}
use Rattle.task_syntax.specs.Units.{task_effect, halt}
use Rattle.task_syntax.proofs.Built as build
use Rattle.task_syntax.proofs.Built.{plain, item, number, get, two, assign, holding}
use Rattle.task_syntax.proofs.Layers.{layers}

abbrev n : List ℕ
n = codes "n"

abbrev a : List ℕ
a = codes "a"

abbrev b : List ℕ
b = codes "b"

abbrev c : List ℕ
c = codes "c"

abbrev i : List ℕ
i = codes "i"

abbrev x : List ℕ
x = codes "x"

-- `n = n + 1; if n < 3 { next main; } else { halt; }`
abbrev pub counts_to_three : List Stmt
counts_to_three = assign (plain n) (two op.Add (get (plain n)) (number 1))
    ∷ build.choose (two op.Lt (get (plain n)) (number 3)) (build.next (codes "main") ∷ []) (Some (build.halt ∷ [])) ∷ []

abbrev pub counter : Program
counter = build.program (build.scalar n 0 ∷ []) (build.lone (codes "main") counts_to_three ∷ [])

-- the three turns of counting to three
first_turn : task_effect counter 0 (holding (0 ∷ [])) ≡ record { done = Access.read 0 0 ∷ Access.wrote 0 1 ∷ Access.read 0 1 ∷ []; endings = Next 0 ∷ []; place = 0 }
first_turn = simp layers

second_turn : task_effect counter 0 (holding (1 ∷ [])) ≡ record { done = Access.read 0 1 ∷ Access.wrote 0 2 ∷ Access.read 0 2 ∷ []; endings = Next 0 ∷ []; place = 0 }
second_turn = simp layers

last_turn : task_effect counter 0 (holding (2 ∷ [])) ≡ record { done = Access.read 0 2 ∷ Access.wrote 0 3 ∷ Access.read 0 3 ∷ []; endings = Halt ∷ []; place = halt }
last_turn = simp layers

-- no operator is without a value
abbrev constant : Expr → ℕ
constant e = value_of counter e no_locals (holding [])

quotient_by_0 : constant (two op.Div (number 7) (number 0)) ≡ 0
quotient_by_0 = simp layers

remainder_by_0 : constant (two op.Rem (number 7) (number 0)) ≡ 0
remainder_by_0 = simp layers

shift_by_16 : constant (two op.Shl (number 1) (number 16)) ≡ 0
shift_by_16 = simp layers

sum_past_the_greatest_word : constant (two op.Add (number 65535) (number 1)) ≡ 0
sum_past_the_greatest_word = simp layers

-- `nv a[8] = {10, 11, 12, 13, 14, 15, 16, 17}; nv r[1];` and `r[0] = a[9];`: 9 modulo 8 is 1
abbrev eight : Program
eight = build.program (build.array a 8 (10 ∷ 11 ∷ 12 ∷ 13 ∷ 14 ∷ 15 ∷ 16 ∷ 17 ∷ []) ∷ build.array (codes "r") 1 [] ∷ []) []

index_modulo_length : accesses (body eight (assign (item (codes "r") (number 0)) (get (item a (number 9))) ∷ []) no_locals) (holding (10 ∷ 11 ∷ 12 ∷ 13 ∷ 14 ∷ 15 ∷ 16 ∷ 17 ∷ 0 ∷ []))
    ≡ Access.read 1 11 ∷ Access.wrote 8 11 ∷ []
index_modulo_length = simp layers

-- `nv a[2] = {4, 0}; nv b = 1; nv c = 5;`
abbrev three : Program
three = build.program (build.array a 2 (4 ∷ 0 ∷ []) ∷ build.scalar b 1 ∷ build.scalar c 5 ∷ []) []

abbrev does : List Stmt → List Access
does stmts = accesses (body three stmts no_locals) (holding (4 ∷ 0 ∷ 1 ∷ 5 ∷ []))

-- `a[b] = a[c] + c;`: the index b, then the value, in it the index c before its element, and the left side before the right
order_of_readings : does (assign (item a (get (plain b))) (two op.Add (get (item a (get (plain c)))) (get (plain c))) ∷ [])
    ≡ Access.read 2 1 ∷ Access.read 3 5 ∷ Access.read 1 0 ∷ Access.read 3 5 ∷ Access.wrote 1 5 ∷ []
order_of_readings = simp layers

-- `let x = c; b = x * x;`: the local is no reading
local_is_no_reading : does (build.let' x (get (plain c)) ∷ assign (plain b) (two op.Mul (get (plain x)) (get (plain x))) ∷ []) ≡ Access.read 3 5 ∷ Access.wrote 2 25 ∷ []
local_is_no_reading = simp layers

-- `if a[1] { b = 7; } c = 8;`: a[1] is 0, so the block is left out
without_else : does (build.choose (get (item a (number 1))) (assign (plain b) (number 7) ∷ []) None ∷ assign (plain c) (number 8) ∷ []) ≡ Access.read 1 0 ∷ Access.wrote 3 8 ∷ []
without_else = simp layers

-- `repeat i < count { b = b + i; }`
abbrev adds : ℕ → List Stmt
adds count = build.repeat i count (assign (plain b) (two op.Add (get (plain b)) (get (plain i))) ∷ []) ∷ []

no_turn : does (adds 0) ≡ []
no_turn = simp layers

three_turns : does (adds 3) ≡ Access.read 2 1 ∷ Access.wrote 2 1 ∷ Access.read 2 1 ∷ Access.wrote 2 2 ∷ Access.read 2 2 ∷ Access.wrote 2 4 ∷ []
three_turns = simp layers
