-- The code of small bodies, worked out by hand. Beside each instruction stands its place.
use Rattle.std.proofs.Common.{◌≡◌, ℕ, List, [], ◌∷◌, refl}
use Rattle.std.specs.Prelude.{Some, None, codes}
use Rattle.std.specs.Option.{unwrap_or}
use Rattle.coati_word.specs.declared.operator.Op.TheVariants as op
use Rattle.coati_word.specs.declared.operator.Op1.TheVariants as op1
use Rattle.task_syntax.specs.declared.program.Program.{Program}
use Rattle.task_syntax.specs.declared.statement.Stmt.{Stmt}
use Rattle.task_syntax.specs.declared.body.Kind.TheVariants.{Task, Top, Bottom}
use Rattle.word_code.specs.declared.instruction.Instr.{Instr}
use Rattle.word_code.specs.declared.instruction.Instr.TheVariants.{Push, GetL, SetL, LoadV, StoreV, LoadX, StoreX, Jump, JumpZ, Next, Halt, Done, Give, Two, One}
use Rattle.codegen.specs.Scope.{slot_of, no_scope, declare_all}
use Rattle.codegen.specs.Templates.{Template, plainly, declaring, in_turn, choice, body_code, body_words}
use Rattle.task_syntax.proofs.Built as build
use Rattle.task_syntax.proofs.Built.{named, plain, item, number, get, one, two, assign}
use Rattle.codegen.proofs.CodeLayers.{code_layers}

abbrev pub n : List ℕ
n = codes "n"

abbrev a : List ℕ
a = codes "a"

abbrev pub i : List ℕ
i = codes "i"

abbrev pub x : List ℕ
x = codes "x"

abbrev y : List ℕ
y = codes "y"

-- `n = n + 1; if n < 3 { next main; } else { halt; }`
abbrev pub counts_to_three : List Stmt
counts_to_three = assign (plain n) (two op.Add (get (plain n)) (number 1))
    ∷ build.choose (two op.Lt (get (plain n)) (number 3)) (build.next (codes "main") ∷ []) (Some (build.halt ∷ [])) ∷ []

-- `nv n; nv a[4];` and the tasks `other` and `main`
abbrev pub counter : Program
counter = build.program (build.scalar n 0 ∷ build.array a 4 [] ∷ []) (build.lone (codes "other") [] ∷ build.lone (codes "main") counts_to_three ∷ [])

abbrev task_code : List Stmt → List Instr
task_code stmts = body_code counter Task [] stmts

if_with_else : task_code counts_to_three
    ≡ LoadV 0  -- 0
    ∷ Push 1  -- 2
    ∷ Two op.Add  -- 4
    ∷ StoreV 0  -- 5
    ∷ LoadV 0  -- 7
    ∷ Push 3  -- 9
    ∷ Two op.Lt  -- 11
    ∷ JumpZ 18  -- 12
    ∷ Next 1  -- 14
    ∷ Jump 19  -- 16
    ∷ Halt  -- 18
    ∷ []
if_with_else = simp code_layers

words_of_if_with_else : body_words counter Task [] counts_to_three
    ≡ 4 ∷ 0 ∷ 1 ∷ 1 ∷ 43 ∷ 5 ∷ 0 ∷ 4 ∷ 0 ∷ 1 ∷ 3 ∷ 37 ∷ 9 ∷ 18 ∷ 10 ∷ 1 ∷ 8 ∷ 19 ∷ 11 ∷ []
words_of_if_with_else = simp code_layers

-- `if n { n = 5; } halt;`
if_without_else : task_code (build.choose (get (plain n)) (assign (plain n) (number 5) ∷ []) None ∷ build.halt ∷ [])
    ≡ LoadV 0  -- 0
    ∷ JumpZ 8  -- 2
    ∷ Push 5  -- 4
    ∷ StoreV 0  -- 6
    ∷ Halt  -- 8
    ∷ []
if_without_else = simp code_layers

-- `let x = 7; repeat i < 5 { n = x; } halt;`: x has slot 0 and i slot 1
loop_behind_let : task_code (build.let' x (number 7) ∷ build.repeat i 5 (assign (plain n) (get (plain x)) ∷ []) ∷ build.halt ∷ [])
    ≡ Push 7  -- 0
    ∷ SetL 0  -- 2
    ∷ Push 0  -- 4
    ∷ SetL 1  -- 6
    ∷ GetL 1  -- 8
    ∷ Push 5  -- 10
    ∷ Two op.Lt  -- 12
    ∷ JumpZ 28  -- 13
    ∷ GetL 0  -- 15
    ∷ StoreV 0  -- 17
    ∷ GetL 1  -- 19
    ∷ Push 1  -- 21
    ∷ Two op.Add  -- 23
    ∷ SetL 1  -- 24
    ∷ Jump 8  -- 26
    ∷ Halt  -- 28
    ∷ []
loop_behind_let = simp code_layers

-- `a[n] = !a[i] - ~3;` in a body with the parameter i: the array begins at word 1
array_load_and_store :
    body_code counter Bottom (named i ∷ []) (assign (item a (get (plain n))) (two op.Sub (one op1.Zero (get (item a (get (plain i))))) (one op1.Inv (number 3))) ∷ [])
    ≡ LoadV 0
    ∷ GetL 0
    ∷ LoadX 1 4
    ∷ One op1.Zero
    ∷ Push 3
    ∷ One op1.Inv
    ∷ Two op.Sub
    ∷ StoreX 1 4
    ∷ Done
    ∷ []
array_load_and_store = simp code_layers

-- `let y = x; give y, x + 1;` in a top half with the argument x
top_half : body_code counter Top (named x ∷ []) (build.let' y (get (plain x)) ∷ build.give (get (plain y) ∷ two op.Add (get (plain x)) (number 1) ∷ []) ∷ [])
    ≡ GetL 0
    ∷ SetL 1
    ∷ GetL 1
    ∷ GetL 0
    ∷ Push 1
    ∷ Two op.Add
    ∷ Give 2
    ∷ []
top_half = simp code_layers

-- `if x { let y = 1; } halt;` in a bottom half with the parameter x
let_in_a_block : body_code counter Bottom (named x ∷ []) (build.choose (get (plain x)) (build.let' y (number 1) ∷ []) None ∷ build.halt ∷ [])
    ≡ GetL 0  -- 0
    ∷ JumpZ 8  -- 2
    ∷ Push 1  -- 4
    ∷ SetL 1  -- 6
    ∷ Halt  -- 8
    ∷ Done  -- 9
    ∷ []
let_in_a_block = simp code_layers

-- a `let` of a number
abbrev sets : List ℕ → ℕ → Template
sets name value = declaring name (λ locals. Push value ∷ [])

-- `if x { let d = 1; } else { let d = 2; } let d = 3; give d;` behind the parameter x: what a block declares leaves with it,
-- and its slots are not used again
slots_of_blocks :
    (in_turn (choice (λ locals. GetL 0 ∷ []) (in_turn (sets (codes "d") 1 ∷ [])) (Some (sets (codes "d") 2 ∷ []))
    ∷ sets (codes "d") 3
    ∷ plainly (λ locals. GetL (unwrap_or (slot_of locals (codes "d")) 0) ∷ Give 1 ∷ [])
    ∷ []) (declare_all (named x ∷ []) no_scope)).code 0
    ≡ GetL 0  -- 0
    ∷ JumpZ 10  -- 2
    ∷ Push 1  -- 4
    ∷ SetL 1  -- 6
    ∷ Jump 14  -- 8
    ∷ Push 2  -- 10
    ∷ SetL 2  -- 12
    ∷ Push 3  -- 14
    ∷ SetL 3  -- 16
    ∷ GetL 3  -- 18
    ∷ Give 1  -- 20
    ∷ []
slots_of_blocks = refl
