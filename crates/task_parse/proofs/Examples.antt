-- Small lists of tokens: what they are, and where they break. Places are all 0.
use Rattle.std.proofs.Common.{ℕ, List, [], ◌∷◌, ◌++◌, refl, arith}
use Rattle.std.specs.Prelude.{Some, None, codes, replicate, flat_map}
use Rattle.coati_word.specs.declared.operator.Op.TheVariants as op
use Rattle.coati_word.specs.declared.operator.Op1.TheVariants as op1
use Rattle.task_lex.specs.declared.keyword.Keyword.{Keyword}
use Rattle.task_lex.specs.declared.keyword.Keyword.TheVariants as keyword
use Rattle.task_lex.specs.declared.symbol.Symbol.TheVariants as sign
use Rattle.task_syntax.specs.declared.expression.Expr.TheVariants as tree
use Rattle.task_syntax.specs.declared.expression.Place.TheVariants as place
use Rattle.task_syntax.specs.declared.name.Name.{Name}
use Rattle.task_syntax.specs.declared.program.Event.{Event}
use Rattle.task_syntax.specs.declared.program.Init.TheVariants as init
use Rattle.task_syntax.specs.declared.program.Program.{Program}
use Rattle.task_syntax.specs.declared.program.TaskDecl.{TaskDecl}
use Rattle.task_syntax.specs.declared.program.UnitDecl.TheVariants as unit
use Rattle.task_syntax.specs.declared.program.Var.{Var}
use Rattle.task_syntax.specs.declared.statement.Stmt.TheVariants as s
use Rattle.task_parse.specs.Faults.{DeepAt, FaultAt}
use Rattle.task_parse.specs.Grammar as G
use Rattle.task_parse.specs.Grammar.{Derives, Form, Reads}
use Rattle.task_parse.specs.Lexeme.{Lexeme}
use Rattle.task_parse.proofs.Places.{bad, deep}

abbrev named : List ℕ → Name
named text = record { text = text; at = 0 }

abbrev name : List ℕ → Lexeme
name text = Lexeme.name (named text)

abbrev number : ℕ → Lexeme
number value = Lexeme.number value 0

abbrev word : Keyword → Lexeme
word w = Lexeme.word w 0

-- an expression and what is read of it: `1 + 2 * 3 - 4` is `(1 + (2 * 3)) - 4`
abbrev sum_and_product : List Lexeme
sum_and_product = number 1 ∷ Lexeme.sign sign.Plus ∷ number 2 ∷ Lexeme.sign sign.Times ∷ number 3 ∷ Lexeme.sign sign.Minus ∷ number 4 ∷ []

abbrev digit : {n value : ℕ} {r : List Lexeme} → Reads (Form.Level n (tree.Num value)) (number value ∷ r) r
digit = G.operand (G.plain G.number)

tighter_first : Reads (Form.Level 0 (tree.Two op.Sub (tree.Two op.Add (tree.Num 1) (tree.Two op.Mul (tree.Num 2) (tree.Num 3))) (tree.Num 4))) sum_and_product []
tighter_first = G.two refl (omega arith) (G.two refl (omega arith) digit (G.two refl (omega arith) digit digit)) digit

-- `8 - 4 - 2` is `(8 - 4) - 2`
left_first : Reads (Form.Level 0 (tree.Two op.Sub (tree.Two op.Sub (tree.Num 8) (tree.Num 4)) (tree.Num 2))) (number 8 ∷ Lexeme.sign sign.Minus ∷ number 4 ∷ Lexeme.sign sign.Minus ∷ number 2 ∷ []) []
left_first = G.two refl (omega arith) (G.two refl (omega arith) digit digit) digit

-- `-(a[1] | 2)`
in_parentheses : Reads (Form.Level 0 (tree.One op1.Neg (tree.Two op.Or (tree.Get (place.Item (named (codes "a")) (tree.Num 1))) (tree.Num 2))))
    (Lexeme.sign sign.Minus ∷ Lexeme.sign sign.OpenParen ∷ name (codes "a") ∷ Lexeme.sign sign.OpenBracket ∷ number 1 ∷ Lexeme.sign sign.CloseBracket
    ∷ Lexeme.sign sign.Or ∷ number 2 ∷ Lexeme.sign sign.CloseParen ∷ [])
    []
in_parentheses = G.operand (G.one refl (G.parens (G.two refl (omega arith) (G.operand (G.plain (G.get (G.item digit)))) digit)))

-- `let x = 1;`
a_local : Reads (Form.Statement (s.Let (named (codes "x")) (tree.Num 1))) (word keyword.Let ∷ name (codes "x") ∷ Lexeme.sign sign.Assign ∷ number 1 ∷ Lexeme.sign sign.Semicolon ∷ []) []
a_local = G.declare digit

-- `a[0] = 1;`
an_assignment : Reads (Form.Statement (s.Assign (place.Item (named (codes "a")) (tree.Num 0)) (tree.Num 1)))
    (name (codes "a") ∷ Lexeme.sign sign.OpenBracket ∷ number 0 ∷ Lexeme.sign sign.CloseBracket ∷ Lexeme.sign sign.Assign ∷ number 1 ∷ Lexeme.sign sign.Semicolon ∷ [])
    []
an_assignment = G.assign (G.item digit) digit

-- `if 1 { next t; } else { }`
a_choice : Reads (Form.Statement (s.If (tree.Num 1) (s.Next (named (codes "t")) ∷ []) (Some [])))
    (word keyword.If ∷ number 1 ∷ Lexeme.sign sign.OpenBrace ∷ word keyword.Next ∷ name (codes "t") ∷ Lexeme.sign sign.Semicolon ∷ Lexeme.sign sign.CloseBrace
    ∷ word keyword.Else ∷ Lexeme.sign sign.OpenBrace ∷ Lexeme.sign sign.CloseBrace ∷ [])
    []
a_choice = G.choose digit (G.block (G.more G.next G.close)) (G.otherwise (G.block G.close))

-- `repeat i < 3 { halt; }`
a_loop : Reads (Form.Statement (s.Repeat (named (codes "i")) 3 (s.Halt 0 ∷ [])))
    (word keyword.Repeat ∷ name (codes "i") ∷ Lexeme.sign sign.Below ∷ number 3 ∷ Lexeme.sign sign.OpenBrace ∷ word keyword.Halt ∷ Lexeme.sign sign.Semicolon
    ∷ Lexeme.sign sign.CloseBrace ∷ [])
    []
a_loop = G.loop (G.block (G.more G.halt G.close))

-- `give;` and `give 1, 2;`
no_values_given : Reads (Form.Statement (s.Give [] 0)) (word keyword.Give ∷ Lexeme.sign sign.Semicolon ∷ []) []
no_values_given = G.give G.no_values

values_given : Reads (Form.Statement (s.Give (tree.Num 1 ∷ tree.Num 2 ∷ []) 0)) (word keyword.Give ∷ number 1 ∷ Lexeme.sign sign.Comma ∷ number 2 ∷ Lexeme.sign sign.Semicolon ∷ []) []
values_given = G.give (G.values digit (G.one_more digit G.no_more))

-- `nv n;`
abbrev a_variable : List Lexeme
a_variable = word keyword.Nv ∷ name (codes "n") ∷ Lexeme.sign sign.Semicolon ∷ []

-- `{ }`
abbrev an_empty_block : List Lexeme
an_empty_block = Lexeme.sign sign.OpenBrace ∷ Lexeme.sign sign.CloseBrace ∷ []

-- `task t { }`
abbrev a_task : List Lexeme
a_task = word keyword.Task ∷ name (codes "t") ∷ an_empty_block

-- `nv n; nv a[3] = {1, 2}; buffer 4; event e(v) { top { } bottom(x, y) { } } task t { } transaction w { task t { } }`
abbrev one_of_each : List Lexeme
one_of_each =
    a_variable ++ word keyword.Nv ∷ name (codes "a") ∷ Lexeme.sign sign.OpenBracket ∷ number 3 ∷ Lexeme.sign sign.CloseBracket ∷ Lexeme.sign sign.Assign
    ∷ Lexeme.sign sign.OpenBrace ∷ number 1 ∷ Lexeme.sign sign.Comma ∷ number 2 ∷ Lexeme.sign sign.CloseBrace ∷ Lexeme.sign sign.Semicolon
    ∷ word keyword.Buffer ∷ number 4 ∷ Lexeme.sign sign.Semicolon
    ∷ word keyword.Event ∷ name (codes "e") ∷ Lexeme.sign sign.OpenParen ∷ name (codes "v") ∷ Lexeme.sign sign.CloseParen ∷ Lexeme.sign sign.OpenBrace
    ∷ word keyword.Top ∷ an_empty_block ++ word keyword.Bottom ∷ Lexeme.sign sign.OpenParen ∷ name (codes "x") ∷ Lexeme.sign sign.Comma ∷ name (codes "y")
    ∷ Lexeme.sign sign.CloseParen ∷ an_empty_block ++ Lexeme.sign sign.CloseBrace
    ∷ a_task ++ word keyword.Transaction ∷ name (codes "w") ∷ Lexeme.sign sign.OpenBrace ∷ a_task ++ Lexeme.sign sign.CloseBrace ∷ []

abbrev scalar : Var
scalar = record { name = named (codes "n"); length = None; init = init.None }

abbrev array : Var
array = record { name = named (codes "a"); length = Some 3; init = init.Many (1 ∷ 2 ∷ []) }

abbrev event : Event
event = record { name = named (codes "e"); argument = named (codes "v"); top = []; params = named (codes "x") ∷ named (codes "y") ∷ []; bottom = [] }

abbrev idle : TaskDecl
idle = record { name = named (codes "t"); body = [] }

abbrev its_program : Program
its_program = record {
  vars = scalar ∷ array ∷ [];
  buffer = Some (record { value = 4; at = 0 });
  events = event ∷ [];
  units = unit.Lone idle ∷ unit.Tx (record { name = named (codes "w"); tasks = idle ∷ [] }) ∷ [];
}

nothing_is_lost : Derives one_of_each its_program
nothing_is_lost =
    G.whole
    (G.variable G.no_length G.none_given)
    (G.variables (G.variable G.length (G.many_given (G.numbers G.no_numbers))) G.no_variables)
    G.buffer
    (G.events (G.event (G.block G.close) (G.params (G.names G.no_names)) (G.block G.close)) G.no_events)
    (G.lone (G.task (G.block G.close)))
    (G.units (G.transaction (G.task (G.block G.close)) G.no_tasks) G.no_units)

-- a program without a variable, and one without a unit
no_variable : FaultAt a_task 0
no_variable = bad a_task 0 refl

no_unit : FaultAt a_variable 3
no_unit = bad a_variable 3 refl

-- `nv a = {}; task t { }`
abbrev no_values_in_braces : List Lexeme
no_values_in_braces = word keyword.Nv ∷ name (codes "a") ∷ Lexeme.sign sign.Assign ∷ Lexeme.sign sign.OpenBrace ∷ Lexeme.sign sign.CloseBrace ∷ Lexeme.sign sign.Semicolon ∷ a_task

an_empty_list : FaultAt no_values_in_braces 4
an_empty_list = bad no_values_in_braces 4 refl

-- `nv n; task t { if 1 { } else if 1 { } }`
abbrev a_chain_of_choices : List Lexeme
a_chain_of_choices =
    a_variable ++ word keyword.Task ∷ name (codes "t") ∷ Lexeme.sign sign.OpenBrace ∷ word keyword.If ∷ number 1 ∷ an_empty_block
    ++ word keyword.Else ∷ word keyword.If ∷ number 1 ∷ an_empty_block ++ Lexeme.sign sign.CloseBrace ∷ []

else_wants_a_block : FaultAt a_chain_of_choices 11
else_wants_a_block = bad a_chain_of_choices 11 refl

-- `nv n; task t { n =` with any number of parentheses behind it
abbrev nested : ℕ → List Lexeme
nested count = a_variable ++ word keyword.Task ∷ name (codes "t") ∷ Lexeme.sign sign.OpenBrace ∷ name (codes "n") ∷ Lexeme.sign sign.Assign ∷ replicate count (Lexeme.sign sign.OpenParen)

-- 64 brackets may be open, and no more
as_deep_as_may_be : FaultAt (nested 63) 71
as_deep_as_may_be = bad (nested 63) 71 refl

the_65th_bracket : DeepAt (nested 64) 71
the_65th_bracket = deep (nested 64) 71 refl

-- `nv n; task t { n = 1` with any number of `+ 1` behind it
abbrev added : ℕ → List Lexeme
added count = nested 0 ++ number 1 ∷ flat_map (λ one. one) (replicate count (Lexeme.sign sign.Plus ∷ number 1 ∷ []))

-- an expression may have 16 operators, and no more
as_long_as_may_be : FaultAt (added 16) 41
as_long_as_may_be = bad (added 16) 41 refl

the_17th_operator : DeepAt (added 17) 41
the_17th_operator = deep (added 17) 41 refl

-- those in brackets count for themselves, and unary ones don't count: `-(1 + 1)` with any number of `+ 1` behind it
abbrev added_to_brackets : ℕ → List Lexeme
added_to_brackets count =
    nested 0 ++ Lexeme.sign sign.Minus ∷ Lexeme.sign sign.OpenParen ∷ number 1 ∷ Lexeme.sign sign.Plus ∷ number 1 ∷ Lexeme.sign sign.CloseParen
    ∷ flat_map (λ one. one) (replicate count (Lexeme.sign sign.Plus ∷ number 1 ∷ []))

sixteen_behind_brackets : FaultAt (added_to_brackets 16) 46
sixteen_behind_brackets = bad (added_to_brackets 16) 46 refl

the_17th_behind_brackets : DeepAt (added_to_brackets 17) 46
the_17th_behind_brackets = deep (added_to_brackets 17) 46 refl
