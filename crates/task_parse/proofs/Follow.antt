-- What stands behind a part that may be left out does not go on with it.
use Rattle.std.proofs.Common.{◌≡◌, ℕ, List, [], ◌∷◌, true, refl}
use Rattle.std.specs.Prelude.{Option, Some}
use Rattle.coati_word.specs.declared.operator.Op.{Op}
use Rattle.task_lex.specs.declared.symbol.Symbol.{Symbol}
use Rattle.task_lex.specs.declared.symbol.Symbol.TheVariants as sign
use Rattle.task_syntax.specs.declared.expression.Expr.{Expr}
use Rattle.task_syntax.specs.declared.name.Number.{Number}
use Rattle.task_syntax.specs.declared.program.Event.{Event}
use Rattle.task_syntax.specs.declared.program.Init.{Init}
use Rattle.task_syntax.specs.declared.program.UnitDecl.{UnitDecl}
use Rattle.task_syntax.specs.declared.statement.Stmt.{Stmt}
use Rattle.task_parse.specs.Grammar as G
use Rattle.task_parse.specs.Grammar.{Reads, Form}
use Rattle.task_parse.specs.Lexeme.{Lexeme}
use Rattle.task_parse.specs.Machine.{Part, Move, step, is_optional}
use Rattle.task_parse.specs.Operators.{operator_of}

-- the part is over without the first of the tokens
abbrev pub Skips : Part → List Lexeme → Type 0
Skips x [] = is_optional x ≡ true
Skips x (token ∷ _) = step x token ≡ Move.Skip

-- an expression is over without the first of the tokens
abbrev pub EndsExpression : List Lexeme → Type 0
EndsExpression list = Skips Part.Index list × ((count : ℕ) → Skips (Part.Ops count) list)

pub operator_no_index : (s : Symbol) (o : Op) → operator_of s ≡ Some o → step Part.Index (Lexeme.sign s) ≡ Move.Skip
operator_no_index sign.OpenBracket o h = absurd (cc)
operator_no_index _ o h = refl

pub rest_no_else : {ss : List Stmt} {a b : List Lexeme} → Reads (Form.Rest ss) a b → Skips Part.Otherwise a
rest_no_else (G.close) = refl
rest_no_else (G.more (G.declare x) d) = refl
rest_no_else (G.more (G.assign (G.scalar) x) d) = refl
rest_no_else (G.more (G.assign (G.item i) x) d) = refl
rest_no_else (G.more (G.choose x f o) d) = refl
rest_no_else (G.more (G.loop f) d) = refl
rest_no_else (G.more (G.next) d) = refl
rest_no_else (G.more (G.halt) d) = refl
rest_no_else (G.more (G.give x) d) = refl

pub more_ends : {xs : List Expr} {a r : List Lexeme} → Reads (Form.More xs) a (Lexeme.sign sign.Semicolon ∷ r) → EndsExpression a
more_ends (G.no_more) = (refl, λ count. refl)
more_ends (G.one_more x d) = (refl, λ count. refl)

pub given_no_length : {given : Init} {a r : List Lexeme} → Reads (Form.Given given) a (Lexeme.sign sign.Semicolon ∷ r) → Skips Part.Length a
given_no_length (G.none_given) = refl
given_no_length (G.one_given) = refl
given_no_length (G.many_given d) = refl

pub unit_begins : {u : UnitDecl} {a r : List Lexeme} → Reads (Form.OneUnit u) a r → Skips Part.Variables a × Skips Part.Buffer a × Skips Part.Events a
unit_begins (G.lone (G.task d)) = (refl, refl, refl)
unit_begins (G.transaction d e) = (refl, refl, refl)

pub events_begin : {es : List Event} {a b : List Lexeme} → Reads (Form.Events es) a b → Skips Part.Variables b → Skips Part.Buffer b → Skips Part.Variables a × Skips Part.Buffer a
events_begin (G.no_events) q r = (q, r)
events_begin (G.events (G.event t p b) d) q r = (refl, refl)

pub buffer_begins : {size : Option Number} {a b : List Lexeme} → Reads (Form.Buffer size) a b → Skips Part.Variables b → Skips Part.Variables a
buffer_begins (G.no_buffer) q = q
buffer_begins (G.buffer) q = refl
