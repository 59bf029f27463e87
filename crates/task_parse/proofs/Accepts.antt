-- The tokens of a program go through the stack.
use Rattle.std.proofs.Common.{◌≡◌, ◌+◌, ℕ, List, [], ◌∷◌, ◌++◌, Bool, true, false, ◌&&◌, cond, refl, ap, sym, ◌∙◌, append_assoc}
use Rattle.std.specs.Prelude.{Option, Some, None, is_some}
use Rattle.coati_word.specs.declared.operator.Op.{Op}
use Rattle.coati_word.specs.declared.operator.Op1.{Op1}
use Rattle.task_lex.specs.declared.keyword.Keyword.TheVariants as keyword
use Rattle.task_lex.specs.declared.symbol.Symbol.{Symbol}
use Rattle.task_lex.specs.declared.symbol.Symbol.TheVariants as sign
use Rattle.task_syntax.specs.declared.expression.Expr.{Expr}
use Rattle.task_syntax.specs.declared.expression.Place.{Place}
use Rattle.task_syntax.specs.declared.name.Name.{Name}
use Rattle.task_syntax.specs.declared.name.Number.{Number}
use Rattle.task_syntax.specs.declared.program.Event.{Event}
use Rattle.task_syntax.specs.declared.program.Init.{Init}
use Rattle.task_syntax.specs.declared.program.Program.{Program}
use Rattle.task_syntax.specs.declared.program.TaskDecl.{TaskDecl}
use Rattle.task_syntax.specs.declared.program.UnitDecl.{UnitDecl}
use Rattle.task_syntax.specs.declared.program.Var.{Var}
use Rattle.task_syntax.specs.declared.statement.Stmt.{Stmt}
use Rattle.task_parse.specs.Grammar as G
use Rattle.task_parse.specs.Grammar.{Reads, Form, Derives}
use Rattle.task_parse.specs.Lexeme.{Lexeme}
use Rattle.task_parse.specs.Machine.{Part, Move, primary_step, operand_step, values_step, feed, fed, is_full, are_optional, whole_parts, variable_then, task_then}
use Rattle.task_parse.specs.Operators.{operator_of, unary_of}
use Rattle.task_parse.proofs.Follow.{Skips, EndsExpression, operator_no_index, rest_no_else, more_ends, given_no_length, unit_begins, events_begin, buffer_begins}

abbrev pub accepts_next : (List Part → Bool) → Option (Bool × List Part) → Bool
accepts_next next None = false
accepts_next next (Some p) = next p.1

-- the stack goes on with all of the tokens, and may end behind them
abbrev pub accepts : List Lexeme → List Part → Bool
accepts [] k = are_optional k
accepts (token ∷ list) k = accepts_next (accepts list) (feed k token)

skip : (x : Part) (list : List Lexeme) (k : List Part) → Skips x list → accepts list (x ∷ k) ≡ accepts list k
skip x [] k q = ap (λ b. b && are_optional k) q
skip x (token ∷ list) k q = ap (λ move. accepts_next (accepts list) (fed (feed k token) k (is_full x) move)) q

-- reading from one list to the other leads from one stack to the other
abbrev pub Goes : List Part → List Lexeme → List Part → List Lexeme → Type 0
Goes xs ts ys us = (k : List Part) → accepts ts (xs ++ k) ≡ accepts us (ys ++ k)

unary_on : (s : Symbol) (o : Op1) (list : List Lexeme) (k : List Part) → unary_of s ≡ Some o → accepts (Lexeme.sign s ∷ list) (Part.Operand ∷ k) ≡ accepts list (Part.Primary ∷ k)
unary_on s o list k h =
    ap (λ u. accepts_next (accepts list) (fed (feed k (Lexeme.sign s)) k false (cond (is_some u) (Move.Take (Part.Primary ∷ [])) (primary_step (Lexeme.sign s))))) h

operator_on : (s : Symbol) (o : Op) (list : List Lexeme) (n : ℕ) (k : List Part) → operator_of s ≡ Some o → accepts (Lexeme.sign s ∷ list) (Part.Ops n ∷ k) ≡ accepts list (Part.Operand ∷ Part.Ops (n + 1) ∷ k)
operator_on s o list n k h =
    ap (λ u. accepts_next (accepts list) (fed (feed k (Lexeme.sign s)) k (is_full (Part.Ops n)) (cond (is_some u) (Move.Take (Part.Operand ∷ Part.Ops (n + 1) ∷ [])) Move.Skip))) h

mutual
  primary : {x : Expr} {ts us : List Lexeme} → Reads (Form.Primary x) ts us → Skips Part.Index us → Goes (Part.Primary ∷ []) ts [] us × Goes (Part.Operand ∷ []) ts [] us
  primary (G.number) q = (λ k. refl, λ k. refl)
  primary (G.get d) q = place d q
  primary (G.parens d) q = let s = expr d refl 0 in (λ k. s.1 _, λ k. s.1 _)

  place : {p : Place} {ts us : List Lexeme} → Reads (Form.Target p) ts us → Skips Part.Index us → Goes (Part.Primary ∷ []) ts [] us × Goes (Part.Operand ∷ []) ts [] us
  place {us = us} (G.scalar) q = (λ k. skip Part.Index us k q, λ k. skip Part.Index us k q)
  place (G.item d) q = let s = expr d refl 0 in (λ k. s.1 _, λ k. s.1 _)

  operand : {x : Expr} {ts us : List Lexeme} → Reads (Form.Operand x) ts us → Skips Part.Index us → Goes (Part.Operand ∷ []) ts [] us
  operand (G.plain d) q = (primary d q).1
  operand (G.one {symbol = s} {o = o} {a = a} h d) q = λ k. unary_on s o a k h ∙ (primary d q).0 k

  expr : {n : ℕ} {x : Expr} {ts us : List Lexeme} → Reads (Form.Level n x) ts us → Skips Part.Index us → (i : ℕ) → (j : ℕ) × Goes (Part.Operand ∷ Part.Ops i ∷ []) ts (Part.Ops j ∷ []) us
  expr (G.operand d) q = λ i. (i, λ k. operand d q (Part.Ops i ∷ k))
  expr (G.two {symbol = s} {o = o} {b = b} h l x y) q = λ i.
      let left = expr x (operator_no_index s o h) i in
      let right = expr y q (left.0 + 1) in
      (right.0, λ k. left.1 k ∙ operator_on s o b left.0 k h ∙ right.1 k)

-- an expression, up to where nothing of it can follow
whole_expr : {x : Expr} {ts us : List Lexeme} → Reads (Form.Level 0 x) ts us → EndsExpression us → Goes (Part.Operand ∷ Part.Ops 0 ∷ []) ts [] us
whole_expr {us = us} d q = let s = expr d q.0 0 in λ k. s.1 k ∙ skip (Part.Ops s.0) us k (q.1 s.0)

target : {p : Place} {ts us : List Lexeme} → Reads (Form.Target p) ts us → Skips Part.Index us → Goes (Part.Body ∷ []) ts (Part.Sign sign.Assign ∷ Part.Operand ∷ Part.Ops 0 ∷ Part.Sign sign.Semicolon ∷ Part.Body ∷ []) us
target {us = us} (G.scalar) q = λ k. skip Part.Index us _ q
target (G.item d) q = λ k. whole_expr d (refl, λ n. refl) _

-- an operand begins with this token
pub record BeginsOperand (token : Lexeme) : Type 0 where
  pub new : List Part
  pub takes : operand_step token ≡ Move.Take new

abbrev pub FirstBegins : List Lexeme → Type 0
FirstBegins [] = ⊥
FirstBegins (token ∷ _) = BeginsOperand token

place_begins : {p : Place} {ts us : List Lexeme} → Reads (Form.Target p) ts us → FirstBegins ts
place_begins (G.scalar) = record { new = _; takes = refl }
place_begins (G.item d) = record { new = _; takes = refl }

primary_begins : {x : Expr} {ts us : List Lexeme} → Reads (Form.Primary x) ts us → FirstBegins ts
primary_begins (G.number) = record { new = _; takes = refl }
primary_begins (G.get d) = place_begins d
primary_begins (G.parens d) = record { new = _; takes = refl }

pub expr_begins : {n : ℕ} {x : Expr} {ts us : List Lexeme} → Reads (Form.Level n x) ts us → FirstBegins ts
expr_begins (G.operand (G.plain d)) = primary_begins d
expr_begins (G.operand (G.one {symbol = s} h d)) =
    record { new = Part.Primary ∷ []; takes = ap (λ u. cond (is_some u) (Move.Take (Part.Primary ∷ [])) (primary_step (Lexeme.sign s))) h }
expr_begins (G.two h l x y) = expr_begins x

first_of : (new k : List Part) (token : Lexeme) (list : List Lexeme) → operand_step token ≡ Move.Take new
    → accepts (token ∷ list) (Part.Values ∷ k) ≡ accepts (token ∷ list) (Part.Operand ∷ Part.Ops 0 ∷ Part.More ∷ k)
first_of new k token list h =
    let j : List Part = Part.Ops 0 ∷ Part.More ∷ k in
    ap (λ move. accepts_next (accepts list) (fed (feed k token) k false (values_step move))) h
    ∙ ap (accepts list) (append_assoc new (Part.Ops 0 ∷ Part.More ∷ []) k)
    ∙ sym (ap (λ move. accepts_next (accepts list) (fed (feed j token) j false move)) h)

-- where an operand begins, values are expressions
pub values_begin : (list : List Lexeme) (k : List Part) → FirstBegins list → accepts list (Part.Values ∷ k) ≡ accepts list (Part.Operand ∷ Part.Ops 0 ∷ Part.More ∷ k)
values_begin [] k f = absurd f
values_begin (token ∷ list) k f = first_of f.new k token list f.takes

more : {xs : List Expr} {ts r : List Lexeme} → Reads (Form.More xs) ts (Lexeme.sign sign.Semicolon ∷ r) → Goes (Part.More ∷ []) ts [] (Lexeme.sign sign.Semicolon ∷ r)
more (G.no_more) = λ k. refl
more (G.one_more x d) = λ k. whole_expr x (more_ends d) _ ∙ more d k

values : {xs : List Expr} {ts r : List Lexeme} → Reads (Form.Values xs) ts (Lexeme.sign sign.Semicolon ∷ r) → Goes (Part.Values ∷ []) ts [] (Lexeme.sign sign.Semicolon ∷ r)
values (G.no_values) = λ k. refl
values {ts = ts} (G.values x d) = λ k. values_begin ts k (expr_begins x) ∙ whole_expr x (more_ends d) _ ∙ more d k

mutual
  statement : {x : Stmt} {ts us : List Lexeme} → Reads (Form.Statement x) ts us → Skips Part.Otherwise us → Goes (Part.Body ∷ []) ts (Part.Body ∷ []) us
  statement (G.declare d) q = λ k. whole_expr d (refl, λ n. refl) _
  statement (G.assign p d) q = λ k. target p refl k ∙ whole_expr d (refl, λ n. refl) _
  statement (G.choose x (G.block d) o) q = λ k. whole_expr x (refl, λ n. refl) _ ∙ rest d _ ∙ other o q _
  statement (G.loop (G.block d)) q = λ k. rest d _
  statement (G.next) q = λ k. refl
  statement (G.halt) q = λ k. refl
  statement (G.give d) q = λ k. values d _

  other : {x : Option (List Stmt)} {ts us : List Lexeme} → Reads (Form.Otherwise x) ts us → Skips Part.Otherwise us → Goes (Part.Otherwise ∷ []) ts [] us
  other {us = us} (G.no_else) q = λ k. skip Part.Otherwise us k q
  other (G.otherwise (G.block d)) q = λ k. rest d k

  rest : {x : List Stmt} {ts us : List Lexeme} → Reads (Form.Rest x) ts us → Goes (Part.Body ∷ []) ts [] us
  rest (G.close) = λ k. refl
  rest (G.more d e) = λ k. statement d (rest_no_else e) k ∙ rest e k

block : {ss : List Stmt} {ts us : List Lexeme} → Reads (Form.Block ss) ts us → Goes (Part.Sign sign.OpenBrace ∷ Part.Body ∷ []) ts [] us
block (G.block d) = rest d

numbers : {ns : List ℕ} {ts us : List Lexeme} → Reads (Form.Numbers ns) ts us → Skips Part.Numbers us → Goes (Part.Numbers ∷ []) ts [] us
numbers {us = us} (G.no_numbers) q = λ k. skip Part.Numbers us k q
numbers (G.numbers d) q = numbers d q

len : {n : Option ℕ} {ts us : List Lexeme} → Reads (Form.Length n) ts us → Skips Part.Length us → Goes (Part.Length ∷ []) ts [] us
len {us = us} (G.no_length) q = λ k. skip Part.Length us k q
len (G.length) q = λ k. refl

given : {i : Init} {ts r : List Lexeme} → Reads (Form.Given i) ts (Lexeme.sign sign.Semicolon ∷ r) → Goes (Part.Given ∷ []) ts [] (Lexeme.sign sign.Semicolon ∷ r)
given (G.none_given) = λ k. refl
given (G.one_given) = λ k. refl
given (G.many_given d) = λ k. numbers d refl _

variable : {v : Var} {ts us : List Lexeme} → Reads (Form.Variable v) ts us → (k : List Part) → (accepts ts (Part.Word keyword.Nv ∷ variable_then k) ≡ accepts us k) × (accepts ts (Part.Variables ∷ k) ≡ accepts us (Part.Variables ∷ k))
variable (G.variable d e) k = (len d (given_no_length e) _ ∙ given e _, len d (given_no_length e) _ ∙ given e _)

variables : {vs : List Var} {ts us : List Lexeme} → Reads (Form.Variables vs) ts us → Skips Part.Variables us → Goes (Part.Variables ∷ []) ts [] us
variables {us = us} (G.no_variables) q = λ k. skip Part.Variables us k q
variables (G.variables d e) q = λ k. (variable d k).1 ∙ variables e q k

buffer : {size : Option Number} {ts us : List Lexeme} → Reads (Form.Buffer size) ts us → Skips Part.Buffer us → Goes (Part.Buffer ∷ []) ts [] us
buffer {us = us} (G.no_buffer) q = λ k. skip Part.Buffer us k q
buffer (G.buffer) q = λ k. refl

names : {ns : List Name} {ts us : List Lexeme} → Reads (Form.Names ns) ts us → Skips Part.Names us → Goes (Part.Names ∷ []) ts [] us
names {us = us} (G.no_names) q = λ k. skip Part.Names us k q
names (G.names d) q = names d q

params : {ns : List Name} {ts r : List Lexeme} → Reads (Form.Params ns) ts (Lexeme.sign sign.CloseParen ∷ r) → Goes (Part.Params ∷ []) ts [] (Lexeme.sign sign.CloseParen ∷ r)
params (G.no_params) = λ k. refl
params (G.params d) = names d refl

events : {es : List Event} {ts us : List Lexeme} → Reads (Form.Events es) ts us → Skips Part.Events us → Goes (Part.Events ∷ []) ts [] us
events {us = us} (G.no_events) q = λ k. skip Part.Events us k q
events (G.events (G.event t p b) e) q = λ k. block t _ ∙ params p _ ∙ block b _ ∙ events e q k

task : {x : TaskDecl} {ts us : List Lexeme} → Reads (Form.Task x) ts us → Goes (Part.Word keyword.Task ∷ task_then []) ts [] us
task (G.task d) = block d

tasks : {xs : List TaskDecl} {ts us : List Lexeme} → Reads (Form.Tasks xs) ts us → Skips Part.Members us → Goes (Part.Members ∷ []) ts [] us
tasks {us = us} (G.no_tasks) q = λ k. skip Part.Members us k q
tasks (G.tasks (G.task d) e) q = λ k. block d _ ∙ tasks e q k

unit : {x : UnitDecl} {ts us : List Lexeme} → Reads (Form.OneUnit x) ts us → Goes (Part.AUnit ∷ []) ts [] us × Goes (Part.Units ∷ []) ts (Part.Units ∷ []) us
unit (G.lone (G.task d)) = (block d, λ k. block d _)
unit (G.transaction d e) = (λ k. task d _ ∙ tasks e refl _, λ k. task d _ ∙ tasks e refl _)

units : {xs : List UnitDecl} {ts us : List Lexeme} → Reads (Form.Units xs) ts us → Skips Part.Units us → Goes (Part.Units ∷ []) ts [] us
units {us = us} (G.no_units) q = λ k. skip Part.Units us k q
units (G.units d e) q = λ k. (unit d).1 k ∙ units e q k

pub program : {p : Program} {ts : List Lexeme} → Derives ts p → accepts ts whole_parts ≡ true
program (G.whole v vs size es u us) =
    let u_begins = unit_begins u in
    let es_begin = events_begin es u_begins.0 u_begins.1 in
    let size_begins = buffer_begins size es_begin.0 in
    (variable v _).0 ∙ variables vs size_begins _ ∙ buffer size es_begin.1 _ ∙ events es u_begins.2 _ ∙ (unit u).0 _ ∙ units us refl []
