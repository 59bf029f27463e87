-- What the stack takes is the beginning of a program.
use Rattle.std.proofs.Common.{◌≡◌, ◌≤◌, ◌+◌, ℕ, List, [], ◌∷◌, ◌++◌, Bool, true, false, cond, inl, inr, refl, subst, arith, append_assoc}
use Rattle.std.specs.Prelude.{Option, Some, None, is_some}
use Rattle.std.proofs.lemmas.Bool.{cases_lt}
use Rattle.coati_word.specs.declared.operator.Op.{Op}
use Rattle.coati_word.specs.declared.operator.Op1.{Op1}
use Rattle.task_lex.specs.declared.keyword.Keyword.{Keyword}
use Rattle.task_lex.specs.declared.keyword.Keyword.TheVariants as keyword
use Rattle.task_lex.specs.declared.symbol.Symbol.{Symbol}
use Rattle.task_lex.specs.declared.symbol.Symbol.TheVariants as sign
use Rattle.task_syntax.specs.declared.expression.Expr.{Expr}
use Rattle.task_syntax.specs.declared.expression.Place.{Place}
use Rattle.task_syntax.specs.declared.name.Name.{Name}
use Rattle.task_syntax.specs.declared.name.Number.{Number}
use Rattle.task_syntax.specs.declared.program.Event.{Event}
use Rattle.task_syntax.specs.declared.program.Init.{Init}
use Rattle.task_syntax.specs.declared.program.Program.{Program}
use Rattle.task_syntax.specs.declared.program.TaskDecl.{TaskDecl}
use Rattle.task_syntax.specs.declared.program.UnitDecl.{UnitDecl}
use Rattle.task_syntax.specs.declared.program.Var.{Var}
use Rattle.task_syntax.specs.declared.statement.Stmt.{Stmt}
use Rattle.task_parse.specs.Grammar as G
use Rattle.task_parse.specs.Grammar.{Reads, Form, Derives}
use Rattle.task_parse.specs.Lexeme.{Lexeme}
use Rattle.task_parse.specs.Machine.{Part, Move, step, body_step, primary_step, operand_step, values_step, taken_if, are_optional, same_sign, same_word, feed, fed, is_full, whole_parts, variable_then, expression_then, block_then, task_then, transaction_then, event_then}
use Rattle.task_parse.specs.Operators.{level, operator_of, unary_of}
use Rattle.task_parse.proofs.Same.{sign_is, word_is}

-- one more operator and operand, at the place in the tree that its level gives it
extend : {n : ℕ} {s : Symbol} {o : Op} {x y : Expr} {ts us vs : List Lexeme} → operator_of s ≡ Some o → Reads (Form.Level n x) ts (Lexeme.sign s ∷ us)
    → n ≤ level o → Reads (Form.Operand y) us vs → (z : Expr) × Reads (Form.Level n z) ts vs
extend e (G.operand d) h y = (_, G.two e h (G.operand d) (G.operand y))
extend {o = o} e (G.two {o = p} f k a b) h y =
    elim (cases_lt (level p) (level o)) [
      | inl l ↦ let s = extend e b (omega arith) y in (_, G.two f k a s.1)
      | inr l ↦ (_, G.two e h (G.two f l a b) (G.operand y))
    ]

-- operators and operands one behind the other
pub data Chain : List Lexeme → List Lexeme → Type 0 where
  none : {a : List Lexeme} → Chain a a
  link : {s : Symbol} {o : Op} {y : Expr} {a b c : List Lexeme} → operator_of s ≡ Some o → Reads (Form.Operand y) a b → Chain b c → Chain (Lexeme.sign s ∷ a) c

abbrev pub AnExpr : List Lexeme → List Lexeme → Type 0
AnExpr ts us = (x : Expr) × Reads (Form.Level 0 x) ts us

expr_from : {ts us vs : List Lexeme} → Chain us vs → AnExpr ts us → AnExpr ts vs
expr_from (Chain.none) d = d
expr_from (Chain.link e y c) d = expr_from c (extend e d.1 (omega arith) y)

expr_of : {x : Expr} {ts us vs : List Lexeme} → Reads (Form.Operand x) ts us → Chain us vs → AnExpr ts vs
expr_of d c = expr_from c (_, G.operand d)

-- the list is spelled by the parts, one behind the other
pub data Spelled : List Part → List Lexeme → Type 0 where
  over : Spelled [] []
  symbol : {s : Symbol} {k : List Part} {ts : List Lexeme} → Spelled k ts → Spelled (Part.Sign s ∷ k) (Lexeme.sign s ∷ ts)
  word : {w : Keyword} {at : ℕ} {k : List Part} {ts : List Lexeme} → Spelled k ts → Spelled (Part.Word w ∷ k) (Lexeme.word w at ∷ ts)
  name : {n : Name} {k : List Part} {ts : List Lexeme} → Spelled k ts → Spelled (Part.AName ∷ k) (Lexeme.name n ∷ ts)
  number : {n at : ℕ} {k : List Part} {ts : List Lexeme} → Spelled k ts → Spelled (Part.ANumber ∷ k) (Lexeme.number n at ∷ ts)
  variables : {vs : List Var} {k : List Part} {ts us : List Lexeme} → Reads (Form.Variables vs) ts us → Spelled k us → Spelled (Part.Variables ∷ k) ts
  length : {n : Option ℕ} {k : List Part} {ts us : List Lexeme} → Reads (Form.Length n) ts us → Spelled k us → Spelled (Part.Length ∷ k) ts
  given : {i : Init} {k : List Part} {ts us : List Lexeme} → Reads (Form.Given i) ts us → Spelled k us → Spelled (Part.Given ∷ k) ts
  init : {i : Init} {k : List Part} {ts us : List Lexeme} → Reads (Form.Given i) (Lexeme.sign sign.Assign ∷ ts) us → Spelled k us → Spelled (Part.Init ∷ k) ts
  numbers : {ns : List ℕ} {k : List Part} {ts us : List Lexeme} → Reads (Form.Numbers ns) ts us → Spelled k us → Spelled (Part.Numbers ∷ k) ts
  buffer : {b : Option Number} {k : List Part} {ts us : List Lexeme} → Reads (Form.Buffer b) ts us → Spelled k us → Spelled (Part.Buffer ∷ k) ts
  events : {es : List Event} {k : List Part} {ts us : List Lexeme} → Reads (Form.Events es) ts us → Spelled k us → Spelled (Part.Events ∷ k) ts
  params : {ns : List Name} {k : List Part} {ts us : List Lexeme} → Reads (Form.Params ns) ts us → Spelled k us → Spelled (Part.Params ∷ k) ts
  names : {ns : List Name} {k : List Part} {ts us : List Lexeme} → Reads (Form.Names ns) ts us → Spelled k us → Spelled (Part.Names ∷ k) ts
  unit : {u : UnitDecl} {k : List Part} {ts us : List Lexeme} → Reads (Form.OneUnit u) ts us → Spelled k us → Spelled (Part.AUnit ∷ k) ts
  units : {xs : List UnitDecl} {k : List Part} {ts us : List Lexeme} → Reads (Form.Units xs) ts us → Spelled k us → Spelled (Part.Units ∷ k) ts
  members : {xs : List TaskDecl} {k : List Part} {ts us : List Lexeme} → Reads (Form.Tasks xs) ts us → Spelled k us → Spelled (Part.Members ∷ k) ts
  body : {ss : List Stmt} {k : List Part} {ts us : List Lexeme} → Reads (Form.Rest ss) ts us → Spelled k us → Spelled (Part.Body ∷ k) ts
  otherwise : {ss : Option (List Stmt)} {k : List Part} {ts us : List Lexeme} → Reads (Form.Otherwise ss) ts us → Spelled k us → Spelled (Part.Otherwise ∷ k) ts
  values : {xs : List Expr} {k : List Part} {ts us : List Lexeme} → Reads (Form.Values xs) ts us → Spelled k us → Spelled (Part.Values ∷ k) ts
  more : {xs : List Expr} {k : List Part} {ts us : List Lexeme} → Reads (Form.More xs) ts us → Spelled k us → Spelled (Part.More ∷ k) ts
  operand : {x : Expr} {k : List Part} {ts us : List Lexeme} → Reads (Form.Operand x) ts us → Spelled k us → Spelled (Part.Operand ∷ k) ts
  primary : {x : Expr} {k : List Part} {ts us : List Lexeme} → Reads (Form.Primary x) ts us → Spelled k us → Spelled (Part.Primary ∷ k) ts
  index : {k : List Part} {ts us : List Lexeme} → ((n : Name) → (p : Place) × Reads (Form.Target p) (Lexeme.name n ∷ ts) us) → Spelled k us → Spelled (Part.Index ∷ k) ts
  ops : {i : ℕ} {k : List Part} {ts us : List Lexeme} → Chain ts us → Spelled k us → Spelled (Part.Ops i ∷ k) ts

-- what a part makes of a token is so in lists that the parts spell
abbrev pub Sound : Part → Lexeme → List Lexeme → List Part → Move → Type 0
Sound x token ts k (Move.Take new) = Spelled (new ++ k) ts → Spelled (x ∷ k) (token ∷ ts)
Sound x token ts k Move.Skip = Spelled k (token ∷ ts) → Spelled (x ∷ k) (token ∷ ts)
Sound x token ts k Move.Stop = Unit {0}

in_parens : {k : List Part} {ts : List Lexeme} → Spelled (expression_then (Part.Sign sign.CloseParen ∷ k)) ts → Spelled (Part.Primary ∷ k) (Lexeme.sign sign.OpenParen ∷ ts)
in_parens (Spelled.operand d (Spelled.ops c (Spelled.symbol r))) = Spelled.primary (G.parens (expr_of d c).1) r

in_index : {k : List Part} {ts : List Lexeme} → Spelled (expression_then (Part.Sign sign.CloseBracket ∷ k)) ts → Spelled (Part.Index ∷ k) (Lexeme.sign sign.OpenBracket ∷ ts)
in_index (Spelled.operand d (Spelled.ops c (Spelled.symbol r))) = Spelled.index (λ n. (_, G.item (expr_of d c).1)) r

in_name : {n : Name} {k : List Part} {ts : List Lexeme} → Spelled (Part.Index ∷ k) ts → Spelled (Part.Primary ∷ k) (Lexeme.name n ∷ ts)
in_name {n = n} (Spelled.index g r) = Spelled.primary (G.get (g n).1) r

plainly : {k : List Part} {ts : List Lexeme} → Spelled (Part.Primary ∷ k) ts → Spelled (Part.Operand ∷ k) ts
plainly (Spelled.primary d r) = Spelled.operand (G.plain d) r

in_values : {k : List Part} {ts : List Lexeme} → Spelled (Part.Operand ∷ Part.Ops 0 ∷ Part.More ∷ k) ts → Spelled (Part.Values ∷ k) ts
in_values (Spelled.operand d (Spelled.ops c (Spelled.more m r))) = Spelled.values (G.values (expr_of d c).1 m) r

in_more : {k : List Part} {ts : List Lexeme} → Spelled (expression_then (Part.More ∷ k)) ts → Spelled (Part.More ∷ k) (Lexeme.sign sign.Comma ∷ ts)
in_more (Spelled.operand d (Spelled.ops c (Spelled.more m r))) = Spelled.more (G.one_more (expr_of d c).1 m) r

in_assign : {n : Name} {k : List Part} {ts : List Lexeme} → Spelled (Part.Index ∷ Part.Sign sign.Assign ∷ expression_then (Part.Sign sign.Semicolon ∷ Part.Body ∷ k)) ts → Spelled (Part.Body ∷ k) (Lexeme.name n ∷ ts)
in_assign {n = n} (Spelled.index g (Spelled.symbol (Spelled.operand d (Spelled.ops c (Spelled.symbol (Spelled.body b r)))))) = Spelled.body (G.more (G.assign (g n).1 (expr_of d c).1) b) r

in_let : {at : ℕ} {k : List Part} {ts : List Lexeme} → Spelled (Part.AName ∷ Part.Sign sign.Assign ∷ expression_then (Part.Sign sign.Semicolon ∷ Part.Body ∷ k)) ts → Spelled (Part.Body ∷ k) (Lexeme.word keyword.Let at ∷ ts)
in_let (Spelled.name (Spelled.symbol (Spelled.operand d (Spelled.ops c (Spelled.symbol (Spelled.body b r)))))) = Spelled.body (G.more (G.declare (expr_of d c).1) b) r

in_if : {at : ℕ} {k : List Part} {ts : List Lexeme} → Spelled (expression_then (block_then (Part.Otherwise ∷ Part.Body ∷ k))) ts → Spelled (Part.Body ∷ k) (Lexeme.word keyword.If at ∷ ts)
in_if (Spelled.operand d (Spelled.ops c (Spelled.symbol (Spelled.body s (Spelled.otherwise o (Spelled.body b r)))))) = Spelled.body (G.more (G.choose (expr_of d c).1 (G.block s) o) b) r

in_repeat : {at : ℕ} {k : List Part} {ts : List Lexeme} → Spelled (Part.AName ∷ Part.Sign sign.Below ∷ Part.ANumber ∷ block_then (Part.Body ∷ k)) ts → Spelled (Part.Body ∷ k) (Lexeme.word keyword.Repeat at ∷ ts)
in_repeat (Spelled.name (Spelled.symbol (Spelled.number (Spelled.symbol (Spelled.body s (Spelled.body b r)))))) = Spelled.body (G.more (G.loop (G.block s)) b) r

in_next : {at : ℕ} {k : List Part} {ts : List Lexeme} → Spelled (Part.AName ∷ Part.Sign sign.Semicolon ∷ Part.Body ∷ k) ts → Spelled (Part.Body ∷ k) (Lexeme.word keyword.Next at ∷ ts)
in_next (Spelled.name (Spelled.symbol (Spelled.body b r))) = Spelled.body (G.more G.next b) r

in_halt : {at : ℕ} {k : List Part} {ts : List Lexeme} → Spelled (Part.Sign sign.Semicolon ∷ Part.Body ∷ k) ts → Spelled (Part.Body ∷ k) (Lexeme.word keyword.Halt at ∷ ts)
in_halt (Spelled.symbol (Spelled.body b r)) = Spelled.body (G.more G.halt b) r

in_give : {at : ℕ} {k : List Part} {ts : List Lexeme} → Spelled (Part.Values ∷ Part.Sign sign.Semicolon ∷ Part.Body ∷ k) ts → Spelled (Part.Body ∷ k) (Lexeme.word keyword.Give at ∷ ts)
in_give (Spelled.values v (Spelled.symbol (Spelled.body b r))) = Spelled.body (G.more (G.give v) b) r

in_else : {at : ℕ} {k : List Part} {ts : List Lexeme} → Spelled (block_then k) ts → Spelled (Part.Otherwise ∷ k) (Lexeme.word keyword.Else at ∷ ts)
in_else (Spelled.symbol (Spelled.body b r)) = Spelled.otherwise (G.otherwise (G.block b)) r

in_length : {k : List Part} {ts : List Lexeme} → Spelled (Part.ANumber ∷ Part.Sign sign.CloseBracket ∷ k) ts → Spelled (Part.Length ∷ k) (Lexeme.sign sign.OpenBracket ∷ ts)
in_length (Spelled.number (Spelled.symbol r)) = Spelled.length G.length r

in_given : {k : List Part} {ts : List Lexeme} → Spelled (Part.Init ∷ k) ts → Spelled (Part.Given ∷ k) (Lexeme.sign sign.Assign ∷ ts)
in_given (Spelled.init i r) = Spelled.given i r

in_init : {k : List Part} {ts : List Lexeme} → Spelled (Part.ANumber ∷ Part.Numbers ∷ Part.Sign sign.CloseBrace ∷ k) ts → Spelled (Part.Init ∷ k) (Lexeme.sign sign.OpenBrace ∷ ts)
in_init (Spelled.number (Spelled.numbers n (Spelled.symbol r))) = Spelled.init (G.many_given n) r

in_numbers : {k : List Part} {ts : List Lexeme} → Spelled (Part.ANumber ∷ Part.Numbers ∷ k) ts → Spelled (Part.Numbers ∷ k) (Lexeme.sign sign.Comma ∷ ts)
in_numbers (Spelled.number (Spelled.numbers n r)) = Spelled.numbers (G.numbers n) r

in_variables : {at : ℕ} {k : List Part} {ts : List Lexeme} → Spelled (variable_then (Part.Variables ∷ k)) ts → Spelled (Part.Variables ∷ k) (Lexeme.word keyword.Nv at ∷ ts)
in_variables (Spelled.name (Spelled.length l (Spelled.given g (Spelled.symbol (Spelled.variables v r))))) = Spelled.variables (G.variables (G.variable l g) v) r

in_buffer : {at : ℕ} {k : List Part} {ts : List Lexeme} → Spelled (Part.ANumber ∷ Part.Sign sign.Semicolon ∷ k) ts → Spelled (Part.Buffer ∷ k) (Lexeme.word keyword.Buffer at ∷ ts)
in_buffer (Spelled.number (Spelled.symbol r)) = Spelled.buffer G.buffer r

in_params : {n : Name} {k : List Part} {ts : List Lexeme} → Spelled (Part.Names ∷ k) ts → Spelled (Part.Params ∷ k) (Lexeme.name n ∷ ts)
in_params (Spelled.names n r) = Spelled.params (G.params n) r

in_names : {k : List Part} {ts : List Lexeme} → Spelled (Part.AName ∷ Part.Names ∷ k) ts → Spelled (Part.Names ∷ k) (Lexeme.sign sign.Comma ∷ ts)
in_names (Spelled.name (Spelled.names n r)) = Spelled.names (G.names n) r

in_event : {at : ℕ} {k : List Part} {ts : List Lexeme} → Spelled (event_then (Part.Events ∷ k)) ts → Spelled (Part.Events ∷ k) (Lexeme.word keyword.Event at ∷ ts)
in_event (Spelled.name (Spelled.symbol (Spelled.name (Spelled.symbol (Spelled.symbol (Spelled.word (Spelled.symbol (Spelled.body t (Spelled.word (Spelled.symbol (Spelled.params p (Spelled.symbol (Spelled.symbol (Spelled.body b (Spelled.symbol (Spelled.events e r)))))))))))))))) =
    Spelled.events (G.events (G.event (G.block t) p (G.block b)) e) r

in_task : {at : ℕ} {k : List Part} {ts : List Lexeme} → Spelled (task_then k) ts → Spelled (Part.AUnit ∷ k) (Lexeme.word keyword.Task at ∷ ts)
in_task (Spelled.name (Spelled.symbol (Spelled.body b r))) = Spelled.unit (G.lone (G.task (G.block b))) r

in_transaction : {at : ℕ} {k : List Part} {ts : List Lexeme} → Spelled (transaction_then k) ts → Spelled (Part.AUnit ∷ k) (Lexeme.word keyword.Transaction at ∷ ts)
in_transaction (Spelled.name (Spelled.symbol (Spelled.word (Spelled.name (Spelled.symbol (Spelled.body b (Spelled.members m (Spelled.symbol r)))))))) =
    Spelled.unit (G.transaction (G.task (G.block b)) m) r

in_units : {k : List Part} {ts : List Lexeme} → Spelled (Part.AUnit ∷ Part.Units ∷ k) ts → Spelled (Part.Units ∷ k) ts
in_units (Spelled.unit u (Spelled.units us r)) = Spelled.units (G.units u us) r

in_members : {at : ℕ} {k : List Part} {ts : List Lexeme} → Spelled (task_then (Part.Members ∷ k)) ts → Spelled (Part.Members ∷ k) (Lexeme.word keyword.Task at ∷ ts)
in_members (Spelled.name (Spelled.symbol (Spelled.body b (Spelled.members m r)))) = Spelled.members (G.tasks (G.task (G.block b)) m) r

sound_sign : (wanted s : Symbol) (ts : List Lexeme) (k : List Part) (b : Bool) → same_sign wanted s ≡ b → Sound (Part.Sign wanted) (Lexeme.sign s) ts k (taken_if b)
sound_sign wanted s ts k true h = λ d. subst (λ w. Spelled (Part.Sign wanted ∷ k) (Lexeme.sign w ∷ ts)) (sign_is wanted s h) (Spelled.symbol d)
sound_sign wanted s ts k false h = tt

sound_word : (wanted w : Keyword) (at : ℕ) (ts : List Lexeme) (k : List Part) (b : Bool) → same_word wanted w ≡ b → Sound (Part.Word wanted) (Lexeme.word w at) ts k (taken_if b)
sound_word wanted w at ts k true h = λ d. subst (λ v. Spelled (Part.Word wanted ∷ k) (Lexeme.word v at ∷ ts)) (word_is wanted w h) (Spelled.word d)
sound_word wanted w at ts k false h = tt

sound_body : (token : Lexeme) (ts : List Lexeme) (k : List Part) → Sound Part.Body token ts k (body_step token)
sound_body (Lexeme.sign sign.CloseBrace) ts k = λ d. Spelled.body G.close d
sound_body (Lexeme.name n) ts k = in_assign
sound_body (Lexeme.word keyword.Let at) ts k = in_let
sound_body (Lexeme.word keyword.If at) ts k = in_if
sound_body (Lexeme.word keyword.Repeat at) ts k = in_repeat
sound_body (Lexeme.word keyword.Next at) ts k = in_next
sound_body (Lexeme.word keyword.Halt at) ts k = in_halt
sound_body (Lexeme.word keyword.Give at) ts k = in_give
sound_body _ ts k = tt

sound_primary : (token : Lexeme) (ts : List Lexeme) (k : List Part) → Sound Part.Primary token ts k (primary_step token)
sound_primary (Lexeme.number n at) ts k = λ d. Spelled.primary G.number d
sound_primary (Lexeme.name n) ts k = in_name
sound_primary (Lexeme.sign sign.OpenParen) ts k = in_parens
sound_primary _ ts k = tt

as_operand : (token : Lexeme) (ts : List Lexeme) (k : List Part) (move : Move) → Sound Part.Primary token ts k move → Sound Part.Operand token ts k move
as_operand token ts k (Move.Take new) h = λ d. plainly (h d)
as_operand token ts k Move.Skip h = λ d. plainly (h d)
as_operand token ts k Move.Stop h = tt

sound_unary : (s : Symbol) (ts : List Lexeme) (k : List Part) (u : Option Op1) → unary_of s ≡ u → Sound Part.Operand (Lexeme.sign s) ts k (cond (is_some u) (Move.Take (Part.Primary ∷ [])) (primary_step (Lexeme.sign s)))
sound_unary s ts k (Some o) h = λ d. in_unary d where
  in_unary : Spelled (Part.Primary ∷ k) ts → Spelled (Part.Operand ∷ k) (Lexeme.sign s ∷ ts)
  in_unary (Spelled.primary d r) = Spelled.operand (G.one h d) r
sound_unary s ts k None h = as_operand (Lexeme.sign s) ts k (primary_step (Lexeme.sign s)) (sound_primary (Lexeme.sign s) ts k)

sound_operand : (token : Lexeme) (ts : List Lexeme) (k : List Part) → Sound Part.Operand token ts k (operand_step token)
sound_operand (Lexeme.sign s) ts k = sound_unary s ts k (unary_of s) refl
sound_operand (Lexeme.number n at) ts k = λ d. Spelled.operand (G.plain G.number) d
sound_operand (Lexeme.name n) ts k = λ d. plainly (in_name d)
sound_operand _ ts k = tt

sound_values : (token : Lexeme) (ts : List Lexeme) (k : List Part) (move : Move) → Sound Part.Operand token ts (Part.Ops 0 ∷ Part.More ∷ k) move → Sound Part.Values token ts k (values_step move)
sound_values token ts k (Move.Take new) h = λ d. in_values (h (subst (λ w. Spelled w ts) (append_assoc new (Part.Ops 0 ∷ Part.More ∷ []) k) d))
sound_values token ts k Move.Skip h = λ d. Spelled.values G.no_values d
sound_values token ts k Move.Stop h = λ d. Spelled.values G.no_values d

sound_ops : (i : ℕ) (s : Symbol) (ts : List Lexeme) (k : List Part) (o : Option Op) → operator_of s ≡ o → Sound (Part.Ops i) (Lexeme.sign s) ts k (cond (is_some o) (Move.Take (Part.Operand ∷ Part.Ops (i + 1) ∷ [])) Move.Skip)
sound_ops i s ts k (Some o) h = λ d. in_ops d where
  in_ops : Spelled (Part.Operand ∷ Part.Ops (i + 1) ∷ k) ts → Spelled (Part.Ops i ∷ k) (Lexeme.sign s ∷ ts)
  in_ops (Spelled.operand d (Spelled.ops c r)) = Spelled.ops (Chain.link h d c) r
sound_ops i s ts k None h = λ d. Spelled.ops Chain.none d

sound : (x : Part) (token : Lexeme) (ts : List Lexeme) (k : List Part) → Sound x token ts k (step x token)
sound (Part.Sign wanted) (Lexeme.sign s) ts k = sound_sign wanted s ts k (same_sign wanted s) refl
sound (Part.Sign wanted) _ ts k = tt
sound (Part.Word wanted) (Lexeme.word w at) ts k = sound_word wanted w at ts k (same_word wanted w) refl
sound (Part.Word wanted) _ ts k = tt
sound Part.AName (Lexeme.name n) ts k = λ d. Spelled.name d
sound Part.AName _ ts k = tt
sound Part.ANumber (Lexeme.number n at) ts k = λ d. Spelled.number d
sound Part.ANumber _ ts k = tt
sound Part.Variables (Lexeme.word keyword.Nv at) ts k = in_variables
sound Part.Variables _ ts k = λ d. Spelled.variables G.no_variables d
sound Part.Length (Lexeme.sign sign.OpenBracket) ts k = in_length
sound Part.Length _ ts k = λ d. Spelled.length G.no_length d
sound Part.Given (Lexeme.sign sign.Assign) ts k = in_given
sound Part.Given _ ts k = λ d. Spelled.given G.none_given d
sound Part.Init (Lexeme.number n at) ts k = λ d. Spelled.init G.one_given d
sound Part.Init (Lexeme.sign sign.OpenBrace) ts k = in_init
sound Part.Init _ ts k = tt
sound Part.Numbers (Lexeme.sign sign.Comma) ts k = in_numbers
sound Part.Numbers _ ts k = λ d. Spelled.numbers G.no_numbers d
sound Part.Buffer (Lexeme.word keyword.Buffer at) ts k = in_buffer
sound Part.Buffer _ ts k = λ d. Spelled.buffer G.no_buffer d
sound Part.Events (Lexeme.word keyword.Event at) ts k = in_event
sound Part.Events _ ts k = λ d. Spelled.events G.no_events d
sound Part.Params (Lexeme.name n) ts k = in_params
sound Part.Params _ ts k = λ d. Spelled.params G.no_params d
sound Part.Names (Lexeme.sign sign.Comma) ts k = in_names
sound Part.Names _ ts k = λ d. Spelled.names G.no_names d
sound Part.AUnit (Lexeme.word keyword.Task at) ts k = in_task
sound Part.AUnit (Lexeme.word keyword.Transaction at) ts k = in_transaction
sound Part.AUnit _ ts k = tt
sound Part.Units (Lexeme.word keyword.Task at) ts k = λ d. in_units (in_task d)
sound Part.Units (Lexeme.word keyword.Transaction at) ts k = λ d. in_units (in_transaction d)
sound Part.Units _ ts k = λ d. Spelled.units G.no_units d
sound Part.Members (Lexeme.word keyword.Task at) ts k = in_members
sound Part.Members _ ts k = λ d. Spelled.members G.no_tasks d
sound Part.Body token ts k = sound_body token ts k
sound Part.Otherwise (Lexeme.word keyword.Else at) ts k = in_else
sound Part.Otherwise _ ts k = λ d. Spelled.otherwise G.no_else d
sound Part.Values token ts k = sound_values token ts k (operand_step token) (sound_operand token ts (Part.Ops 0 ∷ Part.More ∷ k))
sound Part.More (Lexeme.sign sign.Comma) ts k = in_more
sound Part.More _ ts k = λ d. Spelled.more G.no_more d
sound Part.Operand token ts k = sound_operand token ts k
sound Part.Primary token ts k = sound_primary token ts k
sound Part.Index (Lexeme.sign sign.OpenBracket) ts k = in_index
sound Part.Index _ ts k = λ d. Spelled.index (λ n. (_, G.scalar)) d
sound (Part.Ops i) (Lexeme.sign s) ts k = sound_ops i s ts k (operator_of s) refl
sound (Part.Ops i) _ ts k = λ d. Spelled.ops Chain.none d

a_name : Name
a_name = record { text = []; at = 0 }

a_block : {ts : List Lexeme} → Reads (Form.Block []) (Lexeme.sign sign.OpenBrace ∷ Lexeme.sign sign.CloseBrace ∷ ts) ts
a_block = G.block G.close

-- each part stands for something
ending : (x : Part) (k : List Part) (ts : List Lexeme) → Spelled k ts → (us : List Lexeme) × Spelled (x ∷ k) us
ending (Part.Sign s) k ts d = (_, Spelled.symbol d)
ending (Part.Word w) k ts d = (_, Spelled.word {at = 0} d)
ending Part.AName k ts d = (_, Spelled.name {n = a_name} d)
ending Part.ANumber k ts d = (_, Spelled.number {n = 0} {at = 0} d)
ending Part.Variables k ts d = (_, Spelled.variables G.no_variables d)
ending Part.Length k ts d = (_, Spelled.length G.no_length d)
ending Part.Given k ts d = (_, Spelled.given G.none_given d)
ending Part.Init k ts d = (_, Spelled.init (G.one_given {n = 0} {at = 0}) d)
ending Part.Numbers k ts d = (_, Spelled.numbers G.no_numbers d)
ending Part.Buffer k ts d = (_, Spelled.buffer G.no_buffer d)
ending Part.Events k ts d = (_, Spelled.events G.no_events d)
ending Part.Params k ts d = (_, Spelled.params G.no_params d)
ending Part.Names k ts d = (_, Spelled.names G.no_names d)
ending Part.AUnit k ts d = (_, Spelled.unit (G.lone (G.task {name = a_name} {at = 0} a_block)) d)
ending Part.Units k ts d = (_, Spelled.units G.no_units d)
ending Part.Members k ts d = (_, Spelled.members G.no_tasks d)
ending Part.Body k ts d = (_, Spelled.body G.close d)
ending Part.Otherwise k ts d = (_, Spelled.otherwise G.no_else d)
ending Part.Values k ts d = (_, Spelled.values G.no_values d)
ending Part.More k ts d = (_, Spelled.more G.no_more d)
ending Part.Operand k ts d = (_, Spelled.operand (G.plain (G.number {n = 0} {at = 0})) d)
ending Part.Primary k ts d = (_, Spelled.primary (G.number {n = 0} {at = 0}) d)
ending Part.Index k ts d = (_, Spelled.index (λ n. (_, G.scalar)) d)
ending (Part.Ops i) k ts d = (_, Spelled.ops Chain.none d)

pub ends : (k : List Part) → (ts : List Lexeme) × Spelled k ts
ends [] = ([], Spelled.over)
ends (x ∷ k) = let r = ends k in ending x k r.0 r.1

abbrev pub FedSound : List Part → Lexeme → List Lexeme → Option (Bool × List Part) → Type 0
FedSound k token ts None = Unit {0}
FedSound k token ts (Some p) = Spelled p.1 ts → Spelled k (token ∷ ts)

over_to : (j k : List Part) (token : Lexeme) (ts : List Lexeme) (o : Option (Bool × List Part)) → (Spelled k (token ∷ ts) → Spelled j (token ∷ ts)) → FedSound k token ts o → FedSound j token ts o
over_to j k token ts None s h = tt
over_to j k token ts (Some p) s h = λ d. s (h d)

fed_sound : (x : Part) (token : Lexeme) (ts : List Lexeme) (k : List Part) (m : Move) → Sound x token ts k m → FedSound k token ts (feed k token) → FedSound (x ∷ k) token ts (fed (feed k token) k (is_full x) m)
fed_sound x token ts k (Move.Take new) s h = s
fed_sound x token ts k Move.Skip s h = over_to (x ∷ k) k token ts (feed k token) s h
fed_sound x token ts k Move.Stop s h = tt

-- a list that what is to come behind the token spells is spelled, behind the token, by what was to come before it
pub feed_sound : (token : Lexeme) (ts : List Lexeme) (k : List Part) → FedSound k token ts (feed k token)
feed_sound token ts [] = tt
feed_sound token ts (x ∷ k) = fed_sound x token ts k (step x token) (sound x token ts k) (feed_sound token ts k)

-- what the parts of a whole program spell is a program
pub program_of : (ts : List Lexeme) → Spelled whole_parts ts → (p : Program) × Derives ts p
program_of ts (Spelled.word (Spelled.name (Spelled.length l (Spelled.given g (Spelled.symbol (Spelled.variables vs (Spelled.buffer b (Spelled.events es (Spelled.unit u (Spelled.units us Spelled.over)))))))))) =
    (_, G.whole (G.variable l g) vs b es u us)

-- what may be left out is spelled by nothing
pub optional_spelled : (k : List Part) → are_optional k ≡ true → Spelled k []
optional_spelled [] h = Spelled.over
optional_spelled (Part.Variables ∷ k) h = Spelled.variables G.no_variables (optional_spelled k h)
optional_spelled (Part.Length ∷ k) h = Spelled.length G.no_length (optional_spelled k h)
optional_spelled (Part.Given ∷ k) h = Spelled.given G.none_given (optional_spelled k h)
optional_spelled (Part.Numbers ∷ k) h = Spelled.numbers G.no_numbers (optional_spelled k h)
optional_spelled (Part.Buffer ∷ k) h = Spelled.buffer G.no_buffer (optional_spelled k h)
optional_spelled (Part.Events ∷ k) h = Spelled.events G.no_events (optional_spelled k h)
optional_spelled (Part.Params ∷ k) h = Spelled.params G.no_params (optional_spelled k h)
optional_spelled (Part.Names ∷ k) h = Spelled.names G.no_names (optional_spelled k h)
optional_spelled (Part.Units ∷ k) h = Spelled.units G.no_units (optional_spelled k h)
optional_spelled (Part.Members ∷ k) h = Spelled.members G.no_tasks (optional_spelled k h)
optional_spelled (Part.Otherwise ∷ k) h = Spelled.otherwise G.no_else (optional_spelled k h)
optional_spelled (Part.Values ∷ k) h = Spelled.values G.no_values (optional_spelled k h)
optional_spelled (Part.More ∷ k) h = Spelled.more G.no_more (optional_spelled k h)
optional_spelled (Part.Index ∷ k) h = Spelled.index (λ n. (_, G.scalar)) (optional_spelled k h)
optional_spelled (Part.Ops i ∷ k) h = Spelled.ops Chain.none (optional_spelled k h)
optional_spelled (_ ∷ k) h = absurd (cc)
