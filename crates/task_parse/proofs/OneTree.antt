-- One list of tokens is one program.
use Rattle.std.proofs.Common.{◌≡◌, ◌≤◌, ◌<◌, ℕ, suc, List, [], ◌∷◌, refl, sym, ◌∙◌, subst, arith}
use Rattle.std.specs.Prelude.{Option, Some, None}
use Rattle.coati_word.specs.declared.operator.Op.{Op}
use Rattle.coati_word.specs.declared.operator.Op.TheVariants as op
use Rattle.coati_word.specs.declared.operator.Op1.{Op1}
use Rattle.task_lex.specs.declared.symbol.Symbol.{Symbol}
use Rattle.task_lex.specs.declared.symbol.Symbol.TheVariants as sign
use Rattle.task_syntax.specs.declared.expression.Expr.{Expr}
use Rattle.task_syntax.specs.declared.expression.Expr.TheVariants as tree
use Rattle.task_syntax.specs.declared.expression.Place.{Place}
use Rattle.task_syntax.specs.declared.name.Name.{Name}
use Rattle.task_syntax.specs.declared.name.Number.{Number}
use Rattle.task_syntax.specs.declared.program.Event.{Event}
use Rattle.task_syntax.specs.declared.program.Init.{Init}
use Rattle.task_syntax.specs.declared.program.Program.{Program}
use Rattle.task_syntax.specs.declared.program.TaskDecl.{TaskDecl}
use Rattle.task_syntax.specs.declared.program.UnitDecl.{UnitDecl}
use Rattle.task_syntax.specs.declared.program.Var.{Var}
use Rattle.task_syntax.specs.declared.statement.Stmt.{Stmt}
use Rattle.task_parse.specs.Grammar as G
use Rattle.task_parse.specs.Grammar.{Reads, Form, Derives}
use Rattle.task_parse.specs.Lexeme.{Lexeme}
use Rattle.task_parse.specs.Machine.{Part, Move, step}
use Rattle.task_parse.specs.Operators.{level, operator_of, unary_of}
use Rattle.task_parse.proofs.Accepts.{expr_begins}
use Rattle.task_parse.proofs.Steps.{from}
use Rattle.task_parse.proofs.Follow.{Skips, operator_no_index, rest_no_else, given_no_length, unit_begins, events_begin, buffer_begins}

-- the sign begins no index, and is no operator of at least level n
abbrev pub EndsSign : ℕ → Symbol → Option Op → Type 0
EndsSign n s (Some o) = level o < n
EndsSign n s None = step Part.Index (Lexeme.sign s) ≡ Move.Skip

-- the tokens don't go on with an index, nor with an operator of at least level n
abbrev pub Ends : ℕ → List Lexeme → Type 0
Ends n (Lexeme.sign s ∷ _) = EndsSign n s (operator_of s)
Ends n _ = Unit {0}

sign_ends : {n : ℕ} (s : Symbol) {o : Op} → operator_of s ≡ Some o → EndsSign n s (operator_of s) → level o < n
sign_ends {n} s h q = subst (EndsSign n s) h q

ends_sign : {n : ℕ} (s : Symbol) {o : Op} → operator_of s ≡ Some o → level o < n → EndsSign n s (operator_of s)
ends_sign {n} s h q = subst (EndsSign n s) (sym h) q

ends_more : (m n : ℕ) → m ≤ n → (ts : List Lexeme) → Ends m ts → Ends n ts
ends_more m n h [] q = tt
ends_more m n h (Lexeme.sign s ∷ _) q = by_operator (operator_of s) q where
  by_operator : (o : Option Op) → EndsSign m s o → EndsSign n s o
  by_operator (Some o) q = omega arith
  by_operator None q = q
ends_more m n h (_ ∷ _) q = tt

no_index : (n : ℕ) (ts : List Lexeme) → Ends n ts → Skips Part.Index ts
no_index n [] q = refl
no_index n (Lexeme.sign s ∷ _) q = by_operator (operator_of s) refl q where
  by_operator : (o : Option Op) → operator_of s ≡ o → EndsSign n s o → step Part.Index (Lexeme.sign s) ≡ Move.Skip
  by_operator (Some o) h q = operator_no_index s o h
  by_operator None h q = q
no_index n (Lexeme.name _ ∷ _) q = refl
no_index n (Lexeme.number _ _ ∷ _) q = refl
no_index n (Lexeme.word _ _ ∷ _) q = refl

level_top : (o : Op) → level o ≤ 7
level_top op.Or = omega arith
level_top _ = omega arith

-- from x on, with operators from level n to level l, z is made
pub data Grow (n : ℕ) : ℕ → Expr → List Lexeme → Expr → List Lexeme → Type 0 where
  stop : {l : ℕ} {x : Expr} {us : List Lexeme} → Grow n l x us x us
  go : {l : ℕ} {s : Symbol} {o : Op} {x y z : Expr} {us vs ws : List Lexeme} → operator_of s ≡ Some o → n ≤ level o → level o ≤ l
      → Reads (Form.Level (suc (level o)) y) us vs → Grow n (level o) (tree.Two o x y) vs z ws → Grow n l x (Lexeme.sign s ∷ us) z ws

wider : {n l m : ℕ} {x z : Expr} {us ws : List Lexeme} → l ≤ m → Grow n l x us z ws → Grow n m x us z ws
wider h (Grow.stop) = Grow.stop
wider h (Grow.go e a b d g) = Grow.go e a (omega arith) d g

pub record Spine (n : ℕ) (ts : List Lexeme) (z : Expr) (ws : List Lexeme) : Type 0 where
  pub first : Expr
  pub rest : List Lexeme
  pub reads : Reads (Form.Operand first) ts rest
  pub grows : Grow n 7 first rest z ws

spine : {m n : ℕ} {x z : Expr} {ts us ws : List Lexeme} → n ≤ m → Reads (Form.Level m x) ts us → Grow n m x us z ws → Spine n ts z ws
spine h (G.operand d) (Grow.stop) = record { first = _; rest = _; reads = d; grows = Grow.stop }
spine h (G.operand d) (Grow.go {o = o} e a b y g) = record { first = _; rest = _; reads = d; grows = Grow.go e a (level_top o) y g }
spine h (G.two e q a b) g = spine (omega arith) a (Grow.go e (omega arith) (omega arith) b (wider q g))

-- where the growth is over, it ends so; where it goes on, an operator stands there
ends_at : {n l : ℕ} {x z : Expr} {us ws : List Lexeme} → n ≤ suc l → Ends n ws → Grow n l x us z ws → Ends (suc l) us
ends_at {n} {l} {us = us} h q (Grow.stop) = ends_more n (suc l) h us q
ends_at h q (Grow.go e a b d g) = ends_sign _ e (omega arith)

grows_on : {n l : ℕ} {x z : Expr} {us ws : List Lexeme} → Ends n ws → Grow n l x us z ws → Skips Part.Index us
grows_on {n} {us = us} q (Grow.stop) = no_index n us q
grows_on q (Grow.go {s = s} {o = o} e a b d g) = operator_no_index s o e

narrow : {n l m : ℕ} {x z : Expr} {us ws : List Lexeme} → Ends (suc m) us → Grow n l x us z ws → Grow n m x us z ws
narrow q (Grow.stop) = Grow.stop
narrow q (Grow.go e a b d g) = let s = sign_ends _ e q in Grow.go e a (omega arith) d g

grown : {n l : ℕ} {x z : Expr} {us ws : List Lexeme} → Ends n us → Grow n l x us z ws → (x ≡ z) × (us ≡ ws)
grown q (Grow.stop) = (refl, refl)
grown q (Grow.go e a b d g) = let s = sign_ends _ e q in absurd (omega arith)

no_primary : {x : Expr} {s : Symbol} {o : Op1} {a b : List Lexeme} → unary_of s ≡ Some o → Reads (Form.Primary x) (Lexeme.sign s ∷ a) b → ⊥
no_primary h (G.get p) = elim p [ ]
no_primary h (G.parens d) = cc

no_statement : {x : Stmt} {a b : List Lexeme} → Reads (Form.Statement x) (Lexeme.sign sign.CloseBrace ∷ a) b → ⊥
no_statement (G.assign p x) = elim p [ ]

-- what a second reading of the tokens of an expression comes to
abbrev pub SameLevel : ℕ → Expr → List Lexeme → List Lexeme → Type 0
SameLevel m x ts us = (n : ℕ) (z : Expr) (ws : List Lexeme) → n ≤ m → Ends n ws → Ends (suc m) us → Reads (Form.Level n z) ts ws → Grow n m x us z ws

-- the growth by this operator
abbrev pub GoesBy : ℕ → ℕ → Expr → Expr → Expr → List Lexeme → List Lexeme → List Lexeme → Op → Type 0
GoesBy n l x y z us vs ws o = (n ≤ level o) × (level o ≤ l) × Reads (Form.Level (suc (level o)) y) us vs × Grow n (level o) (tree.Two o x y) vs z ws

-- behind a left operand stands its operator, and behind that the right one
second : {m n : ℕ} {s : Symbol} {o : Op} {x y z : Expr} {b us ws : List Lexeme} → operator_of s ≡ Some o → n ≤ m → m ≤ level o → Ends n ws → Ends (suc m) us
    → SameLevel (suc (level o)) y b us → Grow n (level o) x (Lexeme.sign s ∷ b) z ws → Grow n m (tree.Two o x y) us z ws
second e h k q r right (Grow.stop) = let s = sign_ends _ e q in absurd (omega arith)
second {m} {n} {s} {o} {x} {y} {z} {b} {us} {ws} e h k q r right (Grow.go {o = o2} {y = y2} {vs = vs} e2 a l d g) =
    let same : o2 ≡ o = (let f : Some o2 ≡ Some o = sym e2 ∙ e in cc) in
    let by : GoesBy n (level o) x y2 z b vs ws o = subst (GoesBy n (level o) x y2 z b vs ws) same (a, l, d, g) in
    let s = grown (ends_more (suc m) (suc (level o)) (omega arith) us r)
    (right (suc (level o)) y2 vs (omega arith) (ends_at (omega arith) q by.3) (ends_more (suc m) (suc (suc (level o))) (omega arith) us r) by.2) in
    narrow r (subst (λ w. Grow n (level o) (tree.Two o x w) us z ws) (sym s.0) (subst (λ w. Grow n (level o) (tree.Two o x y2) w z ws) (sym s.1) by.3))

-- a whole expression in front of what ends it
whole : {x z : Expr} {ts us ws : List Lexeme} → SameLevel 0 x ts us → Ends 0 us → Ends 0 ws → Reads (Form.Level 0 z) ts ws → (x ≡ z) × (us ≡ ws)
whole {us = us} d q r f = grown q (d 0 _ _ (omega arith) r (ends_more 0 1 (omega arith) us q) f)

mutual
  primary : {x z : Expr} {ts us ws : List Lexeme} → Reads (Form.Primary x) ts us → Skips Part.Index us → Skips Part.Index ws → Reads (Form.Primary z) ts ws → (x ≡ z) × (us ≡ ws)
  primary (G.number) q r (G.number) = (refl, refl)
  primary (G.number) q r (G.get p) = elim p [ ]
  primary (G.get d) q r (G.number) = elim d [ ]
  primary (G.get d) q r (G.get f) = let s = place d q r f in (cc, cc)
  primary (G.get d) q r (G.parens f) = elim d [ ]
  primary (G.parens d) q r (G.get f) = elim f [ ]
  primary (G.parens d) q r (G.parens f) = let s = whole (expr d) refl refl f in (cc, cc)

  operand : {x z : Expr} {ts us ws : List Lexeme} → Reads (Form.Operand x) ts us → Skips Part.Index us → Skips Part.Index ws → Reads (Form.Operand z) ts ws → (x ≡ z) × (us ≡ ws)
  operand (G.plain d) q r (G.plain f) = primary d q r f
  operand (G.plain d) q r (G.one h f) = absurd (no_primary h d)
  operand (G.one h d) q r (G.plain f) = absurd (no_primary h f)
  operand (G.one {o = o} h d) q r (G.one {o = o2} k f) =
      let same : o ≡ o2 = (let f : Some o ≡ Some o2 = sym h ∙ k in cc) in
      let s = primary d q r f in (cc, cc)

  expr : {m : ℕ} {x : Expr} {ts us : List Lexeme} → Reads (Form.Level m x) ts us → SameLevel m x ts us
  expr {us = us} (G.operand {n = m} {x = x} d) = λ n z ws h q r f.
      let p = spine (omega arith) f Grow.stop in
      let s = operand d (no_index (suc m) us r) (grows_on q p.grows) p.reads in
      narrow r (subst (λ w. Grow n 7 w us z ws) (sym s.0) (subst (λ w. Grow n 7 p.first w z ws) (sym s.1) p.grows))
  expr (G.two {o = o} i k a b) = λ n z ws h q r f. second i h k q r (expr b) (expr a n z ws (omega arith) q (ends_sign _ i (omega arith)) f)

  place : {p p2 : Place} {ts us ws : List Lexeme} → Reads (Form.Target p) ts us → Skips Part.Index us → Skips Part.Index ws → Reads (Form.Target p2) ts ws → (p ≡ p2) × (us ≡ ws)
  place (G.scalar) q r (G.scalar) = (refl, refl)
  place (G.scalar) q r (G.item f) = absurd (cc)
  place (G.item d) q r (G.scalar) = absurd (cc)
  place (G.item d) q r (G.item f) = let s = whole (expr d) refl refl f in (cc, cc)

more_ends : {xs : List Expr} {a r : List Lexeme} → Reads (Form.More xs) a (Lexeme.sign sign.Semicolon ∷ r) → Ends 0 a
more_ends (G.no_more) = refl
more_ends (G.one_more x d) = refl

more : {xs zs : List Expr} {ts us ws : List Lexeme} → Reads (Form.More xs) ts (Lexeme.sign sign.Semicolon ∷ us) → Reads (Form.More zs) ts (Lexeme.sign sign.Semicolon ∷ ws) → (xs ≡ zs) × (us ≡ ws)
more (G.no_more) (G.no_more) = (refl, refl)
more (G.one_more x d) (G.one_more y f) =
    let s = whole (expr x) (more_ends d) (more_ends f) y in
    let b = more d (from s.1 f) in (cc, b.1)

values : {xs zs : List Expr} {ts us ws : List Lexeme} → Reads (Form.Values xs) ts (Lexeme.sign sign.Semicolon ∷ us) → Reads (Form.Values zs) ts (Lexeme.sign sign.Semicolon ∷ ws) → (xs ≡ zs) × (us ≡ ws)
values (G.no_values) (G.no_values) = (refl, refl)
values (G.no_values) (G.values y f) = let b = expr_begins y in let t = b.takes in absurd (cc)
values (G.values x d) (G.no_values) = let b = expr_begins x in let t = b.takes in absurd (cc)
values (G.values x d) (G.values y f) =
    let s = whole (expr x) (more_ends d) (more_ends f) y in
    let b = more d (from s.1 f) in (cc, b.1)

mutual
  statement : {x z : Stmt} {ts us ws : List Lexeme} → Reads (Form.Statement x) ts us → Skips Part.Otherwise us → Skips Part.Otherwise ws → Reads (Form.Statement z) ts ws → (x ≡ z) × (us ≡ ws)
  statement (G.declare d) q r (G.declare f) = let s = whole (expr d) refl refl f in (cc, cc)
  statement (G.declare d) q r (G.assign f y) = elim f [ ]
  statement (G.assign d x) q r (G.declare f) = elim d [ ]
  statement (G.assign d x) q r (G.assign f y) =
      let s = place d refl refl f in
      let b = whole (expr x) refl refl (from (cc) y) in (cc, cc)
  statement (G.assign d x) q r (G.choose y f p) = elim d [ ]
  statement (G.assign d x) q r (G.loop f) = elim d [ ]
  statement (G.assign d x) q r (G.next) = elim d [ ]
  statement (G.assign d x) q r (G.halt) = elim d [ ]
  statement (G.assign d x) q r (G.give f) = elim d [ ]
  statement (G.choose x d o) q r (G.assign f y) = elim f [ ]
  statement (G.choose x (G.block d) o) q r (G.choose y (G.block f) p) =
      let s = whole (expr x) refl refl y in
      let b = rest d (from (cc) f) in
      let c = other o q r (from b.1 p) in (cc, c.1)
  statement (G.loop d) q r (G.assign f y) = elim f [ ]
  statement (G.loop (G.block d)) q r (G.loop (G.block f)) = let s = rest d f in (cc, s.1)
  statement (G.next) q r (G.assign f y) = elim f [ ]
  statement (G.next) q r (G.next) = (refl, refl)
  statement (G.halt) q r (G.assign f y) = elim f [ ]
  statement (G.halt) q r (G.halt) = (refl, refl)
  statement (G.give d) q r (G.assign f y) = elim f [ ]
  statement (G.give d) q r (G.give f) = let s = values d f in (cc, s.1)

  other : {x z : Option (List Stmt)} {ts us ws : List Lexeme} → Reads (Form.Otherwise x) ts us → Skips Part.Otherwise us → Skips Part.Otherwise ws → Reads (Form.Otherwise z) ts ws → (x ≡ z) × (us ≡ ws)
  other (G.no_else) q r (G.no_else) = (refl, refl)
  other (G.no_else) q r (G.otherwise f) = absurd (cc)
  other (G.otherwise d) q r (G.no_else) = absurd (cc)
  other (G.otherwise (G.block d)) q r (G.otherwise (G.block f)) = let s = rest d f in (cc, s.1)

  rest : {x z : List Stmt} {ts us ws : List Lexeme} → Reads (Form.Rest x) ts us → Reads (Form.Rest z) ts ws → (x ≡ z) × (us ≡ ws)
  rest (G.close) (G.close) = (refl, refl)
  rest (G.close) (G.more f g) = absurd (no_statement f)
  rest (G.more d e) (G.close) = absurd (no_statement d)
  rest (G.more d e) (G.more f g) =
      let s = statement d (rest_no_else e) (rest_no_else g) f in
      let b = rest e (from s.1 g) in (cc, b.1)

block : {x z : List Stmt} {ts us ws : List Lexeme} → Reads (Form.Block x) ts us → Reads (Form.Block z) ts ws → (x ≡ z) × (us ≡ ws)
block (G.block d) (G.block f) = rest d f

numbers : {x z : List ℕ} {ts us ws : List Lexeme} → Reads (Form.Numbers x) ts us → Skips Part.Numbers us → Skips Part.Numbers ws → Reads (Form.Numbers z) ts ws → (x ≡ z) × (us ≡ ws)
numbers (G.no_numbers) q r (G.no_numbers) = (refl, refl)
numbers (G.no_numbers) q r (G.numbers f) = absurd (cc)
numbers (G.numbers d) q r (G.no_numbers) = absurd (cc)
numbers (G.numbers d) q r (G.numbers f) = let s = numbers d q r f in (cc, s.1)

len : {x z : Option ℕ} {ts us ws : List Lexeme} → Reads (Form.Length x) ts us → Skips Part.Length us → Skips Part.Length ws → Reads (Form.Length z) ts ws → (x ≡ z) × (us ≡ ws)
len (G.no_length) q r (G.no_length) = (refl, refl)
len (G.no_length) q r (G.length) = absurd (cc)
len (G.length) q r (G.no_length) = absurd (cc)
len (G.length) q r (G.length) = (refl, refl)

given : {x z : Init} {ts us ws : List Lexeme} → Reads (Form.Given x) ts (Lexeme.sign sign.Semicolon ∷ us) → Reads (Form.Given z) ts (Lexeme.sign sign.Semicolon ∷ ws) → (x ≡ z) × (us ≡ ws)
given (G.none_given) (G.none_given) = (refl, refl)
given (G.one_given) (G.one_given) = (refl, refl)
given (G.many_given d) (G.many_given f) = let s = numbers d refl refl f in (cc, cc)

variable : {x z : Var} {ts us ws : List Lexeme} → Reads (Form.Variable x) ts us → Reads (Form.Variable z) ts ws → (x ≡ z) × (us ≡ ws)
variable (G.variable d e) (G.variable f g) =
    let s = len d (given_no_length e) (given_no_length g) f in
    let b = given e (from s.1 g) in (cc, b.1)

variables : {x z : List Var} {ts us ws : List Lexeme} → Reads (Form.Variables x) ts us → Skips Part.Variables us → Skips Part.Variables ws → Reads (Form.Variables z) ts ws → (x ≡ z) × (us ≡ ws)
variables (G.no_variables) q r (G.no_variables) = (refl, refl)
variables (G.no_variables) q r (G.variables (G.variable f g) h) = absurd (cc)
variables (G.variables (G.variable d e) h) q r (G.no_variables) = absurd (cc)
variables (G.variables d e) q r (G.variables f g) =
    let s = variable d f in
    let b = variables e q r (from s.1 g) in (cc, b.1)

buffer : {x z : Option Number} {ts us ws : List Lexeme} → Reads (Form.Buffer x) ts us → Skips Part.Buffer us → Skips Part.Buffer ws → Reads (Form.Buffer z) ts ws → (x ≡ z) × (us ≡ ws)
buffer (G.no_buffer) q r (G.no_buffer) = (refl, refl)
buffer (G.no_buffer) q r (G.buffer) = absurd (cc)
buffer (G.buffer) q r (G.no_buffer) = absurd (cc)
buffer (G.buffer) q r (G.buffer) = (refl, refl)

names : {x z : List Name} {ts us ws : List Lexeme} → Reads (Form.Names x) ts us → Skips Part.Names us → Skips Part.Names ws → Reads (Form.Names z) ts ws → (x ≡ z) × (us ≡ ws)
names (G.no_names) q r (G.no_names) = (refl, refl)
names (G.no_names) q r (G.names f) = absurd (cc)
names (G.names d) q r (G.no_names) = absurd (cc)
names (G.names d) q r (G.names f) = let s = names d q r f in (cc, s.1)

params : {x z : List Name} {ts us ws : List Lexeme} → Reads (Form.Params x) ts (Lexeme.sign sign.CloseParen ∷ us) → Reads (Form.Params z) ts (Lexeme.sign sign.CloseParen ∷ ws) → (x ≡ z) × (us ≡ ws)
params (G.no_params) (G.no_params) = (refl, refl)
params (G.params d) (G.params f) = let s = names d refl refl f in (cc, cc)

event : {x z : Event} {ts us ws : List Lexeme} → Reads (Form.OneEvent x) ts us → Reads (Form.OneEvent z) ts ws → (x ≡ z) × (us ≡ ws)
event (G.event t p b) (G.event t2 p2 b2) =
    let s = block t t2 in
    let m = params p (from (cc) p2) in
    let u = block b (from m.1 b2) in (cc, cc)

events : {x z : List Event} {ts us ws : List Lexeme} → Reads (Form.Events x) ts us → Skips Part.Events us → Skips Part.Events ws → Reads (Form.Events z) ts ws → (x ≡ z) × (us ≡ ws)
events (G.no_events) q r (G.no_events) = (refl, refl)
events (G.no_events) q r (G.events (G.event t p b) g) = absurd (cc)
events (G.events (G.event t p b) e) q r (G.no_events) = absurd (cc)
events (G.events d e) q r (G.events f g) =
    let s = event d f in
    let b = events e q r (from s.1 g) in (cc, b.1)

task : {x z : TaskDecl} {ts us ws : List Lexeme} → Reads (Form.Task x) ts us → Reads (Form.Task z) ts ws → (x ≡ z) × (us ≡ ws)
task (G.task d) (G.task f) = let s = block d f in (cc, s.1)

tasks : {x z : List TaskDecl} {ts us ws : List Lexeme} → Reads (Form.Tasks x) ts us → Skips Part.Members us → Skips Part.Members ws → Reads (Form.Tasks z) ts ws → (x ≡ z) × (us ≡ ws)
tasks (G.no_tasks) q r (G.no_tasks) = (refl, refl)
tasks (G.no_tasks) q r (G.tasks (G.task f) g) = absurd (cc)
tasks (G.tasks (G.task d) e) q r (G.no_tasks) = absurd (cc)
tasks (G.tasks d e) q r (G.tasks f g) =
    let s = task d f in
    let b = tasks e q r (from s.1 g) in (cc, b.1)

unit : {x z : UnitDecl} {ts us ws : List Lexeme} → Reads (Form.OneUnit x) ts us → Reads (Form.OneUnit z) ts ws → (x ≡ z) × (us ≡ ws)
unit (G.lone d) (G.lone f) = let s = task d f in (cc, s.1)
unit (G.lone d) (G.transaction f g) = elim d [ ]
unit (G.transaction d e) (G.lone f) = elim f [ ]
unit (G.transaction d e) (G.transaction f g) =
    let s = task d f in
    let b = tasks e refl refl (from s.1 g) in (cc, cc)

units : {x z : List UnitDecl} {ts us ws : List Lexeme} → Reads (Form.Units x) ts us → Skips Part.Units us → Skips Part.Units ws → Reads (Form.Units z) ts ws → (x ≡ z) × (us ≡ ws)
units (G.no_units) q r (G.no_units) = (refl, refl)
units (G.no_units) q r (G.units (G.lone (G.task f)) g) = absurd (cc)
units (G.no_units) q r (G.units (G.transaction f h) g) = absurd (cc)
units (G.units (G.lone (G.task d)) e) q r (G.no_units) = absurd (cc)
units (G.units (G.transaction d h) e) q r (G.no_units) = absurd (cc)
units (G.units d e) q r (G.units f g) =
    let s = unit d f in
    let b = units e q r (from s.1 g) in (cc, b.1)

pub program : {p q : Program} {ts : List Lexeme} → Derives ts p → Derives ts q → p ≡ q
program (G.whole v vs size es u us) (G.whole v2 vs2 size2 es2 u2 us2) =
    let b = unit_begins u in
    let b2 = unit_begins u2 in
    let c = events_begin es b.0 b.1 in
    let c2 = events_begin es2 b2.0 b2.1 in
    let s = variable v v2 in
    let t = variables vs (buffer_begins size c.0) (buffer_begins size2 c2.0) (from s.1 vs2) in
    let w = buffer size c.1 c2.1 (from t.1 size2) in
    let x = events es b.2 b2.2 (from w.1 es2) in
    let y = unit u (from x.1 u2) in
    let z = units us refl refl (from y.1 us2) in cc
