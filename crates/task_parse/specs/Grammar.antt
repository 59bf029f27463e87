-- The grammar. `Reads part old new` says that the list `old` begins with a spelling of the part,
-- behind which `new` stands.
use Rattle.std.specs.Prelude.{ℕ, suc, ◌≡◌, ◌≤◌, List, [], ◌∷◌, Option, Some, None}
use Rattle.coati_word.specs.declared.operator.Op.{Op}
use Rattle.coati_word.specs.declared.operator.Op1.{Op1}
use Rattle.task_lex.specs.declared.keyword.Keyword.TheVariants as keyword
use Rattle.task_lex.specs.declared.symbol.Symbol.{Symbol}
use Rattle.task_lex.specs.declared.symbol.Symbol.TheVariants as sign
use Rattle.task_syntax.specs.declared.expression.Expr.{Expr}
use Rattle.task_syntax.specs.declared.expression.Expr.TheVariants as e
use Rattle.task_syntax.specs.declared.expression.Place.{Place}
use Rattle.task_syntax.specs.declared.expression.Place.TheVariants as place
use Rattle.task_syntax.specs.declared.name.Name.{Name}
use Rattle.task_syntax.specs.declared.name.Number.{Number}
use Rattle.task_syntax.specs.declared.program.Event.{Event}
use Rattle.task_syntax.specs.declared.program.Init.{Init}
use Rattle.task_syntax.specs.declared.program.Init.TheVariants as init
use Rattle.task_syntax.specs.declared.program.Program.{Program}
use Rattle.task_syntax.specs.declared.program.TaskDecl.{TaskDecl}
use Rattle.task_syntax.specs.declared.program.UnitDecl.{UnitDecl}
use Rattle.task_syntax.specs.declared.program.UnitDecl.TheVariants as unit
use Rattle.task_syntax.specs.declared.program.Var.{Var}
use Rattle.task_syntax.specs.declared.statement.Stmt.{Stmt}
use Rattle.task_syntax.specs.declared.statement.Stmt.TheVariants as s
use Rattle.task_parse.specs.Lexeme.{Lexeme}
use Rattle.task_parse.specs.Operators.{level, operator_of, unary_of}

-- the parts of a text, each with its tree
pub data Form : Type 0 where
  -- a number, a place, or an expression in parentheses
  Primary : Expr → Form
  -- a primary, with a unary operator before it or not
  Operand : Expr → Form
  -- an expression whose operators outside of brackets have at least this level
  Level : ℕ → Expr → Form
  -- a name, with an index behind it or not
  Target : Place → Form
  -- expressions, each behind a comma
  More : List Expr → Form
  -- expressions with commas between them, or nothing
  Values : List Expr → Form
  Statement : Stmt → Form
  -- statements and the brace that closes their block
  Rest : List Stmt → Form
  Block : List Stmt → Form
  -- `else` and its block, or nothing
  Otherwise : Option (List Stmt) → Form
  -- numbers, each behind a comma
  Numbers : List ℕ → Form
  -- the length of an array in brackets, or nothing
  Length : Option ℕ → Form
  -- what a variable holds at first, behind `=`, or nothing
  Given : Init → Form
  Variable : Var → Form
  Variables : List Var → Form
  -- the size of the buffer, or nothing
  Buffer : Option Number → Form
  -- names, each behind a comma
  Names : List Name → Form
  -- names with commas between them, or nothing
  Params : List Name → Form
  OneEvent : Event → Form
  Events : List Event → Form
  Task : TaskDecl → Form
  Tasks : List TaskDecl → Form
  OneUnit : UnitDecl → Form
  Units : List UnitDecl → Form
  Whole : Program → Form

pub data Reads : Form → List Lexeme → List Lexeme → Type 0 where
  number : {n at : ℕ} {r : List Lexeme} → Reads (Form.Primary (e.Num n)) (Lexeme.number n at ∷ r) r
  get : {p : Place} {a b : List Lexeme} → Reads (Form.Target p) a b →
      Reads (Form.Primary (e.Get p)) a b
  parens : {x : Expr} {a r : List Lexeme} → Reads (Form.Level 0 x) a
      (Lexeme.sign sign.CloseParen ∷ r)
      → Reads (Form.Primary x) (Lexeme.sign sign.OpenParen ∷ a) r
  plain : {x : Expr} {a b : List Lexeme} → Reads (Form.Primary x) a b → Reads (Form.Operand x) a b
  one : {symbol : Symbol} {o : Op1} {x : Expr} {a b : List Lexeme} → unary_of symbol ≡ Some o →
      Reads (Form.Primary x) a b
      → Reads (Form.Operand (e.One o x)) (Lexeme.sign symbol ∷ a) b
  -- An expression of a level is an operand, or two expressions that an operator of at least that
  -- level joins. The left one may have operators of the same level, the right one has only tighter
  -- ones: each level groups to the left.
  operand : {n : ℕ} {x : Expr} {a b : List Lexeme} → Reads (Form.Operand x) a b →
      Reads (Form.Level n x) a b
  two : {n : ℕ} {symbol : Symbol} {o : Op} {x y : Expr} {a b c : List Lexeme} →
      operator_of symbol ≡ Some o → n ≤ level o
      → Reads (Form.Level (level o) x) a (Lexeme.sign symbol ∷ b) →
      Reads (Form.Level (suc (level o)) y) b c
      → Reads (Form.Level n (e.Two o x y)) a c
  scalar : {name : Name} {r : List Lexeme} → Reads (Form.Target (place.Plain name))
      (Lexeme.name name ∷ r) r
  item : {name : Name} {i : Expr} {a r : List Lexeme} →
      Reads (Form.Level 0 i) a (Lexeme.sign sign.CloseBracket ∷ r)
      → Reads (Form.Target (place.Item name i)) (Lexeme.name name
      ∷ Lexeme.sign sign.OpenBracket ∷ a) r
  no_more : {r : List Lexeme} → Reads (Form.More []) r r
  one_more : {x : Expr} {xs : List Expr} {a b c : List Lexeme} → Reads (Form.Level 0 x) a b →
      Reads (Form.More xs) b c
      → Reads (Form.More (x ∷ xs)) (Lexeme.sign sign.Comma ∷ a) c
  no_values : {r : List Lexeme} → Reads (Form.Values []) r r
  values : {x : Expr} {xs : List Expr} {a b c : List Lexeme} → Reads (Form.Level 0 x) a b →
      Reads (Form.More xs) b c
      → Reads (Form.Values (x ∷ xs)) a c
  declare : {name : Name} {x : Expr} {at : ℕ} {a r : List Lexeme} →
      Reads (Form.Level 0 x) a (Lexeme.sign sign.Semicolon ∷ r)
      → Reads (Form.Statement (s.Let name x)) (Lexeme.word keyword.Let at ∷ Lexeme.name name
      ∷ Lexeme.sign sign.Assign ∷ a) r
  assign : {p : Place} {x : Expr} {a b r : List Lexeme} →
      Reads (Form.Target p) a (Lexeme.sign sign.Assign ∷ b)
      → Reads (Form.Level 0 x) b (Lexeme.sign sign.Semicolon ∷ r) →
      Reads (Form.Statement (s.Assign p x)) a r
  choose : {x : Expr} {first : List Stmt} {second : Option (List Stmt)} {at : ℕ}
      {a b c r : List Lexeme}
      → Reads (Form.Level 0 x) a b → Reads (Form.Block first) b c →
      Reads (Form.Otherwise second) c r
      → Reads (Form.Statement (s.If x first second)) (Lexeme.word keyword.If at ∷ a) r
  loop : {name : Name} {n at number_at : ℕ} {ss : List Stmt} {a r : List Lexeme} →
      Reads (Form.Block ss) a r
      → Reads (Form.Statement (s.Repeat name n ss))
      (Lexeme.word keyword.Repeat at ∷ Lexeme.name name ∷ Lexeme.sign sign.Below
      ∷ Lexeme.number n number_at ∷ a) r
  next : {name : Name} {at : ℕ} {r : List Lexeme}
      → Reads (Form.Statement (s.Next name)) (Lexeme.word keyword.Next at ∷ Lexeme.name name
      ∷ Lexeme.sign sign.Semicolon ∷ r) r
  halt : {at : ℕ} {r : List Lexeme}
      → Reads (Form.Statement (s.Halt at)) (Lexeme.word keyword.Halt at
      ∷ Lexeme.sign sign.Semicolon ∷ r) r
  give : {xs : List Expr} {at : ℕ} {a r : List Lexeme} →
      Reads (Form.Values xs) a (Lexeme.sign sign.Semicolon ∷ r)
      → Reads (Form.Statement (s.Give xs at)) (Lexeme.word keyword.Give at ∷ a) r
  close : {r : List Lexeme} → Reads (Form.Rest []) (Lexeme.sign sign.CloseBrace ∷ r) r
  more : {first : Stmt} {ss : List Stmt} {a b c : List Lexeme} → Reads (Form.Statement first) a b →
      Reads (Form.Rest ss) b c
      → Reads (Form.Rest (first ∷ ss)) a c
  block : {ss : List Stmt} {a b : List Lexeme} → Reads (Form.Rest ss) a b
      → Reads (Form.Block ss) (Lexeme.sign sign.OpenBrace ∷ a) b
  no_else : {r : List Lexeme} → Reads (Form.Otherwise None) r r
  otherwise : {ss : List Stmt} {at : ℕ} {a b : List Lexeme} → Reads (Form.Block ss) a b
      → Reads (Form.Otherwise (Some ss)) (Lexeme.word keyword.Else at ∷ a) b
  no_numbers : {r : List Lexeme} → Reads (Form.Numbers []) r r
  numbers : {n at : ℕ} {ns : List ℕ} {a r : List Lexeme} → Reads (Form.Numbers ns) a r
      → Reads (Form.Numbers (n ∷ ns)) (Lexeme.sign sign.Comma ∷ Lexeme.number n at ∷ a) r
  no_length : {r : List Lexeme} → Reads (Form.Length None) r r
  length : {n at : ℕ} {r : List Lexeme}
      → Reads (Form.Length (Some n)) (Lexeme.sign sign.OpenBracket ∷ Lexeme.number n at
      ∷ Lexeme.sign sign.CloseBracket ∷ r) r
  none_given : {r : List Lexeme} → Reads (Form.Given init.None) r r
  one_given : {n at : ℕ} {r : List Lexeme}
      → Reads (Form.Given (init.One n)) (Lexeme.sign sign.Assign ∷ Lexeme.number n at ∷ r) r
  many_given : {n at : ℕ} {ns : List ℕ} {a r : List Lexeme} →
      Reads (Form.Numbers ns) a (Lexeme.sign sign.CloseBrace ∷ r)
      → Reads (Form.Given (init.Many (n ∷ ns))) (Lexeme.sign sign.Assign
      ∷ Lexeme.sign sign.OpenBrace ∷ Lexeme.number n at ∷ a) r
  variable : {name : Name} {len : Option ℕ} {given : Init} {at : ℕ} {a b r : List Lexeme}
      → Reads (Form.Length len) a b → Reads (Form.Given given) b (Lexeme.sign sign.Semicolon ∷ r)
      → Reads (Form.Variable (record { name = name; length = len; init = given }))
      (Lexeme.word keyword.Nv at ∷ Lexeme.name name ∷ a) r
  no_variables : {r : List Lexeme} → Reads (Form.Variables []) r r
  variables : {v : Var} {vs : List Var} {a b r : List Lexeme} → Reads (Form.Variable v) a b →
      Reads (Form.Variables vs) b r
      → Reads (Form.Variables (v ∷ vs)) a r
  no_buffer : {r : List Lexeme} → Reads (Form.Buffer None) r r
  buffer : {n number_at at : ℕ} {r : List Lexeme}
      → Reads (Form.Buffer (Some (record { value = n; at = number_at })))
      (Lexeme.word keyword.Buffer at ∷ Lexeme.number n number_at
      ∷ Lexeme.sign sign.Semicolon ∷ r) r
  no_names : {r : List Lexeme} → Reads (Form.Names []) r r
  names : {name : Name} {ns : List Name} {a r : List Lexeme} → Reads (Form.Names ns) a r
      → Reads (Form.Names (name ∷ ns)) (Lexeme.sign sign.Comma ∷ Lexeme.name name ∷ a) r
  no_params : {r : List Lexeme} → Reads (Form.Params []) r r
  params : {name : Name} {ns : List Name} {a r : List Lexeme} → Reads (Form.Names ns) a r
      → Reads (Form.Params (name ∷ ns)) (Lexeme.name name ∷ a) r
  event : {name argument : Name} {top bottom : List Stmt} {ns : List Name}
      {at top_at bottom_at : ℕ} {a b c r : List Lexeme}
      → Reads (Form.Block top) a (Lexeme.word keyword.Bottom bottom_at
      ∷ Lexeme.sign sign.OpenParen ∷ b)
      → Reads (Form.Params ns) b (Lexeme.sign sign.CloseParen ∷ c)
      → Reads (Form.Block bottom) c (Lexeme.sign sign.CloseBrace ∷ r)
      → Reads (Form.OneEvent (record {
        name = name;
        argument = argument;
        top = top;
        params = ns;
        bottom = bottom;
      }))
      (Lexeme.word keyword.Event at ∷ Lexeme.name name ∷ Lexeme.sign sign.OpenParen
      ∷ Lexeme.name argument
      ∷ Lexeme.sign sign.CloseParen ∷ Lexeme.sign sign.OpenBrace
      ∷ Lexeme.word keyword.Top top_at ∷ a) r
  no_events : {r : List Lexeme} → Reads (Form.Events []) r r
  events : {v : Event} {vs : List Event} {a b r : List Lexeme} → Reads (Form.OneEvent v) a b →
      Reads (Form.Events vs) b r
      → Reads (Form.Events (v ∷ vs)) a r
  task : {name : Name} {ss : List Stmt} {at : ℕ} {a r : List Lexeme} → Reads (Form.Block ss) a r
      → Reads (Form.Task (record { name = name; body = ss })) (Lexeme.word keyword.Task at
      ∷ Lexeme.name name ∷ a) r
  no_tasks : {r : List Lexeme} → Reads (Form.Tasks []) r r
  tasks : {t : TaskDecl} {ts : List TaskDecl} {a b r : List Lexeme} → Reads (Form.Task t) a b →
      Reads (Form.Tasks ts) b r
      → Reads (Form.Tasks (t ∷ ts)) a r
  lone : {t : TaskDecl} {a r : List Lexeme} → Reads (Form.Task t) a r →
      Reads (Form.OneUnit (unit.Lone t)) a r
  transaction : {name : Name} {t : TaskDecl} {ts : List TaskDecl} {at : ℕ} {a b r : List Lexeme} →
      Reads (Form.Task t) a b
      → Reads (Form.Tasks ts) b (Lexeme.sign sign.CloseBrace ∷ r)
      → Reads (Form.OneUnit (unit.Tx (record { name = name; tasks = t ∷ ts })))
      (Lexeme.word keyword.Transaction at ∷ Lexeme.name name ∷ Lexeme.sign sign.OpenBrace ∷ a) r
  no_units : {r : List Lexeme} → Reads (Form.Units []) r r
  units : {u : UnitDecl} {us : List UnitDecl} {a b r : List Lexeme} → Reads (Form.OneUnit u) a b →
      Reads (Form.Units us) b r
      → Reads (Form.Units (u ∷ us)) a r
  whole : {v : Var} {vs : List Var} {size : Option Number} {es : List Event} {u : UnitDecl}
      {us : List UnitDecl}
      {old behind_first behind_variables behind_buffer behind_events behind_unit new : List Lexeme}
      → Reads (Form.Variable v) old behind_first →
      Reads (Form.Variables vs) behind_first behind_variables
      → Reads (Form.Buffer size) behind_variables behind_buffer →
      Reads (Form.Events es) behind_buffer behind_events
      → Reads (Form.OneUnit u) behind_events behind_unit → Reads (Form.Units us) behind_unit new
      → Reads (Form.Whole (record {
        vars = v ∷ vs;
        buffer = size;
        events = es;
        units = u ∷ us;
      })) old new

-- the list, and nothing behind it, is the program
abbrev pub Derives : List Lexeme → Program → Type 0
Derives list program = Reads (Form.Whole program) list []
