-- The code of a body: a template for each layer of its tree.
use Rattle.std.specs.Prelude.{ℕ, List, [], ◌∷◌, ◌++◌, map, flat_map, length, Option, Some, None}
use Rattle.std.specs.Option.{unwrap_or}
use Rattle.task_syntax.specs.declared.name.Name.{Name}
use Rattle.task_syntax.specs.declared.program.Program.{Program}
use Rattle.task_syntax.specs.declared.program.Event.{Event}
use Rattle.task_syntax.specs.declared.program.TaskDecl.{TaskDecl}
use Rattle.task_syntax.specs.declared.expression.Expr.{Expr}
use Rattle.task_syntax.specs.declared.expression.Place.{Place}
use Rattle.task_syntax.specs.declared.expression.Expr.TheOpen.{Expr-F, Place-F}
use Rattle.task_syntax.specs.declared.expression.Expr.TheFolds.{fold-Expr, fold-Place}
use Rattle.task_syntax.specs.declared.statement.Stmt.{Stmt}
use Rattle.task_syntax.specs.declared.statement.Stmt.TheOpen.{Stmt-F}
use Rattle.task_syntax.specs.declared.statement.Stmt.TheFolds.{fold-Stmt}
use Rattle.task_syntax.specs.declared.body.Kind.{Kind}
use Rattle.task_syntax.specs.declared.body.Kind.TheVariants.{Task, Top, Bottom}
use Rattle.task_syntax.specs.Names.{Words, words_of, count_of, task_of, tasks}
use Rattle.word_code.specs.declared.instruction.Instr.{Instr}
use Rattle.word_code.specs.declared.instruction.Instr.TheVariants as instr
use Rattle.codegen.specs.Scope.{Local, Scope, slot_of, no_scope, declare, declare_all, behind_block}
use Rattle.codegen.specs.Code as code
use Rattle.codegen.specs.Code.{Code, then_code, test_code, when_code, either_code, loop_code}

-- what a place needs: the code of its index, where it has one, and the instructions that load and
-- store it
pub record PlaceCode : Type 0 where
  pub index : List Instr
  pub load : Instr
  pub store : Instr

-- a variable's first word, or a local; of a name that stands for nothing it is any local
abbrev pub plain_code : Option Words → Option ℕ → PlaceCode
plain_code (Some words) slot = record {
  index = [];
  load = instr.LoadV words.first;
  store = instr.StoreV words.first;
}
plain_code None slot = record {
  index = [];
  load = instr.GetL (unwrap_or slot 0);
  store = instr.SetL (unwrap_or slot 0);
}

-- an item of a variable; of a name that is no variable's it is any word
abbrev pub item_code : List Instr → Option Words → PlaceCode
item_code index (Some words) =
    record {
      index = index;
      load = instr.LoadX words.first (count_of words.length);
      store = instr.StoreX words.first (count_of words.length);
    }
item_code index None = record { index = index; load = instr.LoadX 0 1; store = instr.StoreX 0 1 }

-- a template for a scope: its code, and the scope behind it
pub record Compiled : Type 0 where
  pub code : Code
  pub behind : Scope

abbrev pub Template : Type 0
Template = Scope → Compiled

-- code without jumps that declares nothing
abbrev pub plainly : (List Local → List Instr) → Template
plainly instrs scope = record { code = λ at. instrs scope.locals; behind = scope }

-- a value that becomes a new local
abbrev pub declaring : List ℕ → (List Local → List Instr) → Template
declaring name value scope = record {
  code = λ at. value scope.locals
      ++ instr.SetL scope.next ∷ [];
  behind = declare name scope;
}

-- what follows in the scope that it leaves
abbrev pub followed : Compiled → Template → Compiled
followed first next = record {
  code = then_code first.code (next first.behind).code;
  behind = (next first.behind).behind;
}

-- one statement behind another
abbrev pub in_turn : List Template → Template
in_turn [] scope = plainly (λ locals. []) scope
in_turn (first ∷ more) scope = followed (first scope) (in_turn more)

-- a block, whose locals leave at its end
abbrev pub within : Template → Template
within block scope = record {
  code = (block scope).code;
  behind = behind_block scope (block scope).behind;
}

-- an `if`, and one with `else`
abbrev pub when : List Instr → Compiled → Compiled
when condition block = record {
  code = test_code condition (when_code block.code);
  behind = block.behind;
}

abbrev pub either : List Instr → Compiled → Compiled → Compiled
either condition block other = record {
  code =
      test_code condition (either_code block.code other.code);
  behind = other.behind;
}

abbrev pub choice : (List Local → List Instr) → Template → Option (List Template) → Template
choice condition block None scope = when (condition scope.locals) (within block scope)
choice condition block (Some other) scope =
    either (condition scope.locals) (within block scope)
    (within (in_turn other) (within block scope).behind)

-- a loop, which declares its name
abbrev pub loop : List ℕ → ℕ → Template → Template
loop name count block scope =
    record {
      code = loop_code scope.next count (block (declare name scope)).code;
      behind = (block (declare name scope)).behind;
    }

-- a bottom half ends with an instruction of its own
abbrev pub end_code : Kind → List Instr
end_code Task = []
end_code Top = []
end_code Bottom = instr.Done ∷ []

module _ (program : Program) where
  -- one layer of an expression
  abbrev pub expression_code_step : Expr-F (List Local → List Instr) (List Local → PlaceCode) →
      List Local → List Instr
  expression_code_step (Expr-F.Num number) locals = instr.Push number ∷ []
  expression_code_step (Expr-F.Get place) locals = (place locals).index ++ (place locals).load ∷ []
  expression_code_step (Expr-F.One op operand) locals = operand locals ++ instr.One op ∷ []
  expression_code_step (Expr-F.Two op left right) locals =
      left locals ++ (right locals ++ instr.Two op ∷ [])

  -- one layer of a place
  abbrev pub place_code_step : Place-F (List Local → List Instr) (List Local → PlaceCode) →
      List Local → PlaceCode
  place_code_step (Place-F.Plain name) locals =
      plain_code (words_of program name.text) (slot_of locals name.text)
  place_code_step (Place-F.Item name index) locals =
      item_code (index locals) (words_of program name.text)

  -- the code of an expression
  abbrev pub expression_code : Expr → List Local → List Instr
  expression_code = fold-Expr (List Local → List Instr) (List Local →
      PlaceCode) expression_code_step place_code_step

  -- the code of a place
  abbrev pub place_code : Place → List Local → PlaceCode
  place_code = fold-Place (List Local → List Instr) (List Local →
      PlaceCode) expression_code_step place_code_step

  -- the code of expressions, one after another
  abbrev pub expressions_code : List Expr → List Local → List Instr
  expressions_code es locals = flat_map (λ e. expression_code e locals) es

  -- a value that is stored at a place
  abbrev pub storing : PlaceCode → List Instr → List Instr
  storing place value = place.index ++ (value ++ place.store ∷ [])

  -- one layer of a statement
  abbrev pub statement_code_step : Stmt-F Template → Template
  statement_code_step (Stmt-F.Let name e) = declaring name.text (expression_code e)
  statement_code_step (Stmt-F.Assign place e) =
      plainly (λ locals. storing (place_code place locals) (expression_code e locals))
  statement_code_step (Stmt-F.If condition block other) =
      choice (expression_code condition) (in_turn block) other
  statement_code_step (Stmt-F.Repeat name count block) =
      within (loop name.text count (in_turn block))
  statement_code_step (Stmt-F.Next name) = plainly
      (λ locals. instr.Next (unwrap_or (task_of program name.text) 0) ∷ [])
  statement_code_step (Stmt-F.Halt at) = plainly (λ locals. instr.Halt ∷ [])
  statement_code_step (Stmt-F.Give es at) = plainly (λ locals. expressions_code es locals
      ++ instr.Give (length es) ∷ [])

  -- the template of a statement
  abbrev pub statement_code : Stmt → Template
  statement_code = fold-Stmt Template statement_code_step

  -- that of statements, one after another
  abbrev pub statements_code : List Stmt → Template
  statements_code stmts = in_turn (map statement_code stmts)

  -- the instructions of a body of this kind with these parameters
  abbrev pub body_code : Kind → List Name → List Stmt → List Instr
  body_code kind params stmts = (statements_code stmts (declare_all params no_scope)).code 0
      ++ end_code kind

  -- the words of a body
  abbrev pub body_words : Kind → List Name → List Stmt → List ℕ
  body_words kind params stmts = code.words_of (body_code kind params stmts)

  abbrev pub task_words : TaskDecl → List ℕ
  task_words task = body_words Task [] task.body

  -- a top half has one parameter, the posting's argument
  abbrev pub half_words : Event → List (List ℕ)
  half_words event = body_words Top (event.argument ∷ []) event.top
      ∷ body_words Bottom event.params event.bottom ∷ []

  -- the words of each body of the program: the tasks by number, then for each event its top half
  -- and its bottom half
  abbrev pub program_words : List (List ℕ)
  program_words = map task_words (tasks program) ++ flat_map half_words program.events
