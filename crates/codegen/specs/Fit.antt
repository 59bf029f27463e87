-- What a body keeps, so that its code does what it means. Each part is a fold of its own: names
-- that are used are in scope, names that are declared are not; a loop's name is not assigned in
-- the loop; a loop has at most 50,000 turns, and a message at most four words; a task and a top
-- half end.
use Rattle.std.specs.Prelude.{ℕ, ◌≡◌, ◌≤◌, Bool, true, ◌&&◌, ◌||◌, not, nat_le, List, [], ◌∷◌, map, length, Option, Some, None, is_some}
use Rattle.std.specs.List.{list_all}
use Rattle.task_syntax.specs.declared.name.Name.{Name}
use Rattle.task_syntax.specs.declared.program.Program.{Program}
use Rattle.task_syntax.specs.declared.expression.Expr.{Expr}
use Rattle.task_syntax.specs.declared.expression.Place.{Place}
use Rattle.task_syntax.specs.declared.expression.Expr.TheOpen.{Expr-F, Place-F}
use Rattle.task_syntax.specs.declared.expression.Expr.TheFolds.{fold-Expr, fold-Place}
use Rattle.task_syntax.specs.declared.statement.Stmt.{Stmt}
use Rattle.task_syntax.specs.declared.statement.Stmt.TheOpen.{Stmt-F}
use Rattle.task_syntax.specs.declared.statement.Stmt.TheFolds.{fold-Stmt}
use Rattle.task_syntax.specs.declared.body.Kind.{Kind}
use Rattle.task_syntax.specs.ProgramLaws.{HasNoEmptyArray}
use Rattle.task_syntax.specs.Names.{words_of, task_of}
use Rattle.task_syntax.specs.CodeWords as words
use Rattle.task_syntax.specs.LocalCount.{local_count}
use Rattle.task_syntax.specs.Depth.{body_depth}
use Rattle.task_check.specs.Endings.{has_ending}
use Rattle.task_check.specs.Loops.{is_among}
use Rattle.task_check.specs.Messages.{all_hold, other_holds, statements_give}

-- whether the names of a part are as they must be, and the locals in scope behind it
pub record Passed : Type 0 where
  pub fits : Bool
  pub known : List (List ℕ)

-- a part of a body, by the locals in scope before it
abbrev pub Part : Type 0
Part = List (List ℕ) → Passed

-- names that are used
abbrev pub uses : (List (List ℕ) → Bool) → Part
uses fits known = record { fits = fits known; known = known }

-- a new name, behind the value that it gets
abbrev pub declares : List ℕ → (List (List ℕ) → Bool) → Part
declares name value known = record {
  fits = value known && not (is_among known name);
  known = name ∷ known;
}

-- what follows with the locals that it leaves
abbrev pub followed : Passed → Part → Passed
followed first next = record {
  fits = first.fits && (next first.known).fits;
  known = (next first.known).known;
}

-- one statement behind another
abbrev pub in_turn : List Part → Part
in_turn [] known = record { fits = true; known = known }
in_turn (first ∷ more) known = followed (first known) (in_turn more)

-- the names of the block behind `else`, where there is one
abbrev pub otherwise : Option (List Part) → List (List ℕ) → Bool
otherwise None known = true
otherwise (Some block) known = (in_turn block known).fits

-- the names of a loop: its own is new, and in scope in its block alone
abbrev pub loop_fits : List ℕ → Part → List (List ℕ) → Bool
loop_fits name block known = not (is_among known name) && (block (name ∷ known)).fits

module _ (program : Program) where
  -- one layer of an expression
  abbrev pub expression_names_step : Expr-F (List (List ℕ) → Bool) (List (List ℕ) → Bool) →
      List (List ℕ) → Bool
  expression_names_step (Expr-F.Num number) known = true
  expression_names_step (Expr-F.Get place) known = place known
  expression_names_step (Expr-F.One op operand) known = operand known
  expression_names_step (Expr-F.Two op left right) known = left known && right known

  -- one layer of a place: a variable, or a local in scope; an item is one of a variable
  abbrev pub place_names_step : Place-F (List (List ℕ) → Bool) (List (List ℕ) → Bool) →
      List (List ℕ) → Bool
  place_names_step (Place-F.Plain name) known = is_some (words_of program name.text)
      || is_among known name.text
  place_names_step (Place-F.Item name index) known = is_some (words_of program name.text)
      && index known

  -- the names of an expression are in scope
  abbrev pub expression_names : Expr → List (List ℕ) → Bool
  expression_names = fold-Expr (List (List ℕ) → Bool) (List (List ℕ) →
      Bool) expression_names_step place_names_step

  -- those of a place are
  abbrev pub place_names : Place → List (List ℕ) → Bool
  place_names = fold-Place (List (List ℕ) → Bool) (List (List ℕ) →
      Bool) expression_names_step place_names_step

  -- those of expressions are
  abbrev pub expressions_names : List Expr → List (List ℕ) → Bool
  expressions_names es known = list_all (λ e. expression_names e known) es

  -- one layer of a statement
  abbrev pub statement_names_step : Stmt-F Part → Part
  statement_names_step (Stmt-F.Let name e) = declares name.text (expression_names e)
  statement_names_step (Stmt-F.Assign place e) =
      uses (λ known. place_names place known && expression_names e known)
  statement_names_step (Stmt-F.If condition block other) =
      uses (λ known. expression_names condition known
      && ((in_turn block known).fits && otherwise other known))
  statement_names_step (Stmt-F.Repeat name count block) =
      uses (loop_fits name.text (in_turn block))
  statement_names_step (Stmt-F.Next name) = uses (λ known. is_some (task_of program name.text))
  statement_names_step (Stmt-F.Halt at) = uses (λ known. true)
  statement_names_step (Stmt-F.Give es at) = uses (expressions_names es)

  -- the names of a statement: those used are in scope, and those declared are new
  abbrev pub statement_names : Stmt → Part
  statement_names = fold-Stmt Part statement_names_step

  -- those of statements
  abbrev pub statements_names : List Stmt → Part
  statements_names block = in_turn (map statement_names block)

-- whether what stands within loops of these names leaves them alone
abbrev pub Sparing : Type 0
Sparing = List (List ℕ) → Bool

abbrev pub all_spare : List Sparing → Sparing
all_spare [] loops = true
all_spare (first ∷ more) loops = first loops && all_spare more loops

abbrev pub other_spares : Option (List Sparing) → Sparing
other_spares None loops = true
other_spares (Some block) loops = all_spare block loops

-- an item is no loop's name
abbrev pub place_spares_step : Place-F Sparing Sparing → Sparing
place_spares_step (Place-F.Plain name) loops = not (is_among loops name.text)
place_spares_step (Place-F.Item name index) loops = true

-- an expression assigns nothing
abbrev pub expression_spares_step : Expr-F Sparing Sparing → Sparing
expression_spares_step e loops = true

-- the place is no loop's name
abbrev pub place_spares : Place → Sparing
place_spares = fold-Place Sparing Sparing expression_spares_step place_spares_step

-- one layer of a statement
abbrev pub statement_spares_step : Stmt-F Sparing → Sparing
statement_spares_step (Stmt-F.Let name e) loops = true
statement_spares_step (Stmt-F.Assign place e) loops = place_spares place loops
statement_spares_step (Stmt-F.If condition block other) loops =
    all_spare block loops && other_spares other loops
statement_spares_step (Stmt-F.Repeat name count block) loops = all_spare block (name.text ∷ loops)
statement_spares_step (Stmt-F.Next name) loops = true
statement_spares_step (Stmt-F.Halt at) loops = true
statement_spares_step (Stmt-F.Give es at) loops = true

-- a statement within loops of these names assigns to none of them
abbrev pub statement_spares : Stmt → Sparing
statement_spares = fold-Stmt Sparing statement_spares_step

-- nor do statements
abbrev pub statements_spare : List Stmt → Sparing
statements_spare block = all_spare (map statement_spares block)

-- one layer of a statement: a loop has at most 50,000 turns
abbrev pub statement_turns_step : Stmt-F Bool → Bool
statement_turns_step (Stmt-F.Let name e) = true
statement_turns_step (Stmt-F.Assign place e) = true
statement_turns_step (Stmt-F.If condition block other) = all_hold block && other_holds other
statement_turns_step (Stmt-F.Repeat name count block) = nat_le count 50000 && all_hold block
statement_turns_step (Stmt-F.Next name) = true
statement_turns_step (Stmt-F.Halt at) = true
statement_turns_step (Stmt-F.Give es at) = true

-- the loops of a statement have no turn too many
abbrev pub statement_turns : Stmt → Bool
statement_turns = fold-Stmt Bool statement_turns_step

-- nor have those of statements
abbrev pub statements_turns : List Stmt → Bool
statements_turns block = all_hold (map statement_turns block)

-- the parameters in scope, the latest first
abbrev pub opening_names : List Name → List (List ℕ) → List (List ℕ)
opening_names [] known = known
opening_names (name ∷ names) known = opening_names names (name.text ∷ known)

-- a body of this kind with these parameters fits
pub record Fits (program : Program) (kind : Kind) (params : List Name) (stmts : List Stmt)
    : Type 0 where
  pub arrays : HasNoEmptyArray program
  pub names : (statements_names program stmts (opening_names params [])).fits ≡ true
  pub loops : statements_spare stmts [] ≡ true
  pub turns : statements_turns stmts ≡ true
  pub gives : statements_give stmts ≡ true
  pub ending : has_ending kind stmts ≡ true
  pub locals : local_count stmts (length params) ≤ 32
  pub depth : body_depth stmts ≤ 32
  pub short : words.body_words stmts kind ≤ 50000
