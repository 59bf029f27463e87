-- The bodies of a program, and the rules of a body as a whole.
use Rattle.std.proofs.Common.{ℕ, Bool, true, false, List, [], ◌∷◌, ◌++◌, map}
use Rattle.std.specs.Prelude.{Option, Some, None, flat_map, if◌then◌else◌, length, nat_lt}
use Rattle.std.specs.List.{AllByRecursion, concat}
use Rattle.task_syntax.specs.declared.program.Event.{Event}
use Rattle.task_syntax.specs.declared.program.Program.{Program}
use Rattle.task_syntax.specs.declared.program.UnitDecl.{UnitDecl}
use Rattle.task_syntax.specs.declared.program.UnitDecl.TheVariants.{Lone, Tx}
use Rattle.task_syntax.specs.declared.statement.Stmt.{Stmt}
use Rattle.task_syntax.specs.Depth.{body_depth}
use Rattle.task_syntax.specs.LocalCount.{local_count}
use Rattle.task_syntax.specs.Names.{tasks, tasks_of_unit}
use Rattle.task_check.specs.Blocks.{in_other}
use Rattle.task_check.specs.Bodies.{BodyRead, bodies, halves, task_body}
use Rattle.task_check.specs.Endings.{has_ending, no_ending, no_ending_places}
use Rattle.task_check.specs.Measures.{size_of, too_deep_stack, too_deep_stack_places, too_long, too_long_places, too_many_locals, too_many_locals_places}
use Rattle.rule_places.proofs.Lists.{all-concat, all-flat_map, all-joined, all-mapped, all-unless, all-weaker, all-when}
use Rattle.rule_places.proofs.Parts.{AllOther, ExpressionFacts, OfEvent, OfProgram, OfTask, OfUnit}

-- of a part of which nothing is asked
abbrev pub Anything : {X : Type 0} → X → Type 0
Anything part = Unit {0}

module _ (IsPlace : ℕ → Type 0) where
  abbrev pub ArePlaces : List ℕ → Type 0
  ArePlaces places = AllByRecursion IsPlace places

  pub any-expression : ExpressionFacts IsPlace Anything Anything
  any-expression = record {
    num = λ number. tt;
    get = λ place so. tt;
    one = λ op operand so. tt;
    two = λ op left right one other. tt;
    plain = λ name at. tt;
    item = λ name index at so. tt;
  }

  -- the places in the block behind `else`, where there is one
  pub other-places : (other : Option (List (List ℕ))) → AllOther ArePlaces other
      → ArePlaces (in_other other)
  other-places None all = tt
  other-places (Some block) all = all-concat IsPlace block all

  -- those in both blocks of an `if`
  pub both-places : (block : List (List ℕ)) (other : Option (List (List ℕ)))
      → AllByRecursion ArePlaces block → AllOther ArePlaces other
      → ArePlaces (concat block ++ in_other other)
  both-places block other one more =
      all-joined IsPlace (concat block) (in_other other) (all-concat IsPlace block one)
      (other-places other more)

  -- those in statements, one after another
  pub block-places : (places : Stmt → List ℕ) (block : List Stmt)
      → AllByRecursion (λ s. ArePlaces (places s)) block → ArePlaces (concat (map places block))
  block-places places block all =
      all-concat IsPlace (map places block) (all-mapped places ArePlaces block all)

  -- the bodies of a program
  module _ (OfStmt : Stmt → Type 0) where
    pub record OfBody (body : BodyRead) : Type 0 where
      pub at : IsPlace body.at
      pub statements : AllByRecursion OfStmt body.statements

    pub of-tasks : (units : List UnitDecl) → AllByRecursion (OfUnit IsPlace OfStmt) units
        → AllByRecursion (OfTask IsPlace OfStmt) (flat_map tasks_of_unit units)
    of-tasks [] all = tt
    of-tasks (Lone task ∷ more) all = (all.0, of-tasks more all.1)
    of-tasks (Tx tx ∷ more) all =
        all-joined (OfTask IsPlace OfStmt) tx.tasks (flat_map tasks_of_unit more) all.0.1
        (of-tasks more all.1)

    of-halves : (events : List Event) → AllByRecursion (OfEvent IsPlace OfStmt) events
        → AllByRecursion OfBody (flat_map halves events)
    of-halves [] all = tt
    of-halves (event ∷ more) all = (
      record { at = all.0.name; statements = all.0.top },
      (record { at = all.0.name; statements = all.0.bottom }, of-halves more all.1),
    )

    pub of-bodies : (program : Program) → OfProgram IsPlace OfStmt program
        → AllByRecursion OfBody (bodies program)
    of-bodies program of =
        all-joined OfBody (map task_body (tasks program)) (flat_map halves program.events)
        (all-mapped task_body OfBody (tasks program)
        (all-weaker (OfTask IsPlace OfStmt) (λ task. OfBody (task_body task))
        (λ task so. record { at = so.name; statements = so.body }) (tasks program)
        (of-tasks program.units of.units)))
        (of-halves program.events of.events)

  -- a rule of bodies, where a body asks for something of statements
  pub body-rule : {I : Type 0} (asks : BodyRead → I) (OfStmt : I → Stmt → Type 0)
      (places : BodyRead → List ℕ)
      → ((body : BodyRead) → OfBody (OfStmt (asks body)) body → ArePlaces (places body))
      → (program : Program) → ((i : I) → OfProgram IsPlace (OfStmt i) program)
      → ArePlaces (flat_map places (bodies program))
  body-rule asks OfStmt places so program of =
      all-flat_map asks (λ i. OfBody (OfStmt i)) IsPlace places so (bodies program)
      (λ i. of-bodies (OfStmt i) program (of i))

  -- rules of a body as a whole
  module _ (OfStmt : Stmt → Type 0) (program : Program)
      (of : OfProgram IsPlace OfStmt program) where
    whole-rule : (places : BodyRead → List ℕ)
        → ((body : BodyRead) → IsPlace body.at → ArePlaces (places body))
        → ArePlaces (flat_map places (bodies program))
    whole-rule places so =
        body-rule (λ body. body) (λ body. OfStmt) places (λ body is. so body is.at) program
        (λ body. of)

    pub no_ending-at : ArePlaces (no_ending_places program)
    no_ending-at =
        whole-rule no_ending
        (λ body at. all-unless IsPlace (has_ending body.kind body.statements) body.at at)

    pub too_many_locals-at : ArePlaces (too_many_locals_places program)
    too_many_locals-at =
        whole-rule too_many_locals
        (λ body at. all-when IsPlace
        (nat_lt 32 (local_count body.statements (length body.params))) body.at at)

    pub too_deep_stack-at : ArePlaces (too_deep_stack_places program)
    too_deep_stack-at =
        whole-rule too_deep_stack
        (λ body at. all-when IsPlace (nat_lt 32 (body_depth body.statements)) body.at at)

    one-size : (large : Bool) (at size : ℕ) → IsPlace at
        → AllByRecursion (λ (body : ℕ × ℕ). IsPlace body.0)
        (if large then (at, size) ∷ [] else [])
    one-size true at size is = (is, tt)
    one-size false at size is = tt

    pub too_long-at : ArePlaces (map (λ (body : ℕ × ℕ). body.0) (too_long_places program))
    too_long-at =
        all-mapped (λ (body : ℕ × ℕ). body.0) IsPlace (too_long_places program)
        (all-flat_map (λ body. body) (λ body. OfBody OfStmt)
        (λ (body : ℕ × ℕ). IsPlace body.0) (too_long program)
        (λ body is. one-size (nat_lt 50000 (size_of program body)) body.at
        (size_of program body) is.at)
        (bodies program) (λ body. of-bodies OfStmt program of))
