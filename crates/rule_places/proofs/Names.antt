-- The names of a program stand at places of it.
use Rattle.std.proofs.Common.{ℕ, List, [], ◌∷◌, map}
use Rattle.std.specs.Prelude.{Option, Some, None, filter}
use Rattle.std.specs.List.{AllByRecursion}
use Rattle.task_syntax.specs.declared.expression.Expr.{Expr}
use Rattle.task_syntax.specs.declared.expression.Place.{Place}
use Rattle.task_syntax.specs.declared.name.Name.{Name}
use Rattle.task_syntax.specs.declared.program.Event.{Event}
use Rattle.task_syntax.specs.declared.program.Program.{Program}
use Rattle.task_syntax.specs.declared.program.TaskDecl.{TaskDecl}
use Rattle.task_syntax.specs.declared.program.UnitDecl.{UnitDecl}
use Rattle.task_syntax.specs.declared.program.UnitDecl.TheVariants.{Lone, Tx}
use Rattle.task_syntax.specs.declared.statement.Stmt.{Stmt}
use Rattle.task_check.specs.Mentions.{Mention, Part, bodies_part, body_part, chain, declares, declares_all, event_part, expression_mentions, expression_mentions_step, expressions_mentions, globals_part, halves_part, in_turn, mentions, otherwise, place_mentions, place_mentions_step, statement_part, statement_part_step, statements_part, task_part, unit_bodies, unit_part, uses, var_part, within}
use Rattle.task_check.specs.NameRules.{places_where}
use Rattle.task_check.specs.Scope.{Scope}
use Rattle.rule_places.proofs.Bodies.{ArePlaces}
use Rattle.rule_places.proofs.Folds.{StatementLayers, expression-facts, statement-facts}
use Rattle.rule_places.proofs.Lists.{all-filter, all-joined, all-mapped}
use Rattle.rule_places.proofs.Parts.{AllOther, ExpressionFacts, IsNameAt, OfEvent, OfProgram, OfTask, OfUnit, OfVar, StatementFacts}

module _ (IsPlace : ℕ → Type 0) where
  abbrev pub IsMentionAt : Mention → Type 0
  IsMentionAt mention = IsNameAt IsPlace mention.name

  -- whatever is in scope
  abbrev pub MentionsAt : (Scope → List Mention) → Type 0
  MentionsAt names = (scope : Scope) → AllByRecursion IsMentionAt (names scope)

  abbrev pub PartAt : Part → Type 0
  PartAt part = (scope : Scope) → AllByRecursion IsMentionAt (part scope).mentions

  chain-at : (first second : Part) → PartAt first → PartAt second → PartAt (chain first second)
  chain-at first second one other scope =
      all-joined IsMentionAt (first scope).mentions (second (first scope).scope).mentions
      (one scope) (other (first scope).scope)

  in_turn-at : (parts : List Part) → AllByRecursion PartAt parts → PartAt (in_turn parts)
  in_turn-at [] all = λ scope. tt
  in_turn-at (first ∷ more) all =
      chain-at first (in_turn more) all.0 (in_turn-at more all.1)

  -- parts that are made of other things
  turns-at : {X : Type 0} (part : X → Part) (P : X → Type 0) → ((x : X) → P x → PartAt (part x))
      → (xs : List X) → AllByRecursion P xs → PartAt (in_turn (map part xs))
  turns-at part P so [] all = λ scope. tt
  turns-at part P so (x ∷ xs) all =
      chain-at (part x) (in_turn (map part xs)) (so x all.0) (turns-at part P so xs all.1)

  declares-at : (kind : _) (name : Name) → IsNameAt IsPlace name → PartAt (declares kind name)
  declares-at kind name is scope = (is, tt)

  -- the names of expressions and statements
  abbrev pub ExprAt : Expr → Type 0
  ExprAt e = MentionsAt (expression_mentions e)

  abbrev pub PlaceAt : Place → Type 0
  PlaceAt p = MentionsAt (place_mentions p)

  abbrev pub StmtAt : Stmt → Type 0
  StmtAt s = PartAt (statement_part s)

  pub mentions-facts : ExpressionFacts IsPlace ExprAt PlaceAt
  mentions-facts =
      expression-facts IsPlace expression_mentions_step place_mentions_step MentionsAt MentionsAt
      (record {
        num = λ number scope. tt;
        get = λ place so. so;
        one = λ op operand so. so;
        two = λ op left right one other scope.
            all-joined IsMentionAt (left scope) (right scope) (one scope) (other scope);
        plain = λ name is scope. (is, tt);
        item = λ name index is so scope. (is, so scope);
      })

  values-at : (es : List Expr) → AllByRecursion ExprAt es → MentionsAt (expressions_mentions es)
  values-at [] all scope = tt
  values-at (e ∷ es) all scope =
      all-joined IsMentionAt (expression_mentions e scope) (expressions_mentions es scope)
      (all.0 scope) (values-at es all.1 scope)

  otherwise-at : (other : Option (List Part)) → AllOther PartAt other → PartAt (otherwise other)
  otherwise-at None all = λ scope. tt
  otherwise-at (Some block) all = in_turn-at block all

  parts-layers : StatementLayers IsPlace ExprAt PlaceAt statement_part_step PartAt
  parts-layers = record {
    declared = λ name e is so scope.
        all-joined IsMentionAt (expression_mentions e scope) _ (so scope) (is, tt);
    assigned = λ place e aims so.
        chain-at (uses (place_mentions place)) (uses (expression_mentions e)) aims so;
    chosen = λ condition block other so one more.
        chain-at (uses (expression_mentions condition))
        (chain (within (in_turn block)) (otherwise other)) so
        (chain-at (within (in_turn block)) (otherwise other) (in_turn-at block one)
        (otherwise-at other more));
    repeated = λ name count block is all.
        λ scope. (is, in_turn-at block all _);
    next = λ name is scope. (is, tt);
    halt = λ place is scope. tt;
    give = λ es place so is. values-at es so;
  }

  pub parts-facts : StatementFacts IsPlace ExprAt PlaceAt StmtAt
  parts-facts = statement-facts IsPlace ExprAt PlaceAt statement_part_step PartAt parts-layers

  statements-at : (block : List Stmt) → AllByRecursion StmtAt block
      → PartAt (statements_part block)
  statements-at block all = turns-at statement_part StmtAt (λ s so. so) block all

  -- the names of declarations
  tasks-at : (tasks : List TaskDecl) → AllByRecursion (OfTask IsPlace StmtAt) tasks
      → PartAt (in_turn (map task_part tasks))
  tasks-at tasks all =
      turns-at task_part (OfTask IsPlace StmtAt) (λ task so scope. (so.name, tt)) tasks all

  unit-at : (unit : UnitDecl) → OfUnit IsPlace StmtAt unit → PartAt (unit_part unit)
  unit-at (Lone task) of = λ scope. (of.name, tt)
  unit-at (Tx tx) of = λ scope. (of.0, tasks-at tx.tasks of.1 _)

  bodies-at : (tasks : List TaskDecl) → AllByRecursion (OfTask IsPlace StmtAt) tasks
      → PartAt (in_turn (map body_part tasks))
  bodies-at tasks all =
      turns-at body_part (OfTask IsPlace StmtAt) (λ task so. statements-at task.body so.body)
      tasks all

  unit_bodies-at : (unit : UnitDecl) → OfUnit IsPlace StmtAt unit → PartAt (unit_bodies unit)
  unit_bodies-at (Lone task) of = bodies-at (task ∷ []) (of, tt)
  unit_bodies-at (Tx tx) of = bodies-at tx.tasks of.1

  both-at : (kind : _) (event : Event) → OfEvent IsPlace StmtAt event
      → PartAt (chain (within (chain (declares kind event.argument) (statements_part event.top)))
      (within (chain (declares_all kind event.params) (statements_part event.bottom))))
  both-at kind event of =
      chain-at (within (chain (declares kind event.argument) (statements_part event.top)))
      (within (chain (declares_all kind event.params) (statements_part event.bottom)))
      (chain-at (declares kind event.argument) (statements_part event.top)
      (declares-at kind event.argument of.argument) (statements-at event.top of.top))
      (chain-at (declares_all kind event.params) (statements_part event.bottom)
      (turns-at (declares kind) (IsNameAt IsPlace) (declares-at kind) event.params of.params)
      (statements-at event.bottom of.bottom))

  halves-at : (event : Event) → OfEvent IsPlace StmtAt event → PartAt (halves_part event)
  unfolding halves_part
  halves-at event of = both-at _ event of

  module _ (program : Program) (of : OfProgram IsPlace StmtAt program) where
    globals-at : PartAt (globals_part program)
    unfolding globals_part
    globals-at =
        chain-at (in_turn (map var_part program.vars))
        (chain (in_turn (map event_part program.events)) (in_turn (map unit_part program.units)))
        (turns-at var_part (OfVar IsPlace) (λ var is scope. (is, tt)) program.vars of.vars)
        (chain-at (in_turn (map event_part program.events))
        (in_turn (map unit_part program.units))
        (turns-at event_part (OfEvent IsPlace StmtAt)
        (λ event is scope. (is.name, tt)) program.events of.events)
        (turns-at unit_part (OfUnit IsPlace StmtAt) unit-at program.units of.units))

    all-bodies-at : PartAt (bodies_part program)
    unfolding bodies_part
    all-bodies-at =
        chain-at (in_turn (map halves_part program.events))
        (in_turn (map unit_bodies program.units))
        (turns-at halves_part (OfEvent IsPlace StmtAt) halves-at program.events of.events)
        (turns-at unit_bodies (OfUnit IsPlace StmtAt) unit_bodies-at program.units of.units)

    mentions-at : AllByRecursion IsMentionAt (mentions program)
    mentions-at =
        chain-at (globals_part program) (bodies_part program) globals-at all-bodies-at []

    -- those that a test of names finds
    pub names-at : (test : _) → ArePlaces IsPlace (places_where test (mentions program))
    names-at test =
        all-mapped (λ (m : Mention). m.name.at) IsPlace
        (filter (λ (m : Mention). test m.role m.meaning) (mentions program))
        (all-filter IsMentionAt (λ (m : Mention). test m.role m.meaning) (mentions program)
        mentions-at)
