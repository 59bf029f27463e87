-- What parts of a program mention, told from what their own parts mention.
use Rattle.std.proofs.Common.{◌≡◌, ◌∙◌, ℕ, List, [], ◌∷◌, ◌++◌, map, ap, sym, subst}
use Rattle.std.specs.Prelude.{Option, Some, None}
use Rattle.std.specs.List.{AllByRecursion}
use Rattle.coati_word.specs.declared.operator.Op.{Op}
use Rattle.coati_word.specs.declared.operator.Op1.{Op1}
use Rattle.task_syntax.specs.declared.name.Name.{Name}
use Rattle.task_syntax.specs.declared.program.Event.{Event}
use Rattle.task_syntax.specs.declared.expression.Expr.{Expr}
use Rattle.task_syntax.specs.declared.expression.Place.{Place}
use Rattle.task_syntax.specs.declared.expression.Expr as E
use Rattle.task_syntax.specs.declared.expression.Place as P
use Rattle.task_syntax.specs.declared.expression.Expr.TheVariants.{Num, Get, One, Two, rolls-Num, rolls-Get, rolls-One, rolls-Two}
use Rattle.task_syntax.specs.declared.expression.Place.TheVariants.{Plain, Item, rolls-Plain, rolls-Item}
use Rattle.task_syntax.specs.declared.statement.Stmt.{Stmt}
use Rattle.task_syntax.specs.declared.statement.Stmt as S
use Rattle.task_syntax.specs.declared.statement.Stmt.TheVariants.{Let, Assign, If, Repeat, Next, Halt, Give, rolls-Let, rolls-Assign, rolls-If, rolls-Repeat, rolls-Next, rolls-Halt, rolls-Give}
use Rattle.task_check.specs.Scope.{Scope}
use Rattle.task_check.specs.Mentions.{Mention, Part, chain, declares, declares_all, halves_part, expression_mentions, expression_mentions_step, expressions_mentions, in_turn, place_mentions, place_mentions_step, statement_part, statement_part_step, statements_part, uses, within}

-- each of the mentions is of a name of this kind
abbrev pub AreOnly : (Name → Type 0) → List Mention → Type 0
AreOnly IsKind mentions = AllByRecursion (λ (mention : Mention). IsKind mention.name) mentions

-- whatever is in scope, the part mentions names of this kind alone
abbrev pub MentionsOnly : (Name → Type 0) → Part → Type 0
MentionsOnly IsKind part = (scope : Scope) → AreOnly IsKind (part scope).mentions

-- the statements of the block behind `else`, where there is one
abbrev pub other_part : Option (List Stmt) → Part
other_part None = in_turn []
other_part (Some block) = within (statements_part block)

module _ (IsKind : Name → Type 0) where
  append-only : (some more : List Mention) → AreOnly IsKind some → AreOnly IsKind more → AreOnly IsKind (some ++ more)
  append-only [] more first second = second
  append-only (mention ∷ some) more first second = (first.0, append-only some more first.1 second)

  pub chain-only : (one other : Part) → MentionsOnly IsKind one → MentionsOnly IsKind other → MentionsOnly IsKind (chain one other)
  chain-only one other first second scope = append-only (one scope).mentions (other (one scope).scope).mentions (first scope) (second (one scope).scope)

  -- a name that is declared, whatever it stands for (`_` is a type of another crate, which has no name here)
  declares-only : (kind : _) (name : Name) → IsKind name → MentionsOnly IsKind (declares kind name)
  declares-only kind name is scope = (is, tt)

  -- a layer of an expression, and of a place
  expression-only : (x : E.Expr-F Expr Place) (e : Expr) → E.roll-Expr x ≡ e
      → MentionsOnly IsKind (uses (expression_mentions_step (E.map-Expr _ _ _ _ expression_mentions place_mentions x))) → MentionsOnly IsKind (uses (expression_mentions e))
  expression-only x e is only =
      subst (λ (names : Scope → List Mention). MentionsOnly IsKind (uses names)) (sym (E.fold-roll-Expr (Scope → List Mention) (Scope → List Mention) expression_mentions_step place_mentions_step x) ∙ ap expression_mentions is) only

  place-only : (x : P.Place-F Expr Place) (p : Place) → P.roll-Place x ≡ p
      → MentionsOnly IsKind (uses (place_mentions_step (P.map-Place _ _ _ _ expression_mentions place_mentions x))) → MentionsOnly IsKind (uses (place_mentions p))
  place-only x p is only =
      subst (λ (names : Scope → List Mention). MentionsOnly IsKind (uses names)) (sym (P.fold-roll-Place (Scope → List Mention) (Scope → List Mention) expression_mentions_step place_mentions_step x) ∙ ap place_mentions is) only

  pub num-only : (number : ℕ) → MentionsOnly IsKind (uses (expression_mentions (Num number)))
  num-only number = expression-only (E.Expr-F.Num number) (Num number) (rolls-Num number) (λ scope. tt)

  pub get-only : (place : Place) → MentionsOnly IsKind (uses (place_mentions place)) → MentionsOnly IsKind (uses (expression_mentions (Get place)))
  get-only place only = expression-only (E.Expr-F.Get place) (Get place) (rolls-Get place) only

  pub one-only : (op : Op1) (operand : Expr) → MentionsOnly IsKind (uses (expression_mentions operand)) → MentionsOnly IsKind (uses (expression_mentions (One op operand)))
  one-only op operand only = expression-only (E.Expr-F.One op operand) (One op operand) (rolls-One op operand) only

  pub two-only : (op : Op) (left right : Expr) → MentionsOnly IsKind (uses (expression_mentions left)) → MentionsOnly IsKind (uses (expression_mentions right))
      → MentionsOnly IsKind (uses (expression_mentions (Two op left right)))
  two-only op left right first second =
      expression-only (E.Expr-F.Two op left right) (Two op left right) (rolls-Two op left right) (chain-only (uses (expression_mentions left)) (uses (expression_mentions right)) first second)

  pub plain-only : (name : Name) → IsKind name → MentionsOnly IsKind (uses (place_mentions (Plain name)))
  plain-only name is = place-only (P.Place-F.Plain name) (Plain name) (rolls-Plain name) (λ scope. (is, tt))

  pub item-only : (name : Name) (index : Expr) → IsKind name → MentionsOnly IsKind (uses (expression_mentions index)) → MentionsOnly IsKind (uses (place_mentions (Item name index)))
  item-only name index is only = place-only (P.Place-F.Item name index) (Item name index) (rolls-Item name index) (λ scope. (is, only scope))

  pub expressions-only : (first : Expr) (more : List Expr) → MentionsOnly IsKind (uses (expression_mentions first)) → MentionsOnly IsKind (uses (expressions_mentions more))
      → MentionsOnly IsKind (uses (expressions_mentions (first ∷ more)))
  expressions-only first more one others = chain-only (uses (expression_mentions first)) (uses (expressions_mentions more)) one others

  -- a layer of a statement
  statement-only : (x : S.Stmt-F Stmt) (s : Stmt) → S.roll-Stmt x ≡ s → MentionsOnly IsKind (statement_part_step (S.map-Stmt Stmt Part statement_part x)) → MentionsOnly IsKind (statement_part s)
  statement-only x s is only = subst (MentionsOnly IsKind) (sym (S.fold-roll-Stmt Part statement_part_step x) ∙ ap statement_part is) only

  pub let-only : (name : Name) (e : Expr) → IsKind name → MentionsOnly IsKind (uses (expression_mentions e)) → MentionsOnly IsKind (statement_part (Let name e))
  let-only name e is only =
      statement-only (S.Stmt-F.Let name e) (Let name e) (rolls-Let name e)
      (λ scope. append-only (expression_mentions e scope) _ (only scope) (is, tt))

  pub assign-only : (place : Place) (e : Expr) → MentionsOnly IsKind (uses (place_mentions place)) → MentionsOnly IsKind (uses (expression_mentions e)) → MentionsOnly IsKind (statement_part (Assign place e))
  assign-only place e aim only =
      statement-only (S.Stmt-F.Assign place e) (Assign place e) (rolls-Assign place e) (chain-only (uses (place_mentions place)) (uses (expression_mentions e)) aim only)

  pub if-only : (condition : Expr) (block : List Stmt) (other : Option (List Stmt)) → MentionsOnly IsKind (uses (expression_mentions condition)) → MentionsOnly IsKind (statements_part block)
      → MentionsOnly IsKind (other_part other) → MentionsOnly IsKind (statement_part (If condition block other))
  if-only condition block None only first second =
      statement-only (S.Stmt-F.If condition block None) (If condition block None) (rolls-If condition block None)
      (chain-only (uses (expression_mentions condition)) (chain (within (statements_part block)) (in_turn [])) only (chain-only (within (statements_part block)) (in_turn []) first second))
  if-only condition block (Some other) only first second =
      statement-only (S.Stmt-F.If condition block (Some other)) (If condition block (Some other)) (rolls-If condition block (Some other))
      (chain-only (uses (expression_mentions condition)) (chain (within (statements_part block)) (within (statements_part other))) only
      (chain-only (within (statements_part block)) (within (statements_part other)) first second))

  pub repeat-only : (name : Name) (count : ℕ) (block : List Stmt) → IsKind name → MentionsOnly IsKind (statements_part block) → MentionsOnly IsKind (statement_part (Repeat name count block))
  repeat-only name count block is only =
      statement-only (S.Stmt-F.Repeat name count block) (Repeat name count block) (rolls-Repeat name count block) (λ scope. (is, only _))

  pub next-only : (name : Name) → IsKind name → MentionsOnly IsKind (statement_part (Next name))
  next-only name is = statement-only (S.Stmt-F.Next name) (Next name) (rolls-Next name) (λ scope. (is, tt))

  pub halt-only : (at : ℕ) → MentionsOnly IsKind (statement_part (Halt at))
  halt-only at = statement-only (S.Stmt-F.Halt at) (Halt at) (rolls-Halt at) (λ scope. tt)

  pub give-only : (es : List Expr) (at : ℕ) → MentionsOnly IsKind (uses (expressions_mentions es)) → MentionsOnly IsKind (statement_part (Give es at))
  give-only es at only = statement-only (S.Stmt-F.Give es at) (Give es at) (rolls-Give es at) only

  -- names that are declared alike
  declares_all-only : (kind : _) (names : List Name) → AllByRecursion IsKind names → MentionsOnly IsKind (declares_all kind names)
  declares_all-only kind [] only = λ scope. tt
  declares_all-only kind (name ∷ names) only = chain-only (declares kind name) (declares_all kind names) (declares-only kind name only.0) (declares_all-only kind names only.1)

  -- an event's halves
  both-only : (kind : _) (argument : Name) (top : List Stmt) (params : List Name) (bottom : List Stmt) → IsKind argument → MentionsOnly IsKind (statements_part top) → AllByRecursion IsKind params
      → MentionsOnly IsKind (statements_part bottom)
      → MentionsOnly IsKind (chain (within (chain (declares kind argument) (statements_part top))) (within (chain (declares_all kind params) (statements_part bottom))))
  both-only kind argument top params bottom is one names other =
      chain-only (within (chain (declares kind argument) (statements_part top))) (within (chain (declares_all kind params) (statements_part bottom)))
      (chain-only (declares kind argument) (statements_part top) (declares-only kind argument is) one)
      (chain-only (declares_all kind params) (statements_part bottom) (declares_all-only kind params names) other)

  pub halves-only : (event : Event) → IsKind event.argument → MentionsOnly IsKind (statements_part event.top) → AllByRecursion IsKind event.params
      → MentionsOnly IsKind (statements_part event.bottom) → MentionsOnly IsKind (halves_part event)
  unfolding halves_part
  halves-only event is one names other = both-only _ event.argument event.top event.params event.bottom is one names other

  -- a list's first part, and those behind it
  pub turn-only : {X : Type 0} (part : X → Part) (x : X) (more : List X) → MentionsOnly IsKind (part x) → MentionsOnly IsKind (in_turn (map part more)) → MentionsOnly IsKind (in_turn (map part (x ∷ more)))
  turn-only part x more one others = chain-only (part x) (in_turn (map part more)) one others
