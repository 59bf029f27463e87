-- The names of each body of an accepted program are known or new.
use Rattle.std.proofs.Common.{◌≡◌, ℕ, ◌∙◌, List, [], ◌∷◌, map, refl, sym, subst, arith}
use Rattle.std.specs.Prelude.{true, All}
use Rattle.std.specs.List.{AllByRecursion}
use Rattle.std.proofs.lemmas.List.Elements.{All-from_recursion}
use Rattle.task_syntax.specs.declared.name.Name.{Name}
use Rattle.task_syntax.specs.declared.program.Program.{Program}
use Rattle.task_syntax.specs.declared.program.Event.{Event}
use Rattle.task_syntax.specs.declared.program.TaskDecl.{TaskDecl}
use Rattle.task_syntax.specs.declared.program.UnitDecl.{UnitDecl}
use Rattle.task_syntax.specs.declared.expression.Expr.{Expr}
use Rattle.task_syntax.specs.declared.expression.Expr as E
use Rattle.task_syntax.specs.Names.{tasks, tasks_of_unit}
use Rattle.task_check.specs.Accepted.{IsAccepted}
use Rattle.task_check.specs.Scope.{Scope}
use Rattle.task_check.specs.Mentions as rules
use Rattle.codegen.specs.Fit.{opening_names, statements_names}
use Rattle.codegen.proofs.GlobalNames.{globals_known}
use Rattle.codegen.proofs.KnownNames.{statements_known}
use Rattle.codegen.proofs.Parted.{all-left, all-right, all-joined, all-turned}
use Rattle.codegen.proofs.ScopedNames.{IsFine, AllFine, all_fine, AreKnown, scope_with, one_more}

-- a part that leaves the scope as it was
abbrev Leaves : rules.Part → Type 0
Leaves part = (scope : Scope) → (part scope).scope ≡ scope

module _ {X : Type 0} (part : X → rules.Part) (leaves : (x : X) → Leaves (part x)) where
  in_turn-leaves : (xs : List X) → Leaves (rules.in_turn (map part xs))
  in_turn-leaves [] scope = refl
  in_turn-leaves (x ∷ xs) scope = in_turn-leaves xs (part x scope).scope ∙ leaves x scope

  each-fine : (xs : List X) (scope : Scope) → AllFine (rules.in_turn (map part xs) scope).mentions → AllByRecursion (λ x. AllFine (part x scope).mentions) xs
  each-fine [] scope fine = tt
  each-fine (x ∷ xs) scope fine =
      let here = (part x scope).mentions in
      let rest = λ (behind : Scope). (rules.in_turn (map part xs) behind).mentions in (
        all-left IsFine here (rest (part x scope).scope) fine,
        each-fine xs scope (subst (λ behind. AllFine (rest behind)) (leaves x scope) (all-right IsFine here (rest (part x scope).scope) fine)),
      )

halves-leave : (event : Event) → Leaves (rules.halves_part event)
unfolding rules.halves_part
halves-leave event scope = refl

body-leaves : (task : TaskDecl) → Leaves (rules.body_part task)
body-leaves task scope = refl

unit-leaves : (unit : UnitDecl) → Leaves (rules.unit_bodies unit)
unit-leaves unit = in_turn-leaves rules.body_part body-leaves (tasks_of_unit unit)

-- a value that names nothing
abbrev nothing : Expr
nothing = E.roll-Expr (E.Expr-F.Num 0)

module _ (program : Program) where
  -- those of both halves of an event
  pub record HalvesKnown (event : Event) : Type 0 where
    pub top : (statements_names program event.top (event.argument.text ∷ [])).fits ≡ true
    pub bottom : (statements_names program event.bottom (opening_names event.params [])).fits ≡ true

  -- the names in scope in each body
  abbrev globals : Scope
  globals = (rules.globals_part program []).scope

  bodies-fine : IsAccepted program → AllFine (rules.bodies_part program globals).mentions
  bodies-fine accepted =
      all-right IsFine (rules.globals_part program []).mentions (rules.bodies_part program globals).mentions
      (all_fine (rules.mentions program) (accepted 1 (omega arith) (omega arith)) (accepted 3 (omega arith) (omega arith)))

  events-fine : AllFine (rules.bodies_part program globals).mentions → AllByRecursion (λ event. AllFine (rules.halves_part event globals).mentions) program.events
  unfolding rules.bodies_part
  events-fine fine =
      let halves = rules.in_turn (map rules.halves_part program.events) in
      let units = rules.in_turn (map rules.unit_bodies program.units) in
      each-fine rules.halves_part halves-leave program.events globals (all-left IsFine (halves globals).mentions (units (halves globals).scope).mentions fine)

  units-fine : AllFine (rules.bodies_part program globals).mentions → AllByRecursion (λ unit. AllFine (rules.unit_bodies unit globals).mentions) program.units
  unfolding rules.bodies_part
  units-fine fine =
      let halves = rules.in_turn (map rules.halves_part program.events) in
      let units = rules.in_turn (map rules.unit_bodies program.units) in
      each-fine rules.unit_bodies unit-leaves program.units globals
      (subst (λ scope. AllFine (units scope).mentions) (in_turn-leaves rules.halves_part halves-leave program.events globals)
      (all-right IsFine (halves globals).mentions (units (halves globals).scope).mentions fine))

  -- halves whose names are declared in such a way, which is that of locals
  module _ (kind : _) (declares : (name : Name) (scope : Scope) → (rules.declares kind name scope).scope ≡ scope_with name nothing scope) where
    local-known : (name : Name) (scope : Scope) (known : List (List ℕ)) → AreKnown program scope known → AllFine (rules.declares kind name scope).mentions →
        AreKnown program (rules.declares kind name scope).scope (name.text ∷ known)
    local-known name scope known are fine =
        subst (λ behind. AreKnown program behind (name.text ∷ known)) (sym (declares name scope)) (one_more program scope known name nothing fine.0.new are)

    locals-known : (names : List Name) (scope : Scope) (known : List (List ℕ)) → AreKnown program scope known → AllFine (rules.declares_all kind names scope).mentions →
        AreKnown program (rules.declares_all kind names scope).scope (opening_names names known)
    locals-known [] scope known are fine = are
    locals-known (name ∷ names) scope known are fine =
        locals-known names (rules.declares kind name scope).scope (name.text ∷ known) (local-known name scope known are (fine.0, tt)) fine.1

    both-known : (event : Event) →
        AllFine (rules.chain (rules.within (rules.chain (rules.declares kind event.argument) (rules.statements_part event.top)))
        (rules.within (rules.chain (rules.declares_all kind event.params) (rules.statements_part event.bottom))) globals).mentions →
        HalvesKnown event
    both-known event fine =
        let first = (rules.chain (rules.declares kind event.argument) (rules.statements_part event.top) globals).mentions in
        let second = (rules.chain (rules.declares_all kind event.params) (rules.statements_part event.bottom) globals).mentions in
        let names = rules.declares_all kind event.params globals in
        let top = all-left IsFine first second fine in
        let bottom = all-right IsFine first second fine in
        let declared = all-left IsFine names.mentions (rules.statements_part event.bottom names.scope).mentions bottom in
        let rest = all-right IsFine names.mentions (rules.statements_part event.bottom names.scope).mentions bottom in
        record {
          top = (statements_known program event.top (rules.declares kind event.argument globals).scope (event.argument.text ∷ []) (local-known event.argument globals [] (globals_known program) (top.0, tt)) top.1).fits;
          bottom = (statements_known program event.bottom names.scope (opening_names event.params []) (locals-known event.params globals [] (globals_known program) declared) rest).fits;
        }

  event-known : (event : Event) → AllFine (rules.halves_part event globals).mentions → HalvesKnown event
  unfolding rules.halves_part
  event-known event fine = both-known _ (λ name scope. refl) event fine

  pub event_names : IsAccepted program → All HalvesKnown program.events
  event_names accepted =
      All-from_recursion HalvesKnown program.events
      (all-turned (λ event. AllFine (rules.halves_part event globals).mentions) HalvesKnown event-known program.events (events-fine (bodies-fine accepted)))

  pub task_names : IsAccepted program → All (λ task. (statements_names program task.body []).fits ≡ true) (tasks program)
  task_names accepted =
      All-from_recursion (λ task. (statements_names program task.body []).fits ≡ true) (tasks program)
      (all-joined (λ task. (statements_names program task.body []).fits ≡ true) tasks_of_unit program.units
      (all-turned (λ unit. AllFine (rules.unit_bodies unit globals).mentions) (λ unit. AllByRecursion (λ task. (statements_names program task.body []).fits ≡ true) (tasks_of_unit unit))
      (λ unit fine.
      all-turned (λ task. AllFine (rules.body_part task globals).mentions) (λ task. (statements_names program task.body []).fits ≡ true)
      (λ task fine. (statements_known program task.body globals [] (globals_known program) fine).fits)
      (tasks_of_unit unit) (each-fine rules.body_part body-leaves (tasks_of_unit unit) globals fine))
      program.units (units-fine (bodies-fine accepted))))
