-- Transitions into transactions, of a statement by itself and in its blocks, and unit by unit.
use Rattle.std.proofs.Common.{◌≡◌, ◌∙◌, ℕ, ◌+◌, List, [], ◌∷◌, ◌++◌, map, length, replicate, ◌≤◌, refl, ap, sym, append-nil, arith}
use Rattle.std.specs.Prelude.{Option, None, Some, flat_map, zip}
use Rattle.std.proofs.lemmas.Grind.{flat_map-append}
use Rattle.std.proofs.lemmas.List.Folds.{flat_map-map}
use Rattle.task_syntax.specs.declared.program.Program.{Program}
use Rattle.task_syntax.specs.declared.program.TaskDecl.{TaskDecl}
use Rattle.task_syntax.specs.declared.program.UnitDecl.{UnitDecl}
use Rattle.task_syntax.specs.declared.program.UnitDecl.TheVariants.{Lone, Tx}
use Rattle.task_syntax.specs.Names.{tasks_of_unit}
use Rattle.task_syntax.specs.Units.{memberships}
use Rattle.task_check.specs.Transitions.{enters_in_member, into_step, members}
use Rattle.task_check.specs.UnitWalk.{own_number, count_with}
use Rattle.task_check.proofs.WithinParts.{Divides}

pub of_transitions : (program : Program) (own : Option ℕ) → Divides (into_step program own)
of_transitions program own = record { chosen = λ condition block other. refl; repeated = λ name count block. refl }

-- tasks beside one transaction
zip-same : (own : Option ℕ) (tasks more : List TaskDecl) (others : List (Option ℕ)) →
    zip (replicate (length tasks) own ++ others) (tasks ++ more) ≡ map (λ task. (own, task)) tasks ++ zip others more
zip-same own [] more others = refl
zip-same own (task ∷ tasks) more others = ap (λ (rest : List (Option ℕ × TaskDecl)). (own, task) ∷ rest) (zip-same own tasks more others)

-- the members of a unit come before those of the units behind it
pub members-cons : (program : Program) (tx : ℕ) (unit : UnitDecl) (more : List UnitDecl) →
    flat_map (enters_in_member program) (members tx (unit ∷ more))
    ≡ flat_map (λ (task : TaskDecl). enters_in_member program (own_number unit tx, task)) (tasks_of_unit unit) ++ flat_map (enters_in_member program) (members (count_with unit tx) more)
members-cons program tx (Lone task) more =
    ap (λ (here : List ℕ). here ++ flat_map (enters_in_member program) (members tx more)) (sym (append-nil (enters_in_member program (None, task))))
members-cons program tx (Tx declared) more =
    ap (flat_map (enters_in_member program)) (zip-same (Some tx) declared.tasks (flat_map tasks_of_unit more) (memberships (tx + 1) more))
    ∙ flat_map-append (enters_in_member program) (map (λ (task : TaskDecl). (Some tx, task)) declared.tasks) (members (tx + 1) more)
    ∙ ap (λ (here : List ℕ). here ++ flat_map (enters_in_member program) (members (tx + 1) more)) (flat_map-map (enters_in_member program) (λ (task : TaskDecl). (Some tx, task)) declared.tasks)

pub count_with-few : (unit : UnitDecl) (tx : ℕ) → count_with unit tx ≤ tx + 1
count_with-few (Lone task) tx = omega arith
count_with-few (Tx declared) tx = omega arith
