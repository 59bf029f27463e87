-- What is found in bodies, task by task and event by event.
use Rattle.std.proofs.Common.{◌≡◌, ◌∙◌, List, map, refl, ap}
use Rattle.std.specs.Prelude.{Option, flat_map}
use Rattle.std.proofs.lemmas.List.{map-append}
use Rattle.std.proofs.lemmas.Grind.{flat_map-append}
use Rattle.task_syntax.specs.declared.program.Event.{Event}
use Rattle.task_syntax.specs.declared.program.TaskDecl.{TaskDecl}
use Rattle.task_syntax.specs.declared.program.UnitDecl.{UnitDecl}
use Rattle.task_syntax.specs.declared.program.Program.{Program}
use Rattle.task_syntax.specs.Names.{tasks, tasks_of_unit}
use Rattle.task_check.specs.Bodies.{BodyRead, task_body, halves, bodies}
use Rattle.task_check.proofs.Turns.{JoinsUp, IsJoined}

module _ {A : Type 0} (broken : BodyRead → List A) where
  pub of_tasks : JoinsUp (λ (tasks : List TaskDecl). flat_map broken (map task_body tasks)) (λ task. broken (task_body task))
  of_tasks = record { cons = λ task tasks. refl }

  pub of_units : JoinsUp (λ (units : List UnitDecl). flat_map broken (map task_body (flat_map tasks_of_unit units))) (λ unit. flat_map broken (map task_body (tasks_of_unit unit)))
  of_units = record {
    cons = λ unit units.
        ap (flat_map broken) (map-append task_body (tasks_of_unit unit) (flat_map tasks_of_unit units))
        ∙ flat_map-append broken (map task_body (tasks_of_unit unit)) (map task_body (flat_map tasks_of_unit units));
  }

  pub of_events : JoinsUp (λ (events : List Event). flat_map broken (flat_map halves events)) (λ event. flat_map broken (halves event))
  of_events = record { cons = λ event events. flat_map-append broken (halves event) (flat_map halves events) }

  -- those of the tasks, and those of the events
  pub of_bodies : (join : Option A → Option A → Option A) (choice : List A → Option A) → IsJoined join choice → (program : Program) →
      choice (flat_map broken (bodies program)) ≡ join (choice (flat_map broken (map task_body (tasks program)))) (choice (flat_map broken (flat_map halves program.events)))
  of_bodies join choice joined program =
      ap choice (flat_map-append broken (map task_body (tasks program)) (flat_map halves program.events))
      ∙ joined.append (flat_map broken (map task_body (tasks program))) (flat_map broken (flat_map halves program.events))
