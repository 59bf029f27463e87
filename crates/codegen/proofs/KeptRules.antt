-- What each body of an accepted program keeps to by itself.
use Rattle.std.proofs.Common.{◌≡◌, ℕ, List, [], ◌∷◌, map, arith}
use Rattle.std.specs.Prelude.{flat_map, All}
use Rattle.std.specs.List.{AllByRecursion}
use Rattle.std.proofs.lemmas.List.Elements.{All-from_recursion, recursion_from_All}
use Rattle.task_syntax.specs.declared.program.Program.{Program}
use Rattle.task_syntax.specs.declared.program.Event.{Event}
use Rattle.task_syntax.specs.declared.program.TaskDecl.{TaskDecl}
use Rattle.task_syntax.specs.Names.{tasks}
use Rattle.task_check.specs.Accepted.{IsAccepted}
use Rattle.task_check.specs.Bodies.{BodyRead, bodies, task_body, top_half, bottom_half, halves}
use Rattle.task_check.specs.Counts.{bad_var, bad_turns}
use Rattle.task_check.specs.Endings.{no_ending}
use Rattle.task_check.specs.Loops.{loop_assigned}
use Rattle.task_check.specs.Measures.{too_many_locals, too_deep_stack, too_long}
use Rattle.codegen.proofs.Parted.{all-left, all-right}
use Rattle.task_check.proofs.NoPlaces.{none-mapped, second-empty}
use Rattle.codegen.proofs.NoPlaces.{none-each}

-- a body breaks none of the rules that are read in it
pub record KeepsRules (program : Program) (body : BodyRead) : Type 0 where
  pub turns : bad_turns body ≡ []
  pub ending : no_ending body ≡ []
  pub loops : loop_assigned body ≡ []
  pub locals : too_many_locals body ≡ []
  pub stack : too_deep_stack body ≡ []
  pub size : too_long program body ≡ []

-- so do both halves of an event
pub record HalvesKeepRules (program : Program) (event : Event) : Type 0 where
  pub top : KeepsRules program (top_half event)
  pub bottom : KeepsRules program (bottom_half event)

module _ (program : Program) (accepted : IsAccepted program) where
  pub each_body : All (KeepsRules program) (bodies program)
  each_body k d within = record {
    turns = none-each bad_turns (bodies program) (second-empty (flat_map bad_var program.vars) (flat_map bad_turns (bodies program)) (accepted 4 (omega arith) (omega arith))) k d within;
    ending = none-each no_ending (bodies program) (accepted 8 (omega arith) (omega arith)) k d within;
    loops = none-each loop_assigned (bodies program) (accepted 13 (omega arith) (omega arith)) k d within;
    locals = none-each too_many_locals (bodies program) (accepted 14 (omega arith) (omega arith)) k d within;
    stack = none-each too_deep_stack (bodies program) (accepted 15 (omega arith) (omega arith)) k d within;
    size = none-each (too_long program) (bodies program) (none-mapped (λ (body : ℕ × ℕ). body.0) (flat_map (too_long program) (bodies program)) (accepted 16 (omega arith) (omega arith))) k d within;
  }

module _ (program : Program) where
  of_each_task : (tasks : List TaskDecl) → AllByRecursion (KeepsRules program) (map task_body tasks) → AllByRecursion (λ task. KeepsRules program (task_body task)) tasks
  of_each_task [] all = tt
  of_each_task (task ∷ more) all = (all.0, of_each_task more all.1)

  of_each_event : (events : List Event) → AllByRecursion (KeepsRules program) (flat_map halves events) → AllByRecursion (HalvesKeepRules program) events
  of_each_event [] all = tt
  of_each_event (event ∷ more) all = (record { top = all.0; bottom = all.1.0 }, of_each_event more all.1.1)

  pub each_task : IsAccepted program → All (λ task. KeepsRules program (task_body task)) (tasks program)
  each_task accepted =
      All-from_recursion (λ task. KeepsRules program (task_body task)) (tasks program)
      (of_each_task (tasks program) (all-left (KeepsRules program) (map task_body (tasks program)) (flat_map halves program.events)
      (recursion_from_All (KeepsRules program) (bodies program) (each_body program accepted))))

  pub each_event : IsAccepted program → All (HalvesKeepRules program) program.events
  each_event accepted =
      All-from_recursion (HalvesKeepRules program) program.events
      (of_each_event program.events (all-right (KeepsRules program) (map task_body (tasks program)) (flat_map halves program.events)
      (recursion_from_All (KeepsRules program) (bodies program) (each_body program accepted))))
