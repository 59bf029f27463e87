-- Bodies of an accepted program fit.
use Rattle.std.proofs.Common.{◌≡◌, [], ◌∷◌}
use Rattle.std.specs.Prelude.{true, All, map, flat_map}
use Rattle.std.specs.List.{AllByRecursion}
use Rattle.std.proofs.lemmas.List.Elements.{All-append, All-map, All-from_recursion, recursion_from_All}
use Rattle.task_syntax.specs.declared.program.Program.{Program}
use Rattle.task_syntax.specs.declared.program.Event.{Event}
use Rattle.task_syntax.specs.declared.program.TaskDecl.{TaskDecl}
use Rattle.task_syntax.specs.declared.body.Kind.TheVariants.{Task, Top, Bottom}
use Rattle.task_syntax.specs.Names.{tasks}
use Rattle.task_check.specs.Accepted.{IsAccepted}
use Rattle.task_check.specs.Bodies.{BodyRead, task_body, halves}
use Rattle.task_check.specs.Endings.{has_ending}
use Rattle.task_check.specs.Messages.{statements_give, HasShortMessages}
use Rattle.codegen.specs.Bodies.{EachFits}
use Rattle.codegen.specs.Fit.{Fits, opening_names, statements_names}
use Rattle.codegen.proofs.FittingMeasures.{no_empty_array, few_locals, shallow, short}
use Rattle.codegen.proofs.FittingNames.{task_names, event_names}
use Rattle.codegen.proofs.FittingTurns.{few_turns}
use Rattle.codegen.proofs.KeptRules.{KeepsRules, each_task, each_event}
use Rattle.task_check.proofs.NoPlaces.{held}
use Rattle.codegen.proofs.Parted.{all-joined}
use Rattle.codegen.proofs.SparedLoops.{loops_spared}

module _ (program : Program) (accepted : IsAccepted program) (messages : HasShortMessages program) where
  -- a body that keeps the rules and whose names and messages fit
  fitting : (body : BodyRead) → KeepsRules program body → (statements_names program body.statements (opening_names body.params [])).fits ≡ true →
      statements_give body.statements ≡ true → Fits program body.kind body.params body.statements
  fitting body keeps names gives = record {
    arrays = no_empty_array program accepted;
    names = names;
    loops = loops_spared program body keeps;
    turns = few_turns program body keeps;
    gives = gives;
    ending = held (has_ending body.kind body.statements) body.at keeps.ending;
    locals = few_locals program body keeps;
    depth = shallow program body keeps;
    short = short program body keeps;
  }

  pub tasks_fit : All (λ (task : TaskDecl). Fits program Task [] task.body) (tasks program)
  tasks_fit k d within = fitting _ (each_task program accepted k d within) (task_names program accepted k d within) (messages.in_tasks k d within)

  pub tops_fit : All (λ (event : Event). Fits program Top (event.argument ∷ []) event.top) program.events
  tops_fit k d within = fitting _ (each_event program accepted k d within).top (event_names program accepted k d within).top (messages.in_tops k d within)

  pub bottoms_fit : All (λ (event : Event). Fits program Bottom event.params event.bottom) program.events
  bottoms_fit k d within = fitting _ (each_event program accepted k d within).bottom (event_names program accepted k d within).bottom (messages.in_bottoms k d within)

  abbrev FitsBody : BodyRead → Type 0
  FitsBody body = Fits program body.kind body.params body.statements

  pub each_fits : EachFits program
  each_fits =
      All-append FitsBody (map task_body (tasks program)) (flat_map halves program.events)
      (All-map FitsBody task_body (tasks program) tasks_fit)
      (All-from_recursion FitsBody (flat_map halves program.events) (all-joined FitsBody halves program.events
      (recursion_from_All (λ event. AllByRecursion FitsBody (halves event)) program.events (λ k d within. (tops_fit k d within, (bottoms_fit k d within, tt))))))
