use Rattle.std.proofs.Common.{[], ◌∷◌, ap, ◌∙◌}
use Rattle.std.specs.Prelude.{All}
use Rattle.std.proofs.lemmas.List.Elements.{All-same}
use Rattle.task_syntax.specs.declared.body.Kind.TheVariants as kind
use Rattle.task_syntax.specs.declared.program.Program.{Program}
use Rattle.task_syntax.specs.declared.program.Event.{Event}
use Rattle.task_syntax.specs.declared.program.TaskDecl.{TaskDecl}
use Rattle.task_syntax.specs.declared.program.UnitDecl.{UnitDecl}
use Rattle.task_syntax.specs.Names.{tasks_of_unit}
use Rattle.codegen.specs.Fit.{Fits}
use Rattle.codegen.proofs.EachPart.{each_part}
use Rattle.codegen.proofs.compiler.compile.Goals as goal

pub put_units-requires : goal.put_units-requires
put_units-requires c =
    let program = c.args.checked.now in
    let units_are = c.as_slice.ensures ∙ ap (λ (p : Program). p.units) c.program-program.ensures.program in
    let fit = c.accepted_bodies_fit.ensures.tasks program c.program-program.ensures.accepted in
    All-same (λ (unit : UnitDecl). All (λ (task : TaskDecl). Fits program kind.Task [] task.body) (tasks_of_unit unit)) _ _ units_are
    (each_part (λ (task : TaskDecl). Fits program kind.Task [] task.body) tasks_of_unit program.units fit)

pub put_events-requires-clause-tops : goal.put_events-requires-clause-tops
put_events-requires-clause-tops c =
    let program = c.args.checked.now in
    let events_are = c.as_slice-2.ensures ∙ ap (λ (p : Program). p.events) c.program-program.ensures.program in
    All-same (λ (event : Event). Fits program kind.Top (event.argument ∷ []) event.top) _ _ events_are
    (c.accepted_bodies_fit.ensures.tops program c.program-program.ensures.accepted)

pub put_events-requires-clause-bottoms : goal.put_events-requires-clause-bottoms
put_events-requires-clause-bottoms c =
    let program = c.args.checked.now in
    let events_are = c.as_slice-2.ensures ∙ ap (λ (p : Program). p.events) c.program-program.ensures.program in
    All-same (λ (event : Event). Fits program kind.Bottom event.params event.bottom) _ _ events_are
    (c.accepted_bodies_fit.ensures.bottoms program c.program-program.ensures.accepted)
