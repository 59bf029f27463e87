use Rattle.std.proofs.Common.{◌∷◌, [], ap, refl}
use Rattle.std.specs.Option.{option_map}
use Rattle.task_syntax.specs.declared.body.BodyId.TheVariants.{Task, Top, Bottom}
use Rattle.task_check.specs.Bodies.{task_body, top_half, bottom_half}
use Rattle.codegen.proofs.laws.accepted_programs_compute_their_courses.Goals as goal

pub returns-clause-tasks : goal.returns-clause-tasks
returns-clause-tasks c = λ program accepted number task is.
    c.fitting_bodies_compute_their_course.ensures.programs program (c.accepted_bodies_fit.ensures.each program accepted) (Task number) (task_body task) (ap (option_map task_body) is) [] refl

pub returns-clause-tops : goal.returns-clause-tops
returns-clause-tops c = λ program accepted number event is argument.
    c.fitting_bodies_compute_their_course.ensures.programs program (c.accepted_bodies_fit.ensures.each program accepted) (Top number) (top_half event) (ap (option_map top_half) is) (argument ∷ []) refl

pub returns-clause-bottoms : goal.returns-clause-bottoms
returns-clause-bottoms c = λ program accepted number event is message counted.
    c.fitting_bodies_compute_their_course.ensures.programs program (c.accepted_bodies_fit.ensures.each program accepted) (Bottom number) (bottom_half event) (ap (option_map bottom_half) is) message counted
