use Rattle.word_cpu.proofs.UnderWay.{ready_under_way, starts_under_way, stays_under_way, steps_under_way}
use Rattle.word_cpu.proofs.laws.machines_under_way_come_to_the_end.Goals as goal

pub returns-clause-start : goal.returns-clause-start
returns-clause-start g c = starts_under_way g.V.View.meaning

pub returns-clause-ready : goal.returns-clause-ready
returns-clause-ready g c = ready_under_way g.V.View.meaning c.steps_go_along_the_course.ensures.can_step

pub returns-clause-steps : goal.returns-clause-steps
returns-clause-steps g c code cpu next old new turn left whole base done here step =
    steps_under_way g.V.View.meaning c.accesses_join_up.ensures c.courses_under_way_go_on.ensures.bodies c.steps_go_along_the_course.ensures.steps
    code cpu next old new left whole base done here turn step

pub returns-clause-between_steps : goal.returns-clause-between_steps
returns-clause-between_steps g c = stays_under_way g.V.View.meaning c.courses_under_way_go_on.ensures.bodies
