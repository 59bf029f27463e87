use Rattle.word_cpu.proofs.OnCourse.{can_step, steps_along}
use Rattle.word_cpu.proofs.laws.steps_go_along_the_course.Goals as goal

pub returns-clause-can_step : goal.returns-clause-can_step
returns-clause-can_step g c = can_step g.V.View.meaning c.following_goes_on.ensures

pub returns-clause-steps : goal.returns-clause-steps
returns-clause-steps g c = steps_along g.V.View.meaning c.following_goes_on.ensures
