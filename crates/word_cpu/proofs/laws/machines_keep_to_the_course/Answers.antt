use Rattle.word_cpu.proofs.Reached.{keeps_to_the_course}
use Rattle.word_cpu.proofs.laws.machines_keep_to_the_course.Goals as goal

pub returns : goal.returns
returns g c code cost course body params view computes =
    let law = c.machines_under_way_come_to_the_end.ensures in
    keeps_to_the_course g.V.View.meaning code c.accesses_join_up.ensures law.start law.ready law.steps cost course body params view computes
