use Rattle.device_pace.proofs.Rows.{row_acts}
use Rattle.device_pace.proofs.PacedSteps.{cut_acts}
use Rattle.device_pace.proofs.laws.rows_are_acts.Goals as goal

pub returns-clause-rows : goal.returns-clause-rows
returns-clause-rows c = λ terms periods old new rules sizes sound row.
    let fits = c.rows_keep_fit.ensures.fit terms.program old new rules sound.fit sound.events
    sound.accepted row in
    row_acts c.accesses_join_up.ensures c.courses_under_way_go_on.ensures.bodies
    c.following_goes_on.ensures c.stores_set_the_value.ensures c.flag_writes_set_one_flag.ensures
    c.unflag_writes_take_one_back.ensures terms old rules sizes.tasks_most sound.fit sound.mode
    new fits row

pub returns-clause-cuts : goal.returns-clause-cuts
returns-clause-cuts c = cut_acts
