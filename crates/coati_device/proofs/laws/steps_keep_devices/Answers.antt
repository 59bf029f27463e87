use Rattle.coati_device.proofs.Stepping.{step_sound}
use Rattle.coati_device.proofs.laws.steps_keep_devices.Goals as goal

pub returns : goal.returns
returns c = λ terms periods left old new some rules sound room step.
    let fit = c.rows_keep_fit.ensures in
    let rows = c.rows_keep_histories.ensures in
    let ticks = c.ticks_keep_devices.ensures in
    step_sound fit.fit fit.mode c.rows_keep_events.ensures rows.legal rows.turns rows.accepted
    rows.time rows.boots rows.room ticks.sound ticks.room terms periods left some rules old new
    sound room step
