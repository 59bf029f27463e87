use Rattle.device_pace.proofs.PacedSteps.{steps_pace}
use Rattle.device_pace.proofs.laws.steps_keep_pace.Goals as goal

pub returns : goal.returns
returns c = steps_pace c.rows_are_acts.ensures.rows c.rows_keep_fit.ensures.fit
