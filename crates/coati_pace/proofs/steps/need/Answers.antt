use Rattle.coati_pace.proofs.Bounds.{bounded}
use Rattle.coati_pace.proofs.steps.need.Goals as goal

pub returns-clause-most : goal.returns-clause-most
returns-clause-most c =
    rw c.steps_in_all.ensures
    (bounded c.args.shape c.args.mode c.args.effort c.requires.effort).most

pub returns-clause-idle : goal.returns-clause-idle
returns-clause-idle c =
    rw c.steps_in_all.ensures
    (bounded c.args.shape c.args.mode c.args.effort c.requires.effort).idle
