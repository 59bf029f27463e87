use Rattle.std.proofs.Common.{◌≡◌, ◌∙◌, sym}
use Rattle.std.proofs.lemmas.Slice.Eq.{slice_eq-Decides}
use Rattle.serial_run.proofs.SameReadings.{readings-decide}
use Rattle.serial_run.proofs.readings.Readings.are.Goals as goal

pub returns : goal.returns
returns c =
    let same : c.as_slice.result.now ≡ c.args.self.now = c.as_slice.ensures.value ∙ c.self.view_is in
    let decides = slice_eq-Decides readings-decide c.as_slice.result.now c.args.reads.now c.eq.result c.eq.ensures in
    (λ yes. sym same ∙ decides.0 yes, λ is. decides.1 (same ∙ is))
