use Rattle.std.proofs.Common.{length, drop}
use Rattle.std.proofs.lemmas.Slice.Eq.{starts_is}
use Rattle.serial_run.proofs.SameReadings.{readings-decide}
use Rattle.serial_run.proofs.follow.begin_with.Goals as goal

pub returns : goal.returns
returns c =
    let starts = starts_is readings-decide c.args.reads.now c.args.first.now c.starts_with.result c.starts_with.ensures.value in
    (starts.0, starts.1 (drop (length c.args.first.now) c.args.reads.now))
