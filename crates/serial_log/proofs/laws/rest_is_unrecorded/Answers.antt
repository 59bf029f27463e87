use Rattle.serial_log.proofs.Unrecorded.{rest_is}
use Rattle.serial_log.proofs.laws.rest_is_unrecorded.Goals as goal

pub returns : goal.returns
returns c = rest_is
