use Rattle.device_pace.proofs.Ranges.{in_range}
use Rattle.device_pace.proofs.Standing.{stands_for}
use Rattle.device_pace.proofs.laws.devices_are_in_range.Goals as goal

pub returns : goal.returns
returns c = record { ranges = in_range; stands = stands_for }
