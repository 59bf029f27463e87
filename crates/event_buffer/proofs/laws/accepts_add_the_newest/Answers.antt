use Rattle.event_buffer.proofs.Turning.{accepts}
use Rattle.event_buffer.proofs.laws.accepts_add_the_newest.Goals as goal

pub returns : goal.returns
returns c = accepts
