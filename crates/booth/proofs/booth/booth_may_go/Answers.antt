use denote.Param.Send.{sendable}
use Rattle.booth.proofs.Sent.{booth_send}
use Rattle.booth.proofs.booth.booth_may_go.Goals as goal

pub may_go-requires-send-T : goal.may_go-requires-send-T
may_go-requires-send-T g c κs within = search (booth_send, sendable) depth 12
