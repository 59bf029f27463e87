use Rattle.std.proofs.Common.{◌∙◌, ap}
use Rattle.nv_memory.specs.Ring.{held_count}
use Rattle.nv_memory.specs.State.{state}
use Rattle.event_buffer.proofs.Slots.{held_length}
use Rattle.coati_board.specs.Board.{Whole}
use Rattle.coati_board.proofs.board.Board.held.Goals as goal

pub returns : goal.returns
returns c =
    c.held.ensures ∙ held_length (state c.self.inside.device.image)
    ∙ ap (λ (w : Whole). held_count (state w.device.image)) c.self.view_is
