use Rattle.std.proofs.Common.{refl, ◌∙◌, rules}
use Rattle.nv_memory.specs.Seats.{Seat}
use Rattle.nv_memory.specs.State.{state}
use Rattle.nv_memory.specs.Words.{tx_flag_seat}
use Rattle.tx_buffer.specs.Clear.{unflag_changes}
use Rattle.tx_buffer.specs.Next.{changes_below}
use Rattle.tx_buffer.proofs.Steps.{flag_cleared, flag_still_set}
use Rattle.tx_buffer.proofs.Ends.{cleared}
use Rattle.tx_buffer.proofs.Makes.{at_seat, makes_head}
use Rattle.tx_buffer.proofs.clear.clear_write.Goals as goal

pub returns-then-length-ne0-clause-next : goal.returns-then-length-ne0-clause-next
returns-then-length-ne0-clause-next c =
    let m = c.args.image.now in
    makes_head m (Seat.Header 5) 5 0 (changes_below unflag_changes m.n) refl refl (λ e. c.if-length-ne0.true (c.length.ensures ∙ e))

pub returns-then-tx_flag-clause-next : goal.returns-then-tx_flag-clause-next
returns-then-tx_flag-clause-next c = flag_still_set c.args.image.now c.loop-word.word c.tx_flag-then-tx_flag.result (search rules) c.loop-word.invariant.0 c.loop-word.invariant.1 (search rules)
    (at_seat c.args.image.now c.layout-layout.result c.tx_flag-then-tx_flag.result (tx_flag_seat c.loop-word.word) c.layout-layout.ensures.layout c.tx_flag-then-tx_flag.ensures)

pub loop-word-preserved : goal.loop-word-preserved
loop-word-preserved c = (c.loop-word.invariant.0, flag_cleared (state c.args.image.now) c.loop-word.word c.requires (search rules) (search rules) c.loop-word.invariant.1)

pub returns-clause-none : goal.returns-clause-none
returns-clause-none c = (λ _. cleared (state c.args.image.now) (search rules), λ _. refl)
