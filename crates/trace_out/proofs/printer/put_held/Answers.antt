use Rattle.std.proofs.Common.{◌≡◌, ◌∙◌, ℕ, ap, length}
use Rattle.coati_io.proofs.Sending.{puts_same}
use Rattle.nv_memory.specs.State.{state}
use Rattle.serial_log.specs.Standing.{rest_of, standing_of}
use Rattle.trace_out.specs.Lines.{with_end}
use Rattle.trace_out.specs.Printed.{held_line}
use Rattle.trace_out.proofs.HeldCounts.{held_count-rest}
use Rattle.trace_out.proofs.printer.put_held.Goals as goal

pub returns : goal.returns
returns g c =
    let board = c.args.board.now in
    let marks = board.device.history.marks in
    let count : c.from.result ≡ length (rest_of board.program marks) =
    c.from.ensures ∙ c.held.ensures ∙ held_count-rest board.program (state board.device.image)
    (standing_of board.program marks) c.history-history.ensures.stands in
    puts_same c.put_number_line.ensures (ap (λ (held : ℕ). with_end (held_line held)) count)
