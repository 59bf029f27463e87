use Rattle.std.proofs.Common.{◌≡◌, ◌∙◌, ℕ, ◌++◌, length, subst}
use Rattle.std.specs.Prelude.{OnOk}
use Rattle.nv_memory.specs.State.{state}
use Rattle.serial_log.specs.Standing.{rest_of, standing_of}
use Rattle.trace_out.specs.Lines.{with_end}
use Rattle.trace_out.specs.Printed.{held_line}
use Rattle.trace_out.proofs.HeldCounts.{held_count-rest}
use Rattle.coati_top.proofs.load_text.put_held.Goals as goal

pub returns : goal.returns
returns c =
    let run = c.args.run.now in
    let marks = run.device.history.marks in
    let count : c.from.result ≡ length (rest_of run.program marks) =
    c.from.ensures ∙ c.held.ensures ∙ held_count-rest run.program (state run.device.image)
    (standing_of run.program marks) c.history-history.ensures.stands in
    subst (λ (held : ℕ). OnOk c.put_number_line.result (c.put_number_line.new.out.items
    ≡ c.args.out.now.items ++ with_end (held_line held)))
    count c.put_number_line.ensures
