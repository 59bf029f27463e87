use Rattle.std.proofs.Common.{sym, ◌∙◌, rules}
use Rattle.nv_memory.specs.State.{state}
use Rattle.nv_memory.specs.Words.{variable_seat}
use Rattle.nv_memory.specs.Logs.{seats_of}
use Rattle.tx_buffer.proofs.Makes.{at_seat}
use Rattle.commit_log.proofs.Walks.{variable_found, variable_stands}
use Rattle.commit_log.proofs.variables.variable_write.Goals as goal

pub returns-then-variable-value : goal.returns-then-variable-value
returns-then-variable-value c =
    let m = c.args.image.now in
    let at = c.variable-then-variable-value in
    variable_found m (seats_of c.args.log) c.loop-i.i c.pair-word.result.0 c.pair-word.result.1 at.result c.pair-word.ensures.number c.pair-word.ensures.value
    c.pair-word.ensures.below (search rules) c.loop-i.invariant (λ e. c.if-variable-value.true (c.variable.ensures ∙ e))
    (at_seat m c.layout-layout.result at.result (variable_seat c.pair-word.result.0) c.layout-layout.ensures.layout at.ensures)

pub loop-i-preserved : goal.loop-i-preserved
loop-i-preserved c =
    variable_stands (state c.args.image.now) (seats_of c.args.log) c.loop-i.i c.pair-word.result.0 c.pair-word.result.1 c.pair-word.ensures.number
    c.pair-word.ensures.value (sym c.variable.ensures ∙ c.if-variable-value.false) c.loop-i.invariant
