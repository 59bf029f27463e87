use Rattle.std.proofs.Common.{◌<◌, sym, ap, ◌∙◌, inl, inr, not, rules, arith}
use Rattle.nv_memory.specs.State.{state}
use Rattle.nv_memory.specs.Words.{variable_seat}
use Rattle.nv_memory.specs.Logs.{index_in, task_log}
use Rattle.tx_buffer.proofs.Makes.{at_seat}
use Rattle.commit_log.proofs.Walks.{older_found, older_stands, table_none, table_some}
use Rattle.commit_log.proofs.variables.older_write.Goals as goal
use Rattle.commit_log.proofs.variables.older_write.Goals.{else-is_none-via-then-is_none+else-variable-value, else-is_none-via-else-is_none}

pub returns-then-variable-value : goal.returns-then-variable-value
returns-then-variable-value c =
    let m = c.args.image.now in
    let word = c.pair-word.result.0 in
    let at = c.variable-then-variable-value in
    let low : word < 256 = (let few = c.requires.sizes.few_words in let below = c.pair-word.ensures.below in omega arith) in
    let none = table_none c.places-newer.result word (index_in (state m) task_log word) (c.places-newer.ensures word low) (c.is_none.ensures ∙ ap not c.if-is_none.true) in
    older_found m c.loop-i.i word c.pair-word.result.1 at.result c.pair-word.ensures.number c.pair-word.ensures.value c.pair-word.ensures.below
    (search rules) c.loop-i.invariant none (λ e. c.if-variable-value.true (c.variable.ensures ∙ e))
    (at_seat m c.layout-layout.result at.result (variable_seat word) c.layout-layout.ensures.layout at.ensures)

pub loop-i-preserved : goal.loop-i-preserved
loop-i-preserved c =
    let s = state c.args.image.now in
    let word = c.pair-word.result.0 in
    let low : word < 256 = (let few = c.requires.sizes.few_words in let below = c.pair-word.ensures.below in omega arith) in
    elim c.else-is_none.branch [
      | else-is_none-via-then-is_none+else-variable-value w ↦ older_stands s c.loop-i.i word c.pair-word.result.1 c.pair-word.ensures.number
          c.pair-word.ensures.value (inr (sym w.variable.ensures ∙ w.if-variable-value.false)) c.loop-i.invariant
      | else-is_none-via-else-is_none w ↦ older_stands s c.loop-i.i word c.pair-word.result.1 c.pair-word.ensures.number c.pair-word.ensures.value
          (inl (table_some c.places-newer.result word (index_in s task_log word) (c.places-newer.ensures word low) (c.is_none.ensures ∙ ap not w.if-is_none.false)))
          c.loop-i.invariant
    ]
