use Rattle.std.proofs.Common.{inl, inr, rules}
use Rattle.nv_memory.specs.State.{state}
use Rattle.nv_memory.specs.Words.{tx_flag_seat}
use Rattle.tx_buffer.proofs.Makes.{at_seat}
use Rattle.tx_buffer.proofs.Steps.{flag_joined, flag_joins}
use Rattle.tx_buffer.proofs.merge.flag_write.Goals as goal
use Rattle.tx_buffer.proofs.merge.flag_write.Goals.{else-attempt_flag-via-then-attempt_flag+else-not-tx_flag, else-attempt_flag-via-else-attempt_flag}

pub returns-then-not-tx_flag : goal.returns-then-not-tx_flag
returns-then-not-tx_flag c =
    flag_joins c.args.image.now c.loop-word.word c.tx_flag-then-not-tx_flag.result (search rules) (search rules) (search rules) c.loop-word.invariant
    (at_seat c.args.image.now c.layout-layout.result c.tx_flag-then-not-tx_flag.result (tx_flag_seat c.loop-word.word) c.layout-layout.ensures.layout c.tx_flag-then-not-tx_flag.ensures)

pub loop-word-preserved : goal.loop-word-preserved
loop-word-preserved c =
    let s = state c.args.image.now in
    elim c.else-attempt_flag.branch [
      | else-attempt_flag-via-then-attempt_flag+else-not-tx_flag w ↦ flag_joined s c.loop-word.word (inr (search rules)) c.loop-word.invariant
      | else-attempt_flag-via-else-attempt_flag w ↦ flag_joined s c.loop-word.word (inl (search rules)) c.loop-word.invariant
    ]
