use Rattle.std.proofs.Common.{refl, rules}
use Rattle.nv_memory.specs.State.{state}
use Rattle.nv_memory.specs.Words.{attempt_flag_seat}
use Rattle.tx_buffer.proofs.Makes.{at_seat}
use Rattle.buffi_sets.proofs.Unflagging.{all_stand, flag_cleared, flag_still_set, none_set}
use Rattle.buffi_sets.proofs.flags.unflag_write.Goals as goal

pub loop-word-preserved : goal.loop-word-preserved
loop-word-preserved c =
    flag_cleared (state c.args.image.now) c.loop-word.word c.requires (search rules) (search rules)
    c.loop-word.invariant

pub returns-then-attempt_flag-clause-next : goal.returns-then-attempt_flag-clause-next
returns-then-attempt_flag-clause-next c =
    flag_still_set c.args.image.now c.loop-word.word c.attempt_flag-then-attempt_flag.result
    (search rules) c.loop-word.invariant (search rules)
    (at_seat c.args.image.now c.layout-layout.result c.attempt_flag-then-attempt_flag.result
    (attempt_flag_seat c.loop-word.word) c.layout-layout.ensures.layout
    c.attempt_flag-then-attempt_flag.ensures)

pub returns-clause-none : goal.returns-clause-none
returns-clause-none c = (λ none. none_set (state c.args.image.now) (search rules), λ none. refl)
