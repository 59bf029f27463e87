use Rattle.buffi_sets.specs.Flags.{flag_change}
use Rattle.coati_board.proofs.Viewing.{range_beside_flag, words_beside_flag}
use Rattle.coati_board.proofs.task_view.set_flag.Goals as goal

pub returns-in-Some-clause-kept : goal.returns-in-Some-clause-kept
returns-in-Some-clause-kept c =
    words_beside_flag c.args.image.now c.put.new.image c.args.word
    (c.put.ensures (flag_change c.args.word) c.in-Some.ensures.write).state

pub returns-in-Some-clause-range : goal.returns-in-Some-clause-range
returns-in-Some-clause-range c =
    range_beside_flag c.args.image.now c.put.new.image c.args.word
    (c.put.ensures (flag_change c.args.word) c.in-Some.ensures.write).state c.requires.range
