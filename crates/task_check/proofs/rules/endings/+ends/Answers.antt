use Rattle.std.proofs.Common.{◌∙◌, ◌-◌, length, sym, ap, arith}
use Rattle.task_check.specs.Endings.{statement_ends}
use Rattle.task_check.proofs.EndingParts.{block_ends-last}
use Rattle.task_check.proofs.rules.endings.+ends.Goals as goal

pub block_ends-returns-in-len1-up : goal.block_ends-returns-in-len1-up
block_ends-returns-in-len1-up t c =
    let block = c.args.block.now in
    let last = c.last-item.result in
    let above = c.in-len1-up.len_at_least in
    c.statement_ends.ensures ∙ ap statement_ends c.last-item.is ∙ sym (block_ends-last block (length block - 1) last (omega arith))
