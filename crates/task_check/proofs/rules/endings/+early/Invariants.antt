use Rattle.std.proofs.Common.{◌≡◌, drop}
use Rattle.task_check.specs.Endings.{early_in_block}
use Rattle.task_check.specs.Least.{lesser, least}
use Rattle.task_check.proofs.rules.endings.+early.Given as goal

abbrev pub invariant-early_in_block-loop-index : goal.invariant-early_in_block-loop-index
invariant-early_in_block-loop-index l =
    lesser l.found (least (early_in_block l.kind (drop l.index l.block) l.last)) ≡ least (early_in_block l.kind l.block l.last)
