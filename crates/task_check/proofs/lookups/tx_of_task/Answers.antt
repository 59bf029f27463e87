use Rattle.std.proofs.Common.{◌≡◌, ◌+◌, ◌-◌, ◌<◌, ◌∙◌, sym, ap, arith, drop, length}
use Rattle.std.specs.Prelude.{option_and_then, flat_map, slice_get}
use Rattle.task_syntax.specs.Names.{tasks_of_unit}
use Rattle.task_syntax.specs.Units.{memberships}
use Rattle.task_check.specs.UnitWalk.{count_with}
use Rattle.task_check.specs.Counts.{transactions_of_unit}
use Rattle.task_check.proofs.Numbered.{length-from}
use Rattle.task_check.proofs.UnitNumbers.{membership-here, membership-further, count_with-is, own-below}
use Rattle.task_check.proofs.lookups.tx_of_task.Goals as goal

pub returns-then-left-count-clause-tx : goal.returns-then-left-count-clause-tx
returns-then-left-count-clause-tx c =
    let units = c.args.units.now in
    let i = c.loop-unit.unit-index in
    let unit = c.unit-item.result in
    let members : length c.tasks-count.result.now ≡ length (tasks_of_unit unit) = ap length c.tasks-count.ensures in
    let here = membership-here units i unit c.loop-unit.transactions c.loop-unit.left (omega arith) c.unit-item.is (omega arith) in
    c.narrow.ensures ∙ c.own_number.ensures ∙ ap (option_and_then (λ tx. tx)) (sym here ∙ c.loop-unit.invariant.left)

pub returns-then-left-count-clause-within : goal.returns-then-left-count-clause-within
returns-then-left-count-clause-within c =
    let units = c.args.units.now in
    let i = c.loop-unit.unit-index in
    let unit = c.unit-item.result in
    let transactions = length-from transactions_of_unit units i unit (omega arith) c.unit-item.is in
    own-below c.narrow.result unit c.loop-unit.transactions (length (flat_map transactions_of_unit units)) (c.narrow.ensures ∙ c.own_number.ensures) (omega (arith, transactions, c.loop-unit.invariant.fits))

pub loop-unit-preserved : goal.loop-unit-preserved
loop-unit-preserved c =
    let units = c.args.units.now in
    let i = c.loop-unit.unit-index in
    let unit = c.unit-item.result in
    let before = c.loop-unit.transactions in
    let within : i < length units = omega arith in
    let members : length c.tasks-count.result.now ≡ length (tasks_of_unit unit) = ap length c.tasks-count.ensures in
    let left = c.loop-unit.left - length c.tasks-count.result.now in
    let further = membership-further units i unit before c.loop-unit.left left within c.unit-item.is (omega arith) in
    let transactions = length-from transactions_of_unit units i unit within c.unit-item.is in
    let counted = count_with-is unit before in
    let next : c.count_with-transactions.result ≡ count_with unit before = c.count_with-transactions.ensures in
    record {
      left = ap (λ count. slice_get (memberships count (drop (i + 1) units)) left) next ∙ sym further ∙ c.loop-unit.invariant.left;
      fits = omega (arith, transactions, counted, next, c.loop-unit.invariant.fits);
    }
