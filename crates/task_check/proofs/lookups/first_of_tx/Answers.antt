use Rattle.std.proofs.Common.{◌≡◌, ◌+◌, ◌<◌, ◌∙◌, sym, ap, subst, arith, drop, length}
use Rattle.std.specs.Prelude.{Some, nat_eq}
use Rattle.std.specs.Option.{option_eq}
use Rattle.task_syntax.specs.declared.program.UnitDecl.{UnitDecl}
use Rattle.task_syntax.specs.Units.{first_from, memberships}
use Rattle.task_syntax.specs.Names.{tasks_of_unit}
use Rattle.task_check.specs.Counts.{transactions_of_unit}
use Rattle.task_check.specs.UnitWalk.{count_with, own_number}
use Rattle.task_check.proofs.Numbered.{length-from}
use Rattle.task_check.proofs.UnitNumbers.{option_eq-is_own, first-in_unit, first-behind, count_with-ahead, count_with-is}
use Rattle.task_check.proofs.lookups.first_of_tx.Goals as goal

pub returns-then-eq-clause-first : goal.returns-then-eq-clause-first
returns-then-eq-clause-first c =
    let units = c.args.units.now in
    let i = c.loop-unit.unit-index in
    let unit = c.unit-item.result in
    let before = c.loop-unit.transactions in
    let test = sym (option_eq-is_own c.args.tx (own_number unit before)) ∙ ap (λ tx. option_eq nat_eq (own_number unit before) (Some tx)) (sym c.from.ensures)
    ∙ ap (λ own. option_eq nat_eq own (Some c.from.result)) (sym c.own_number.ensures) ∙ sym c.eq.ensures ∙ c.if-eq.true in
    let within : i < length units = omega arith in
    let some : 0 < length (tasks_of_unit unit) = subst (λ (u : UnitDecl). 0 < length (tasks_of_unit u)) (sym c.unit-item.is) (c.requires.full i unit within) in
    sym c.loop-unit.invariant.left ∙ first-in_unit units i unit before c.args.tx c.loop-unit.first (omega arith) c.unit-item.is some test

pub returns-then-eq-clause-within : goal.returns-then-eq-clause-within
returns-then-eq-clause-within c =
    let units = c.args.units.now in
    let i = c.loop-unit.unit-index in
    let unit = c.unit-item.result in
    let within : i < length units = omega arith in
    let some : 0 < length (tasks_of_unit unit) = subst (λ (u : UnitDecl). 0 < length (tasks_of_unit u)) (sym c.unit-item.is) (c.requires.full i unit within) in
    let tasks = length-from tasks_of_unit units i unit within c.unit-item.is in
    omega (arith, some, tasks, c.loop-unit.invariant.fits)

pub loop-unit-preserved : goal.loop-unit-preserved
loop-unit-preserved c =
    let units = c.args.units.now in
    let i = c.loop-unit.unit-index in
    let unit = c.unit-item.result in
    let before = c.loop-unit.transactions in
    let tx = c.args.tx in
    let test = sym (option_eq-is_own tx (own_number unit before)) ∙ ap (λ tx. option_eq nat_eq (own_number unit before) (Some tx)) (sym c.from.ensures)
    ∙ ap (λ own. option_eq nat_eq own (Some c.from.result)) (sym c.own_number.ensures) ∙ sym c.eq.ensures ∙ c.if-eq.false in
    let within : i < length units = omega arith in
    let members : length c.tasks.result.now ≡ length (tasks_of_unit unit) = ap length c.tasks.ensures in
    let tasks = length-from tasks_of_unit units i unit within c.unit-item.is in
    let transactions = length-from transactions_of_unit units i unit within c.unit-item.is in
    let counted = count_with-is unit before in
    let ahead = count_with-ahead unit before tx c.loop-unit.invariant.ahead test in
    let next : c.count_with-transactions.result ≡ count_with unit before = c.count_with-transactions.ensures in
    let rest = drop (i + 1) units in
    record {
      left =
          ap (λ count. first_from tx (c.loop-unit.first + count) (memberships c.count_with-transactions.result rest)) members
          ∙ ap (λ count. first_from tx (c.loop-unit.first + length (tasks_of_unit unit)) (memberships count rest)) next
          ∙ sym (first-behind units i unit before tx c.loop-unit.first within c.unit-item.is test) ∙ c.loop-unit.invariant.left;
      fits = omega (arith, members, tasks, c.loop-unit.invariant.fits);
      ahead = omega (arith, ahead, next);
      within = omega (arith, transactions, counted, next, c.loop-unit.invariant.within);
    }
