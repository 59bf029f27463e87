use Rattle.std.proofs.Common.{◌≡◌, ◌+◌, ◌<◌, ◌∙◌, sym, ap, arith, drop, length}
use Rattle.std.specs.Prelude.{None, flat_map}
use Rattle.task_syntax.specs.Names.{tasks_of_unit, task_from}
use Rattle.task_check.proofs.Numbered.{length-from, unit-from}
use Rattle.task_check.proofs.UnitNumbers.{task_from-found, task_from-past}
use Rattle.trace_out.proofs.lookups.task_named.Goals as goal

pub returns-in-Some : goal.returns-in-Some
returns-in-Some c =
    let units = c.args.units.now in
    let i = c.loop-unit.unit-index in
    let unit = c.unit-item.result in
    let name = c.args.name.now in
    let first = c.loop-unit.first in
    let rest = flat_map tasks_of_unit (drop (i + 1) units) in
    let found = ap (λ tasks. task_from first tasks name) (sym c.tasks-tasks.ensures)
    ∙ sym c.task_among.ensures ∙ c.in-Some.is in
    sym (task_from-found first (tasks_of_unit unit) rest name c.in-Some.task found)
    ∙ ap (λ tasks. task_from first tasks name)
    (sym (unit-from tasks_of_unit units i unit (omega arith) c.unit-item.is))
    ∙ c.loop-unit.invariant.left

pub loop-unit-preserved : goal.loop-unit-preserved
loop-unit-preserved c =
    let units = c.args.units.now in
    let i = c.loop-unit.unit-index in
    let unit = c.unit-item.result in
    let name = c.args.name.now in
    let first = c.loop-unit.first in
    let within : i < length units = omega arith in
    let rest = flat_map tasks_of_unit (drop (i + 1) units) in
    let members : length c.tasks-tasks.result.now ≡ length (tasks_of_unit unit) =
    ap length c.tasks-tasks.ensures in
    let none : task_from first (tasks_of_unit unit) name ≡ None =
    ap (λ tasks. task_from first tasks name) (sym c.tasks-tasks.ensures)
    ∙ sym c.task_among.ensures ∙ c.in_default.is in
    let tasks = length-from tasks_of_unit units i unit within c.unit-item.is in
    record {
      left =
          ap (λ count. task_from (first + count) rest name) members
          ∙ sym (task_from-past first (tasks_of_unit unit) rest name none)
          ∙ ap (λ tasks. task_from first tasks name)
          (sym (unit-from tasks_of_unit units i unit within c.unit-item.is))
          ∙ c.loop-unit.invariant.left;
      fits = omega (arith, members, tasks, c.loop-unit.invariant.fits);
    }
