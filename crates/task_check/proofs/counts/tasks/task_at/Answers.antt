use Rattle.std.proofs.Common.{◌≡◌, ◌-◌, ◌∙◌, List, refl, sym, ap, arith, get_or, length}
use Rattle.std.specs.Prelude.{slice_get}
use Rattle.std.proofs.lemmas.Option.{slice_get_read}
use Rattle.task_syntax.specs.declared.program.TaskDecl.{TaskDecl}
use Rattle.task_syntax.specs.Names.{tasks_of_unit}
use Rattle.task_check.proofs.Numbered.{get-here, get-further}
use Rattle.task_check.proofs.counts.tasks.task_at.Goals as goal

pub returns-then-left-tasks : goal.returns-then-left-tasks
returns-then-left-tasks c =
    let units = c.args.program.now.units in
    let i = c.loop-unit.unit-index in
    let unit = c.unit-item.result in
    let same : length c.as_slice-unit-items.result.now ≡ length units = ap length c.as_slice-unit-items.ensures in
    let is : unit ≡ get_or units i unit = c.unit-item.is ∙ ap (λ list. get_or list i unit) c.as_slice-unit-items.ensures in
    let members : length c.tasks-tasks.result.now ≡ length (tasks_of_unit unit) = ap length c.tasks-tasks.ensures in
    let here = get-here tasks_of_unit units i unit c.loop-unit.left (omega arith) is (omega arith) in
    let found = slice_get_read c.tasks-tasks.result.now (length c.tasks-tasks.result.now) c.loop-unit.left c.index-tasks-left.result refl (omega arith) c.index-tasks-left.is in
    sym found ∙ ap (λ (list : List TaskDecl). slice_get list c.loop-unit.left) c.tasks-tasks.ensures ∙ sym here ∙ c.loop-unit.invariant

pub loop-unit-preserved : goal.loop-unit-preserved
loop-unit-preserved c =
    let units = c.args.program.now.units in
    let i = c.loop-unit.unit-index in
    let unit = c.unit-item.result in
    let same : length c.as_slice-unit-items.result.now ≡ length units = ap length c.as_slice-unit-items.ensures in
    let is : unit ≡ get_or units i unit = c.unit-item.is ∙ ap (λ list. get_or list i unit) c.as_slice-unit-items.ensures in
    let members : length c.tasks-tasks.result.now ≡ length (tasks_of_unit unit) = ap length c.tasks-tasks.ensures in
    let further = get-further tasks_of_unit units i unit c.loop-unit.left (c.loop-unit.left - length c.tasks-tasks.result.now) (omega arith) is (omega arith) in
    sym further ∙ c.loop-unit.invariant
