use Rattle.std.proofs.Common.{◌≡◌, ℕ, ◌++◌, List, ap, ◌∙◌, arith}
use Rattle.std.specs.Prelude.{codes, Option}
use Rattle.std.specs.Option.{option_map_or}
use Rattle.task_syntax.specs.declared.program.TaskDecl.{TaskDecl}
use Rattle.task_syntax.specs.Names.{tasks}
use Rattle.task_cost.specs.Bodies.{task_cost}
use Rattle.coati_top.specs.CheckText.{cost_line, task_line}
use Rattle.coati_top.proofs.Numbered.{one_more}
use Rattle.coati_top.proofs.check_text.put_tasks.Goals as goal

pub loop-number-preserved : goal.loop-number-preserved
loop-number-preserved c =
    let program = c.args.checked.now in
    let task = c.task.result.now in
    let cost : c.body_cost.result ≡ task_cost program task =
    c.body_cost.ensures.cost ∙ ap (λ (found : Option TaskDecl). option_map_or (task_cost program) found 0) c.task.ensures in
    let line : c.put_cost.new.out.items ≡ c.loop-number.out.items ++ task_line program task =
    c.in_ok-put_cost.ensures
    ∙ ap (λ (name : List ℕ). c.loop-number.out.items ++ cost_line (codes "task") name c.body_cost.result) c.as_slice-name.ensures
    ∙ ap (λ (n : ℕ). c.loop-number.out.items ++ cost_line (codes "task") task.name.text n) cost in
    one_more (task_line program) (tasks program) c.loop-number.number task c.loop-number.out.items c.put_cost.new.out.items _
    (omega (arith, c.tasks-number-end.ensures.tasks)) c.task.ensures line c.loop-number.invariant
