use Rattle.std.proofs.Common.{◌≡◌, ◌++◌, drop}
use Rattle.std.specs.Prelude.{flat_map}
use Rattle.task_syntax.specs.Names.{tasks}
use Rattle.coati_top.specs.CheckText.{task_line}
use Rattle.coati_top.proofs.check_text.put_tasks.Given as goal

abbrev pub invariant-loop-number : goal.invariant-loop-number
invariant-loop-number l =
    l.out.items ++ flat_map (task_line l.checked) (drop l.number (tasks l.checked)) ≡ l.initial.out.items ++ flat_map (task_line l.checked) (tasks l.checked)
