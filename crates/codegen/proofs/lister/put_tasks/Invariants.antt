use Rattle.std.proofs.Common.{◌≡◌, ◌++◌, drop}
use Rattle.std.specs.Prelude.{flat_map}
use Rattle.task_syntax.specs.Names.{tasks}
use Rattle.codegen.specs.Listing.{task_lines}
use Rattle.codegen.proofs.lister.put_tasks.Given as goal

abbrev pub invariant-loop-number : goal.invariant-loop-number
invariant-loop-number l =
    l.out.items ++ flat_map (task_lines l.checked) (drop l.number (tasks l.checked)) ≡ l.initial.out.items ++ flat_map (task_lines l.checked) (tasks l.checked)
