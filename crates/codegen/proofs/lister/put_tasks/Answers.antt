use Rattle.std.proofs.Common.{◌+◌, ◌++◌, drop, ap, sym, ◌∙◌, append_assoc}
use Rattle.std.specs.Prelude.{flat_map}
use Rattle.task_syntax.specs.Names.{tasks}
use Rattle.codegen.specs.Listing.{task_lines}
use Rattle.codegen.proofs.FromNumber.{drop_from}
use Rattle.codegen.proofs.lister.put_tasks.Goals as goal

pub loop-number-preserved : goal.loop-number-preserved
loop-number-preserved c =
    let program = c.args.checked.now in
    let number = c.loop-number.number in
    let task = c.task.result.now in
    let out = c.loop-number.out.items in
    let more = flat_map (task_lines program) (drop (number + 1) (tasks program)) in
    ap (λ list. list ++ more) c.in_ok-put_task.ensures ∙ append_assoc out (task_lines program task) more
    ∙ ap (λ list. out ++ flat_map (task_lines program) list) (sym (drop_from (tasks program) number task c.task.ensures)) ∙ c.loop-number.invariant
