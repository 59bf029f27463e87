use Rattle.std.proofs.Common.{◌++◌, ap, ◌∙◌}
use Rattle.std.specs.Prelude.{codes}
use Rattle.std.specs.Option.{option_map}
use Rattle.std.proofs.lemmas.Result.{on_ok_weaker}
use Rattle.task_check.specs.Bodies.{task_body}
use Rattle.codegen.specs.Listing.{body_lines}
use Rattle.codegen.proofs.lister.put_task.Goals as goal

pub returns : goal.returns
returns c =
    let task = c.args.task.now in
    let words = c.words_of-words.ensures.words (task_body task) (ap (option_map task_body) c.requires.task) in
    on_ok_weaker c.put_body.result (λ is. is ∙ ap (λ list. c.args.out.now.items ++ body_lines (codes "task") task.name.text list) words) c.put_body.ensures
