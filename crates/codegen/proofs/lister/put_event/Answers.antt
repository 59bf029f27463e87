use Rattle.std.proofs.Common.{◌++◌, ap, ◌∙◌, append_assoc}
use Rattle.std.specs.Prelude.{codes}
use Rattle.std.specs.Option.{option_map}
use Rattle.std.proofs.lemmas.Result.{on_ok_weaker}
use Rattle.task_check.specs.Bodies.{top_half, bottom_half}
use Rattle.codegen.specs.Bodies.{words_of_body}
use Rattle.codegen.specs.Listing.{body_lines}
use Rattle.codegen.proofs.lister.put_event.Goals as goal

pub returns : goal.returns
returns c =
    let event = c.args.event.now in
    let name = event.name.text in
    let program = c.args.checked.now in
    let out = c.args.out.now.items in
    let top = c.words_of-top.ensures.words (top_half event) (ap (option_map top_half) c.requires.event) in
    let bottom = c.words_of-bottom.ensures.words (bottom_half event) (ap (option_map bottom_half) c.requires.event) in
    let first = body_lines (codes "top") name (words_of_body program (top_half event)) in
    let second = body_lines (codes "bottom") name (words_of_body program (bottom_half event)) in
    let before = c.in_ok-put_body.ensures ∙ ap (λ list. out ++ body_lines (codes "top") name list) top in
    on_ok_weaker c.put_body-2.result
    (λ is. is ∙ ap (λ list. c.put_body.new.out.items ++ body_lines (codes "bottom") name list) bottom ∙ ap (λ list. list ++ second) before ∙ append_assoc out first second)
    c.put_body-2.ensures
