use Rattle.std.proofs.Common.{◌≤◌, length, subst, sym}
use Rattle.std.specs.Prelude.{List}
use Rattle.task_syntax.specs.declared.name.Name.{Name}
use Rattle.coati_board.proofs.HeldPostings.{few_params}
use Rattle.coati_board.proofs.bottom_rows.message.Goals as goal

pub shared_ref_as_front-result : goal.shared_ref_as_front-result
shared_ref_as_front-result c =
    subst (λ (params : List Name). length params ≤ 4) (sym c.as_slice-count.ensures)
    (few_params c.args.checked.now c.args.job.now.event c.event.result.now
    c.program-program.ensures.accepted c.event.ensures)
