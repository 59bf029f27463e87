use Rattle.std.proofs.Common.{◌∙◌, List, ap, arith, refl}
use Rattle.std.specs.Prelude.{Option, flat_map}
use Rattle.std.proofs.lemmas.Fn.{says_at}
use Rattle.task_syntax.specs.declared.statement.Stmt.{Stmt}
use Rattle.task_syntax.specs.declared.statement.Stmt.TheVariants.{If}
use Rattle.task_check.specs.Least.{least}
use Rattle.task_check.proofs.LeastParts.{least_joins}
use Rattle.task_check.proofs.Turns.{turn, of_each}
use Rattle.task_check.proofs.WithinParts.{least-chosen, least-divided}
use Rattle.task_check.proofs.within.+within.Goals as goal

pub least_in_blocks-returns-in-Some : goal.least_in_blocks-returns-in-Some
least_in_blocks-returns-in-Some g t c places each =
    let shape = c.in-If.is ∙ ap (λ (o : Option (List Stmt)). If c.in-If.field-0 c.in-If.block o) c.in-Some.is in
    let first = c.least_within-block.ensures places each ∙ ap (λ block. least (flat_map places block)) c.as_slice.ensures in
    let second = c.least_within.ensures places each ∙ ap (λ block. least (flat_map places block)) c.as_slice-in-Some.ensures in
    least-chosen places c.in-If.field-0 c.in-If.block c.in-Some.other c.args.statement.now c.least_within-block.result c.least_within.result c.lesser.result shape first second c.lesser.ensures

pub least_within-loop-statement-preserved : goal.least_within-loop-statement-preserved
least_within-loop-statement-preserved g t c places each =
    let statement = c.statement-item.result in
    let answered = each statement c.place.result (says_at g.F.Fn c.place.ensures refl) in
    let own = least-divided places statement c.place.result c.least_in_blocks.result c.lesser-own.result answered (c.least_in_blocks.ensures places each) c.lesser-own.ensures in
    turn _ _ least_joins _ _ (of_each places) c.args.block.now c.loop-statement.statement-index c.statement-item.result c.loop-statement.found c.lesser-own.result c.lesser-found.result
    (omega arith) c.statement-item.is own c.lesser-found.ensures (c.loop-statement.invariant places each)
