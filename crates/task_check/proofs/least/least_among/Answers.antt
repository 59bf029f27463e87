use Rattle.std.proofs.Common.{arith, refl}
use Rattle.std.proofs.lemmas.Fn.{says_at}
use Rattle.task_check.proofs.LeastParts.{least_joins}
use Rattle.task_check.proofs.Turns.{turn, of_each}
use Rattle.task_check.proofs.least.least_among.Goals as goal

pub loop-element-preserved : goal.loop-element-preserved
loop-element-preserved g c places each =
    let answered = each c.element-item.result c.place.result (says_at g.F.Fn c.place.ensures refl) in
    turn _ _ least_joins _ _ (of_each places) c.args.elements.now c.loop-element.element-index c.element-item.result c.loop-element.found c.place.result c.lesser-found.result
    (omega arith) c.element-item.is answered c.lesser-found.ensures (c.loop-element.invariant places each)
