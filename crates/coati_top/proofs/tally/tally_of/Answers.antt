use Rattle.std.proofs.Common.{◌+◌, drop, subst, sym, arith}
use Rattle.coati_top.specs.declared.tally.Tally.{Tally}
use Rattle.coati_top.proofs.Tallies.{IsTally, can_count, counts_next}
use Rattle.coati_top.proofs.tally.tally_of.Goals as goal

pub count-requires : goal.count-requires
count-requires c =
    let marks = c.args.marks.now in
    can_count c.loop-mark.tally (drop c.loop-mark.mark-index marks) marks (omega arith) c.loop-mark.invariant

pub loop-mark-preserved : goal.loop-mark-preserved
loop-mark-preserved c =
    let marks = c.args.marks.now in
    let index = c.loop-mark.mark-index in
    subst (λ (tally : Tally). IsTally tally (drop (index + 1) marks) marks) (sym c.count.ensures)
    (counts_next c.loop-mark.tally marks index _ (omega arith) c.loop-mark.invariant)
