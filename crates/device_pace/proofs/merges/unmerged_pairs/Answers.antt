use Rattle.std.proofs.Common.{arith}
use Rattle.nv_memory.specs.declared.log.Log.TheVariants as log
use Rattle.device_pace.proofs.merges.unmerged_pairs.Goals as goal

pub returns-clause-few : goal.returns-clause-few
returns-clause-few c =
    let short = (c.requires.logs log.Task tt).short in
    let count = c.loop-i.invariant.1 in
    let end = c.loop-i.auto.i-end in
    let long = c.length-i-end.ensures in
    omega (arith, short, count, end, long)
