use Rattle.std.proofs.Common.{◌≡◌, ◌∙◌, sym, arith}
use Rattle.nv_memory.specs.Logs.{length_in, task_log}
use Rattle.nv_memory.specs.State.{state}
use Rattle.device_pace.proofs.Counting.{begun_no_more}
use Rattle.device_pace.proofs.merges.begun.Goals as goal

pub returns : goal.returns
returns c =
    let s = state c.args.image.now in
    let i = c.loop-i.i in
    let end = c.loop-i.auto.i-end in
    let long = c.length-i-end.ensures in
    let test = c.loop-i-test.false in
    let over : i ≡ length_in s task_log = omega (arith, end, long, test) in
    sym (c.loop-i.invariant ∙ begun_no_more s i over)
