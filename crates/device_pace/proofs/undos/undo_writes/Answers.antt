use Rattle.std.proofs.Common.{◌≡◌, ◌==◌, sym, true, rules}
use Rattle.nv_memory.specs.State.{state}
use Rattle.nv_memory.specs.Words.{doomed}
use Rattle.device_pace.proofs.Counting.{undo_is}
use Rattle.device_pace.proofs.undos.undo_writes.Goals as goal

pub returns : goal.returns
returns c =
    let s = state c.args.image.now in
    let is : (doomed s == 1) ≡ true = search rules in
    let parts = undo_is s c.requires is in
    let log = c.undone.ensures.count in
    let flags = c.flagged_words.ensures.count in
    let back = c.undone-2.ensures.count in
    let at = c.first.ensures in
    let closed = c.undone-3.ensures.count in
    let spared = c.undone-4.ensures.count in
    rw (log, flags, back, at, closed, spared) (sym parts)
