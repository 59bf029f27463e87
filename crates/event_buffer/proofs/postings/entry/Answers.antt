use Rattle.std.proofs.Common.{rules}
use Rattle.nv_memory.specs.State.{state}
use Rattle.event_buffer.proofs.Slots.{entry_is}
use Rattle.event_buffer.proofs.postings.entry.Goals as goal

pub returns : goal.returns
returns c = let is = entry_is (state c.args.img.now) c.args.i c.requires.held in grind (rules, is)
