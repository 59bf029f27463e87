use Rattle.event_buffer.proofs.Filling.{beside_entry}
use Rattle.event_buffer.proofs.TailEntry.{tail_entry_is_free}
use Rattle.event_buffer.proofs.laws.the_tail_entry_is_free.Goals as goal

pub returns-clause-logs : goal.returns-clause-logs
returns-clause-logs c = beside_entry

pub returns-clause-free : goal.returns-clause-free
returns-clause-free c = tail_entry_is_free
