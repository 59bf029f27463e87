use Rattle.event_buffer.proofs.Filling.{all_parts, none_at_first, parts_fill}
use Rattle.event_buffer.proofs.laws.parts_fill_the_slot.Goals as goal

pub returns-clause-first : goal.returns-clause-first
returns-clause-first c = none_at_first

pub returns-clause-parts : goal.returns-clause-parts
returns-clause-parts c = parts_fill

pub returns-clause-all : goal.returns-clause-all
returns-clause-all c = all_parts
