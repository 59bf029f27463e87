use Rattle.nv_memory.proofs.Held.{held_fit, held_slots_differ, tail_slot_is_free, taken_slot_is_not_held}
use Rattle.nv_memory.proofs.laws.held_entries_have_slots.Goals as goal

pub returns-clause-few : goal.returns-clause-few
returns-clause-few c = held_fit

pub returns-clause-differ : goal.returns-clause-differ
returns-clause-differ c = held_slots_differ

pub returns-clause-free : goal.returns-clause-free
returns-clause-free c = tail_slot_is_free

pub returns-clause-taken : goal.returns-clause-taken
returns-clause-taken c = taken_slot_is_not_held
