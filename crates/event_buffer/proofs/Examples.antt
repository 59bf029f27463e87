-- Postings in a ring with room for one, computed. There are two slots and four positions, so that 0 comes after 3.
use Rattle.std.proofs.Common.{◌≡◌, ℕ, [], ◌∷◌, refl, true, false, Some, None}
use Rattle.coati_word.specs.declared.mode.Mode.TheVariants as mode
use Rattle.nv_memory.specs.declared.log.Log.TheVariants as log
use Rattle.nv_memory.specs.State.{State, put, set_to}
use Rattle.nv_memory.specs.Words.{head, head_next, head_next_seat, head_seat, mark_seat, tail, tail_seat}
use Rattle.nv_memory.specs.Logs.{entry_log, log_value}
use Rattle.nv_memory.specs.Ring.{Entry, held_entries, held_slots}
use Rattle.nv_memory.specs.StandsFor.{committed_word}
use Rattle.nv_memory.specs.Blank.{blank}
use Rattle.event_buffer.specs.Fill.{fill_change, is_full, tail_slot}
use Rattle.event_buffer.specs.TurnLaws.{accept_change, free_change, prepare_change}

abbrev posting : (event a b c d : ℕ) → Entry
posting event a b c d = record { event = event; message = a ∷ b ∷ c ∷ d ∷ [] }

-- three postings have come and gone
abbrev gone : State
gone = put (put (put (blank (10 ∷ 20 ∷ []) 1 mode.Buffi) (set_to head_seat 3)) (set_to head_next_seat 3)) (set_to tail_seat 3)

gone_held : held_entries gone ≡ []
gone_held = refl

gone_room : is_full gone ≡ false
gone_room = refl

gone_slot : tail_slot gone ≡ 1
gone_slot = refl

-- the parts of event 7 with the message 5, 6, whatever is in the slot
abbrev filled : State → State
filled s =
    put (put (put (put s
    (fill_change (tail_slot s) 7 (5 ∷ 6 ∷ []) 0))
    (fill_change (tail_slot s) 7 (5 ∷ 6 ∷ []) 1))
    (fill_change (tail_slot s) 7 (5 ∷ 6 ∷ []) 2))
    (fill_change (tail_slot s) 7 (5 ∷ 6 ∷ []) 3)

filled_held : held_entries (filled gone) ≡ []
filled_held = refl

-- then one store into its log, and it is accepted: the tail wraps around
abbrev stored : State → State
stored s =
    put (put (put (filled s)
    (set_to ((entry_log (tail_slot s)).number 0) 1))
    (set_to ((entry_log (tail_slot s)).value 0) 99))
    (set_to (entry_log (tail_slot s)).length 1)

abbrev full : State
full = put (stored gone) (accept_change gone)

full_tail : tail full ≡ 0
full_tail = refl

full_held : held_entries full ≡ posting 7 5 6 0 0 ∷ []
full_held = refl

full_slots : held_slots full ≡ 1 ∷ []
full_slots = refl

full_is_full : is_full full ≡ true
full_is_full = refl

full_word : committed_word full 1 ≡ 20
full_word = refl

-- its commit takes it, and there is room again
abbrev prepared : State
prepared = put full (prepare_change full)

prepared_next : head_next prepared ≡ 0
prepared_next = refl

prepared_held : held_entries prepared ≡ posting 7 5 6 0 0 ∷ []
prepared_held = refl

abbrev taken : State
taken = put prepared (set_to mark_seat 3)

taken_held : held_entries taken ≡ []
taken_held = refl

taken_word : committed_word taken 1 ≡ 99
taken_word = refl

taken_slot : tail_slot taken ≡ 0
taken_slot = refl

-- another is accepted meanwhile: two entries from the head to the tail, and one is held
abbrev again : State
again = put (filled taken) (accept_change taken)

again_held : held_entries again ≡ posting 7 5 6 0 0 ∷ []
again_held = refl

again_slots : held_slots again ≡ 0 ∷ []
again_slots = refl

again_full : is_full again ≡ true
again_full = refl

again_log : log_value again (log.Entry 0) 1 ≡ None
again_log = refl

again_taken : log_value again (log.Entry 1) 1 ≡ Some 99
again_taken = refl

-- the head moves on
abbrev freed : State
freed = put again (free_change again)

freed_head : head freed ≡ 0
freed_head = refl

freed_held : held_entries freed ≡ posting 7 5 6 0 0 ∷ []
freed_held = refl
