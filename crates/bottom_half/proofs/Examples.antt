-- Jobs in a small ring, computed: one variable word, and room for two postings, so that there are three slots and six positions.
use Rattle.std.proofs.Common.{◌≡◌, [], ◌∷◌, refl, Some, None}
use Rattle.nv_memory.specs.State.{State, put, set_to}
use Rattle.nv_memory.specs.Words.{head_next_seat, head_seat, mark_seat, opened_seat, tail_seat}
use Rattle.nv_memory.specs.Ring.{event_seat, message_seat}
use Rattle.bottom_half.specs.Jobs.{next_job}

abbrev empty : State
empty = record { n = 1; k = 2; at = λ seat. 0 }

empty_job : next_job empty ≡ None
empty_job = refl

-- event 7 with the message 5 stands in slot 2, at position 5, and event 8 in slot 0, at position 0
abbrev two_held : State
two_held =
    put (put (put (put (put empty
    (set_to (event_seat 2) 7))
    (set_to (message_seat 2 0) 5))
    (set_to (event_seat 0) 8))
    (set_to head_seat 5))
    (set_to tail_seat 1)

oldest_job : next_job two_held ≡ Some (record { event = 7; slot = 2; message = 5 ∷ 0 ∷ 0 ∷ 0 ∷ [] })
oldest_job = refl

-- a bottom half runs in no transaction
open_job : next_job (put two_held (set_to opened_seat 1)) ≡ None
open_job = refl

-- the marker has taken the oldest
taken_job : next_job (put (put two_held (set_to head_next_seat 0)) (set_to mark_seat 3))
    ≡ Some (record { event = 8; slot = 0; message = 0 ∷ 0 ∷ 0 ∷ 0 ∷ [] })
taken_job = refl
