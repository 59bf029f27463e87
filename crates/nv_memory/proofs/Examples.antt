-- What small images stand for, computed: two variable words, and room for one posting.
use Rattle.std.proofs.Common.{◌≡◌, ℕ, List, [], ◌∷◌, ◌++◌, refl, ◌+◌, true}
use Rattle.coati_word.specs.declared.mode.Mode.TheVariants as mode
use Rattle.nv_memory.specs.Seats.{Memory, Seat, address}
use Rattle.nv_memory.specs.State.{State, cells, put, set_to, state}
use Rattle.nv_memory.specs.Words.{head_seat, mark_seat, tail_seat, tx_flag}
use Rattle.nv_memory.specs.Ring.{Entry, held_entries}
use Rattle.nv_memory.specs.StandsFor.{committed_word, place_of}
use Rattle.nv_memory.specs.Blank.{blank}

abbrev posting : (event a b c d : ℕ) → Entry
posting event a b c d = record { event = event; message = a ∷ b ∷ c ∷ d ∷ [] }

-- the blank image has its opening values and holds nothing
blank_word : committed_word (blank (5 ∷ 6 ∷ []) 1 mode.Buffi) 1 ≡ 6
blank_word = refl

blank_place : place_of (blank (5 ∷ 6 ∷ []) 1 mode.Buffi) ≡ 0
blank_place = refl

blank_held : held_entries (blank (5 ∷ 6 ∷ []) 1 mode.Buffi) ≡ []
blank_held = refl

-- the header comes first: mark, current, next, open, lengths of the task and the transaction log, head, next head, tail, doom,
-- first, mode
-- then the variables 10 and 20, a task log that gives word 0 the value 11, a transaction log that gives the words 0 and 1 the
-- values 12 and 22, no attempt flag, the transaction flag of word 1, and two entries: in slot 0 event 8 with an empty log, in
-- slot 1 event 7 with a log that gives word 1 the value 99
abbrev with_header : List ℕ → Memory
with_header header = record {
  n = 2;
  k = 1;
  words = header
      ++ (10 ∷ 20 ∷ 0 ∷ 0 ∷ 11 ∷ 0 ∷ 0 ∷ 1 ∷ 12 ∷ 22 ∷ 0 ∷ 0 ∷ 0 ∷ 1 ∷ [])
      ++ (8 ∷ 0 ∷ 1 ∷ 2 ∷ 3 ∷ 4 ∷ 0 ∷ 0 ∷ 0 ∷ 0 ∷ [])
      ++ (7 ∷ 1 ∷ 5 ∷ 6 ∷ 7 ∷ 8 ∷ 1 ∷ 0 ∷ 99 ∷ 0 ∷ []);
}

-- a task is on its way into the transaction, which is open: its logs are not yet what the image stands for
abbrev into_transaction : State
into_transaction = state (with_header (1 ∷ 4 ∷ 5 ∷ 1 ∷ 1 ∷ 2 ∷ 0 ∷ 0 ∷ 0 ∷ 0 ∷ 3 ∷ 1 ∷ []))

into_word : committed_word into_transaction 1 ≡ 20
unfolding cells
into_word = refl

into_place : place_of into_transaction ≡ 3
unfolding cells
into_place = refl

into_flags : tx_flag into_transaction 1 ≡ true
unfolding cells
into_flags = refl

-- a unit is on its way into the variables: the task log comes before the transaction log
abbrev unit_commit : State
unit_commit = state (with_header (2 ∷ 4 ∷ 5 ∷ 1 ∷ 1 ∷ 2 ∷ 0 ∷ 0 ∷ 0 ∷ 0 ∷ 3 ∷ 1 ∷ []))

unit_first : committed_word unit_commit 0 ≡ 11
unfolding cells
unit_first = refl

unit_second : committed_word unit_commit 1 ≡ 22
unfolding cells
unit_second = refl

unit_place : place_of unit_commit ≡ 5
unfolding cells
unit_place = refl

-- one posting is held, at position 3 and so in slot 1; an event's commit takes it, and another is accepted meanwhile
abbrev one_posting : State
one_posting = state (with_header (0 ∷ 4 ∷ 4 ∷ 0 ∷ 0 ∷ 0 ∷ 3 ∷ 0 ∷ 0 ∷ 0 ∷ 4 ∷ 1 ∷ []))

one_held : held_entries one_posting ≡ posting 7 5 6 7 8 ∷ []
unfolding cells
one_held = refl

one_word : committed_word one_posting 1 ≡ 20
unfolding cells
one_word = refl

abbrev taken_posting : State
taken_posting = put one_posting (set_to mark_seat 3)

taken_held : held_entries taken_posting ≡ []
unfolding cells
taken_held = refl

abbrev event_commit : State
event_commit = put taken_posting (set_to tail_seat 1)

event_held : held_entries event_commit ≡ posting 8 1 2 3 4 ∷ []
unfolding cells
event_held = refl

event_word : committed_word event_commit 1 ≡ 99
unfolding cells
event_word = refl

event_other : committed_word event_commit 0 ≡ 10
unfolding cells
event_other = refl

-- once the head is moved on, the log of the entry that stands there is not its commit's
abbrev event_done : State
event_done = put event_commit (set_to head_seat 0)

done_held : held_entries event_done ≡ posting 8 1 2 3 4 ∷ []
unfolding cells
done_held = refl

done_word : committed_word event_done 1 ≡ 20
unfolding cells
done_word = refl

-- where words lie
entry_addresses : address 2 (Seat.Entry 1 2 0) ≡ 12 + 14 + 10 + 6 + 2
entry_addresses = refl
