-- The definitions on small images of two variable words and room for two postings.
use Rattle.std.proofs.Common.{◌≡◌, ℕ, List, [], ◌∷◌, Some, true, false, refl}
use Rattle.nv_memory.specs.Seats.{Seat}
use Rattle.nv_memory.specs.State.{Change, State, first_undone, put, set_to}
use Rattle.nv_memory.specs.Words.{current_seat, doomed_seat, opened_seat, tx_flag_seat, variable_seat}
use Rattle.nv_memory.specs.Logs.{tx_log}
use Rattle.buffi_sets.specs.Conflict.{head_value, is_shared_read}
use Rattle.buffi_sets.specs.Undo.{undo_changes, undo_left}
use Rattle.buffi_sets.specs.View.{handler_word, word_behind_entries}

-- all words are 0, but for those that are put
abbrev blank : State
blank = record { n = 2; k = 2; at = λ seat. 0 }

abbrev puts : State → List Change → State
puts s [] = s
puts s (change ∷ changes) = puts (put s change) changes

-- the log of an entry with one pair
abbrev with_entry : (slot word value : ℕ) → List Change
with_entry slot word value =
    set_to (Seat.Entry slot 0 1) 1 ∷ set_to (Seat.Entry slot 1 0) word ∷ set_to (Seat.Entry slot 2 0) value ∷ []

-- two events are held, both wrote word 0
abbrev held_two : State
held_two = puts (puts (puts blank (with_entry 0 0 5)) (with_entry 1 0 6)) (set_to (Seat.Header 8) 2 ∷ set_to (variable_seat 0) 4 ∷ [])

-- a handler reads what the newest wrote
reads_newest : word_behind_entries held_two 0 ≡ 6
reads_newest = refl

reads_variable : word_behind_entries held_two 1 ≡ 0
reads_variable = refl

-- its own log comes before
reads_own : handler_word (puts held_two (with_entry 2 0 7)) 0 ≡ 7
reads_own = refl

-- while the first of them is committed, its log is still read
abbrev taking_first : State
taking_first = puts held_two (set_to (Seat.Header 0) 3 ∷ set_to (Seat.Header 7) 1 ∷ [])

reads_newest_still : word_behind_entries taking_first 0 ≡ 6
reads_newest_still = refl

-- while a unit is committed its logs come before the variables, whether or not a transaction was open
abbrev committing : State
committing = puts blank (set_to (Seat.Header 0) 2 ∷ set_to tx_log.length 1 ∷ set_to (tx_log.value 0) 3 ∷ set_to (variable_seat 0) 4 ∷ [])

reads_commit : word_behind_entries committing 0 ≡ 3
reads_commit = refl

-- the event wrote word 0, which the transaction has read
abbrev flagged : State
flagged = puts held_two (set_to opened_seat 1 ∷ set_to (tx_flag_seat 0) 1 ∷ set_to (Seat.Header 10) 7 ∷ [])

event_wrote : head_value flagged 0 ≡ Some 5
event_wrote = refl

transaction_read : is_shared_read flagged false 0 ≡ true
transaction_read = refl

-- where none is open its flags say nothing
none_read : is_shared_read (put flagged (set_to opened_seat 0)) true 0 ≡ false
none_read = refl

-- nothing is undone before the transaction is doomed
not_doomed : undo_changes flagged ≡ []
not_doomed = refl

abbrev doomed_one : State
doomed_one = put flagged (set_to doomed_seat 1)

-- the log is empty already, then the flag is taken back; the place is behind it
first_undo : first_undone doomed_one (undo_changes doomed_one) ≡ Some (set_to (tx_flag_seat 0) 0)
first_undo = refl

writes_left : undo_left doomed_one ≡ 4
writes_left = refl

-- the place is written before the transaction is closed, and the doom is taken back last
later_undo : first_undone (put doomed_one (set_to (tx_flag_seat 0) 0)) (undo_changes doomed_one) ≡ Some (set_to current_seat 7)
later_undo = refl
