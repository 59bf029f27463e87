-- The changes of each commit, in their order. The next write is that of the first one which
-- doesn't stand yet.
use Rattle.std.specs.Prelude.{ℕ, ◌==◌, List, [], ◌∷◌, ◌++◌, if◌then◌else◌, is_some}
use Rattle.nv_memory.specs.State.{Change, State, set_to}
use Rattle.nv_memory.specs.StandsFor.{head_slot}
use Rattle.nv_memory.specs.Words.{current, current_seat, first, first_seat, head, head_next, head_seat, mark, mark_seat, next, opened, opened_seat, variable_seat}
use Rattle.nv_memory.specs.Logs.{LogSeats, entry_log, index_in, length_in, number_in, pair_value_in, task_log, tx_log}
use Rattle.tx_buffer.specs.Clear.{unflag_changes}
use Rattle.tx_buffer.specs.Merge.{merge_changes}
use Rattle.tx_buffer.specs.Next.{changes_below}

-- the first task of the unit: the task that is merged, where no transaction is open yet
abbrev pub first_task : State → ℕ
first_task s = if opened s == 1 then first s else current s

-- once the transaction has all that the task wrote and read: it is opened, the place moved, the
-- task log emptied
abbrev pub opening_changes : State → List Change
opening_changes s =
    set_to first_seat (first_task s)
    ∷ set_to opened_seat 1
    ∷ set_to current_seat (next s)
    ∷ set_to task_log.length 0
    ∷ set_to mark_seat 0
    ∷ []

-- a task into its transaction
abbrev pub into_tx_changes : State → List Change
into_tx_changes s = merge_changes s ++ opening_changes s

-- a pair of a log becomes its variable
abbrev pub variable_changes : State → LogSeats → ℕ → List Change
variable_changes s l i = set_to (variable_seat (number_in s l i)) (pair_value_in s l i) ∷ []

-- all pairs of a log do
abbrev pub log_changes : State → LogSeats → List Change
log_changes s l = changes_below (variable_changes s l) (length_in s l)

-- a pair of the transaction log does where the task log has no newer one
abbrev pub older_changes : State → ℕ → List Change
older_changes s i =
    if is_some (index_in s task_log (number_in s tx_log i)) then []
    else variable_changes s tx_log i

-- once the transaction's log and flags are gone, it is closed, and the place moved
abbrev pub closing_changes : State → List Change
closing_changes s = set_to opened_seat 0 ∷ set_to current_seat (next s) ∷ set_to mark_seat 0 ∷ []

-- once the logs are empty, the flags are taken back first
abbrev pub unit_closes : State → List Change
unit_closes s = changes_below unflag_changes s.n ++ closing_changes s

-- once the variables stand, both logs are emptied first
abbrev pub unit_ends : State → List Change
unit_ends s = set_to tx_log.length 0 ∷ set_to task_log.length 0 ∷ unit_closes s

-- once the older pairs stand, those of the task log are next
abbrev pub newer_changes : State → List Change
newer_changes s = log_changes s task_log ++ unit_ends s

-- a unit into the variables
abbrev pub unit_changes : State → List Change
unit_changes s = changes_below (older_changes s) (length_in s tx_log) ++ newer_changes s

-- the pairs of the entry at the head, while it is there
abbrev pub taken_changes : State → List Change
taken_changes s = if head s == head_next s then [] else log_changes s (entry_log (head_slot s))

-- once they stand, the entry is freed
abbrev pub freeing_changes : State → List Change
freeing_changes s = set_to head_seat (head_next s) ∷ set_to mark_seat 0 ∷ []

-- an event into the variables
abbrev pub event_changes : State → List Change
event_changes s = taken_changes s ++ freeing_changes s

-- the commit under way, by the marker
abbrev pub commit_changes : State → List Change
commit_changes s =
    if mark s == 1 then into_tx_changes s
    else (if mark s == 2 then unit_changes s else (if mark s == 3 then event_changes s else []))
