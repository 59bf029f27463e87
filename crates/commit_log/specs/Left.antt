-- How many writes of the commit under way are left, at most.
use Rattle.std.specs.Prelude.{ℕ, zero, suc, ◌+◌, ◌-◌, ◌==◌, Option, Some, None, if◌then◌else◌}
use Rattle.nv_memory.specs.StandsFor.{committed_word}
use Rattle.nv_memory.specs.State.{Change, State, is_done, set_to}
use Rattle.nv_memory.specs.Words.{attempt_flag, current_seat, first_seat, head_next, head_seat, mark, next, opened_seat, tx_flag, variable}
use Rattle.nv_memory.specs.Logs.{index_in, length_in, number_in, pair_value_in, task_log, tx_log, value_in}
use Rattle.commit_log.specs.Changes.{first_task}

-- the sum over the first so many places
abbrev pub sum_below : (ℕ → ℕ) → ℕ → ℕ
sum_below count zero = 0
sum_below count (suc i) = count i + sum_below count i

-- one for a change that doesn't stand
abbrev pub undone : State → Change → ℕ
undone s change = if is_done s change then 0 else 1

-- one for a variable that isn't what is committed
abbrev pub unapplied : State → ℕ → ℕ
unapplied s word = if variable s word == committed_word s word then 0 else 1

-- one for a flag of the transaction
abbrev pub flagged : State → ℕ → ℕ
flagged s word = if tx_flag s word then 1 else 0

-- one for a flag of the attempt that isn't one of the transaction
abbrev pub unjoined : State → ℕ → ℕ
unjoined s word = if attempt_flag s word then (if tx_flag s word then 0 else 1) else 0

-- three for a pair of the task log whose word the transaction log lacks, one where it has another
-- value
abbrev pub lacking : ℕ → Option ℕ → ℕ
lacking value None = 3
lacking value (Some other) = if other == value then 0 else 1

abbrev pub unmerged : State → ℕ → ℕ
unmerged s i = lacking (pair_value_in s task_log i) (value_in s tx_log (number_in s task_log i))

-- how much of a pair stands behind the transaction log: nothing, its word, or its value too
abbrev pub begun_pair : State → ℕ → ℕ
begun_pair s i =
    let end = length_in s tx_log in
    if number_in s tx_log end == number_in s task_log i
    then (if pair_value_in s tx_log end == pair_value_in s task_log i then 2 else 1)
    else 0

-- of the first pair that the transaction log lacks, of so many pairs from one on

abbrev pub begun_at : State → (pair rest : ℕ) → Option ℕ → ℕ
begun_at s pair rest None = begun_pair s pair
begun_at s pair rest (Some at) = rest

abbrev pub begun_from : State → (at left : ℕ) → ℕ
begun_from s at zero = 0
begun_from s at (suc left) =
    begun_at s at (begun_from s (suc at) left) (index_in s tx_log (number_in s task_log at))

abbrev pub begun : State → ℕ
begun s = begun_from s 0 (length_in s task_log)

abbrev pub into_tx_left : State → ℕ
into_tx_left s =
    sum_below (unmerged s) (length_in s task_log) - begun s
    + (sum_below (unjoined s) s.n
    + (undone s (set_to first_seat (first_task s))
    + (undone s (set_to opened_seat 1)
    + (undone s (set_to current_seat (next s))
    + (undone s (set_to task_log.length 0) + 1)))))

abbrev pub unit_left : State → ℕ
unit_left s =
    sum_below (unapplied s) s.n
    + (undone s (set_to tx_log.length 0)
    + (undone s (set_to task_log.length 0)
    + (sum_below (flagged s) s.n
    + (undone s (set_to opened_seat 0)
    + (undone s (set_to current_seat (next s)) + 1)))))

abbrev pub event_left : State → ℕ
event_left s = sum_below (unapplied s) s.n + (undone s (set_to head_seat (head_next s)) + 1)

-- of the commit under way
abbrev pub writes_left : State → ℕ
writes_left s =
    if mark s == 1 then into_tx_left s
    else (if mark s == 2 then unit_left s else (if mark s == 3 then event_left s else 0))
