-- An aborted transaction is undone: its log and flags go, the program stands at its first task
-- again, and it is closed. Only then is it doomed no more, so that an undo that a cut breaks off
-- goes on.
use Rattle.std.specs.Prelude.{ℕ, suc, ◌+◌, ◌<◌, ◌≤◌, ◌==◌, ◌≡◌, ◌↔◌, ◌⊎◌, List, [], ◌∷◌, ◌++◌, Some, None, if◌then◌else◌}
use Rattle.nv_memory.specs.State.{Change, State, first_undone, is_done, put, set_to}
use Rattle.nv_memory.specs.Words.{current, current_seat, doomed, doomed_seat, first, mark, opened, opened_seat}
use Rattle.nv_memory.specs.InRange.{InRange, IsClosed}
use Rattle.tx_buffer.specs.Clear.{clear_changes}
use Rattle.buffi_sets.specs.Keeps.{Keeps}

-- the open transaction is aborted
abbrev pub doom_change : Change
doom_change = set_to doomed_seat 1

-- the program goes back to the first task of the transaction, which isn't open any more
abbrev pub restart_changes : State → List Change
restart_changes s = set_to current_seat (first s) ∷ set_to opened_seat 0
    ∷ set_to doomed_seat 0 ∷ []

-- all that is changed where a transaction is aborted
abbrev pub undo_changes : State → List Change
undo_changes s = if doomed s == 1 then clear_changes s ++ restart_changes s else []

-- how many of some changes don't stand yet
abbrev pub undone_count : State → List Change → ℕ
undone_count s [] = 0
undone_count s (change ∷ changes) =
    if is_done s change then undone_count s changes else suc (undone_count s changes)

-- how many writes an undo has left
abbrev pub undo_left : State → ℕ
undo_left s = undone_count s (undo_changes s)

-- each write of an undo leaves what memory stands for
abbrev pub UndoWritesKeep : Type 0
UndoWritesKeep =
    (s : State) (change : Change) → InRange s → IsClosed s → mark s ≡ 0
    → first_undone s (undo_changes s) ≡ Some change → Keeps s (put s change)

-- and so does the write that begins it
abbrev pub DoomWritesKeep : Type 0
DoomWritesKeep =
    (s : State) → InRange s → IsClosed s → mark s ≡ 0 → (opened s ≡ 1) ⊎ (current s ≡ first s)
    → Keeps s (put s doom_change)

-- an undo ends: with each write fewer are left, at most one for the log, for each flag and for
-- three words of the header, and none exactly where no write is answered
pub record UndoEnds (s : State) : Type 0 where
  pub falls : (change : Change)
      → first_undone s (undo_changes s) ≡ Some change → undo_left (put s change) < undo_left s
  pub few : undo_left s ≤ s.n + 4
  pub none : (undo_left s ≡ 0) ↔ (first_undone s (undo_changes s) ≡ None)

abbrev pub UndosEnd : Type 0
UndosEnd = (s : State) → UndoEnds s
