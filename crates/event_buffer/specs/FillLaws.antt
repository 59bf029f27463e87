-- What the parts of a posting, and stores into its log, make of the image.
use Rattle.std.specs.Prelude.{ℕ, ◌+◌, ◌≤◌, ◌≡◌, List, length, false}
use Rattle.nv_memory.specs.declared.log.Log.TheVariants as log
use Rattle.nv_memory.specs.State.{State, put}
use Rattle.nv_memory.specs.Frames.{KeepsBeside}
use Rattle.nv_memory.specs.InRange.{InRange}
use Rattle.event_buffer.specs.Fill.{HasPosting, IsFilled, fill_change, is_full, tail_slot}
use Rattle.event_buffer.specs.Keeps.{KeepsBesideEntry, KeepsHeld, KeepsSound}

-- one part more stands in the slot, and nothing beside the slot's entry is changed
pub record Fills (slot event : ℕ) (message : List ℕ) (part : ℕ) (s t : State) : Type 0 where
  pub filled : IsFilled t slot event message (part + 1)
  pub beside : KeepsBesideEntry slot s t
  pub sound : KeepsSound s t

abbrev pub PartsFillTheSlot : Type 0
PartsFillTheSlot = (s : State) (slot event : ℕ) (message : List ℕ) (part : ℕ) → InRange s
    → IsFilled s slot event message part → Fills slot event message part s
    (put s (fill_change slot event message part))

-- before the first part nothing is said
abbrev pub NoPartStandsAtFirst : Type 0
NoPartStandsAtFirst = (s : State) (slot event : ℕ) (message : List ℕ) →
    IsFilled s slot event message 0

-- after the last part the posting stands
abbrev pub AllPartsAreThePosting : Type 0
AllPartsAreThePosting = (s : State) (slot event : ℕ) (message : List ℕ) → length message ≤ 4
    → IsFilled s slot event message (length message + 2) → HasPosting s slot event message

-- a write to a log of an entry leaves all beside the entry
abbrev pub LogsAreInTheirEntries : Type 0
LogsAreInTheirEntries = (slot : ℕ) (s t : State) → KeepsBeside (log.Entry slot) s t →
    KeepsBesideEntry slot s t

-- where there is room, no write to the entry at the tail touches what the image stands for
abbrev pub TailEntryIsFree : Type 0
TailEntryIsFree = (s t : State) → InRange s → is_full s ≡ false →
    KeepsBesideEntry (tail_slot s) s t → KeepsHeld s t
