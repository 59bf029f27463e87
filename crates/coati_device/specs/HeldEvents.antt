-- The held events, in mode buffi: each has run in its handler, on the committed words changed by
-- the events before it. Its log is what it wrote, and what it read is kept for its record.
use Rattle.std.specs.Prelude.{ℕ, ◌≡◌, List, [], ◌∷◌}
use Rattle.coati_word.specs.declared.reading.Reading.{Reading}
use Rattle.task_syntax.specs.declared.program.Program.{Program}
use Rattle.task_syntax.specs.Course.{Access, Store, after, readings}
use Rattle.task_syntax.specs.Events.{event_effect}
use Rattle.task_syntax.specs.Written.{last_written}
use Rattle.serial_log.specs.declared.held.Held.{Held}
use Rattle.serial_log.specs.Standing.{Standing}
use Rattle.nv_memory.specs.Ring.{held_slots}
use Rattle.nv_memory.specs.State.{State}
use Rattle.nv_memory.specs.Words.{mode}
use Rattle.buffi_sets.specs.View.{entry_value}

-- what an event did on a store
abbrev pub effect_on : Program → Held → Store → List Access
effect_on program held store = event_effect program held.event held.argument store

-- the log of a slot's entry holds what the event wrote on a store, and this is what it read
pub record HoldsEvent (program : Program) (s : State) (slot : ℕ) (held : Held)
    (read : List Reading) (store : Store) : Type 0 where
  pub log : (word : ℕ) →
      entry_value s slot word ≡ last_written (effect_on program held store) word
  pub reads : read ≡ readings (effect_on program held store)

-- the entries of these slots are these events one after another, each on what those before it left
abbrev pub HoldEvents : Program → State → List ℕ → List Held → List (List Reading) → Store →
    Type 0
HoldEvents program s [] [] [] store = Unit {0}
HoldEvents program s (slot ∷ slots) (held ∷ rest) (read ∷ reads) store =
    HoldsEvent program s slot held read store
    × HoldEvents program s slots rest reads (after (effect_on program held store) store)
HoldEvents program s slots rest reads store = ⊥

-- so are the held entries of memory, where a history leads
abbrev pub EventsFit : Program → State → Standing → List (List Reading) → Type 0
EventsFit program s standing reads =
    mode s ≡ 1 → HoldEvents program s (held_slots s) standing.rest reads standing.run.store
