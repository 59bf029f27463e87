-- What a handler reads in `buffi`.
use Rattle.std.specs.Prelude.{ℕ, ◌==◌, ◌≡◌, List, [], ◌∷◌, Option, if◌then◌else◌}
use Rattle.std.specs.Option.{unwrap_or}
use Rattle.nv_memory.specs.declared.log.Log.TheVariants as log
use Rattle.nv_memory.specs.State.{State}
use Rattle.nv_memory.specs.Words.{head, mark, tail, variable}
use Rattle.nv_memory.specs.Logs.{log_value}
use Rattle.nv_memory.specs.Ring.{held_slots, positions_between, slot_of, slots_from}
use Rattle.nv_memory.specs.StandsFor.{committed_word, unit_value}
use Rattle.nv_memory.specs.InRange.{InRange}

-- the value of a word in the log of the entry in a slot
abbrev pub entry_value : State → (slot word : ℕ) → Option ℕ
entry_value s slot word = log_value s (log.Entry slot) word

-- the value of a word that the logs of some entries change one after another: the last that has
-- the word decides
abbrev pub changed_by : State → (word : ℕ) → (slots : List ℕ) → (value : ℕ) → ℕ
changed_by s word [] value = value
changed_by s word (slot ∷ slots) value =
    changed_by s word slots (unwrap_or (entry_value s slot word) value)

-- the slots of the entries from the head to the tail, the oldest first
abbrev pub entry_slots : State → List ℕ
entry_slots s = slots_from s.k (head s) (positions_between s.k (head s) (tail s))

-- a word below all entries: where a unit is under commit its logs come before the variables
abbrev pub word_below_entries : State → ℕ → ℕ
word_below_entries s word =
    if mark s == 2 then unwrap_or (unit_value s word) (variable s word) else variable s word

-- a word as the entries leave it
abbrev pub word_behind_entries : State → ℕ → ℕ
word_behind_entries s word = changed_by s word (entry_slots s) (word_below_entries s word)

-- the slot that is filled next
abbrev pub tail_slot : State → ℕ
tail_slot s = slot_of s.k (tail s)

-- a word as a handler reads it: its own log, in the slot at the tail, comes first
abbrev pub handler_word : State → ℕ → ℕ
handler_word s word = unwrap_or (entry_value s (tail_slot s) word) (word_behind_entries s word)

-- below its own log a handler reads the committed words, changed by the held events, the oldest
-- first
abbrev pub HandlersReadBehindHeldEvents : Type 0
HandlersReadBehindHeldEvents =
    (s : State) → InRange s → (word : ℕ)
    → word_behind_entries s word ≡ changed_by s word (held_slots s) (committed_word s word)
