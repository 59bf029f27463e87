-- What the bottom halves of the held postings have read, in mode buffi, where they run in handlers.
use Rattle.std.specs.Prelude.{ℕ, ◌+◌, ◌-◌, ◌≤◌, List, [], ◌∷◌, ◌++◌, drop, length, take, Some, None}
use Rattle.coati_word.specs.declared.reading.Reading.{Reading}
use Rattle.coati_device.specs.declared.waiting.Span.{Span}
use Rattle.word_cpu.specs.declared.turn.Turn.{Turn}
use Rattle.word_cpu.specs.declared.turn.Turn.TheVariants.{Went, Storing, Ended}

pub record Waits : Type 0 where
  -- what each held event has read, the oldest first
  pub events : List (List Reading)
  -- what the handler under way has read, or one that a cut has broken off
  pub made : List Reading
  -- room for more readings
  pub room : ℕ
  -- and for more events
  pub places : ℕ

-- a bottom half begins
abbrev pub begun : Waits → Waits
begun waits = record waits { made = [] }

-- with a reading more
abbrev pub having_read : Waits → Reading → Waits
having_read waits reading =
    record waits { made = waits.made ++ reading ∷ []; room = waits.room - 1 }

-- with what a step of the machine read
abbrev pub waits_after : Waits → Turn → Waits
waits_after waits (Went None) = waits
waits_after waits (Went (Some reading)) = having_read waits reading
waits_after waits Storing = waits
waits_after waits (Ended ending) = waits

-- the event of the handler under way is held
abbrev pub with_made : Waits → Waits
with_made waits = record waits {
  events = waits.events ++ waits.made ∷ [];
  made = [];
  places = waits.places - 1;
}

-- what the oldest event has read
abbrev pub first_read : List (List Reading) → List Reading
first_read [] = []
first_read (read ∷ more) = read

abbrev pub behind_first : List (List Reading) → List (List Reading)
behind_first [] = []
behind_first (read ∷ more) = more

-- the oldest event is held no more
abbrev pub without_first : Waits → Waits
without_first waits = record waits { events = behind_first waits.events }

-- how many readings these are
abbrev pub count_all : List (List Reading) → ℕ
count_all [] = 0
count_all (read ∷ more) = length read + count_all more

abbrev pub waiting_count : Waits → ℕ
waiting_count waits = count_all waits.events + length waits.made

-- the readings of one event in the list of all
abbrev pub read_at : List Reading → Span → List Reading
read_at all span = take span.len (drop span.from all)

-- they are among the first `count`
abbrev pub IsWithin : ℕ → Span → Type 0
IsWithin count span = span.from + span.len ≤ count
