-- A source and a sink in memory as contracts see them, and what a call makes of them.
use Rattle.std.specs.Prelude.{ℕ, ◌-◌, ◌<◌, ◌⊎◌, min, List, [], ◌∷◌, ◌++◌, length, take, drop, Contains, Result, Ok, Err}
use Rattle.coati_io.specs.Counts.{raised, counted, next_call}

-- a source in memory
pub record SourceInMemory : Type 0 where
  -- the bytes still to come
  pub left : List ℕ
  -- the most that one call moves
  pub piece : ℕ
  -- the numbers of the calls that fail
  pub fails : List ℕ
  -- the number of the last call
  pub calls : ℕ
  -- how many calls gave bytes
  pub reads : ℕ
  -- how many calls failed
  pub faults : ℕ

-- a sink in memory
pub record SinkInMemory : Type 0 where
  -- the bytes taken so far
  pub taken : List ℕ
  -- how many more bytes it has room for
  pub room : ℕ
  -- the most that one call moves
  pub piece : ℕ
  -- the numbers of the calls that fail
  pub fails : List ℕ
  -- the number of the last call
  pub calls : ℕ
  -- how many calls took bytes
  pub writes : ℕ
  -- how many calls failed
  pub faults : ℕ

-- a source that has given nothing yet
abbrev pub new_source : List ℕ → ℕ → List ℕ → SourceInMemory
new_source bytes piece fails = record {
  left = bytes;
  piece = piece;
  fails = fails;
  calls = 0;
  reads = 0;
  faults = 0;
}

-- a sink that has taken nothing yet, and has no room
abbrev pub new_sink : ℕ → List ℕ → SinkInMemory
new_sink piece fails =
    record {
      taken = [];
      room = 0;
      piece = piece;
      fails = fails;
      calls = 0;
      writes = 0;
      faults = 0;
    }

-- the call after the one of this number is among those that fail
abbrev pub FailsNext : List ℕ → ℕ → Type 0
FailsNext fails calls = Contains fails (next_call calls)

-- how many bytes a read gives to a buffer of this length, unless it fails
abbrev pub next_piece : SourceInMemory → ℕ → ℕ
next_piece s len = min len (min s.piece (length s.left))

-- the source after a read with this answer
abbrev pub after_read : {E : Type 0} → SourceInMemory → Result ℕ E → SourceInMemory
after_read s (Ok n) = record s {
  left = drop n s.left;
  calls = next_call s.calls;
  reads = counted s.reads n;
}
after_read s (Err e) = record s { calls = next_call s.calls; faults = raised s.faults }

-- the buffer after a read of these bytes with this answer: what lies behind the given bytes stays
abbrev pub filled_buffer : {E : Type 0} → List ℕ → List ℕ → Result ℕ E → List ℕ
filled_buffer buf bytes (Ok n) = take n bytes ++ drop n buf
filled_buffer buf bytes (Err e) = buf

-- a write of this many bytes fails: its number says so, or there is no room for a piece of it
abbrev pub RefusesWrite : SinkInMemory → ℕ → Type 0
RefusesWrite s len = FailsNext s.fails s.calls ⊎ (s.room < min s.piece len)

-- the sink after a write of these bytes with this answer
abbrev pub after_write : {E : Type 0} → SinkInMemory → List ℕ → Result ℕ E → SinkInMemory
after_write s bytes (Ok n) =
    record s {
      taken = s.taken ++ take n bytes;
      room = s.room - n;
      calls = next_call s.calls;
      writes = counted s.writes n;
    }
after_write s bytes (Err e) = record s { calls = next_call s.calls; faults = raised s.faults }

-- how many bytes a sink with this room takes without failing: none, where calls are told to fail
abbrev pub spare_room : List ℕ → ℕ → ℕ
spare_room [] room = room
spare_room (f ∷ fs) room = 0
