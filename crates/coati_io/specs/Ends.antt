-- What reading a whole source and writing a whole text say of the bytes that were left, and taken.
use Rattle.std.specs.Prelude.{◌≡◌, ℕ, ◌+◌, ◌<◌, ◌≤◌, List, length, take, Option}
use Rattle.std.specs.Io.KnownBytes.{Consumes, Appends, IsAtEnd}
use Rattle.coati_io.specs.declared.reading.ReadEnd.{ReadEnd}
use Rattle.coati_io.specs.declared.reading.ReadEnd.TheVariants as read_end
use Rattle.coati_io.specs.declared.writing.WriteEnd.{WriteEnd}
use Rattle.coati_io.specs.declared.writing.WriteEnd.TheVariants as write_end

-- this many bytes were given, and no others
pub record ConsumesExactly (old new : Option (List ℕ)) (n : ℕ) : Type 0 where
  pub bytes : List ℕ
  pub consumed : Consumes old new bytes
  pub count : length bytes ≡ n

-- at most this many bytes were given
pub record ConsumesAtMost (old new : Option (List ℕ)) (n : ℕ) : Type 0 where
  pub bytes : List ℕ
  pub consumed : Consumes old new bytes
  pub count : length bytes ≤ n

-- these are all bytes up to the end, and there are at most `max`
pub record ReadsWhole (old new : Option (List ℕ)) (max : ℕ) (bytes : List ℕ) : Type 0 where
  pub consumed : Consumes old new bytes
  pub ended : IsAtEnd new
  pub fits : length bytes ≤ max

-- how many bytes were given where reading stopped before the end: with byte `max + 1`, or before
-- it
abbrev pub StopsReading : Option (List ℕ) → Option (List ℕ) → ℕ → ReadEnd → Type 0
StopsReading old new max read_end.Fault = ConsumesAtMost old new max
StopsReading old new max read_end.TooLarge = ConsumesExactly old new (max + 1)
StopsReading old new max read_end.OutOfMemory = ConsumesAtMost old new max

-- exactly the first `sent` bytes were appended, and they are not all
abbrev pub StopsWriting : Option (List ℕ) → Option (List ℕ) → List ℕ → WriteEnd → Type 0
StopsWriting old new bytes (write_end.Fault sent) = Appends old new (take sent bytes)
    × (sent < length bytes)
