-- A reader or a writer of std, as contracts see it behind a source or a sink.
use Rattle.std.specs.Prelude.{ℕ, List, Option, Result, Ok, Err}
use Rattle.coati_io.specs.Counts.{raised}

-- what it tells of itself, and its failures
pub record Adapted : Type 0 where
  -- the bytes that the reader has left, or that the writer holds, where it tells them
  pub known : Option (List ℕ)
  -- how often it failed
  pub faults : ℕ

-- a count of faults after a call with this answer
abbrev pub faults_after : {E : Type 0} → ℕ → Result ℕ E → ℕ
faults_after count (Ok n) = count
faults_after count (Err e) = raised count
