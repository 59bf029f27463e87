-- What a call that may fail says of a count of faults.
use Rattle.std.specs.Prelude.{◌≡◌, ℕ, ◌≤◌, Result, OnErr, IsOk}
use Rattle.coati_io.specs.Counts.{raised}

-- the count is greater after the call than before it, or stands at the greatest
abbrev pub Rose : ℕ → ℕ → Type 0
Rose before after = raised before ≤ after

-- the count has not fallen, and an error comes only where it rose
pub record HasCause {T E : Type 0} (before after : ℕ) (result : Result T E) : Type 0 where
  pub later : before ≤ after
  pub failed : OnErr result (Rose before after)

-- the call succeeded, and the count stayed
pub record Succeeds {T E : Type 0} (before after : ℕ) (result : Result T E) : Type 0 where
  pub ok : IsOk result
  pub same : after ≡ before
