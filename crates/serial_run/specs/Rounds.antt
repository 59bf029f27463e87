-- How a run of tasks is seen to go round without a reading.
use Rattle.std.specs.Prelude.{ℕ, ◌+◌, ◌≡◌, ◌<◌, ◌⊎◌}
use Rattle.serial_run.specs.declared.follow.Round.{Round}

-- from the place of the round a task or more led to it again, and no reading was made
pub record HasComeRound (round : Round) (place read : ℕ) : Type 0 where
  pub some : 0 < round.tasks
  pub no_reading : round.read ≡ read
  pub again : round.place ≡ place

-- a round begins at the place, with one task
pub record Begins (place read : ℕ) (next : Round) : Type 0 where
  pub place_is : next.place ≡ place
  pub read_is : next.read ≡ read
  pub tasks_are : next.tasks ≡ 1

-- the round has one task more, and no reading was made
pub record GoesOnBy (round : Round) (read : ℕ) (next : Round) : Type 0 where
  pub some : 0 < round.tasks
  pub no_reading : round.read ≡ read
  pub place_is : next.place ≡ round.place
  pub read_is : next.read ≡ round.read
  pub tasks_are : next.tasks ≡ round.tasks + 1

-- the round with a task more at the place
abbrev pub IsRoundOn : Round → ℕ → ℕ → Round → Type 0
IsRoundOn round place read next = Begins place read next ⊎ GoesOnBy round read next
