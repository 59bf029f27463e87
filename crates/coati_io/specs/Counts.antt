-- Counts with a greatest number, at which they stay.
use Rattle.std.specs.Prelude.{ℕ, ◌+◌, ◌-◌, ◌^◌, ◌≤◌, min, Result, Ok, Err, ◌≡◌}

-- the greatest count of faults, of reads and of writes
abbrev pub greatest_count : ℕ
greatest_count = 2 ^ 64 - 1

-- a count after one more
abbrev pub raised : ℕ → ℕ
raised count = min (count + 1) greatest_count

-- a count of the calls that moved bytes, after a call that moved `n`
abbrev pub counted : ℕ → ℕ → ℕ
counted count n = min (count + min n 1) greatest_count

-- the number of the call that comes after the call of this number
abbrev pub next_call : ℕ → ℕ
next_call number = min (number + 1) (2 ^ 32 - 1)

-- a count of the calls that moved bytes rises by at most one in such a call, and stays in any
-- other
abbrev pub CountsMoved : {E : Type 0} → ℕ → ℕ → Result ℕ E → Type 0
CountsMoved before after (Ok n) = (before ≤ after) × (after ≤ before + min n 1)
CountsMoved before after (Err e) = after ≡ before
