-- Measures are told in 32 bits and stand still at the greatest number of these.
use Rattle.std.specs.Prelude.{ℕ, min}

-- the number, or the greatest that is told
abbrev pub saturated : ℕ → ℕ
saturated n = min n 4294967295
