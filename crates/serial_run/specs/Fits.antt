-- What is kept has room for each word.
use Rattle.std.specs.Prelude.{ℕ, vec_len}
use Rattle.serial_run.specs.declared.kept.Kept.{Kept}
use Rattle.serial_run.specs.declared.kept.Kept.TheVariants.{Readings, Touches}

-- how many words have a mark of each kind; readings have room for any word
abbrev pub shared_count : Kept → ℕ → ℕ
shared_count (Readings before) words = words
shared_count (Touches shared written) words = vec_len shared

abbrev pub written_count : Kept → ℕ → ℕ
written_count (Readings before) words = words
written_count (Touches shared written) words = vec_len written
