-- What a top half sees: words that are no variables. It touches none of them; that it has them
-- makes its machine the same as every other.
use Rattle.std.specs.Prelude.{ℕ, ◌≡◌, List, slice_set}
use Rattle.word_cpu.specs.Meaning.{Meaning}

abbrev pub scratch_view : Meaning (List ℕ)
scratch_view = record {
  words = λ words. words;
  begun = λ words word value part. part ≡ 0;
  loaded = λ old word new. new ≡ old;
  stored = λ old word value part new is_last. new ≡ slice_set old word value;
}
