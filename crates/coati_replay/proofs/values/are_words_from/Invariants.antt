use Rattle.std.proofs.Common.{◌≡◌, ℕ, ◌+◌, ◌<◌}
use Rattle.std.specs.Prelude.{slice_index}
use Rattle.coati_replay.proofs.values.are_words_from.Given as goal

abbrev pub invariant-loop-value : goal.invariant-loop-value
invariant-loop-value l = record {
  word_is : l.word ≡ l.first + l.value-index;
  so_far : (k : ℕ) → k < l.value-index → slice_index l.values k ≡ slice_index l.store (l.first + k);
}
