-- The words that the bottom half of the posting at the head sees. At its start they are the
-- committed words.
use Rattle.std.proofs.Common.{◌≡◌, ℕ, ◌+◌, ◌<◌, ◌≤◌, Bool, true, false, length, refl, sym, ap, ◌∙◌, arith}
use Rattle.std.specs.Prelude.{None, nat_lt, slice_index}
use Rattle.std.proofs.lemmas.Bool.Decides.{nat_tests}
use Rattle.nv_memory.specs.Logs.{IsEmpty, log_value}
use Rattle.nv_memory.specs.Seats.{Memory}
use Rattle.nv_memory.specs.StandsFor.{committed_word}
use Rattle.nv_memory.specs.State.{State, state}
use Rattle.nv_memory.specs.Words.{mark, variable}
use Rattle.coati_device.specs.BottomView.{bottom_word, bottom_words, head_log}
use Rattle.coati_device.proofs.TaskWords.{committed_is, none_behind, value_at, values_length, variable_behind}
use Rattle.coati_device.proofs.UnitGrows.{pointwise}

-- there are as many words as there are variable words
pub bottom_length : (m : Memory) → length (bottom_words m) ≡ m.n
bottom_length m = values_length (bottom_word (state m)) 0 m.n

-- its log being empty, it sees the variables
word_unlogged : (s : State) (word : ℕ) → log_value s (head_log s) word ≡ None
    → bottom_word s word ≡ variable s word
word_unlogged s word none = rw none refl

seen_at_start : (m : Memory) (word : ℕ) (is : Bool) → nat_lt word m.n ≡ is
    → log_value (state m) (head_log (state m)) word ≡ None
    → slice_index (bottom_words m) word ≡ variable (state m) word
seen_at_start m word true low none =
    let within : word < m.n = grind (arith, nat_tests) in
    let at : 0 + word ≡ word = omega arith in
    value_at (bottom_word (state m)) 0 m.n word within
    ∙ ap (bottom_word (state m)) at
    ∙ word_unlogged (state m) word none
seen_at_start m word false behind none =
    let outside : m.n ≤ word = grind (arith, nat_tests) in
    none_behind (bottom_word (state m)) 0 m.n word outside ∙ sym (variable_behind m word behind)

-- a bottom half that starts sees the committed words
pub bottom_at_start : (m : Memory) → mark (state m) ≡ 0 → IsEmpty (state m) (head_log (state m))
    → slice_index (bottom_words m) ≡ committed_word (state m)
bottom_at_start m clear empty =
    pointwise (slice_index (bottom_words m)) (committed_word (state m))
    (λ word. seen_at_start m word (nat_lt word m.n) refl (empty word)
    ∙ sym (committed_is (state m) word clear))
