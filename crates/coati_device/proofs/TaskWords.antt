-- The words that a task sees. At its start they are those that it runs on.
use Rattle.std.proofs.Common.{◌≡◌, ℕ, zero, suc, ◌+◌, ◌<◌, ◌≤◌, Bool, true, false, length, refl, sym, ap, ◌∙◌, arith}
use Rattle.std.specs.Prelude.{None, nat_lt, slice_index}
use Rattle.std.proofs.lemmas.Bool.Decides.{nat_tests}
use Rattle.nv_memory.specs.declared.log.Log.TheVariants as log
use Rattle.nv_memory.specs.InRange.{InRange}
use Rattle.nv_memory.specs.Logs.{IsEmpty, log_value, tx_log}
use Rattle.nv_memory.specs.Seats.{Memory}
use Rattle.nv_memory.specs.StandsFor.{committed_word}
use Rattle.nv_memory.specs.State.{State, cells, state}
use Rattle.nv_memory.specs.Words.{mark, variable, variable_seat}
use Rattle.nv_memory.proofs.LogWrites.{none_beyond}
use Rattle.coati_device.specs.Attempt.{base_word}
use Rattle.coati_device.specs.TaskView.{task_word, task_words, values_from}
use Rattle.coati_device.proofs.UnitGrows.{pointwise}

pub values_length : (value : ℕ → ℕ) (at count : ℕ) → length (values_from value at count) ≡ count
values_length value at zero = refl
values_length value at (suc count) = ap suc (values_length value (suc at) count)

-- there are as many words as there are variable words
pub words_length : (m : Memory) → length (task_words m) ≡ m.n
words_length m = values_length (task_word (state m)) 0 m.n

pub value_at : (value : ℕ → ℕ) (at count i : ℕ) → i < count
    → slice_index (values_from value at count) i ≡ value (at + i)
value_at value at zero i low = absurd (omega arith)
value_at value at (suc count) zero low = let same : at ≡ at + 0 = omega arith in ap value same
value_at value at (suc count) (suc i) low =
    let same : suc at + i ≡ at + suc i = omega arith in
    value_at value (suc at) count i (omega arith) ∙ ap value same

pub none_behind : (value : ℕ → ℕ) (at count i : ℕ) → count ≤ i
    → slice_index (values_from value at count) i ≡ 0
none_behind value at zero i behind = refl
none_behind value at (suc count) zero behind = absurd (omega arith)
none_behind value at (suc count) (suc i) behind = none_behind value (suc at) count i (omega arith)

-- while no commit is under way, the committed words are the variables
pub committed_is : (s : State) (word : ℕ) → mark s ≡ 0 → committed_word s word ≡ variable s word
committed_is s word clear = rw clear refl

-- the task's log being empty, it sees what it runs on
word_at_start : (s : State) (word : ℕ) → mark s ≡ 0 → log_value s log.Task word ≡ None
    → task_word s word ≡ base_word s word
word_at_start s word clear none = rw (clear, none) refl

pub variable_behind : (m : Memory) (word : ℕ) → nat_lt word m.n ≡ false
    → cells m (variable_seat word) ≡ 0
unfolding cells
variable_behind m word behind = rw behind refl

-- behind the variable words there is nothing
base_behind : (m : Memory) (word : ℕ) → InRange (state m) → mark (state m) ≡ 0
    → nat_lt word m.n ≡ false → base_word (state m) word ≡ 0
base_behind m word range clear behind =
    let outside : m.n ≤ word = grind (arith, nat_tests) in
    let none : log_value (state m) log.Tx word ≡ None =
    none_beyond (state m) tx_log word (range.logs log.Tx tt) outside in
    let nothing : variable (state m) word ≡ 0 = variable_behind m word behind in
    rw (none, clear) nothing

sees_at_start : (m : Memory) (word : ℕ) (is : Bool) → nat_lt word m.n ≡ is → InRange (state m)
    → mark (state m) ≡ 0 → log_value (state m) log.Task word ≡ None
    → slice_index (task_words m) word ≡ base_word (state m) word
sees_at_start m word true low range clear none =
    let within : word < m.n = grind (arith, nat_tests) in
    let at : 0 + word ≡ word = omega arith in
    value_at (task_word (state m)) 0 m.n word within
    ∙ ap (task_word (state m)) at
    ∙ word_at_start (state m) word clear none
sees_at_start m word false behind range clear none =
    let outside : m.n ≤ word = grind (arith, nat_tests) in
    none_behind (task_word (state m)) 0 m.n word outside
    ∙ sym (base_behind m word range clear behind)

-- a task that starts sees what it runs on
pub words_at_start : (m : Memory) → InRange (state m) → mark (state m) ≡ 0
    → IsEmpty (state m) log.Task → slice_index (task_words m) ≡ base_word (state m)
words_at_start m range clear empty =
    pointwise (slice_index (task_words m)) (base_word (state m))
    (λ word. sees_at_start m word (nat_lt word m.n) refl range clear (empty word))
