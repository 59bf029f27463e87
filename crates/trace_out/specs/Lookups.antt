-- What a name at the front of a text stands for, and what stands behind it.
use Rattle.std.specs.Prelude.{ℕ, ◌+◌, ◌-◌, List, [], ◌∷◌, codes, Option, Some, None, if◌then◌else◌}
use Rattle.std.specs.Option.{option_map}
use Rattle.std.specs.Str.{bytes_eq}
use Rattle.task_check.specs.Counts.{transactions}
use Rattle.task_check.specs.Numbers.{event_of}
use Rattle.task_syntax.specs.declared.program.Program.{Program}
use Rattle.task_syntax.specs.declared.program.TxDecl.{TxDecl}
use Rattle.task_syntax.specs.Names.{task_of, words_of}
use Rattle.trace_out.specs.Front.{◌>>=◌, behind, behind_name, name_at, number_at}

-- the number of the transaction of a name, where the first of these has the number `first`
abbrev pub transaction_from : ℕ → List TxDecl → List ℕ → Option ℕ
transaction_from first [] name = None
transaction_from first (tx ∷ more) name = if bytes_eq tx.name.text name then Some first
    else transaction_from (first + 1) more name

-- the number of the transaction of a name, where it is one
abbrev pub transaction_of : Program → List ℕ → Option ℕ
transaction_of program name = transaction_from 0 (transactions program) name

-- what a look-up finds under the name at the front
abbrev pub named_at : {A : Type 0} → (List ℕ → Option A) → List ℕ → Option (A × List ℕ)
named_at look_up text = option_map (λ found. (found, behind_name text)) (look_up (name_at text))

unfoldable pub task_at : Program → List ℕ → Option (ℕ × List ℕ)
task_at program text = named_at (task_of program) text

unfoldable pub transaction_at : Program → List ℕ → Option (ℕ × List ℕ)
transaction_at program text = named_at (transaction_of program) text

unfoldable pub event_at : Program → List ℕ → Option (ℕ × List ℕ)
event_at program text = named_at (event_of program) text

-- the index in an array of so many items, in brackets
unfoldable pub index_at : ℕ → List ℕ → Option (ℕ × List ℕ)
index_at items text = do
  opened ← behind (codes "[") text
  index ← number_at (items - 1) opened
  closed ← behind (codes "]") index.1
  Some (index.0, closed)

-- the word of a variable with these words: a scalar has one, of an array an index follows
abbrev pub word_among : ℕ → Option ℕ → List ℕ → Option (ℕ × List ℕ)
word_among first None text = Some (first, text)
word_among first (Some items) text =
    option_map (λ index. (first + index.0, index.1)) (index_at items text)

unfoldable pub word_at : Program → List ℕ → Option (ℕ × List ℕ)
word_at program text = do
  words ← words_of program (name_at text)
  word_among words.first words.length (behind_name text)
