-- Where the words of the image lie. Each word has a seat: one of twelve header words, a word of
-- one of seven parts that have a word for each variable word, or a word of one of the three parts
-- of an entry.
use Rattle.std.specs.Prelude.{ℕ, ◌+◌, ◌*◌, ◌==◌, ◌≤◌, ◌≡◌, List, length, slice_set, Bool, if◌then◌else◌, nat_lt, ◌&&◌}
use Rattle.nv_memory.specs.declared.write.Write.{Write}

pub data Seat : Type 0 where
  -- mark, current place, next place, open, lengths of the two logs, head, next head, tail, doom,
  -- first task, mode
  Header : ℕ → Seat
  -- variables, word numbers and values of the task log, those of the transaction log, attempt
  -- flags, transaction flags
  Part : (part word : ℕ) → Seat
  -- event, length of the log and message, its log's word numbers, its log's values
  Entry : (slot part at : ℕ) → Seat

-- the words of an image with n variable words and k entries besides one
pub record Memory : Type 0 where
  pub n : ℕ
  pub k : ℕ
  pub words : List ℕ

-- how many words an entry has
abbrev pub width : ℕ → ℕ
width n = 6 + 2 * n

-- where a part of an entry begins, and how many words it has
abbrev pub part_at : ℕ → ℕ → ℕ
part_at n part = if part == 0 then 0 else (if part == 1 then 6 else 6 + n)

abbrev pub part_size : ℕ → ℕ → ℕ
part_size n part = if part == 0 then 6 else n

abbrev pub address : ℕ → Seat → ℕ
address n (Seat.Header i) = i
address n (Seat.Part part word) = 12 + (part * n + word)
address n (Seat.Entry slot part at) = 12 + 7 * n + (slot * width n + (part_at n part + at))

abbrev pub size : ℕ → ℕ → ℕ
size n k = 12 + 7 * n + (k + 1) * width n

-- the seat is one of an image of these sizes
abbrev pub is_seat : ℕ → ℕ → Seat → Bool
is_seat n k (Seat.Header i) = nat_lt i 12
is_seat n k (Seat.Part part word) = nat_lt part 7 && nat_lt word n
is_seat n k (Seat.Entry slot part at) = nat_lt slot (k + 1)
    && (nat_lt part 3 && nat_lt at (part_size n part))

-- the sizes that an image may have
pub record IsSized (n k : ℕ) : Type 0 where
  pub some_words : 1 ≤ n
  pub few_words : n ≤ 256
  pub some_entries : 1 ≤ k
  pub few_entries : k ≤ 32

pub record IsMemory (m : Memory) : Type 0 where
  pub sizes : IsSized m.n m.k
  pub whole : length m.words ≡ size m.n m.k

-- the memory after one write
abbrev pub written : Memory → Write → Memory
written m write = record m { words = slice_set m.words write.at write.word }
