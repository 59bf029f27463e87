-- What a write to a seat leaves as it was.
use Rattle.std.proofs.Common.{◌≡◌, ◌≢◌, ◌⊎◌, inl, inr, ℕ, ◌+◌, ◌<◌, ◌≤◌, ◌==◌, refl, sym, ap, subst, ◌∙◌, arith, Bool, true, false, if◌then◌else◌, None, Option, ◌∷◌, []}
use Rattle.std.specs.Prelude.{List, map}
use Rattle.std.proofs.lemmas.Bool.Decides.{nat_tests}
use Rattle.nv_memory.specs.declared.log.Log.{Log}
use Rattle.nv_memory.specs.declared.log.Log.TheVariants as log
use Rattle.nv_memory.specs.Seats.{Seat}
use Rattle.nv_memory.specs.State.{State, is_same, put, set_to}
use Rattle.nv_memory.specs.Words.{attempt_flag_seat, doomed, head, head_next, mark, opened, tail, tx_flag_seat}
use Rattle.nv_memory.specs.Logs.{HasLog, IsLog, log_length, log_value, number_in, seats_of}
use Rattle.nv_memory.specs.Ring.{Entry, entry_at, held_entries, held_slots, is_taking}
use Rattle.nv_memory.specs.StandsFor.{applied_value, head_slot, unit_value}
use Rattle.nv_memory.specs.InRange.{InRange, IsClosed, IsRing}
use Rattle.nv_memory.specs.Frames.{KeepsBeside, StandsForTheSame}
use Rattle.nv_memory.proofs.Looks.{test_other}
use Rattle.nv_memory.proofs.LogWrites.{AreApart, LiesApart, apart_of, log_after_value, log_behind_number, log_beside, log_emptied, log_longer, logs_apart, value_beside}

-- the seat belongs to a log
pub record IsOfLogs (seat : Seat) : Type 0 where
  pub header : (i : ℕ) → i ≢ 4 → i ≢ 5 → is_same (Seat.Header i) seat ≡ false
  pub variables : (word : ℕ) → is_same (Seat.Part 0 word) seat ≡ false
  pub attempt_flags : (word : ℕ) → is_same (Seat.Part 5 word) seat ≡ false
  pub tx_flags : (word : ℕ) → is_same (Seat.Part 6 word) seat ≡ false
  pub entries : (slot at : ℕ) → at ≢ 1 → is_same (Seat.Entry slot 0 at) seat ≡ false

pub length_of_logs : (log : Log) → IsOfLogs (seats_of log).length
length_of_logs log.Task = record {
  header = λ i four five. test_other i 4 four;
  variables = λ word. refl;
  attempt_flags = λ word. refl;
  tx_flags = λ word. refl;
  entries = λ slot at other. refl;
}
length_of_logs log.Tx = record {
  header = λ i four five. test_other i 5 five;
  variables = λ word. refl;
  attempt_flags = λ word. refl;
  tx_flags = λ word. refl;
  entries = λ slot at other. refl;
}
length_of_logs (log.Entry own) = record {
  header = λ i four five. refl;
  variables = λ word. refl;
  attempt_flags = λ word. refl;
  tx_flags = λ word. refl;
  entries = λ slot at other. rw (test_other at 1 other) refl;
}

pub number_of_logs : (log : Log) (i : ℕ) → IsOfLogs ((seats_of log).number i)
number_of_logs log.Task i = record {
  header = λ i four five. refl;
  variables = λ word. refl;
  attempt_flags = λ word. refl;
  tx_flags = λ word. refl;
  entries = λ slot at other. refl;
}
number_of_logs log.Tx i = record {
  header = λ i four five. refl;
  variables = λ word. refl;
  attempt_flags = λ word. refl;
  tx_flags = λ word. refl;
  entries = λ slot at other. refl;
}
number_of_logs (log.Entry own) i = record {
  header = λ i four five. refl;
  variables = λ word. refl;
  attempt_flags = λ word. refl;
  tx_flags = λ word. refl;
  entries = λ slot at other. refl;
}

pub value_of_logs : (log : Log) (i : ℕ) → IsOfLogs ((seats_of log).value i)
value_of_logs log.Task i = record {
  header = λ i four five. refl;
  variables = λ word. refl;
  attempt_flags = λ word. refl;
  tx_flags = λ word. refl;
  entries = λ slot at other. refl;
}
value_of_logs log.Tx i = record {
  header = λ i four five. refl;
  variables = λ word. refl;
  attempt_flags = λ word. refl;
  tx_flags = λ word. refl;
  entries = λ slot at other. refl;
}
value_of_logs (log.Entry own) i = record {
  header = λ i four five. refl;
  variables = λ word. refl;
  attempt_flags = λ word. refl;
  tx_flags = λ word. refl;
  entries = λ slot at other. refl;
}

-- a write to a log's seat leaves everything beside the log
pub keeps_beside : (s : State) (log : Log) (seat : Seat) (value : ℕ) → IsOfLogs seat
    → ((other : Log) → other ≢ log → LiesApart (seats_of other) seat) → KeepsBeside log s (put s (set_to seat value))
keeps_beside s log seat value of apart = record {
  words = refl;
  slots = refl;
  same_mark = rw (of.header 0 (omega arith) (omega arith)) refl;
  same_current = rw (of.header 1 (omega arith) (omega arith)) refl;
  same_next = rw (of.header 2 (omega arith) (omega arith)) refl;
  same_opened = rw (of.header 3 (omega arith) (omega arith)) refl;
  same_head = rw (of.header 6 (omega arith) (omega arith)) refl;
  same_head_next = rw (of.header 7 (omega arith) (omega arith)) refl;
  same_tail = rw (of.header 8 (omega arith) (omega arith)) refl;
  same_doomed = rw (of.header 9 (omega arith) (omega arith)) refl;
  same_first = rw (of.header 10 (omega arith) (omega arith)) refl;
  same_mode = rw (of.header 11 (omega arith) (omega arith)) refl;
  variables = λ word. rw (of.variables word) refl;
  attempt_flags = λ word. rw (of.attempt_flags word) refl;
  tx_flags = λ word. rw (of.tx_flags word) refl;
  entries = λ slot. rw (
    of.entries slot 0 (omega arith),
    of.entries slot 2 (omega arith),
    of.entries slot 3 (omega arith),
    of.entries slot 4 (omega arith),
    of.entries slot 5 (omega arith),
  ) refl;
  logs = λ other ne word. value_beside s (seats_of other) seat value (apart other ne) word;
}

pub length_apart : (log other : Log) → other ≢ log → LiesApart (seats_of other) (seats_of log).length
length_apart log other ne = elim (logs_apart other log) [ inl same ↦ absurd (ne same) | inr apart ↦ apart.length ]

pub number_apart : (log other : Log) (i : ℕ) → other ≢ log → LiesApart (seats_of other) ((seats_of log).number i)
number_apart log other i ne = elim (logs_apart other log) [ inl same ↦ absurd (ne same) | inr apart ↦ apart.number i ]

pub value_apart : (log other : Log) (i : ℕ) → other ≢ log → LiesApart (seats_of other) ((seats_of log).value i)
value_apart log other i ne = elim (logs_apart other log) [ inl same ↦ absurd (ne same) | inr apart ↦ apart.value i ]

pub length_keeps_beside : (s : State) (log : Log) (value : ℕ) → KeepsBeside log s (put s (set_to (seats_of log).length value))
length_keeps_beside s log value = keeps_beside s log (seats_of log).length value (length_of_logs log) (length_apart log)

pub number_keeps_beside : (s : State) (log : Log) (i value : ℕ) → KeepsBeside log s (put s (set_to ((seats_of log).number i) value))
number_keeps_beside s log i value =
    keeps_beside s log ((seats_of log).number i) value (number_of_logs log i) (λ other ne. number_apart log other i ne)

pub value_keeps_beside : (s : State) (log : Log) (i value : ℕ) → KeepsBeside log s (put s (set_to ((seats_of log).value i) value))
value_keeps_beside s log i value =
    keeps_beside s log ((seats_of log).value i) value (value_of_logs log i) (λ other ne. value_apart log other i ne)

-- logs that lie apart are two
pub logs_differ : (a b : Log) → AreApart (seats_of a) (seats_of b) → a ≢ b
logs_differ a b apart e =
    let no : is_same (seats_of a).length (seats_of a).length ≡ false =
    subst (λ (l : Log). is_same (seats_of a).length (seats_of l).length ≡ false) (sym e) apart.length.length in
    let yes = (apart_of a).length_itself in absurd cc

-- the logs' ranges after a write to a seat of one of them
pub ranges_after : (s : State) (log : Log) (seat : Seat) (value : ℕ) → ((other : Log) → other ≢ log → LiesApart (seats_of other) seat)
    → (HasLog s.k log → IsLog (put s (set_to seat value)) (seats_of log)) → InRange s
    → (other : Log) → HasLog s.k other → IsLog (put s (set_to seat value)) (seats_of other)
ranges_after s log seat value apart own r other has = elim (logs_apart other log) [
  | inl same ↦ subst (λ (l : Log). IsLog (put s (set_to seat value)) (seats_of l)) (sym same) (own (subst (λ (l : Log). HasLog s.k l) same has))
  | inr lies ↦ log_beside s (seats_of other) seat value (apart other (logs_differ other log lies)) (r.logs other has)
]

-- the words that ranges speak of, those of logs aside
pub record KeepsRanges (s t : State) : Type 0 where
  pub words : t.n ≡ s.n
  pub slots : t.k ≡ s.k
  pub same_mark : mark t ≡ mark s
  pub same_opened : opened t ≡ opened s
  pub same_head : head t ≡ head s
  pub same_head_next : head_next t ≡ head_next s
  pub same_tail : tail t ≡ tail s
  pub same_doomed : doomed t ≡ doomed s
  pub attempt_flags : (word : ℕ) → word < s.n → t.at (attempt_flag_seat word) < 2
  pub tx_flags : (word : ℕ) → word < s.n → t.at (tx_flag_seat word) < 2

-- the ring's words
pub ring_kept : (s t : State) → t.k ≡ s.k → mark t ≡ mark s → head t ≡ head s → head_next t ≡ head_next s → tail t ≡ tail s → IsRing s → IsRing t
ring_kept s t slots m h hn e ring = record {
  head_low = rw (h, slots) ring.head_low;
  next_low = rw (hn, slots) ring.next_low;
  tail_low = rw (e, slots) ring.tail_low;
  few = rw (m, h, hn, e, slots) ring.few;
  taken_some = rw (m, h, hn, e, slots) ring.taken_some;
  taken_few = rw (m, h, hn, e, slots) ring.taken_few;
  taken_follows = rw (m, h, hn, slots) ring.taken_follows;
}

pub range_kept : (s t : State) → KeepsRanges s t → ((log : Log) → HasLog s.k log → IsLog t (seats_of log)) → InRange s → InRange t
range_kept s t keeps logs r = record {
  sizes = rw (keeps.words, keeps.slots) r.sizes;
  mark = rw keeps.same_mark r.mark;
  opened = rw keeps.same_opened r.opened;
  doomed = rw keeps.same_doomed r.doomed;
  attempt_flags = λ word low. keeps.attempt_flags word (rw keeps.words at low);
  tx_flags = λ word low. keeps.tx_flags word (rw keeps.words at low);
  logs = λ log has. logs log (subst (λ (k : ℕ). HasLog k log) keeps.slots has);
  ring = ring_kept s t keeps.slots keeps.same_mark keeps.same_head keeps.same_head_next keeps.same_tail r.ring;
}

map_same : (f g : ℕ → Entry) (slots : List ℕ) → ((slot : ℕ) → f slot ≡ g slot) → map f slots ≡ map g slots
map_same f g [] same = refl
map_same f g (slot ∷ slots) same = rw (same slot, map_same f g slots same) refl

-- the held entries, where neither the ring's words nor those of the postings are changed
pub held_kept : (s t : State) → t.k ≡ s.k → mark t ≡ mark s → head t ≡ head s → head_next t ≡ head_next s → tail t ≡ tail s
    → ((slot : ℕ) → entry_at t slot ≡ entry_at s slot) → held_entries t ≡ held_entries s
held_kept s t slots m h hn e entries =
    map_same (entry_at t) (entry_at s) (held_slots t) entries
    ∙ ap (map (entry_at s)) (let same : held_slots t ≡ held_slots s = rw (m, h, hn, e, slots) refl in same)

applied_step : (unit taking : Bool) (a b c d : Option ℕ) → (unit ≡ true → a ≡ b) → (taking ≡ true → c ≡ d)
    → (if unit then a else (if taking then c else None)) ≡ (if unit then b else (if taking then d else None))
applied_step true taking a b c d first_ second = first_ refl
applied_step false true a b c d first_ second = second refl
applied_step false false a b c d first_ second = refl

-- beside a log
module _ (s t : State) (own : Log) (keeps : KeepsBeside own s t) where
  pub beside_ranges : InRange s → KeepsRanges s t
  beside_ranges r = record {
    words = keeps.words;
    slots = keeps.slots;
    same_mark = keeps.same_mark;
    same_opened = keeps.same_opened;
    same_head = keeps.same_head;
    same_head_next = keeps.same_head_next;
    same_tail = keeps.same_tail;
    same_doomed = keeps.same_doomed;
    attempt_flags = λ word low. rw (keeps.attempt_flags word) (r.attempt_flags word low);
    tx_flags = λ word low. rw (keeps.tx_flags word) (r.tx_flags word low);
  }

  pub closed_beside : own ≢ log.Tx → IsClosed s → IsClosed t
  closed_beside other c = record {
    empty = λ o m word. keeps.logs log.Tx (λ e. other (sym e)) word ∙ c.empty (sym keeps.same_opened ∙ o) (λ e. m (keeps.same_mark ∙ e)) word;
    flags = λ o m word low. ap (λ (v : ℕ). v == 1) (keeps.tx_flags word)
        ∙ c.flags (sym keeps.same_opened ∙ o) (λ e. m (keeps.same_mark ∙ e)) word (rw keeps.words at low);
    doomed_mark = λ d. keeps.same_mark ∙ c.doomed_mark (sym keeps.same_doomed ∙ d);
    doomed_place = λ d. rw (keeps.same_opened, keeps.same_current, keeps.same_first) (c.doomed_place (sym keeps.same_doomed ∙ d));
  }

  value_beside_unit : (mark s == 2) ≡ true → (mark s ≡ 2 → (own ≢ log.Task) × (own ≢ log.Tx)) → (word : ℕ) → unit_value t word ≡ unit_value s word
  value_beside_unit m free word =
      let other = free (let is : mark s ≡ 2 = grind (arith, nat_tests) in is) in
      rw (keeps.logs log.Task (λ e. other.0 (sym e)) word, keeps.logs log.Tx (λ e. other.1 (sym e)) word) refl

  -- the log is none that a commit under way writes to the variables
  pub same_beside : (mark s ≡ 2 → (own ≢ log.Task) × (own ≢ log.Tx)) → (is_taking s ≡ true → own ≢ log.Entry (head_slot s)) → StandsForTheSame s t
  same_beside unit taken = record {
    words = λ word.
        let applied : applied_value t word ≡ applied_value s word =
        rw (keeps.same_mark, keeps.same_head, keeps.same_head_next, keeps.slots)
        (applied_step (mark s == 2) (is_taking s) _ _ _ _ (λ m. value_beside_unit m unit word)
        (λ takes. keeps.logs (log.Entry (head_slot s)) (λ e. taken takes (sym e)) word)) in
        rw (applied, keeps.variables word) refl;
    place = rw (keeps.same_mark, keeps.same_next, keeps.same_opened, keeps.same_first, keeps.same_current) refl;
    held = held_kept s t keeps.slots keeps.same_mark keeps.same_head keeps.same_head_next keeps.same_tail keeps.entries;
  }

-- ranges after each kind of write to a log
pub range_after_value : (s : State) (log : Log) (i value : ℕ) → InRange s → InRange (put s (set_to ((seats_of log).value i) value))
range_after_value s log i value r =
    let seat = (seats_of log).value i in
    range_kept s (put s (set_to seat value)) (beside_ranges s (put s (set_to seat value)) log (value_keeps_beside s log i value) r)
    (ranges_after s log seat value (λ other ne. value_apart log other i ne)
    (λ has. log_after_value s (seats_of log) (apart_of log) i value (r.logs log has)) r) r

pub range_behind_number : (s : State) (log : Log) (i value : ℕ) → log_length s log ≤ i → InRange s
    → InRange (put s (set_to ((seats_of log).number i) value))
range_behind_number s log i value behind r =
    let seat = (seats_of log).number i in
    range_kept s (put s (set_to seat value)) (beside_ranges s (put s (set_to seat value)) log (number_keeps_beside s log i value) r)
    (ranges_after s log seat value (λ other ne. number_apart log other i ne)
    (λ has. log_behind_number s (seats_of log) (apart_of log) i value behind (r.logs log has)) r) r

-- the length has the value, and the log is in range with it
range_after_length : (s : State) (log : Log) (value : ℕ)
    → (HasLog s.k log → IsLog (put s (set_to (seats_of log).length value)) (seats_of log)) → InRange s
    → InRange (put s (set_to (seats_of log).length value))
range_after_length s log value own r =
    let seat = (seats_of log).length in
    range_kept s (put s (set_to seat value)) (beside_ranges s (put s (set_to seat value)) log (length_keeps_beside s log value) r)
    (ranges_after s log seat value (length_apart log) own r) r

pub range_longer : (s : State) (log : Log) (word : ℕ) → word < s.n → log_value s log word ≡ None
    → number_in s (seats_of log) (log_length s log) ≡ word → InRange s
    → InRange (put s (set_to (seats_of log).length (log_length s log + 1)))
range_longer s log word low none named r =
    range_after_length s log (log_length s log + 1) (λ has. log_longer s (seats_of log) (apart_of log) word low none named (r.logs log has)) r

pub range_emptied : (s : State) (log : Log) → InRange s → InRange (put s (set_to (seats_of log).length 0))
range_emptied s log r = range_after_length s log 0 (λ has. log_emptied s (seats_of log) (apart_of log)) r

-- seats of no log
pub header_apart : (log : Log) (i : ℕ) → i ≢ 4 → i ≢ 5 → LiesApart (seats_of log) (Seat.Header i)
header_apart log.Task i four five = record { length = test_other 4 i (λ e. four (sym e)); number = λ j. refl; value = λ j. refl }
header_apart log.Tx i four five = record { length = test_other 5 i (λ e. five (sym e)); number = λ j. refl; value = λ j. refl }
header_apart (log.Entry slot) i four five = record { length = refl; number = λ j. refl; value = λ j. refl }

pub variable_apart : (log : Log) (word : ℕ) → LiesApart (seats_of log) (Seat.Part 0 word)
variable_apart log.Task word = record { length = refl; number = λ j. refl; value = λ j. refl }
variable_apart log.Tx word = record { length = refl; number = λ j. refl; value = λ j. refl }
variable_apart (log.Entry slot) word = record { length = refl; number = λ j. refl; value = λ j. refl }

pub attempt_flag_apart : (log : Log) (word : ℕ) → LiesApart (seats_of log) (attempt_flag_seat word)
attempt_flag_apart log.Task word = record { length = refl; number = λ j. refl; value = λ j. refl }
attempt_flag_apart log.Tx word = record { length = refl; number = λ j. refl; value = λ j. refl }
attempt_flag_apart (log.Entry slot) word = record { length = refl; number = λ j. refl; value = λ j. refl }

pub tx_flag_apart : (log : Log) (word : ℕ) → LiesApart (seats_of log) (tx_flag_seat word)
tx_flag_apart log.Task word = record { length = refl; number = λ j. refl; value = λ j. refl }
tx_flag_apart log.Tx word = record { length = refl; number = λ j. refl; value = λ j. refl }
tx_flag_apart (log.Entry slot) word = record { length = refl; number = λ j. refl; value = λ j. refl }

-- an entry's event and message
pub posting_apart : (log : Log) (slot at : ℕ) → at ≢ 1 → LiesApart (seats_of log) (Seat.Entry slot 0 at)
posting_apart log.Task slot at other = record { length = refl; number = λ j. refl; value = λ j. refl }
posting_apart log.Tx slot at other = record { length = refl; number = λ j. refl; value = λ j. refl }
posting_apart (log.Entry own) slot at other =
    record { length = rw (test_other 1 at (λ e. other (sym e))) refl; number = λ j. refl; value = λ j. refl }

-- a seat that no range speaks of
pub record IsFree (seat : Seat) : Type 0 where
  pub mark : is_same (Seat.Header 0) seat ≡ false
  pub opened : is_same (Seat.Header 3) seat ≡ false
  pub head : is_same (Seat.Header 6) seat ≡ false
  pub head_next : is_same (Seat.Header 7) seat ≡ false
  pub tail : is_same (Seat.Header 8) seat ≡ false
  pub doomed : is_same (Seat.Header 9) seat ≡ false
  pub attempt_flags : (word : ℕ) → is_same (attempt_flag_seat word) seat ≡ false
  pub tx_flags : (word : ℕ) → is_same (tx_flag_seat word) seat ≡ false
  pub logs : (log : Log) → LiesApart (seats_of log) seat

-- the places of tasks
pub place_is_free : (i : ℕ) → (i ≡ 1) ⊎ ((i ≡ 2) ⊎ (i ≡ 10)) → IsFree (Seat.Header i)
place_is_free i is = record {
  mark = test_other 0 i (omega (arith, is));
  opened = test_other 3 i (omega (arith, is));
  head = test_other 6 i (omega (arith, is));
  head_next = test_other 7 i (omega (arith, is));
  tail = test_other 8 i (omega (arith, is));
  doomed = test_other 9 i (omega (arith, is));
  attempt_flags = λ word. refl;
  tx_flags = λ word. refl;
  logs = λ log. header_apart log i (omega (arith, is)) (omega (arith, is));
}

pub variable_is_free : (word : ℕ) → IsFree (Seat.Part 0 word)
variable_is_free word = record {
  mark = refl;
  opened = refl;
  head = refl;
  head_next = refl;
  tail = refl;
  doomed = refl;
  attempt_flags = λ other. refl;
  tx_flags = λ other. refl;
  logs = λ log. variable_apart log word;
}

pub posting_is_free : (slot at : ℕ) → at ≢ 1 → IsFree (Seat.Entry slot 0 at)
posting_is_free slot at other = record {
  mark = refl;
  opened = refl;
  head = refl;
  head_next = refl;
  tail = refl;
  doomed = refl;
  attempt_flags = λ word. refl;
  tx_flags = λ word. refl;
  logs = λ log. posting_apart log slot at other;
}

pub range_after_free : (s : State) (seat : Seat) (value : ℕ) → IsFree seat → InRange s → InRange (put s (set_to seat value))
range_after_free s seat value free r = range_kept s (put s (set_to seat value)) (record {
  words = refl;
  slots = refl;
  same_mark = rw free.mark refl;
  same_opened = rw free.opened refl;
  same_head = rw free.head refl;
  same_head_next = rw free.head_next refl;
  same_tail = rw free.tail refl;
  same_doomed = rw free.doomed refl;
  attempt_flags = λ word low. rw (free.attempt_flags word) (r.attempt_flags word low);
  tx_flags = λ word low. rw (free.tx_flags word) (r.tx_flags word low);
}) (λ log has. log_beside s (seats_of log) seat value (free.logs log) (r.logs log has)) r

flag_low : (b : Bool) (value old : ℕ) → value < 2 → old < 2 → (if b then value else old) < 2
flag_low true value old l h = l
flag_low false value old l h = h

pub range_after_attempt_flag : (s : State) (word value : ℕ) → value < 2 → InRange s → InRange (put s (set_to (attempt_flag_seat word) value))
range_after_attempt_flag s word value low r = range_kept s (put s (set_to (attempt_flag_seat word) value)) (record {
  words = refl;
  slots = refl;
  same_mark = refl;
  same_opened = refl;
  same_head = refl;
  same_head_next = refl;
  same_tail = refl;
  same_doomed = refl;
  attempt_flags = λ other l. flag_low (other == word) value (s.at (attempt_flag_seat other)) low (r.attempt_flags other l);
  tx_flags = λ other l. r.tx_flags other l;
}) (λ log has. log_beside s (seats_of log) (attempt_flag_seat word) value (attempt_flag_apart log word) (r.logs log has)) r

pub range_after_tx_flag : (s : State) (word value : ℕ) → value < 2 → InRange s → InRange (put s (set_to (tx_flag_seat word) value))
range_after_tx_flag s word value low r = range_kept s (put s (set_to (tx_flag_seat word) value)) (record {
  words = refl;
  slots = refl;
  same_mark = refl;
  same_opened = refl;
  same_head = refl;
  same_head_next = refl;
  same_tail = refl;
  same_doomed = refl;
  attempt_flags = λ other l. r.attempt_flags other l;
  tx_flags = λ other l. flag_low (other == word) value (s.at (tx_flag_seat other)) low (r.tx_flags other l);
}) (λ log has. log_beside s (seats_of log) (tx_flag_seat word) value (tx_flag_apart log word) (r.logs log has)) r

-- the header's words that ranges speak of, each with its own condition
pub range_after_header : (s : State) (i value : ℕ) → i ≢ 4 → i ≢ 5 → mark (put s (set_to (Seat.Header i) value)) < 4
    → opened (put s (set_to (Seat.Header i) value)) < 2 → doomed (put s (set_to (Seat.Header i) value)) < 2
    → IsRing (put s (set_to (Seat.Header i) value)) → InRange s → InRange (put s (set_to (Seat.Header i) value))
range_after_header s i value four five m o d ring r = record {
  sizes = r.sizes;
  mark = m;
  opened = o;
  doomed = d;
  attempt_flags = r.attempt_flags;
  tx_flags = r.tx_flags;
  logs = λ log has. log_beside s (seats_of log) (Seat.Header i) value (header_apart log i four five) (r.logs log has);
  ring = ring;
}
