-- What the parts of a posting make of the image.
use Rattle.std.proofs.Common.{◌≡◌, ◌≢◌, ℕ, zero, suc, ◌+◌, ◌<◌, ◌≤◌, ◌==◌, ◌∙◌, ap, sym, refl, arith, Bool, true, false, if◌then◌else◌, List, [], ◌∷◌, length, take, Option, Some, None, inl, inr}
use Rattle.std.specs.Prelude.{slice_get}
use Rattle.std.proofs.lemmas.Option.{slice_get_within}
use Rattle.std.proofs.lemmas.Bool.{cases_eq}
use Rattle.std.proofs.lemmas.Bool.Decides.{nat_tests}
use Rattle.nv_memory.specs.declared.log.Log.{Log}
use Rattle.nv_memory.specs.declared.log.Log.TheVariants as log
use Rattle.nv_memory.specs.Seats.{Seat}
use Rattle.nv_memory.specs.State.{State, is_same, put, set_to}
use Rattle.nv_memory.specs.Logs.{entry_log, seats_of}
use Rattle.nv_memory.specs.Ring.{entry_at, event_seat, message_seat, message_word}
use Rattle.nv_memory.specs.InRange.{ArePlacesInRange, InRange, IsClosed}
use Rattle.nv_memory.specs.Frames.{KeepsBeside}
use Rattle.nv_memory.proofs.Looks.{test_other, test_same}
use Rattle.nv_memory.proofs.LogWrites.{LiesApart, apart_of, empty_of, log_emptied, logs_apart, value_beside}
use Rattle.nv_memory.proofs.Frames.{beside_ranges, length_keeps_beside, posting_apart, posting_is_free, range_after_free, range_kept, ranges_after}
use Rattle.event_buffer.specs.Fill.{IsFilled, word_change}
use Rattle.event_buffer.specs.FillLaws.{AllPartsAreThePosting, Fills, NoPartStandsAtFirst, PartsFillTheSlot}
use Rattle.event_buffer.specs.Keeps.{KeepsBesideEntry, KeepsSound}

pub beside_entry : (slot : ℕ) (s t : State) → KeepsBeside (log.Entry slot) s t → KeepsBesideEntry slot s t
beside_entry slot s t keeps = record {
  words = keeps.words;
  slots = keeps.slots;
  same_mark = keeps.same_mark;
  same_current = keeps.same_current;
  same_next = keeps.same_next;
  same_opened = keeps.same_opened;
  same_head = keeps.same_head;
  same_head_next = keeps.same_head_next;
  same_tail = keeps.same_tail;
  same_doomed = keeps.same_doomed;
  same_first = keeps.same_first;
  same_mode = keeps.same_mode;
  variables = keeps.variables;
  attempt_flags = keeps.attempt_flags;
  tx_flags = keeps.tx_flags;
  entries = λ other ne. keeps.entries other;
  logs = keeps.logs;
}

no_choice : (b : Bool) → (if b then false else false) ≡ false
no_choice true = refl
no_choice false = refl

other_entry : (other slot i at : ℕ) → other ≢ slot → is_same (Seat.Entry other 0 i) (Seat.Entry slot 0 at) ≡ false
other_entry other slot i at ne = rw (test_other other slot ne) (no_choice (i == at))

-- a write to an entry's event or message
pub posting_beside : (s : State) (slot at value : ℕ) → at ≢ 1 → KeepsBesideEntry slot s (put s (set_to (Seat.Entry slot 0 at) value))
posting_beside s slot at value no_length = record {
  words = refl;
  slots = refl;
  same_mark = refl;
  same_current = refl;
  same_next = refl;
  same_opened = refl;
  same_head = refl;
  same_head_next = refl;
  same_tail = refl;
  same_doomed = refl;
  same_first = refl;
  same_mode = refl;
  variables = λ word. refl;
  attempt_flags = λ word. refl;
  tx_flags = λ word. refl;
  entries = λ other ne. rw (
    other_entry other slot 0 at ne,
    other_entry other slot 2 at ne,
    other_entry other slot 3 at ne,
    other_entry other slot 4 at ne,
    other_entry other slot 5 at ne,
  ) refl;
  logs = λ other ne word. value_beside s (seats_of other) (Seat.Entry slot 0 at) value (posting_apart other slot at no_length) word;
}

-- what stays in range beside an entry
module _ (slot : ℕ) (s t : State) (keeps : KeepsBesideEntry slot s t) where
  places_beside : (tasks : ℕ) → ArePlacesInRange tasks s → ArePlacesInRange tasks t
  places_beside tasks p = record {
    current = rw keeps.same_current p.current;
    next = rw keeps.same_next p.next;
    first = rw keeps.same_first p.first;
  }

  closed_beside_entry : IsClosed s → IsClosed t
  closed_beside_entry c = record {
    empty = λ o m word. keeps.logs log.Tx (λ e. absurd cc) word ∙ c.empty (sym keeps.same_opened ∙ o) (λ e. m (keeps.same_mark ∙ e)) word;
    flags = λ o m word low. ap (λ (v : ℕ). v == 1) (keeps.tx_flags word)
        ∙ c.flags (sym keeps.same_opened ∙ o) (λ e. m (keeps.same_mark ∙ e)) word (rw keeps.words at low);
    doomed_mark = λ d. keeps.same_mark ∙ c.doomed_mark (sym keeps.same_doomed ∙ d);
    doomed_place = λ d. rw (keeps.same_opened, keeps.same_current, keeps.same_first) (c.doomed_place (sym keeps.same_doomed ∙ d));
  }

  sound_beside : InRange t → KeepsSound s t
  sound_beside r = record { range = r; places = places_beside; closed = closed_beside_entry }

length_lies : (slot : ℕ) (other : Log) → other ≢ log.Entry slot → LiesApart (seats_of other) (entry_log slot).length
length_lies slot other ne = elim (logs_apart other (log.Entry slot)) [ inl same ↦ absurd (ne same) | inr apart ↦ apart.length ]

-- a log without a word is in range
range_emptied : (s : State) (slot : ℕ) → InRange s → InRange (put s (set_to (entry_log slot).length 0))
range_emptied s slot r =
    let t = put s (set_to (entry_log slot).length 0) in
    range_kept s t (beside_ranges s t (log.Entry slot) (length_keeps_beside s (log.Entry slot) 0) r)
    (ranges_after s (log.Entry slot) (entry_log slot).length 0 (length_lies slot) (λ has. log_emptied s (entry_log slot) (apart_of (log.Entry slot))) r) r

-- the parts, one by one
seat_itself : (slot at : ℕ) → is_same (Seat.Entry slot 0 at) (Seat.Entry slot 0 at) ≡ true
seat_itself slot at = rw (test_same at at refl, test_same slot slot refl) refl

seat_other : (slot i at : ℕ) → i ≢ at → is_same (Seat.Entry slot 0 i) (Seat.Entry slot 0 at) ≡ false
seat_other slot i at ne = rw (test_other i at ne) refl

fill_event : (s : State) (slot event : ℕ) (message : List ℕ) → InRange s → Fills slot event message 0 s (put s (set_to (event_seat slot) event))
fill_event s slot event message r = record {
  filled = record {
    event_stands = λ some. rw (seat_itself slot 0) refl;
    words = λ i word l is. absurd (omega arith);
    emptied = λ l. absurd (omega arith);
  };
  beside = posting_beside s slot 0 event (omega arith);
  sound = sound_beside slot s _ (posting_beside s slot 0 event (omega arith)) (range_after_free s (event_seat slot) event (posting_is_free slot 0 (omega arith)) r);
}

-- the word that is written and those before it
word_at : (s : State) (slot i value j word : ℕ) (message : List ℕ) (b : Bool) → (2 + j == 2 + i) ≡ b → slice_get message i ≡ Some value → slice_get message j ≡ Some word
    → (j ≢ i → message_word s slot j ≡ word)
    → (if (if b then slot == slot else false) then value else message_word s slot j) ≡ word
word_at s slot i value j word message true same is there old =
    let one : j ≡ i = grind (arith, nat_tests) in
    rw (test_same slot slot refl) (let at : Some word ≡ Some value = sym there ∙ ap (slice_get message) one ∙ is in cc)
word_at s slot i value j word message false same is there old = old (λ e. absurd (let yes = test_same (2 + j) (2 + i) (omega (arith, e)) in cc))

fill_word : (s : State) (slot event : ℕ) (message : List ℕ) (i value : ℕ) → slice_get message i ≡ Some value → InRange s
    → IsFilled s slot event message (suc i) → Fills slot event message (suc i) s (put s (set_to (message_seat slot i) value))
fill_word s slot event message i value is r f = record {
  filled = record {
    event_stands = λ some. rw (seat_other slot 0 (2 + i) (omega arith)) (f.event_stands (omega arith));
    words = λ j word l there. word_at s slot i value j word message (2 + j == 2 + i) refl is there (λ ne. f.words j word (omega arith) there);
    emptied = λ l. absurd (let within = slice_get_within message i value is in omega (arith, within, l));
  };
  beside = posting_beside s slot (2 + i) value (omega arith);
  sound = sound_beside slot s _ (posting_beside s slot (2 + i) value (omega arith)) (range_after_free s (message_seat slot i) value (posting_is_free slot (2 + i) (omega arith)) r);
}

-- behind the last word there is none
word_before : (message : List ℕ) (i j word : ℕ) → slice_get message i ≡ None → slice_get message j ≡ Some word → j < suc i → j < i
word_before message i j word past there l = elim (cases_eq j i) [
  | inl e ↦ absurd (let at : slice_get message i ≡ Some word = ap (slice_get message) (sym e) ∙ there in cc)
  | inr ne ↦ omega (arith, ne, l)
]

fill_log : (s : State) (slot event : ℕ) (message : List ℕ) (i : ℕ) → slice_get message i ≡ None → InRange s
    → IsFilled s slot event message (suc i) → Fills slot event message (suc i) s (put s (set_to (entry_log slot).length 0))
fill_log s slot event message i past r f = record {
  filled = record {
    event_stands = λ more. f.event_stands (omega arith);
    words = λ j word l is. let low = word_before message i j word past is (omega arith) in rw (seat_other slot (2 + j) 1 (omega arith)) (f.words j word (omega (arith, low)) is);
    emptied = λ l. rw (test_same slot slot refl) refl;
  };
  beside = beside_entry slot s _ (length_keeps_beside s (log.Entry slot) 0);
  sound = sound_beside slot s _ (beside_entry slot s _ (length_keeps_beside s (log.Entry slot) 0)) (range_emptied s slot r);
}

fill_next : (s : State) (slot event : ℕ) (message : List ℕ) (i : ℕ) (found : Option ℕ) → slice_get message i ≡ found → InRange s
    → IsFilled s slot event message (suc i) → Fills slot event message (suc i) s (put s (word_change slot i found))
fill_next s slot event message i (Some value) is r f = fill_word s slot event message i value is r f
fill_next s slot event message i None is r f = fill_log s slot event message i is r f

pub parts_fill : PartsFillTheSlot
parts_fill s slot event message zero r f = fill_event s slot event message r
parts_fill s slot event message (suc i) r f = fill_next s slot event message i (slice_get message i) refl r f

pub none_at_first : NoPartStandsAtFirst
none_at_first s slot event message = record {
  event_stands = λ l. absurd (omega arith);
  words = λ i word l is. absurd (omega arith);
  emptied = λ l. absurd (omega arith);
}

-- all the parts
all_words : (s : State) (slot event : ℕ) (message : List ℕ) → length message ≤ 4
    → IsFilled s slot event message (length message + 2) → take (length message) (entry_at s slot).message ≡ message
all_words s slot event [] few f = refl
all_words s slot event (a ∷ []) few f = rw (f.words 0 a (omega arith) refl) refl
all_words s slot event (a ∷ b ∷ []) few f = rw (f.words 0 a (omega arith) refl, f.words 1 b (omega arith) refl) refl
all_words s slot event (a ∷ b ∷ c ∷ []) few f =
    rw (f.words 0 a (omega arith) refl, f.words 1 b (omega arith) refl, f.words 2 c (omega arith) refl) refl
all_words s slot event (a ∷ b ∷ c ∷ d ∷ []) few f = rw (
  f.words 0 a (omega arith) refl,
  f.words 1 b (omega arith) refl,
  f.words 2 c (omega arith) refl,
  f.words 3 d (omega arith) refl,
) refl
all_words s slot event (a ∷ b ∷ c ∷ d ∷ e ∷ more) few f = absurd (omega arith)

pub all_parts : AllPartsAreThePosting
all_parts s slot event message few f = record {
  same_event = f.event_stands (omega arith);
  words = all_words s slot event message few f;
  empty = empty_of s (entry_log slot) (f.emptied (omega arith));
}
