-- The writes of a unit's commit leave what the image stands for.
use Rattle.std.proofs.Common.{◌≡◌, ◌≢◌, ℕ, ◌<◌, ◌==◌, refl, ap, sym, ◌∙◌, subst, arith, inl, inr, [], ◌∷◌, Some, None, Option, Bool, true, false, if◌then◌else◌}
use Rattle.std.specs.Option.{unwrap_or}
use Rattle.nv_memory.specs.declared.log.Log.TheVariants as log
use Rattle.nv_memory.specs.InRange.{InRange, IsClosed}
use Rattle.nv_memory.specs.State.{Change, State, first_undone, put, set_to}
use Rattle.nv_memory.specs.StandsFor.{applied_value, committed_word, first_value, unit_value}
use Rattle.nv_memory.specs.Words.{current, current_seat, doomed, mark, mark_seat, next, opened, opened_seat, tx_flag, tx_flag_seat, variable}
use Rattle.nv_memory.specs.Logs.{length_in, task_log, tx_log, value_in}
use Rattle.nv_memory.proofs.Frames.{place_is_free, range_after_free, range_after_tx_flag, range_emptied}
use Rattle.nv_memory.proofs.LogWrites.{empty_of}
use Rattle.tx_buffer.specs.Clear.{unflag_changes}
use Rattle.tx_buffer.specs.Next.{changes_below}
use Rattle.tx_buffer.proofs.Undone.{done_at, head_done, head_split, undone_at, undone_split}
use Rattle.commit_log.specs.Changes.{newer_changes, older_changes, unit_changes, unit_closes, unit_ends, variable_changes}
use Rattle.commit_log.specs.Laws.{Keeps}
use Rattle.commit_log.proofs.Ranges.{range_cleared, range_opened}
use Rattle.commit_log.proofs.Pairs.{AppliesWord, AreApplied, applies_older, applies_pair, pair_found, unit_stands, word_applied}

-- both logs are empty
pub record AreLogsEmpty (s : State) : Type 0 where
  pub tx : length_in s tx_log ≡ 0
  pub task : length_in s task_log ≡ 0

abbrev pub HasNoFlags : State → Type 0
HasNoFlags s = (word : ℕ) → word < s.n → tx_flag s word ≡ false

-- the next write, case by case
pub data IsUnitWrite (s : State) (c : Change) : Type 0 where
  applies : AppliesWord s c → IsUnitWrite s c
  drops_tx : AreApplied s → length_in s tx_log ≢ 0 → c ≡ set_to tx_log.length 0 → IsUnitWrite s c
  drops_task : AreApplied s → length_in s tx_log ≡ 0 → length_in s task_log ≢ 0 → c ≡ set_to task_log.length 0 → IsUnitWrite s c
  unflags : (word : ℕ) → AreLogsEmpty s → word < s.n → s.at (tx_flag_seat word) ≢ 0 → c ≡ set_to (tx_flag_seat word) 0 → IsUnitWrite s c
  closes : AreLogsEmpty s → HasNoFlags s → opened s ≢ 0 → c ≡ set_to opened_seat 0 → IsUnitWrite s c
  arrives : AreLogsEmpty s → HasNoFlags s → opened s ≡ 0 → current s ≢ next s → c ≡ set_to current_seat (next s) → IsUnitWrite s c
  clears : AreLogsEmpty s → HasNoFlags s → opened s ≡ 0 → current s ≡ next s → c ≡ set_to mark_seat 0 → IsUnitWrite s c

pub flags_taken_back : (s : State) → first_undone s (changes_below unflag_changes s.n) ≡ None → HasNoFlags s
flags_taken_back s e = λ word l.
    let stands = (head_done s (set_to (tx_flag_seat word) 0) [] (done_at s unflag_changes s.n e word l)).0 in ap (λ (x : ℕ). x == 1) stands

pub unflag_head : (s : State) (word : ℕ) (c : Change) → first_undone s (unflag_changes word) ≡ Some c
    → (s.at (tx_flag_seat word) ≢ 0) × (set_to (tx_flag_seat word) 0 ≡ c)
unflag_head s word c e = elim (head_split s (set_to (tx_flag_seat word) 0) c [] e) [
  | inl h ↦ (h.0, h.1)
  | inr h ↦ let no = h.1 in absurd cc
]

closing_case : (s : State) (c : Change) → AreLogsEmpty s → HasNoFlags s
    → first_undone s (set_to opened_seat 0 ∷ set_to current_seat (next s) ∷ set_to mark_seat 0 ∷ []) ≡ Some c → IsUnitWrite s c
closing_case s c empty flags e = elim (head_split s (set_to opened_seat 0) c (set_to current_seat (next s) ∷ set_to mark_seat 0 ∷ []) e) [
  | inl h ↦ closes empty flags h.0 (sym h.1)
  | inr h ↦ elim (head_split s (set_to current_seat (next s)) c (set_to mark_seat 0 ∷ []) h.1) [
    | inl g ↦ arrives empty flags h.0 g.0 (sym g.1)
    | inr g ↦ elim (head_split s (set_to mark_seat 0) c [] g.1) [
      | inl f ↦ clears empty flags h.0 g.0 (sym f.1)
      | inr f ↦ let no = f.1 in absurd cc
    ]
  ]
]

closes_case : (s : State) (c : Change) → AreLogsEmpty s → first_undone s (unit_closes s) ≡ Some c → IsUnitWrite s c
closes_case s c empty e =
    elim (undone_split s (changes_below unflag_changes s.n) (set_to opened_seat 0 ∷ set_to current_seat (next s) ∷ set_to mark_seat 0 ∷ []) c e) [
      | inl h ↦
          let at = undone_at s unflag_changes s.n c h in
          let head = unflag_head s at.i c at.here in
          unflags at.i empty at.low head.0 (sym head.1)
      | inr h ↦ closing_case s c empty (flags_taken_back s h.0) h.1
    ]

ends_case : (s : State) (c : Change) → AreApplied s → first_undone s (unit_ends s) ≡ Some c → IsUnitWrite s c
ends_case s c applied e = elim (head_split s (set_to tx_log.length 0) c (set_to task_log.length 0 ∷ unit_closes s) e) [
  | inl h ↦ drops_tx applied h.0 (sym h.1)
  | inr h ↦ elim (head_split s (set_to task_log.length 0) c (unit_closes s) h.1) [
    | inl g ↦ drops_task applied h.0 g.0 (sym g.1)
    | inr g ↦ closes_case s c (record { tx = h.0; task = g.0 }) g.1
  ]
]

-- what a unit's commit is about to write
pub unit_applied : (s : State) (word : ℕ) → mark s ≡ 2 → applied_value s word ≡ unit_value s word
unit_applied s word two = rw two refl

newer_value : (s : State) (word value : ℕ) → value_in s task_log word ≡ Some value → unit_value s word ≡ Some value
newer_value s word value e = rw e refl

pub unit_write : (s : State) (c : Change) → InRange s → mark s ≡ 2 → first_undone s (unit_changes s) ≡ Some c → IsUnitWrite s c
unit_write s c r two e = elim (undone_split s (changes_below (older_changes s) (length_in s tx_log)) (newer_changes s) c e) [
  | inl h ↦ applies (applies_older s c (r.logs log.Tx tt) (λ word. unit_applied s word two) h)
  | inr h ↦ elim (undone_split s (changes_below (variable_changes s task_log) (length_in s task_log)) (unit_ends s) c h.1) [
    | inl g ↦ applies (applies_pair s task_log c (r.logs log.Task tt)
        (λ i low. unit_applied s _ two ∙ newer_value s _ _ (pair_found s task_log i (r.logs log.Task tt) low)) g)
    | inr g ↦ ends_case s c (λ word. unit_stands s word h.0 g.0 ∙ ap (λ (o : Option ℕ). unwrap_or o (variable s word)) (sym (unit_applied s word two))) g.1
  ]
]

-- with the task log alone left, words of the transaction log are variables
left_step : (x y : Option ℕ) (v : ℕ) → v ≡ unwrap_or (first_value x y) v → unwrap_or (first_value x None) v ≡ unwrap_or (first_value x y) v
left_step None y v h = h
left_step (Some z) y v h = refl

not_doomed : (s : State) → mark s ≡ 2 → IsClosed s → doomed s ≢ 1
not_doomed s two closed d = let zero = closed.doomed_mark d in absurd (omega (arith, two, zero))

pub flag_off : (b : Bool) (old : ℕ) → (old == 1) ≡ false → ((if b then 0 else old) == 1) ≡ false
flag_off true old e = refl
flag_off false old e = e

-- nothing is applied where both logs are empty
pub empty_committed : (s : State) (word : ℕ) → mark s ≡ 2 → AreLogsEmpty s → variable s word ≡ committed_word s word
empty_committed s word two empty = rw two (rw (empty_of s task_log empty.task word, empty_of s tx_log empty.tx word) refl)

module _ (s : State) (two : mark s ≡ 2) (r : InRange s) (closed : IsClosed s) where
  pub unit_keeps : (c : Change) → IsUnitWrite s c → Keeps s (put s c)
  unit_keeps c (applies a) = word_applied s c r closed a
  unit_keeps c (drops_tx applied n e) = subst (λ (x : Change). Keeps s (put s x)) (sym e) (record {
    meaning = record {
      words = λ word. rw two (left_step (value_in s task_log word) (value_in s tx_log word) (variable s word)
          (applied word ∙ ap (λ (o : Option ℕ). unwrap_or o (variable s word)) (unit_applied s word two)));
      place = refl;
      held = refl;
    };
    range = range_emptied s log.Tx r;
    places = λ tasks p. record { current = p.current; next = p.next; first = p.first };
    closed = record {
      empty = λ o m word. refl;
      flags = closed.flags;
      doomed_mark = closed.doomed_mark;
      doomed_place = closed.doomed_place;
    };
  })
  unit_keeps c (drops_task applied empty n e) = subst (λ (x : Change). Keeps s (put s x)) (sym e) (record {
    meaning = record {
      words = λ word. rw two (rw (empty_of s tx_log empty word) refl) ∙ applied word;
      place = refl;
      held = refl;
    };
    range = range_emptied s log.Task r;
    places = λ tasks p. record { current = p.current; next = p.next; first = p.first };
    closed = record {
      empty = closed.empty;
      flags = closed.flags;
      doomed_mark = closed.doomed_mark;
      doomed_place = closed.doomed_place;
    };
  })
  unit_keeps c (unflags word empty l n e) = subst (λ (x : Change). Keeps s (put s x)) (sym e) (record {
    meaning = record { words = λ other. refl; place = refl; held = refl };
    range = range_after_tx_flag s word 0 (omega arith) r;
    places = λ tasks p. record { current = p.current; next = p.next; first = p.first };
    closed = record {
      empty = closed.empty;
      flags = λ o m other low. flag_off (other == word) (s.at (tx_flag_seat other)) (closed.flags o m other low);
      doomed_mark = closed.doomed_mark;
      doomed_place = closed.doomed_place;
    };
  })
  unit_keeps c (closes empty flags n e) = subst (λ (x : Change). Keeps s (put s x)) (sym e) (record {
    meaning = record { words = λ word. refl; place = rw two refl; held = refl };
    range = range_opened s 0 (omega arith) r;
    places = λ tasks p. record { current = p.current; next = p.next; first = p.first };
    closed = record {
      empty = λ o m word. empty_of s tx_log empty.tx word;
      flags = λ o m word low. flags word low;
      doomed_mark = closed.doomed_mark;
      doomed_place = λ d. absurd (not_doomed s two closed d);
    };
  })
  unit_keeps c (arrives empty flags o n e) = subst (λ (x : Change). Keeps s (put s x)) (sym e) (record {
    meaning = record { words = λ word. refl; place = rw two refl; held = refl };
    range = range_after_free s current_seat (next s) (place_is_free 1 (inl refl)) r;
    places = λ tasks p. record { current = p.next; next = p.next; first = p.first };
    closed = record {
      empty = closed.empty;
      flags = closed.flags;
      doomed_mark = closed.doomed_mark;
      doomed_place = λ d. absurd (not_doomed s two closed d);
    };
  })
  unit_keeps c (clears empty flags o same e) = subst (λ (x : Change). Keeps s (put s x)) (sym e) (record {
    meaning = record { words = λ word. empty_committed s word two empty; place = rw (two, o) same; held = rw two refl };
    range = range_cleared s r (rw two refl);
    places = λ tasks p. record { current = p.current; next = p.next; first = p.first };
    closed = record {
      empty = λ _ m word. empty_of s tx_log empty.tx word;
      flags = λ _ m word low. flags word low;
      doomed_mark = λ d. refl;
      doomed_place = λ d. absurd (not_doomed s two closed d);
    };
  })
