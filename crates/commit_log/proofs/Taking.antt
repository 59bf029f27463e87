-- The writes of an event's commit leave what the image stands for, and an open unit.
use Rattle.std.proofs.Common.{◌≡◌, ◌≢◌, ℕ, ◌==◌, ◌&&◌, not, refl, ap, sym, ◌∙◌, subst, arith, inl, inr, [], ◌∷◌, ◌++◌, Some, Option, Bool, true, false}
use Rattle.std.specs.Option.{unwrap_or}
use Rattle.std.proofs.lemmas.Bool.{cases_eq}
use Rattle.nv_memory.specs.declared.log.Log.TheVariants as log
use Rattle.nv_memory.specs.InRange.{InRange, IsClosed}
use Rattle.nv_memory.specs.Ring.{is_taking}
use Rattle.nv_memory.specs.State.{Change, State, first_undone, put, set_to}
use Rattle.nv_memory.specs.StandsFor.{applied_value, committed_word, head_slot}
use Rattle.nv_memory.specs.Words.{doomed, head, head_next, head_seat, mark, mark_seat, variable}
use Rattle.nv_memory.specs.Logs.{entry_log, length_in, number_in, value_in}
use Rattle.nv_memory.proofs.Looks.{test_other, test_same}
use Rattle.nv_memory.proofs.Turns.{slot_low}
use Rattle.tx_buffer.specs.Next.{changes_below}
use Rattle.tx_buffer.proofs.Undone.{head_split, undone_split}
use Rattle.commit_log.specs.Changes.{event_changes, taken_changes, variable_changes}
use Rattle.commit_log.specs.Laws.{Keeps}
use Rattle.commit_log.specs.OpenUnit.{KeepsUnit}
use Rattle.commit_log.proofs.Pairs.{AppliesWord, AreApplied, applies_pair, pair_found, word_applied, word_stands}
use Rattle.commit_log.proofs.Ranges.{range_cleared, range_freed}

-- the next write, case by case
pub data IsEventWrite (s : State) (c : Change) : Type 0 where
  lands : AppliesWord s c → IsEventWrite s c
  frees : AreApplied s → head s ≢ head_next s → c ≡ set_to head_seat (head_next s) → IsEventWrite s c
  rests : head s ≡ head_next s → c ≡ set_to mark_seat 0 → IsEventWrite s c

-- the entry at the head is taken where it isn't behind yet
pub takes : (s : State) → mark s ≡ 3 → head s ≢ head_next s → is_taking s ≡ true
takes s three n = rw (three, test_other (head s) (head_next s) n) refl

pub takes_none : (s : State) → head s ≡ head_next s → is_taking s ≡ false
takes_none s e = rest_step (mark s == 3) (head s == head_next s) (test_same (head s) (head_next s) e)
  where
    rest_step : (a b : Bool) → b ≡ true → (a && not b) ≡ false
    rest_step true true e = refl
    rest_step true false e = absurd cc
    rest_step false b e = refl

pub taken_value : (s : State) (word : ℕ) → mark s ≡ 3 → head s ≢ head_next s → applied_value s word ≡ value_in s (entry_log (head_slot s)) word
taken_value s word three n = rw three (rw (test_other (head s) (head_next s) n) refl)

rest_case : (s : State) (c : Change) → (head s ≢ head_next s → AreApplied s)
    → first_undone s (set_to head_seat (head_next s) ∷ set_to mark_seat 0 ∷ []) ≡ Some c → IsEventWrite s c
rest_case s c applied e = elim (head_split s (set_to head_seat (head_next s)) c (set_to mark_seat 0 ∷ []) e) [
  | inl h ↦ frees (applied h.0) h.0 (sym h.1)
  | inr h ↦ elim (head_split s (set_to mark_seat 0) c [] h.1) [
    | inl g ↦ rests h.0 (sym g.1)
    | inr g ↦ let no = g.1 in absurd cc
  ]
]

taken_case : (s : State) (c : Change) → InRange s → mark s ≡ 3 → head s ≢ head_next s
    → first_undone s (changes_below (variable_changes s (entry_log (head_slot s))) (length_in s (entry_log (head_slot s)))
    ++ (set_to head_seat (head_next s) ∷ set_to mark_seat 0 ∷ [])) ≡ Some c → IsEventWrite s c
taken_case s c r three n e =
    let l = entry_log (head_slot s) in
    let is = r.logs (log.Entry (head_slot s)) (slot_low s.k (head s)) in
    elim (undone_split s (changes_below (variable_changes s l) (length_in s l)) (set_to head_seat (head_next s) ∷ set_to mark_seat 0 ∷ []) c e) [
      | inl h ↦ lands (applies_pair s l c is (λ i low. taken_value s (number_in s l i) three n ∙ pair_found s l i is low) h)
      | inr h ↦ rest_case s c (λ _ word. word_stands s l word h.0 ∙ ap (λ (o : Option ℕ). unwrap_or o (variable s word)) (sym (taken_value s word three n))) h.1
    ]

taken_none : (s : State) → head s ≡ head_next s → taken_changes s ≡ []
taken_none s e = rw (test_same (head s) (head_next s) e) refl

taken_some : (s : State) → head s ≢ head_next s
    → taken_changes s ≡ changes_below (variable_changes s (entry_log (head_slot s))) (length_in s (entry_log (head_slot s)))
taken_some s n = rw (test_other (head s) (head_next s) n) refl

pub event_write : (s : State) (c : Change) → InRange s → mark s ≡ 3 → first_undone s (event_changes s) ≡ Some c → IsEventWrite s c
event_write s c r three e = elim (cases_eq (head s) (head_next s)) [
  | inl q ↦ rest_case s c (λ n. absurd (n q)) (rw (taken_none s q) at e)
  | inr n ↦ taken_case s c r three n (rw (taken_some s n) at e)
]

not_doomed : (s : State) → mark s ≡ 3 → IsClosed s → doomed s ≢ 1
not_doomed s three closed d = let zero = closed.doomed_mark d in absurd (omega (arith, three, zero))

-- where the entry is behind, its words are the variables
rest_word : (s : State) (word : ℕ) → mark s ≡ 3 → head s ≡ head_next s → variable s word ≡ committed_word s word
rest_word s word three e = rw three (rw (test_same (head s) (head_next s) e) refl)

module _ (s : State) (three : mark s ≡ 3) (r : InRange s) (closed : IsClosed s) where
  pub event_keeps : (c : Change) → IsEventWrite s c → Keeps s (put s c)
  event_keeps c (lands a) = word_applied s c r closed a
  event_keeps c (frees applied n e) = subst (λ (x : Change). Keeps s (put s x)) (sym e) (record {
    meaning = record {
      words = λ word. rw three (rw (test_same (head_next s) (head_next s) refl) refl) ∙ applied word;
      place = rw three refl;
      held = rw three refl;
    };
    range = range_freed s three r;
    places = λ tasks p. record { current = p.current; next = p.next; first = p.first };
    closed = record {
      empty = closed.empty;
      flags = closed.flags;
      doomed_mark = closed.doomed_mark;
      doomed_place = closed.doomed_place;
    };
  })
  event_keeps c (rests same e) = subst (λ (x : Change). Keeps s (put s x)) (sym e) (record {
    meaning = record {
      words = λ word. rest_word s word three same;
      place = rw three refl;
      held = rw (three, same) refl;
    };
    range = range_cleared s r (takes_none s same);
    places = λ tasks p. record { current = p.current; next = p.next; first = p.first };
    closed = record {
      empty = λ o m. closed.empty o (λ one. absurd (omega (arith, three, one)));
      flags = λ o m. closed.flags o (λ one. absurd (omega (arith, three, one)));
      doomed_mark = λ d. refl;
      doomed_place = λ d. absurd (not_doomed s three closed d);
    };
  })

  pub event_unit : (c : Change) → IsEventWrite s c → KeepsUnit s (put s c)
  event_unit c (lands a) = subst (λ (x : Change). KeepsUnit s (put s x)) (sym a.is) (record { log = λ word. refl; flags = λ word l. refl; next = refl })
  event_unit c (frees applied n e) =
      subst (λ (x : Change). KeepsUnit s (put s x)) (sym e) (record { log = λ word. refl; flags = λ word l. refl; next = refl })
  event_unit c (rests same e) = subst (λ (x : Change). KeepsUnit s (put s x)) (sym e) (record {
    log = λ word. rw three refl;
    flags = λ word l. rw three refl;
    next = rw three refl;
  })
