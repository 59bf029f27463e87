-- The entry at the tail is nobody's, where there is room.
use Rattle.std.proofs.Common.{◌≡◌, ℕ, suc, ◌<◌, ◌==◌, ◌∙◌, ap, refl, arith, List, [], ◌∷◌, length, map, Bool, true, false, if◌then◌else◌, Option, None}
use Rattle.std.specs.Prelude.{slice_index}
use Rattle.nv_memory.specs.declared.log.Log.TheVariants as log
use Rattle.nv_memory.specs.State.{State}
use Rattle.nv_memory.specs.Words.{mark}
use Rattle.nv_memory.specs.Logs.{log_value}
use Rattle.nv_memory.specs.Ring.{Entry, entry_at, held_count, held_entries, held_slots, is_taking, oldest}
use Rattle.nv_memory.specs.StandsFor.{applied_value, committed_word, head_slot, unit_value}
use Rattle.nv_memory.specs.InRange.{InRange}
use Rattle.nv_memory.proofs.Held.{slots_length, tail_slot_is_free}
use Rattle.event_buffer.specs.Fill.{is_full, tail_slot}
use Rattle.event_buffer.specs.FillLaws.{TailEntryIsFree}
use Rattle.event_buffer.specs.Keeps.{KeepsBesideEntry, KeepsHeld}
use Rattle.event_buffer.proofs.Counts.{taken_is_not_next}

map_among : (f g : ℕ → Entry) (slots : List ℕ) → ((i : ℕ) → i < length slots → f (slice_index slots i) ≡ g (slice_index slots i))
    → map f slots ≡ map g slots
map_among f g [] same = refl
map_among f g (slot ∷ slots) same =
    rw (same 0 (omega arith), map_among f g slots (λ i l. same (suc i) (omega arith))) refl

-- what a unit's commit, or else an event's, is about to write
applied_step : (unit taking : Bool) (a b c d : Option ℕ) → a ≡ b → (taking ≡ true → c ≡ d)
    → (if unit then a else (if taking then c else None)) ≡ (if unit then b else (if taking then d else None))
applied_step true taking a b c d first second = first
applied_step false true a b c d first second = second refl
applied_step false false a b c d first second = refl

module _ (s t : State) (r : InRange s) (room : is_full s ≡ false) (keeps : KeepsBesideEntry (tail_slot s) s t) where
  slots_same : held_slots t ≡ held_slots s
  slots_same = rw (keeps.same_mark, keeps.same_head, keeps.same_head_next, keeps.same_tail, keeps.slots) refl

  held_same : held_entries t ≡ held_entries s
  held_same =
      ap (map (entry_at t)) slots_same
      ∙ map_among (entry_at t) (entry_at s) (held_slots s) (λ i l.
      keeps.entries (slice_index (held_slots s) i)
      (tail_slot_is_free s i r.ring (let long = slots_length s.k (oldest s) (held_count s) in omega (arith, long, l))))

  unit_same : (word : ℕ) → unit_value t word ≡ unit_value s word
  unit_same word = rw (keeps.logs log.Task (λ e. absurd cc) word, keeps.logs log.Tx (λ e. absurd cc) word) refl

  taken_same : is_taking s ≡ true → (word : ℕ) → log_value t (log.Entry (head_slot s)) word ≡ log_value s (log.Entry (head_slot s)) word
  taken_same taking word = keeps.logs (log.Entry (head_slot s)) (λ e. taken_is_not_next s r.ring room taking (cc)) word

  words_same : (word : ℕ) → committed_word t word ≡ committed_word s word
  words_same word =
      let applied : applied_value t word ≡ applied_value s word =
      rw (keeps.same_mark, keeps.same_head, keeps.same_head_next, keeps.slots)
      (applied_step (mark s == 2) (is_taking s) _ _ _ _ (unit_same word) (λ taking. taken_same taking word)) in
      rw (applied, keeps.variables word) refl

  held_kept_beside : KeepsHeld s t
  held_kept_beside = record {
    same = record {
      words = words_same;
      place = rw (keeps.same_mark, keeps.same_next, keeps.same_opened, keeps.same_first, keeps.same_current) refl;
      held = held_same;
    };
    slots = slots_same;
    logs = λ i l word. keeps.logs (log.Entry (slice_index (held_slots s) i)) (λ e. tail_slot_is_free s i r.ring l (cc)) word;
  }

pub tail_entry_is_free : TailEntryIsFree
tail_entry_is_free s t r room keeps = held_kept_beside s t r room keeps
