-- What the writes that move the ring on make of the image.
use Rattle.std.proofs.Common.{◌≡◌, ◌≢◌, ℕ, suc, ◌+◌, ◌-◌, ◌<◌, ◌≤◌, ◌==◌, ◌∙◌, ap, sym, subst, refl, arith, add-one, Bool, true, false, not, if◌then◌else◌, [], ◌∷◌, ◌++◌, map, Option, Some, None}
use Rattle.std.specs.Option.{unwrap_or}
use Rattle.std.proofs.lemmas.List.{map-append}
use Rattle.nv_memory.specs.declared.log.Log.{Log}
use Rattle.nv_memory.specs.declared.log.Log.TheVariants as log
use Rattle.nv_memory.specs.State.{State, put, set_to}
use Rattle.nv_memory.specs.Words.{doomed, head, head_next, mark, mark_seat, tail, variable}
use Rattle.nv_memory.specs.Logs.{log_value}
use Rattle.nv_memory.specs.Ring.{entry_at, held_count, held_slots, is_taking, oldest, position_after, positions, positions_between, slot_of, slots_from}
use Rattle.nv_memory.specs.StandsFor.{committed_word, head_slot}
use Rattle.nv_memory.specs.InRange.{InRange, IsRing}
use Rattle.nv_memory.proofs.Frames.{range_after_header}
use Rattle.nv_memory.proofs.Held.{held_fit, oldest_low, tail_is}
use Rattle.nv_memory.proofs.Looks.{test_other, test_same}
use Rattle.nv_memory.proofs.Turns.{between_less, between_more, wraps}
use Rattle.event_buffer.specs.Fill.{is_full, tail_slot}
use Rattle.event_buffer.specs.TurnLaws.{Accepts, AcceptsAddTheNewest, Frees, FreesLeaveTheHeld, IsHeadApplied, MarksTakeTheOldest, Prepares, PreparesLeaveTheHeld, Takes, accept_change, free_change, prepare_change}
use Rattle.event_buffer.proofs.Counts.{resting_count, room_is, taking_count}
use Rattle.event_buffer.proofs.Slots.{slots_more}

-- one more is accepted
module _ (s : State) (r : InRange s) (room : is_full s ≡ false) where
  abbrev accepted : State
  accepted = put s (accept_change s)

  count_more : held_count accepted ≡ suc (held_count s)
  count_more =
      between_more s.k (oldest s) (tail s) (oldest_low s r.ring) r.ring.tail_low (held_fit s r.ring) ∙ add-one (held_count s)

  slots_accepted : held_slots accepted ≡ held_slots s ++ tail_slot s ∷ []
  slots_accepted =
      ap (slots_from s.k (oldest s)) count_more ∙ slots_more s.k (oldest s) (held_count s) (oldest_low s r.ring)
      ∙ ap (λ p. held_slots s ++ slot_of s.k p ∷ []) (sym (tail_is s r.ring))

  head_more : positions_between s.k (head s) (tail s) ≤ s.k
      → positions_between s.k (head s) (position_after s.k (tail s)) ≡ positions_between s.k (head s) (tail s) + 1
  head_more few = between_more s.k (head s) (tail s) r.ring.head_low r.ring.tail_low few

  ring_accepted : IsRing accepted
  ring_accepted = record {
    head_low = r.ring.head_low;
    next_low = r.ring.next_low;
    tail_low = omega arith;
    few = λ resting.
        let count = resting_count s resting in
        let low = room_is s r.ring room in
        let more = head_more (omega (arith, count, low)) in
        omega (arith, count, low, more);
    taken_some = λ taking.
        let count = taking_count s r.ring taking in
        let low = room_is s r.ring room in
        let more = head_more (omega (arith, count, low)) in
        omega (arith, more);
    taken_few = λ taking.
        let count = taking_count s r.ring taking in
        let low = room_is s r.ring room in
        let more = head_more (omega (arith, count, low)) in
        omega (arith, count, low, more);
    taken_follows = λ taking. r.ring.taken_follows taking;
  }

  logs_accepted : (other : Log) (word : ℕ) → log_value accepted other word ≡ log_value s other word
  logs_accepted log.Task word = refl
  logs_accepted log.Tx word = refl
  logs_accepted (log.Entry slot) word = refl

  accepts_newest : Accepts s accepted
  accepts_newest = record {
    held = ap (map (entry_at s)) slots_accepted ∙ map-append (entry_at s) (held_slots s) (tail_slot s ∷ []);
    slots = slots_accepted;
    committed = record { words = λ word. refl; place = refl };
    logs = record { logs = logs_accepted; attempt_flags = λ word. refl; tx_flags = λ word. refl };
    sound = record {
      range = range_after_header s 8 (position_after s.k (tail s)) (omega arith) (omega arith) r.mark r.opened r.doomed ring_accepted r;
      places = λ tasks p. record { current = p.current; next = p.next; first = p.first };
      closed = λ c. record { empty = c.empty; flags = c.flags; doomed_mark = c.doomed_mark; doomed_place = c.doomed_place };
    };
  }

pub accepts : AcceptsAddTheNewest
accepts s r room = accepts_newest s r room

-- the position after the head is prepared
module _ (s : State) (r : InRange s) (clear : mark s ≡ 0) where
  abbrev prepared : State
  prepared = put s (prepare_change s)

  logs_prepared : (other : Log) (word : ℕ) → log_value prepared other word ≡ log_value s other word
  logs_prepared log.Task word = refl
  logs_prepared log.Tx word = refl
  logs_prepared (log.Entry slot) word = refl

  never_taking : is_taking prepared ≡ false
  never_taking = rw clear refl

  ring_prepared : IsRing prepared
  ring_prepared = record {
    head_low = r.ring.head_low;
    next_low = omega arith;
    tail_low = r.ring.tail_low;
    few = λ resting. r.ring.few (rw clear refl);
    taken_some = λ taking. absurd (let no = never_taking in cc);
    taken_few = λ taking. absurd (let no = never_taking in cc);
    taken_follows = λ taking. refl;
  }

  pub prepares : Prepares s prepared
  prepares = record {
    follows = refl;
    ring = record {
      held = rw clear refl;
      slots = rw clear refl;
      logs = record { logs = logs_prepared; attempt_flags = λ word. refl; tx_flags = λ word. refl };
      sound = record {
        range = range_after_header s 7 (position_after s.k (head s)) (omega arith) (omega arith) r.mark r.opened r.doomed ring_prepared r;
        places = λ tasks p. record { current = p.current; next = p.next; first = p.first };
        closed = λ c. record { empty = c.empty; flags = c.flags; doomed_mark = c.doomed_mark; doomed_place = c.doomed_place };
      };
    };
    committed = record { words = λ word. rw clear refl; place = refl };
  }

-- the marker takes the oldest
module _ (s : State) (r : InRange s) (clear : mark s ≡ 0) (alive : doomed s ≡ 0) (some : 0 < held_count s)
    (follows : head_next s ≡ position_after s.k (head s)) where
  abbrev taken : State
  taken = put s (set_to mark_seat 3)

  logs_taken : (other : Log) (word : ℕ) → log_value taken other word ≡ log_value s other word
  logs_taken log.Task word = refl
  logs_taken log.Tx word = refl
  logs_taken (log.Entry slot) word = refl

  from_head : oldest s ≡ head s
  from_head = rw clear refl

  head_count : positions_between s.k (head s) (tail s) ≡ held_count s
  head_count = ap (λ from. positions_between s.k from (tail s)) (sym from_head)

  count_less : held_count s ≡ suc (held_count taken)
  count_less =
      let n = held_count s - 1 in
      let less : positions_between s.k (position_after s.k (head s)) (tail s) ≡ n =
      between_less s.k (head s) (tail s) n r.ring.head_low r.ring.tail_low (let count = head_count in omega (arith, count, some)) in
      let now : held_count taken ≡ n = ap (λ from. positions_between s.k from (tail s)) follows ∙ less in
      omega (arith, now, some)

  slots_taken : held_slots s ≡ head_slot s ∷ held_slots taken
  slots_taken =
      ap (λ from. slots_from s.k from (held_count s)) from_head ∙ ap (slots_from s.k (head s)) count_less
      ∙ ap (λ from. head_slot s ∷ slots_from s.k from (held_count taken)) (sym follows)

  ahead : head s ≢ head_next s
  ahead = λ e.
      let turn = wraps (head s + 1) (positions s.k) (let low = r.ring.head_low in omega (arith, low)) in
      let low = r.ring.head_low in
      omega (arith, e, follows, turn, low)

  is_taken : is_taking taken ≡ true
  is_taken = rw (test_other (head s) (head_next s) ahead) refl

  ring_taken : IsRing taken
  ring_taken = record {
    head_low = r.ring.head_low;
    next_low = r.ring.next_low;
    tail_low = r.ring.tail_low;
    few = λ resting. absurd (let yes = is_taken in cc);
    taken_some = λ taking. let count = head_count in omega (arith, count, some);
    taken_few = λ taking. let count = head_count in let few = held_fit s r.ring in omega (arith, count, few);
    taken_follows = λ taking. follows;
  }

  pub takes : Takes s taken
  takes = record {
    held = ap (map (entry_at s)) slots_taken;
    slots = slots_taken;
    words = λ word. rw (test_other (head s) (head_next s) ahead, clear) refl;
    place = rw clear refl;
    logs = record { logs = logs_taken; attempt_flags = λ word. refl; tx_flags = λ word. refl };
    sound = record {
      range = range_after_header s 0 3 (omega arith) (omega arith) (omega arith) r.opened r.doomed ring_taken r;
      places = λ tasks p. record { current = p.current; next = p.next; first = p.first };
      closed = λ c. record {
        empty = λ o m word. c.empty o (omega (arith, clear)) word;
        flags = λ o m word low. c.flags o (omega (arith, clear)) word low;
        doomed_mark = λ d. absurd (omega (arith, d, alive));
        doomed_place = c.doomed_place;
      };
    };
  }

-- the head is moved behind the taken entry
module _ (s : State) (r : InRange s) (marked : mark s ≡ 3) where
  abbrev freed : State
  freed = put s (free_change s)

  logs_freed : (other : Log) (word : ℕ) → log_value freed other word ≡ log_value s other word
  logs_freed log.Task word = refl
  logs_freed log.Tx word = refl
  logs_freed (log.Entry slot) word = refl

  not_taking : is_taking freed ≡ false
  not_taking = rw (marked, test_same (head_next s) (head_next s) refl) refl

  from_next : oldest s ≡ head_next s
  from_next = rw marked refl

  ring_freed : IsRing freed
  ring_freed = record {
    head_low = r.ring.next_low;
    next_low = r.ring.next_low;
    tail_low = r.ring.tail_low;
    few = λ resting. subst (λ (from : ℕ). positions_between s.k from (tail s) ≤ s.k) from_next (held_fit s r.ring);
    taken_some = λ taking. absurd (let no = not_taking in cc);
    taken_few = λ taking. absurd (let no = not_taking in cc);
    taken_follows = λ taking. absurd (let no = not_taking in cc);
  }

  -- a log of which the values stand in the variables gives what they are
  applied_same : (o : Option ℕ) (value : ℕ) → ((given : ℕ) → o ≡ Some given → value ≡ given) → unwrap_or o value ≡ value
  applied_same (Some given) value same = sym (same given refl)
  applied_same None value same = refl

  committed_step : (taking : Bool) (o : Option ℕ) (value : ℕ) → ((given : ℕ) → o ≡ Some given → value ≡ given)
      → value ≡ unwrap_or (if taking then o else None) value
  committed_step true o value same = sym (applied_same o value same)
  committed_step false o value same = refl

  words_freed : IsHeadApplied s → (word : ℕ) → committed_word freed word ≡ committed_word s word
  words_freed applied word = rw (marked, test_same (head_next s) (head_next s) refl)
      (committed_step (not (head s == head_next s)) (log_value s (log.Entry (head_slot s)) word) (variable s word) (applied word))

  pub frees : Frees s freed
  frees = record {
    ring = record {
      held = rw marked refl;
      slots = rw marked refl;
      logs = record { logs = logs_freed; attempt_flags = λ word. refl; tx_flags = λ word. refl };
      sound = record {
        range = range_after_header s 6 (head_next s) (omega arith) (omega arith) r.mark r.opened r.doomed ring_freed r;
        places = λ tasks p. record { current = p.current; next = p.next; first = p.first };
        closed = λ c. record { empty = c.empty; flags = c.flags; doomed_mark = c.doomed_mark; doomed_place = c.doomed_place };
      };
    };
    committed = λ applied. record { words = words_freed applied; place = rw marked refl };
  }

pub prepares_leave : PreparesLeaveTheHeld
prepares_leave s r clear = prepares s r clear

pub marks_take : MarksTakeTheOldest
marks_take s r clear alive some follows = takes s r clear alive some follows

pub frees_leave : FreesLeaveTheHeld
frees_leave s r marked = frees s r marked
