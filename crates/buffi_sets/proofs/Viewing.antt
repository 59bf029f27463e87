-- What handlers read.
use Rattle.std.proofs.Common.{◌≡◌, add-one, ℕ, suc, ◌+◌, ◌-◌, ◌<◌, ◌==◌, ◌∙◌, refl, sym, ap, List, [], ◌∷◌, ◌++◌, Option, Bool, true, false, arith}
use Rattle.std.specs.Option.{unwrap_or}
use Rattle.std.proofs.lemmas.Bool.Decides.{nat_tests}
use Rattle.nv_memory.specs.InRange.{InRange}
use Rattle.nv_memory.specs.State.{State}
use Rattle.nv_memory.specs.Words.{head, head_next, mark, tail, variable}
use Rattle.nv_memory.specs.StandsFor.{committed_word, head_slot}
use Rattle.nv_memory.specs.Ring.{held_slots, is_taking, position_after, positions_between, slot_of, slots_from}
use Rattle.buffi_sets.specs.View.{HandlersReadBehindHeldEvents, changed_by, entry_value, word_behind_entries}
use Rattle.nv_memory.proofs.Turns.{between_less}
use Rattle.buffi_sets.proofs.Ring.{slots_more}

-- the last of the logs comes first
changed_last : (s : State) (word : ℕ) (slots : List ℕ) (slot value : ℕ)
    → changed_by s word (slots ++ slot ∷ []) value ≡ unwrap_or (entry_value s slot word) (changed_by s word slots value)
changed_last s word [] slot value = refl
changed_last s word (x ∷ slots) slot value = changed_last s word slots slot (unwrap_or (entry_value s x word) value)

-- so does that of the newest of some entries
pub changed_newest : (s : State) (word from older value : ℕ)
    → changed_by s word (slots_from s.k from (suc older)) value
    ≡ unwrap_or (entry_value s (slot_of s.k (from + older)) word) (changed_by s word (slots_from s.k from older) value)
changed_newest s word from older value =
    ap (λ slots. changed_by s word slots value) (slots_more s.k from older) ∙ changed_last s word (slots_from s.k from older) (slot_of s.k (from + older)) value

-- what the log of the newest of some entries says
pub newest_is : (s : State) (word count value slot : ℕ) (found : Option ℕ) → 0 < count → slot ≡ slot_of s.k (head s + (count - 1))
    → entry_value s slot word ≡ found
    → changed_by s word (slots_from s.k (head s) count) value
    ≡ unwrap_or found (changed_by s word (slots_from s.k (head s) (count - 1)) value)
newest_is s word count value slot found some at has =
    ap (λ n. changed_by s word (slots_from s.k (head s) n) value) (let e : count ≡ suc (count - 1) = omega (arith, some) in e)
    ∙ changed_newest s word (head s) (count - 1) value
    ∙ ap (λ o. unwrap_or o (changed_by s word (slots_from s.k (head s) (count - 1)) value))
    (ap (λ x. entry_value s x word) (sym at) ∙ has)

-- while the entry at the head is taken its log stands before those of the held entries
taken_first : (s : State) (word n : ℕ) (value : ℕ) → InRange s → is_taking s ≡ true → positions_between s.k (head s) (tail s) ≡ n + 1
    → changed_by s word (slots_from s.k (head s) (n + 1)) value
    ≡ changed_by s word (slots_from s.k (head_next s) (positions_between s.k (head_next s) (tail s))) (unwrap_or (entry_value s (head_slot s) word) value)
taken_first s word n value r taking more =
    let follows : head_next s ≡ position_after s.k (head s) = r.ring.taken_follows taking in
    let less : positions_between s.k (head_next s) (tail s) ≡ n =
    ap (λ p. positions_between s.k p (tail s)) follows ∙ between_less s.k (head s) (tail s) n r.ring.head_low r.ring.tail_low more in
    rw (less, follows, add-one n) refl

-- by the marker, and whether the head is the next
view_step : (s : State) (word : ℕ) (unit event same : Bool) → InRange s → (mark s == 2) ≡ unit → (mark s == 3) ≡ event → (head s == head_next s) ≡ same
    → word_behind_entries s word ≡ changed_by s word (held_slots s) (committed_word s word)
view_step s word true true same r u e h = absurd (let two : mark s ≡ 2 = grind (arith, nat_tests) in let three : mark s ≡ 3 = grind (arith, nat_tests) in omega (arith, two, three))
view_step s word true false same r u e h = rw (u, e) refl
view_step s word false false same r u e h = rw (u, e) refl
view_step s word false true true r u e h = let one : head s ≡ head_next s = grind (arith, nat_tests) in rw (u, e, h) (rw one refl)
view_step s word false true false r u e h =
    let taking : is_taking s ≡ true = rw (e, h) refl in
    let some = r.ring.taken_some taking in
    let n = positions_between s.k (head s) (tail s) - 1 in
    let more : positions_between s.k (head s) (tail s) ≡ n + 1 = omega (arith, some) in
    rw (u, e, h) (ap (λ c. changed_by s word (slots_from s.k (head s) c) (variable s word)) more ∙ taken_first s word n (variable s word) r taking more)

pub behind_held : HandlersReadBehindHeldEvents
behind_held s r word = view_step s word (mark s == 2) (mark s == 3) (head s == head_next s) r refl refl refl
