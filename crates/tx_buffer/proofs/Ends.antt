-- Where a merge or a clearing has no write left.
use Rattle.std.proofs.Common.{◌≡◌, ℕ, ◌+◌, ◌==◌, ◌||◌, refl, ap, sym, ◌∙◌, arith, [], ◌∷◌, Some, None, Option, Bool, true, false, if◌then◌else◌}
use Rattle.std.proofs.lemmas.Bool.Decides.{nat_tests}
use Rattle.nv_memory.specs.InRange.{InRange}
use Rattle.nv_memory.specs.State.{State, first_undone, set_to}
use Rattle.nv_memory.specs.StandsFor.{unit_value}
use Rattle.nv_memory.specs.Words.{attempt_flag, tx_flag, tx_flag_seat}
use Rattle.nv_memory.specs.Logs.{index_in, length_in, number_in, pair_value_in, task_log, tx_log, value_in}
use Rattle.nv_memory.proofs.Looks.{index_below, look_none, look_some, test_same}
use Rattle.tx_buffer.specs.Next.{changes_below}
use Rattle.tx_buffer.specs.Merge.{IsMerged, flag_changes, merge_changes, pair_changes, store_changes}
use Rattle.tx_buffer.specs.Clear.{IsCleared, clear_changes, unflag_changes}
use Rattle.tx_buffer.specs.Keeps.{HasMerged}
use Rattle.tx_buffer.proofs.Undone.{done_at, done_below, done_both, done_head, head_done, undone_after}

-- a value that is stored stands in the transaction log
pub store_done : (s : State) (word value : ℕ) (o : Option ℕ) → index_in s tx_log word ≡ o → first_undone s (store_changes s word value o) ≡ None
    → value_in s tx_log word ≡ Some value
store_done s word value (Some at) is e =
    look_some (number_in s tx_log) (pair_value_in s tx_log) (length_in s tx_log) word at is
    ∙ ap Some (head_done s (set_to (tx_log.value at) value) [] e).0
store_done s word value None is e =
    let end = length_in s tx_log in
    let number = head_done s (set_to (tx_log.number end) word) (set_to (tx_log.value end) value ∷ set_to tx_log.length (end + 1) ∷ []) e in
    let pair = head_done s (set_to (tx_log.value end) value) (set_to tx_log.length (end + 1) ∷ []) number.1 in
    let longer = head_done s (set_to tx_log.length (end + 1)) [] pair.1 in
    let never = longer.0 in absurd (omega (arith, never))

pub stored_done : (s : State) (word value : ℕ) (o : Option ℕ) → index_in s tx_log word ≡ o → value_in s tx_log word ≡ Some value
    → first_undone s (store_changes s word value o) ≡ None
stored_done s word value (Some at) is e =
    let found = look_some (number_in s tx_log) (pair_value_in s tx_log) (length_in s tx_log) word at is in
    done_head s (set_to (tx_log.value at) value) [] (cc)
stored_done s word value None is e =
    let none = look_none (number_in s tx_log) (pair_value_in s tx_log) (length_in s tx_log) word is in absurd cc

-- a flag that is joined
flag_done : (s : State) (word : ℕ) (b : Bool) → first_undone s (if b then set_to (tx_flag_seat word) 1 ∷ [] else []) ≡ None → b ≡ true → tx_flag s word ≡ true
flag_done s word true e set = let stands = (head_done s (set_to (tx_flag_seat word) 1) [] e).0 in test_same (s.at (tx_flag_seat word)) 1 stands
flag_done s word false e set = absurd cc

joined_done : (s : State) (word : ℕ) (b : Bool) → (b ≡ true → tx_flag s word ≡ true) → first_undone s (if b then set_to (tx_flag_seat word) 1 ∷ [] else []) ≡ None
joined_done s word true h = let set = h refl in done_head s (set_to (tx_flag_seat word) 1) [] (grind (arith, nat_tests))
joined_done s word false h = refl

pub flag_stands : (s : State) (word : ℕ) → first_undone s (flag_changes s word) ≡ None → attempt_flag s word ≡ true → tx_flag s word ≡ true
flag_stands s word e set = flag_done s word (attempt_flag s word) e set

pub merged : (s : State) → first_undone s (merge_changes s) ≡ None → IsMerged s
merged s e =
    let both = done_both s (changes_below (pair_changes s) (length_in s task_log)) (changes_below (flag_changes s) s.n) e in
    record {
      pairs = λ i l. store_done s (number_in s task_log i) (pair_value_in s task_log i) (index_in s tx_log (number_in s task_log i)) refl
          (done_at s (pair_changes s) (length_in s task_log) both.0 i l);
      flags = λ word l set. flag_stands s word (done_at s (flag_changes s) s.n both.1 word l) set;
    }

pub merged_done : (s : State) → IsMerged s → first_undone s (merge_changes s) ≡ None
merged_done s m =
    undone_after s (changes_below (pair_changes s) (length_in s task_log)) (changes_below (flag_changes s) s.n)
    (done_below s (pair_changes s) (length_in s task_log) (λ i l. stored_done s (number_in s task_log i) (pair_value_in s task_log i) (index_in s tx_log (number_in s task_log i)) refl (m.pairs i l)))
    ∙ done_below s (flag_changes s) s.n (λ word l. joined_done s word (attempt_flag s word) (m.flags word l))

pub cleared : (s : State) → first_undone s (clear_changes s) ≡ None → IsCleared s
cleared s e =
    let both = head_done s (set_to tx_log.length 0) (changes_below unflag_changes s.n) e in
    record {
      empty = both.0;
      flags = λ word l. let stands = (head_done s (set_to (tx_flag_seat word) 0) [] (done_at s unflag_changes s.n both.1 word l)).0 in
          ap (λ (x : ℕ). x == 1) stands;
    }

pub cleared_done : (s : State) → InRange s → IsCleared s → first_undone s (clear_changes s) ≡ None
cleared_done s r c =
    done_head s (set_to tx_log.length 0) (changes_below unflag_changes s.n) c.empty
    ∙ done_below s unflag_changes s.n (λ word l. let low = r.tx_flags word l in let off = c.flags word l in
    done_head s (set_to (tx_flag_seat word) 0) [] (grind (arith, nat_tests)))

-- a word of the task log has its value in the transaction log
found_step : (s : State) (word : ℕ) (o : Option ℕ) → index_in s task_log word ≡ o → IsMerged s → value_in s tx_log word ≡ unit_value s word
found_step s word (Some at) is m =
    let low = index_below (number_in s task_log) (length_in s task_log) word at is in
    let there = ap (value_in s tx_log) (sym low.1) ∙ m.pairs at low.0 in
    let here = look_some (number_in s task_log) (pair_value_in s task_log) (length_in s task_log) word at is in
    rw here there
found_step s word None is m = rw (look_none (number_in s task_log) (pair_value_in s task_log) (length_in s task_log) word is) refl

joined_step : (a b : Bool) → (b ≡ true → a ≡ true) → a ≡ (a || b)
joined_step true b h = refl
joined_step false true h = h refl
joined_step false false h = refl

pub has_merged : (s : State) → IsMerged s → HasMerged s
has_merged s m = record {
  values = λ word. found_step s word (index_in s task_log word) refl m;
  flags = λ word l. joined_step (tx_flag s word) (attempt_flag s word) (m.flags word l);
}

pub merges_end : (s : State) → InRange s → first_undone s (merge_changes s) ≡ None → HasMerged s
merges_end s r e = has_merged s (merged s e)
