-- The walks for the next write: what stands so far, and the write where one is found.
use Rattle.std.proofs.Common.{◌≡◌, ◌≢◌, ◌⊎◌, ℕ, ◌+◌, ◌<◌, ◌==◌, refl, ap, sym, subst, ◌∙◌, add-one, arith, inl, inr, List, [], ◌∷◌, ◌++◌, Some, None, Option, Bool, true, false, if◌then◌else◌}
use Rattle.std.proofs.lemmas.Bool.Decides.{nat_tests}
use Rattle.nv_memory.specs.declared.write.Write.{Write}
use Rattle.nv_memory.specs.InRange.{InRange}
use Rattle.nv_memory.specs.Seats.{Memory, address}
use Rattle.nv_memory.specs.State.{Change, State, first_undone, set_to, state}
use Rattle.nv_memory.specs.Words.{attempt_flag, tx_flag, tx_flag_seat}
use Rattle.nv_memory.specs.Logs.{index_in, length_in, number_in, pair_value_in, task_log, tx_log}
use Rattle.nv_memory.proofs.Seats.{part_seat}
use Rattle.tx_buffer.specs.Next.{IsNext, MakesNext, changes_below}
use Rattle.tx_buffer.specs.Merge.{flag_changes, pair_changes, store_changes}
use Rattle.tx_buffer.specs.Clear.{clear_changes, unflag_changes}
use Rattle.tx_buffer.proofs.Makes.{makes_head}
use Rattle.tx_buffer.proofs.Undone.{done_head, undone_after, undone_before, undone_below}

-- a place more of which the changes stand
pub done_more : (s : State) (f : ℕ → List Change) (i : ℕ) → first_undone s (changes_below f i) ≡ None → first_undone s (f i) ≡ None
    → first_undone s (changes_below f (i + 1)) ≡ None
done_more s f i before here = rw add-one (undone_after s (changes_below f i) (f i) before ∙ here)

-- the write is found at a place
pub makes_below : (m : Memory) (f : ℕ → List Change) (n i : ℕ) (write : Write) → i < n → first_undone (state m) (changes_below f i) ≡ None
    → MakesNext m (f i) write → MakesNext m (changes_below f n) write
makes_below m f n i write l before here = record {
  change = here.change;
  next = undone_below (state m) f n i here.change l before here.next;
  writes = here.writes;
}

-- it is found behind changes that stand, or in the first of two lists
pub makes_after : (m : Memory) (xs ys : List Change) (o : Option Write) → first_undone (state m) xs ≡ None → IsNext m ys o → IsNext m (xs ++ ys) o
makes_after m xs ys None before is = undone_after (state m) xs ys before ∙ is
makes_after m xs ys (Some write) before is = record {
  change = is.change;
  next = undone_after (state m) xs ys before ∙ is.next;
  writes = is.writes;
}

pub makes_before : (m : Memory) (xs ys : List Change) (write : Write) → MakesNext m xs write → MakesNext m (xs ++ ys) write
makes_before m xs ys write is = record {
  change = is.change;
  next = undone_before (state m) xs ys is.change is.next;
  writes = is.writes;
}

-- a flag that is set is taken back
pub flag_still_set : (m : Memory) (word at : ℕ) → word < m.n → length_in (state m) tx_log ≡ 0
    → first_undone (state m) (changes_below unflag_changes word) ≡ None → tx_flag (state m) word ≡ true → at ≡ address m.n (tx_flag_seat word)
    → MakesNext m (clear_changes (state m)) (record { at = at; word = 0 })
flag_still_set m word at low empty before set is =
    let differs : (state m).at (tx_flag_seat word) ≢ 0 = λ e. let no : tx_flag (state m) word ≡ false = ap (λ (x : ℕ). x == 1) e in absurd cc in
    let here = makes_below m unflag_changes m.n word (record { at = at; word = 0 }) low before
    (makes_head m (tx_flag_seat word) at 0 [] (part_seat m.n m.k 6 word (omega arith) low) is differs) in
    record {
      change = here.change;
      next = done_head (state m) (set_to tx_log.length 0) (changes_below unflag_changes m.n) empty ∙ here.next;
      writes = here.writes;
    }

pub flag_cleared : (s : State) (word : ℕ) → InRange s → word < s.n → tx_flag s word ≡ false
    → first_undone s (changes_below unflag_changes word) ≡ None → first_undone s (changes_below unflag_changes (word + 1)) ≡ None
flag_cleared s word r low off before =
    let two = r.tx_flags word low in
    done_more s unflag_changes word before (done_head s (set_to (tx_flag_seat word) 0) [] (grind (arith, nat_tests)))

-- a flag of the attempt isn't one of the transaction yet
pub flag_joins : (m : Memory) (word at : ℕ) → word < m.n → attempt_flag (state m) word ≡ true → tx_flag (state m) word ≡ false
    → first_undone (state m) (changes_below (flag_changes (state m)) word) ≡ None → at ≡ address m.n (tx_flag_seat word)
    → MakesNext m (changes_below (flag_changes (state m)) m.n) (record { at = at; word = 1 })
flag_joins m word at low set off before is =
    let differs : (state m).at (tx_flag_seat word) ≢ 1 = λ e. let no : tx_flag (state m) word ≡ true = ap (λ (x : ℕ). x == 1) e in absurd cc in
    makes_below m (flag_changes (state m)) m.n word (record { at = at; word = 1 }) low before
    (rw set (makes_head m (tx_flag_seat word) at 1 [] (part_seat m.n m.k 6 word (omega arith) low) is differs))

stands_step : (s : State) (word : ℕ) (b : Bool) → (b ≡ false) ⊎ (tx_flag s word ≡ true)
    → first_undone s (if b then set_to (tx_flag_seat word) 1 ∷ [] else []) ≡ None
stands_step s word true (inl off) = absurd cc
stands_step s word true (inr set) = done_head s (set_to (tx_flag_seat word) 1) [] (grind (arith, nat_tests))
stands_step s word false either = refl

pub flag_joined : (s : State) (word : ℕ) → (attempt_flag s word ≡ false) ⊎ (tx_flag s word ≡ true)
    → first_undone s (changes_below (flag_changes s) word) ≡ None → first_undone s (changes_below (flag_changes s) (word + 1)) ≡ None
flag_joined s word either before = done_more s (flag_changes s) word before (stands_step s word (attempt_flag s word) either)

-- the changes of a pair, by its word, its value and where the word stands in the transaction log
pub pair_is : (s : State) (i word value : ℕ) (o : Option ℕ) → word ≡ number_in s task_log i → value ≡ pair_value_in s task_log i
    → index_in s tx_log word ≡ o → store_changes s word value o ≡ pair_changes s i
pair_is s i word value o w v is =
    ap (store_changes s word value) (sym is)
    ∙ ap (λ (a : ℕ). store_changes s a value (index_in s tx_log a)) w
    ∙ ap (λ (x : ℕ). store_changes s (number_in s task_log i) x (index_in s tx_log (number_in s task_log i))) v

-- a pair of which the writes are found
pub pair_found : (m : Memory) (i word value : ℕ) (o : Option ℕ) (write : Write) → word ≡ number_in (state m) task_log i
    → value ≡ pair_value_in (state m) task_log i → index_in (state m) tx_log word ≡ o → i < length_in (state m) task_log
    → first_undone (state m) (changes_below (pair_changes (state m)) i) ≡ None → MakesNext m (store_changes (state m) word value o) write
    → MakesNext m (changes_below (pair_changes (state m)) (length_in (state m) task_log)) write
pair_found m i word value o write w v is low before here =
    makes_below m (pair_changes (state m)) (length_in (state m) task_log) i write low before
    (subst (λ (xs : List Change). MakesNext m xs write) (pair_is (state m) i word value o w v is) here)

-- a pair that stands in the transaction log
pub pair_stands : (s : State) (i word value at : ℕ) → word ≡ number_in s task_log i → value ≡ pair_value_in s task_log i
    → index_in s tx_log word ≡ Some at → pair_value_in s tx_log at ≡ value → first_undone s (changes_below (pair_changes s) i) ≡ None
    → first_undone s (changes_below (pair_changes s) (i + 1)) ≡ None
pair_stands s i word value at w v is same before =
    done_more s (pair_changes s) i before
    (ap (first_undone s) (sym (pair_is s i word value (Some at) w v is)) ∙ done_head s (set_to (tx_log.value at) value) [] same)
