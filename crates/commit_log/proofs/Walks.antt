-- The walks for the next write into the variables.
use Rattle.std.proofs.Common.{◌≡◌, ◌≢◌, ◌⊎◌, ℕ, ◌+◌, ◌<◌, refl, ap, sym, subst, ◌∙◌, arith, inl, inr, List, [], ◌∷◌, Some, None, Option, true, false, if◌then◌else◌, is_some, slice_get, get_or}
use Rattle.std.proofs.lemmas.Option.{get_or_from_slice_get}
use Rattle.nv_memory.specs.Seats.{Memory, address}
use Rattle.nv_memory.specs.State.{Change, State, first_undone, set_to, state}
use Rattle.nv_memory.specs.Words.{variable, variable_seat}
use Rattle.nv_memory.specs.Logs.{LogSeats, index_in, length_in, number_in, pair_value_in, task_log, tx_log}
use Rattle.nv_memory.proofs.Seats.{part_seat}
use Rattle.tx_buffer.specs.Next.{MakesNext, changes_below}
use Rattle.tx_buffer.proofs.Makes.{makes_head}
use Rattle.tx_buffer.proofs.Steps.{done_more, makes_below}
use Rattle.tx_buffer.proofs.Undone.{done_head}
use Rattle.commit_log.specs.Changes.{older_changes, variable_changes}

-- the change of a pair, by its word and its value
pub change_is : (s : State) (l : LogSeats) (i word value : ℕ) → word ≡ number_in s l i → value ≡ pair_value_in s l i
    → set_to (variable_seat word) value ∷ [] ≡ variable_changes s l i
change_is s l i word value w v = rw (w, v) refl

makes_here : (m : Memory) (l : LogSeats) (i word value at : ℕ) → word ≡ number_in (state m) l i → value ≡ pair_value_in (state m) l i → word < m.n
    → variable (state m) word ≢ value → at ≡ address m.n (variable_seat word)
    → MakesNext m (variable_changes (state m) l i) (record { at = at; word = value })
makes_here m l i word value at w v low n is =
    subst (λ (xs : List Change). MakesNext m xs (record { at = at; word = value })) (change_is (state m) l i word value w v)
    (makes_head m (variable_seat word) at value [] (part_seat m.n m.k 0 word (omega arith) low) is n)

pub variable_found : (m : Memory) (l : LogSeats) (i word value at : ℕ) → word ≡ number_in (state m) l i → value ≡ pair_value_in (state m) l i → word < m.n
    → i < length_in (state m) l → first_undone (state m) (changes_below (variable_changes (state m) l) i) ≡ None
    → variable (state m) word ≢ value → at ≡ address m.n (variable_seat word)
    → MakesNext m (changes_below (variable_changes (state m) l) (length_in (state m) l)) (record { at = at; word = value })
variable_found m l i word value at w v low inside before n is =
    makes_below m (variable_changes (state m) l) (length_in (state m) l) i (record { at = at; word = value }) inside before
    (makes_here m l i word value at w v low n is)

pair_stands : (s : State) (l : LogSeats) (i word value : ℕ) → word ≡ number_in s l i → value ≡ pair_value_in s l i → variable s word ≡ value
    → first_undone s (variable_changes s l i) ≡ None
pair_stands s l i word value w v e =
    ap (first_undone s) (sym (change_is s l i word value w v)) ∙ done_head s (set_to (variable_seat word) value) [] e

pub variable_stands : (s : State) (l : LogSeats) (i word value : ℕ) → word ≡ number_in s l i → value ≡ pair_value_in s l i → variable s word ≡ value
    → first_undone s (changes_below (variable_changes s l) i) ≡ None → first_undone s (changes_below (variable_changes s l) (i + 1)) ≡ None
variable_stands s l i word value w v e before = done_more s (variable_changes s l) i before (pair_stands s l i word value w v e)

-- the same of older pairs
older_is : (s : State) (i word : ℕ) (o : Option ℕ) → word ≡ number_in s tx_log i → index_in s task_log word ≡ o
    → (if is_some o then [] else variable_changes s tx_log i) ≡ older_changes s i
older_is s i word o w is =
    ap (λ (p : Option ℕ). if is_some p then [] else variable_changes s tx_log i) (sym is ∙ ap (index_in s task_log) w)

pub older_found : (m : Memory) (i word value at : ℕ) → word ≡ number_in (state m) tx_log i → value ≡ pair_value_in (state m) tx_log i → word < m.n
    → i < length_in (state m) tx_log → first_undone (state m) (changes_below (older_changes (state m)) i) ≡ None
    → index_in (state m) task_log word ≡ None → variable (state m) word ≢ value → at ≡ address m.n (variable_seat word)
    → MakesNext m (changes_below (older_changes (state m)) (length_in (state m) tx_log)) (record { at = at; word = value })
older_found m i word value at w v low inside before none n is =
    makes_below m (older_changes (state m)) (length_in (state m) tx_log) i (record { at = at; word = value }) inside before
    (subst (λ (xs : List Change). MakesNext m xs (record { at = at; word = value })) (older_is (state m) i word None w none)
    (makes_here m tx_log i word value at w v low n is))

older_step : (s : State) (i word value : ℕ) (o : Option ℕ) → word ≡ number_in s tx_log i → value ≡ pair_value_in s tx_log i
    → index_in s task_log word ≡ o → (o ≢ None) ⊎ (variable s word ≡ value) → first_undone s (older_changes s i) ≡ None
older_step s i word value (Some at) w v is either = ap (first_undone s) (sym (older_is s i word (Some at) w is))
older_step s i word value None w v is (inl some) = absurd (some refl)
older_step s i word value None w v is (inr e) = ap (first_undone s) (sym (older_is s i word None w is)) ∙ pair_stands s tx_log i word value w v e

pub older_stands : (s : State) (i word value : ℕ) → word ≡ number_in s tx_log i → value ≡ pair_value_in s tx_log i
    → (index_in s task_log word ≢ None) ⊎ (variable s word ≡ value)
    → first_undone s (changes_below (older_changes s) i) ≡ None → first_undone s (changes_below (older_changes s) (i + 1)) ≡ None
older_stands s i word value w v either before =
    done_more s (older_changes s) i before (older_step s i word value (index_in s task_log word) w v refl either)

-- what a table of places tells of a word
none_of : (o : Option ℕ) → is_some o ≡ false → o ≡ None
none_of None e = refl
none_of (Some at) e = absurd cc

some_of : (o : Option ℕ) → is_some o ≡ true → o ≢ None
some_of None e = absurd cc
some_of (Some at) e = λ n. absurd cc

pub table_none : (table : List (Option ℕ)) (word : ℕ) (o : Option ℕ) → slice_get table word ≡ Some o → is_some (get_or table word None) ≡ false → o ≡ None
table_none table word o is e = none_of o (ap is_some (sym (get_or_from_slice_get table word o None is)) ∙ e)

pub table_some : (table : List (Option ℕ)) (word : ℕ) (o : Option ℕ) → slice_get table word ≡ Some o → is_some (get_or table word None) ≡ true → o ≢ None
table_some table word o is e = some_of o (ap is_some (sym (get_or_from_slice_get table word o None is)) ∙ e)
