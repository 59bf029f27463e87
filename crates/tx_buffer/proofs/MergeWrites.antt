-- What the next write of a merge is, case by case.
use Rattle.std.proofs.Common.{◌≡◌, ◌≢◌, ℕ, ◌+◌, ◌<◌, refl, sym, inl, inr, [], ◌∷◌, Some, None, Option, Bool, true, false, if◌then◌else◌}
use Rattle.nv_memory.specs.State.{Change, State, first_undone, set_to}
use Rattle.nv_memory.specs.Words.{attempt_flag, tx_flag_seat}
use Rattle.nv_memory.specs.Logs.{index_in, length_in, number_in, pair_value_in, task_log, tx_log, value_in}
use Rattle.tx_buffer.specs.Next.{changes_below}
use Rattle.tx_buffer.specs.Merge.{flag_changes, merge_changes, pair_changes, store_changes}
use Rattle.tx_buffer.proofs.Ends.{store_done}
use Rattle.tx_buffer.proofs.Undone.{done_at, head_split, undone_at, undone_split}

-- the pairs before one stand in the transaction log
abbrev pub StandBefore : State → ℕ → Type 0
StandBefore s i = (j : ℕ) → j < i → value_in s tx_log (number_in s task_log j) ≡ Some (pair_value_in s task_log j)

-- a pair of the task log is the first that doesn't
pub record IsFirstLeft (s : State) (i : ℕ) : Type 0 where
  pub low : i < length_in s task_log
  pub before : StandBefore s i

-- its word is in the transaction log, or it isn't
abbrev pub IsAbsent : State → ℕ → Type 0
IsAbsent s i = index_in s tx_log (number_in s task_log i) ≡ None

pub data IsMergeWrite (s : State) (c : Change) : Type 0 where
  renews : (i at : ℕ) → IsFirstLeft s i → index_in s tx_log (number_in s task_log i) ≡ Some at
      → pair_value_in s tx_log at ≢ pair_value_in s task_log i → c ≡ set_to (tx_log.value at) (pair_value_in s task_log i) → IsMergeWrite s c
  numbers : (i : ℕ) → IsFirstLeft s i → IsAbsent s i → number_in s tx_log (length_in s tx_log) ≢ number_in s task_log i
      → c ≡ set_to (tx_log.number (length_in s tx_log)) (number_in s task_log i) → IsMergeWrite s c
  values : (i : ℕ) → IsFirstLeft s i → IsAbsent s i → number_in s tx_log (length_in s tx_log) ≡ number_in s task_log i
      → pair_value_in s tx_log (length_in s tx_log) ≢ pair_value_in s task_log i
      → c ≡ set_to (tx_log.value (length_in s tx_log)) (pair_value_in s task_log i) → IsMergeWrite s c
  lengths : (i : ℕ) → IsFirstLeft s i → IsAbsent s i → number_in s tx_log (length_in s tx_log) ≡ number_in s task_log i
      → pair_value_in s tx_log (length_in s tx_log) ≡ pair_value_in s task_log i
      → c ≡ set_to tx_log.length (length_in s tx_log + 1) → IsMergeWrite s c
  joins : (word : ℕ) → StandBefore s (length_in s task_log) → word < s.n → attempt_flag s word ≡ true → s.at (tx_flag_seat word) ≢ 1
      → c ≡ set_to (tx_flag_seat word) 1 → IsMergeWrite s c

stand_before : (s : State) (i : ℕ) → first_undone s (changes_below (pair_changes s) i) ≡ None → StandBefore s i
stand_before s i e = λ j l.
    store_done s (number_in s task_log j) (pair_value_in s task_log j) (index_in s tx_log (number_in s task_log j)) refl (done_at s (pair_changes s) i e j l)

pair_write : (s : State) (c : Change) (i : ℕ) (o : Option ℕ) → IsFirstLeft s i → index_in s tx_log (number_in s task_log i) ≡ o
    → first_undone s (store_changes s (number_in s task_log i) (pair_value_in s task_log i) o) ≡ Some c → IsMergeWrite s c
pair_write s c i (Some at) first is e = elim (head_split s (set_to (tx_log.value at) (pair_value_in s task_log i)) c [] e) [
  | inl h ↦ renews i at first is h.0 (sym h.1)
  | inr h ↦ let no = h.1 in absurd cc
]
pair_write s c i None first is e =
    let word = number_in s task_log i in
    let value = pair_value_in s task_log i in
    let end = length_in s tx_log in
    let last = set_to tx_log.length (end + 1) in
    elim (head_split s (set_to (tx_log.number end) word) c (set_to (tx_log.value end) value ∷ last ∷ []) e) [
      | inl h ↦ numbers i first is h.0 (sym h.1)
      | inr h ↦ elim (head_split s (set_to (tx_log.value end) value) c (last ∷ []) h.1) [
        | inl g ↦ values i first is h.0 g.0 (sym g.1)
        | inr g ↦ elim (head_split s last c [] g.1) [
          | inl f ↦ lengths i first is h.0 g.0 (sym f.1)
          | inr f ↦ let no = f.1 in absurd cc
        ]
      ]
    ]

flag_write : (s : State) (c : Change) (word : ℕ) (b : Bool) → StandBefore s (length_in s task_log) → word < s.n → attempt_flag s word ≡ b
    → first_undone s (if b then set_to (tx_flag_seat word) 1 ∷ [] else []) ≡ Some c → IsMergeWrite s c
flag_write s c word true before l is e = elim (head_split s (set_to (tx_flag_seat word) 1) c [] e) [
  | inl h ↦ joins word before l is h.0 (sym h.1)
  | inr h ↦ let no = h.1 in absurd cc
]
flag_write s c word false before l is e = absurd cc

pub merge_write : (s : State) (c : Change) → first_undone s (merge_changes s) ≡ Some c → IsMergeWrite s c
merge_write s c e = elim (undone_split s (changes_below (pair_changes s) (length_in s task_log)) (changes_below (flag_changes s) s.n) c e) [
  | inl h ↦
      let at = undone_at s (pair_changes s) (length_in s task_log) c h in
      pair_write s c at.i (index_in s tx_log (number_in s task_log at.i)) (record { low = at.low; before = stand_before s at.i at.before }) refl at.here
  | inr h ↦
      let at = undone_at s (flag_changes s) s.n c h.1 in
      flag_write s c at.i (attempt_flag s at.i) (stand_before s (length_in s task_log) h.0) at.low refl at.here
]
