-- The writes of a task's commit into its transaction leave what the image stands for, and the open unit.
use Rattle.std.proofs.Common.{◌≡◌, ◌≢◌, refl, ap, sym, ◌∙◌, subst, arith, inl, inr, [], ◌∷◌, Some, true, false}
use Rattle.std.proofs.lemmas.Bool.{cases_eq}
use Rattle.nv_memory.specs.declared.log.Log.TheVariants as log
use Rattle.nv_memory.specs.Frames.{KeepsBeside}
use Rattle.nv_memory.specs.InRange.{InRange, IsClosed}
use Rattle.nv_memory.specs.Ring.{is_taking}
use Rattle.nv_memory.specs.State.{Change, State, first_undone, put, set_to}
use Rattle.nv_memory.specs.Words.{current, current_seat, doomed, first, first_seat, mark, mark_seat, next, opened, opened_seat, tx_flag_seat}
use Rattle.nv_memory.specs.Logs.{length_in, task_log, tx_log}
use Rattle.nv_memory.proofs.Frames.{length_keeps_beside, number_keeps_beside, place_is_free, range_after_free, range_emptied, same_beside, value_keeps_beside}
use Rattle.nv_memory.proofs.Looks.{test_other}
use Rattle.tx_buffer.specs.Keeps.{HasMerged, KeepsMerged}
use Rattle.tx_buffer.specs.Merge.{merge_changes}
use Rattle.tx_buffer.proofs.Ends.{merges_end}
use Rattle.tx_buffer.proofs.MergeKeeps.{merges_keep}
use Rattle.tx_buffer.proofs.MergeWrites.{IsMergeWrite, joins, lengths, merge_write, numbers, renews, values}
use Rattle.tx_buffer.proofs.Undone.{head_split, undone_split}
use Rattle.commit_log.specs.Changes.{first_task, into_tx_changes}
use Rattle.commit_log.specs.Laws.{Keeps}
use Rattle.commit_log.specs.OpenUnit.{KeepsUnit}
use Rattle.commit_log.proofs.Ranges.{range_cleared, range_opened}

-- the next write, case by case
pub data IsIntoTxWrite (s : State) (c : Change) : Type 0 where
  merges : first_undone s (merge_changes s) ≡ Some c → IsIntoTxWrite s c
  firsts : opened s ≢ 1 → first s ≢ current s → c ≡ set_to first_seat (current s) → IsIntoTxWrite s c
  opens : opened s ≢ 1 → first s ≡ current s → c ≡ set_to opened_seat 1 → IsIntoTxWrite s c
  leads : opened s ≡ 1 → current s ≢ next s → c ≡ set_to current_seat (next s) → IsIntoTxWrite s c
  empties : opened s ≡ 1 → HasMerged s → length_in s task_log ≢ 0 → c ≡ set_to task_log.length 0 → IsIntoTxWrite s c
  clears : opened s ≡ 1 → current s ≡ next s → HasMerged s → length_in s task_log ≡ 0 → c ≡ set_to mark_seat 0 → IsIntoTxWrite s c

pub first_open : (s : State) → opened s ≡ 1 → first_task s ≡ first s
first_open s e = rw e refl

pub first_closed : (s : State) → opened s ≢ 1 → first_task s ≡ current s
first_closed s n = rw (test_other (opened s) 1 n) refl

first_write : (s : State) (c : Change) → first s ≢ first_task s → set_to first_seat (first_task s) ≡ c → IsIntoTxWrite s c
first_write s c n e = elim (cases_eq (opened s) 1) [
  | inl o ↦ absurd (n (sym (first_open s o)))
  | inr o ↦ firsts o (λ q. n (q ∙ sym (first_closed s o))) (sym e ∙ ap (set_to first_seat) (first_closed s o))
]

open_write : (s : State) (c : Change) → first s ≡ first_task s → opened s ≢ 1 → set_to opened_seat 1 ≡ c → IsIntoTxWrite s c
open_write s c first o e = opens o (first ∙ first_closed s o) (sym e)

header_case : (s : State) (c : Change) → HasMerged s
    → first_undone s (set_to first_seat (first_task s) ∷ set_to opened_seat 1 ∷ set_to current_seat (next s) ∷ set_to task_log.length 0 ∷ set_to mark_seat 0 ∷ []) ≡ Some c
    → IsIntoTxWrite s c
header_case s c merged e =
    elim (head_split s (set_to first_seat (first_task s)) c (set_to opened_seat 1 ∷ set_to current_seat (next s) ∷ set_to task_log.length 0 ∷ set_to mark_seat 0 ∷ []) e) [
      | inl h ↦ first_write s c h.0 h.1
      | inr h ↦ elim (head_split s (set_to opened_seat 1) c (set_to current_seat (next s) ∷ set_to task_log.length 0 ∷ set_to mark_seat 0 ∷ []) h.1) [
        | inl g ↦ open_write s c h.0 g.0 g.1
        | inr g ↦ elim (head_split s (set_to current_seat (next s)) c (set_to task_log.length 0 ∷ set_to mark_seat 0 ∷ []) g.1) [
          | inl f ↦ leads g.0 f.0 (sym f.1)
          | inr f ↦ elim (head_split s (set_to task_log.length 0) c (set_to mark_seat 0 ∷ []) f.1) [
            | inl d ↦ empties g.0 merged d.0 (sym d.1)
            | inr d ↦ elim (head_split s (set_to mark_seat 0) c [] d.1) [
              | inl b ↦ clears g.0 f.0 merged d.0 (sym b.1)
              | inr b ↦ let no = b.1 in absurd cc
            ]
          ]
        ]
      ]
    ]

pub into_tx_write : (s : State) (c : Change) → InRange s → first_undone s (into_tx_changes s) ≡ Some c → IsIntoTxWrite s c
into_tx_write s c r e =
    elim (undone_split s (merge_changes s) (set_to first_seat (first_task s) ∷ set_to opened_seat 1 ∷ set_to current_seat (next s) ∷ set_to task_log.length 0 ∷ set_to mark_seat 0 ∷ []) c e) [
      | inl h ↦ merges h
      | inr h ↦ header_case s c (merges_end s r h.0) h.1
    ]

-- while a merge is under way nothing is doomed, and a closed transaction may have a log
not_doomed : (s : State) → mark s ≡ 1 → IsClosed s → doomed s ≢ 1
not_doomed s one closed d = let zero = closed.doomed_mark d in absurd (omega (arith, one, zero))

closed_merging : (t : State) → mark t ≡ 1 → doomed t ≢ 1 → IsClosed t
closed_merging t one n = record {
  empty = λ o m. absurd (m one);
  flags = λ o m. absurd (m one);
  doomed_mark = λ d. absurd (n d);
  doomed_place = λ d. absurd (n d);
}

not_taken : (s : State) → mark s ≡ 1 → is_taking s ≡ true → ⊥
not_taken s one takes = let no : is_taking s ≡ false = rw one refl in absurd cc

module _ (s : State) (one : mark s ≡ 1) (r : InRange s) (closed : IsClosed s) where
  -- a write into the transaction log
  into_log : (c : Change) → KeepsBeside log.Tx s (put s c) → InRange (put s c) → Keeps s (put s c)
  into_log c beside range = record {
    meaning = same_beside s (put s c) log.Tx beside (λ two. absurd (omega (arith, one, two))) (λ takes. absurd (not_taken s one takes));
    range = range;
    places = λ tasks p. record {
      current = rw beside.same_current p.current;
      next = rw beside.same_next p.next;
      first = rw beside.same_first p.first;
    };
    closed = closed_merging (put s c) (beside.same_mark ∙ one) (λ d. not_doomed s one closed (sym beside.same_doomed ∙ d));
  }

  merge_keeps : (c : Change) → InRange (put s c) → IsMergeWrite s c → Keeps s (put s c)
  merge_keeps c range (renews i at first is n e) =
      into_log c (subst (λ (x : Change). KeepsBeside log.Tx s (put s x)) (sym e) (value_keeps_beside s log.Tx at _)) range
  merge_keeps c range (numbers i first absent n e) =
      into_log c (subst (λ (x : Change). KeepsBeside log.Tx s (put s x)) (sym e) (number_keeps_beside s log.Tx (length_in s tx_log) _)) range
  merge_keeps c range (values i first absent named n e) =
      into_log c (subst (λ (x : Change). KeepsBeside log.Tx s (put s x)) (sym e) (value_keeps_beside s log.Tx (length_in s tx_log) _)) range
  merge_keeps c range (lengths i first absent named valued e) =
      into_log c (subst (λ (x : Change). KeepsBeside log.Tx s (put s x)) (sym e) (length_keeps_beside s log.Tx _)) range
  merge_keeps c range (joins word before l set n e) =
      subst (λ (x : Change). Keeps s (put s x)) (sym e) (record {
        meaning = record { words = λ other. refl; place = refl; held = refl };
        range = subst (λ (x : Change). InRange (put s x)) e range;
        places = λ tasks p. record { current = p.current; next = p.next; first = p.first };
        closed = closed_merging (put s (set_to (tx_flag_seat word) 1)) one (not_doomed s one closed);
      })

  pub into_tx_keeps : (c : Change) → IsIntoTxWrite s c → Keeps s (put s c)
  into_tx_keeps c (merges e) = merge_keeps c (merges_keep s c r e).range (merge_write s c e)
  into_tx_keeps c (firsts o n e) = subst (λ (x : Change). Keeps s (put s x)) (sym e) (record {
    meaning = record { words = λ word. refl; place = rw (one, test_other (opened s) 1 o) refl; held = refl };
    range = range_after_free s first_seat (current s) (place_is_free 10 (inr (inr refl))) r;
    places = λ tasks p. record { current = p.current; next = p.next; first = p.current };
    closed = closed_merging (put s (set_to first_seat (current s))) one (not_doomed s one closed);
  })
  into_tx_keeps c (opens o same e) = subst (λ (x : Change). Keeps s (put s x)) (sym e) (record {
    meaning = record { words = λ word. refl; place = rw (one, test_other (opened s) 1 o) same; held = refl };
    range = range_opened s 1 (omega arith) r;
    places = λ tasks p. record { current = p.current; next = p.next; first = p.first };
    closed = closed_merging (put s (set_to opened_seat 1)) one (not_doomed s one closed);
  })
  into_tx_keeps c (leads o n e) = subst (λ (x : Change). Keeps s (put s x)) (sym e) (record {
    meaning = record { words = λ word. refl; place = rw (one, o) refl; held = refl };
    range = range_after_free s current_seat (next s) (place_is_free 1 (inl refl)) r;
    places = λ tasks p. record { current = p.next; next = p.next; first = p.first };
    closed = closed_merging (put s (set_to current_seat (next s))) one (not_doomed s one closed);
  })
  into_tx_keeps c (empties o merged n e) = subst (λ (x : Change). Keeps s (put s x)) (sym e) (record {
    meaning = record { words = λ word. rw one refl; place = refl; held = refl };
    range = range_emptied s log.Task r;
    places = λ tasks p. record { current = p.current; next = p.next; first = p.first };
    closed = closed_merging (put s (set_to task_log.length 0)) one (not_doomed s one closed);
  })
  into_tx_keeps c (clears o same merged empty e) = subst (λ (x : Change). Keeps s (put s x)) (sym e) (record {
    meaning = record { words = λ word. rw one refl; place = rw one refl; held = rw one refl };
    range = range_cleared s r (rw one refl);
    places = λ tasks p. record { current = p.current; next = p.next; first = p.first };
    closed = record {
      empty = λ closes m. absurd (omega (arith, o, closes));
      flags = λ closes m. absurd (omega (arith, o, closes));
      doomed_mark = λ d. refl;
      doomed_place = λ d. absurd (not_doomed s one closed d);
    };
  })

  -- the open unit
  merged_unit : (c : Change) → mark (put s c) ≡ 1 → next (put s c) ≡ next s → KeepsMerged s (put s c) → KeepsUnit s (put s c)
  merged_unit c same same_next keeps = record {
    log = λ word. rw (same, one) (keeps.values word);
    flags = λ word l. rw (same, one) (keeps.flags word);
    next = rw (same, one) same_next;
  }

  merge_unit : (c : Change) → KeepsMerged s (put s c) → IsMergeWrite s c → KeepsUnit s (put s c)
  merge_unit c keeps (renews i at first is n e) =
      let d = subst (λ (x : Change). KeepsMerged s (put s x)) e keeps in
      subst (λ (x : Change). KeepsUnit s (put s x)) (sym e) (merged_unit _ one refl d)
  merge_unit c keeps (numbers i first absent n e) =
      let d = subst (λ (x : Change). KeepsMerged s (put s x)) e keeps in
      subst (λ (x : Change). KeepsUnit s (put s x)) (sym e) (merged_unit _ one refl d)
  merge_unit c keeps (values i first absent named n e) =
      let d = subst (λ (x : Change). KeepsMerged s (put s x)) e keeps in
      subst (λ (x : Change). KeepsUnit s (put s x)) (sym e) (merged_unit _ one refl d)
  merge_unit c keeps (lengths i first absent named valued e) =
      let d = subst (λ (x : Change). KeepsMerged s (put s x)) e keeps in
      subst (λ (x : Change). KeepsUnit s (put s x)) (sym e) (merged_unit _ one refl d)
  merge_unit c keeps (joins word before l set n e) =
      let d = subst (λ (x : Change). KeepsMerged s (put s x)) e keeps in
      subst (λ (x : Change). KeepsUnit s (put s x)) (sym e) (merged_unit _ one refl d)

  pub into_tx_unit : (c : Change) → IsIntoTxWrite s c → KeepsUnit s (put s c)
  into_tx_unit c (merges e) = merge_unit c (merges_keep s c r e) (merge_write s c e)
  into_tx_unit c (firsts o n e) =
      subst (λ (x : Change). KeepsUnit s (put s x)) (sym e) (record { log = λ word. refl; flags = λ word l. refl; next = refl })
  into_tx_unit c (opens o same e) =
      subst (λ (x : Change). KeepsUnit s (put s x)) (sym e) (record { log = λ word. refl; flags = λ word l. refl; next = refl })
  into_tx_unit c (leads o n e) =
      subst (λ (x : Change). KeepsUnit s (put s x)) (sym e) (record { log = λ word. refl; flags = λ word l. refl; next = rw one refl })
  into_tx_unit c (empties o merged n e) = subst (λ (x : Change). KeepsUnit s (put s x)) (sym e) (record {
    log = λ word. rw one (merged.values word);
    flags = λ word l. refl;
    next = refl;
  })
  into_tx_unit c (clears o same merged empty e) = subst (λ (x : Change). KeepsUnit s (put s x)) (sym e) (record {
    log = λ word. rw one (merged.values word);
    flags = λ word l. rw one (merged.flags word l);
    next = rw one same;
  })
