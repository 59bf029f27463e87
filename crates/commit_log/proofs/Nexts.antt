-- The lists of commits, put together from what their parts answer.
use Rattle.std.proofs.Common.{◌≡◌, refl, ap, sym, subst, ◌∙◌, arith, inl, inr, List, [], ◌∷◌, Some, None, Option}
use Rattle.std.proofs.lemmas.Bool.{cases_eq}
use Rattle.nv_memory.specs.declared.write.Write.{Write}
use Rattle.nv_memory.specs.InRange.{InRange}
use Rattle.nv_memory.specs.Seats.{Memory}
use Rattle.nv_memory.specs.State.{Change, State, first_undone, set_to, state}
use Rattle.nv_memory.specs.Words.{current_seat, first_seat, head_next, head_seat, mark, mark_seat, next, opened_seat}
use Rattle.nv_memory.specs.Logs.{length_in, task_log, tx_log}
use Rattle.tx_buffer.specs.Clear.{clear_changes, unflag_changes}
use Rattle.tx_buffer.specs.Merge.{merge_changes}
use Rattle.tx_buffer.specs.Next.{IsNext, changes_below}
use Rattle.tx_buffer.proofs.Steps.{makes_after}
use Rattle.tx_buffer.proofs.Undone.{done_both, done_head, head_done}
use Rattle.commit_log.specs.Changes.{commit_changes, event_changes, first_task, into_tx_changes, newer_changes, older_changes, taken_changes, unit_changes, unit_closes, unit_ends, variable_changes}

-- the flags are next where the transaction log is empty
pub unflags_next : (m : Memory) (o : Option Write) → length_in (state m) tx_log ≡ 0 → IsNext m (clear_changes (state m)) o
    → IsNext m (changes_below unflag_changes m.n) o
unflags_next m None empty is = sym (done_head (state m) (set_to tx_log.length 0) (changes_below unflag_changes m.n) empty) ∙ is
unflags_next m (Some write) empty is = record {
  change = is.change;
  next = sym (done_head (state m) (set_to tx_log.length 0) (changes_below unflag_changes m.n) empty) ∙ is.next;
  writes = is.writes;
}

pub ends_next : (m : Memory) (o : Option Write) → first_undone (state m) (set_to tx_log.length 0 ∷ set_to task_log.length 0 ∷ []) ≡ None
    → IsNext m (unit_closes (state m)) o → IsNext m (unit_ends (state m)) o
ends_next m o none is = makes_after m (set_to tx_log.length 0 ∷ set_to task_log.length 0 ∷ []) (unit_closes (state m)) o none is

pub tx_is_empty : (s : State) → first_undone s (set_to tx_log.length 0 ∷ set_to task_log.length 0 ∷ []) ≡ None → length_in s tx_log ≡ 0
tx_is_empty s e = (head_done s (set_to tx_log.length 0) (set_to task_log.length 0 ∷ []) e).0

-- the list of the marker
pub into_tx_is : (s : State) → mark s ≡ 1 → commit_changes s ≡ into_tx_changes s
into_tx_is s one = rw one refl

pub unit_is : (s : State) → mark s ≡ 2 → commit_changes s ≡ unit_changes s
unit_is s two = rw two refl

pub event_is : (s : State) → mark s ≡ 3 → commit_changes s ≡ event_changes s
event_is s three = rw three refl

pub clear_is : (s : State) → mark s ≡ 0 → commit_changes s ≡ []
clear_is s zero = rw zero refl

-- the marker is cleared last, so a list has an end only where it is clear
into_tx_last : (s : State) → first_undone s (into_tx_changes s) ≡ None → mark s ≡ 0
into_tx_last s e =
    let header = (done_both s (merge_changes s) (set_to first_seat (first_task s) ∷ set_to opened_seat 1 ∷ set_to current_seat (next s) ∷ set_to task_log.length 0 ∷ set_to mark_seat 0 ∷ []) e).1 in
    let first = head_done s (set_to first_seat (first_task s)) (set_to opened_seat 1 ∷ set_to current_seat (next s) ∷ set_to task_log.length 0 ∷ set_to mark_seat 0 ∷ []) header in
    let open_ = head_done s (set_to opened_seat 1) (set_to current_seat (next s) ∷ set_to task_log.length 0 ∷ set_to mark_seat 0 ∷ []) first.1 in
    let current = head_done s (set_to current_seat (next s)) (set_to task_log.length 0 ∷ set_to mark_seat 0 ∷ []) open_.1 in
    let length = head_done s (set_to task_log.length 0) (set_to mark_seat 0 ∷ []) current.1 in
    (head_done s (set_to mark_seat 0) [] length.1).0

unit_last : (s : State) → first_undone s (unit_changes s) ≡ None → mark s ≡ 0
unit_last s e =
    let newer = (done_both s (changes_below (older_changes s) (length_in s tx_log)) (newer_changes s) e).1 in
    let ends = (done_both s (changes_below (variable_changes s task_log) (length_in s task_log)) (unit_ends s) newer).1 in
    let tx = head_done s (set_to tx_log.length 0) (set_to task_log.length 0 ∷ unit_closes s) ends in
    let task = head_done s (set_to task_log.length 0) (unit_closes s) tx.1 in
    let closes = (done_both s (changes_below unflag_changes s.n) (set_to opened_seat 0 ∷ set_to current_seat (next s) ∷ set_to mark_seat 0 ∷ []) task.1).1 in
    let open_ = head_done s (set_to opened_seat 0) (set_to current_seat (next s) ∷ set_to mark_seat 0 ∷ []) closes in
    let current = head_done s (set_to current_seat (next s)) (set_to mark_seat 0 ∷ []) open_.1 in
    (head_done s (set_to mark_seat 0) [] current.1).0

event_last : (s : State) → first_undone s (event_changes s) ≡ None → mark s ≡ 0
event_last s e =
    let rest = (done_both s (taken_changes s) (set_to head_seat (head_next s) ∷ set_to mark_seat 0 ∷ []) e).1 in
    let head = head_done s (set_to head_seat (head_next s)) (set_to mark_seat 0 ∷ []) rest in
    (head_done s (set_to mark_seat 0) [] head.1).0

pub none_is_clear : (s : State) → InRange s → first_undone s (commit_changes s) ≡ None → mark s ≡ 0
none_is_clear s r e = elim (cases_eq (mark s) 1) [
  | inl one ↦ into_tx_last s (sym (ap (first_undone s) (into_tx_is s one)) ∙ e)
  | inr n ↦ elim (cases_eq (mark s) 2) [
    | inl two ↦ unit_last s (sym (ap (first_undone s) (unit_is s two)) ∙ e)
    | inr o ↦ elim (cases_eq (mark s) 3) [
      | inl three ↦ event_last s (sym (ap (first_undone s) (event_is s three)) ∙ e)
      | inr t ↦ let low = r.mark in omega (arith, n, o, t, low)
    ]
  ]
]

pub clear_is_none : (s : State) → mark s ≡ 0 → first_undone s (commit_changes s) ≡ None
clear_is_none s zero = ap (first_undone s) (clear_is s zero)

-- what the list of the marker answers, the commit answers
pub commit_next : (m : Memory) (changes : List Change) (o : Option Write) → commit_changes (state m) ≡ changes → IsNext m changes o
    → IsNext m (commit_changes (state m)) o
commit_next m changes o e is = subst (λ (xs : List Change). IsNext m xs o) (sym e) is
