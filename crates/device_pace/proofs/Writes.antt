-- The writes that are left of a commit or an undo, and what such a write leaves.
use Rattle.std.proofs.Common.{◌≡◌, ◌≢◌, ◌==◌, ℕ, ◌<◌, ◌≤◌, refl, sym, ap, subst, ◌∙◌, arith, inl, inr, List, length, Bool, true, false, if◌then◌else◌}
use Rattle.std.proofs.lemmas.Bool.Decides.{nat_tests}
use Rattle.nv_memory.specs.Ring.{Entry, held_count, held_entries}
use Rattle.nv_memory.specs.State.{Change, State, put}
use Rattle.nv_memory.specs.Words.{doomed, mark, next, opened}
use Rattle.event_buffer.proofs.Slots.{held_length}
use Rattle.buffi_sets.specs.Undo.{undo_left}
use Rattle.commit_log.specs.Laws.{IsCommitWrite}
use Rattle.commit_log.specs.Left.{writes_left}
use Rattle.commit_log.proofs.Commits.{IsOfCommit, commit_of, commits_keep}
use Rattle.commit_log.proofs.Commits.IsOfCommit.{into_tx, unit, event}
use Rattle.commit_log.proofs.Ends.{commits_go_on}
use Rattle.commit_log.proofs.Taking.{IsEventWrite}
use Rattle.commit_log.proofs.Taking.IsEventWrite.{lands, frees, rests}
use Rattle.coati_device.specs.OpenUnit.{has_unit}
use Rattle.coati_device.proofs.CommitMarks.{event_marks, into_tx_marks, unit_marks}
use Rattle.device_pace.specs.Effort.{place_behind, writes_under_way}
use Rattle.device_pace.proofs.Places.{same_place}

-- as many are held where the same entries are
pub same_held : (s t : State) → held_entries t ≡ held_entries s → held_count t ≡ held_count s
same_held s t same =
    sym (held_length t) ∙ ap (λ (entries : List Entry). length entries) same ∙ held_length s

abbrev left_by : State → Bool → ℕ
left_by s clear = if clear then undo_left s else writes_left s

other_number : (n m : ℕ) → n ≢ m → (n == m) ≡ false
other_number n m other = grind (arith, nat_tests)

-- while a commit is under way its writes count
pub marked_writes : (s : State) → mark s ≢ 0 → writes_under_way s ≡ writes_left s
marked_writes s marked = ap (left_by s) (other_number (mark s) 0 marked)

-- and no more do where none is doomed
pub no_more : (s : State) → doomed s ≢ 1 → writes_under_way s ≤ writes_left s
no_more s live = by (mark s == 0)
  where
    by : (b : Bool) → left_by s b ≤ writes_left s
    by true = rw (other_number (doomed s) 1 live) (omega arith)
    by false = omega arith

none_doomed : (doomed : ℕ) → (if doomed == 1 then false else false) ≡ false
none_doomed doomed = by (doomed == 1)
  where
    by : (b : Bool) → (if b then false else false) ≡ false
    by true = refl
    by false = refl

-- a write of a commit opens no unit and closes none
unit_kept : (s : State) (change : Change) → IsOfCommit s change →
    has_unit (put s change) ≡ has_unit s
unit_kept s change (into_tx one write) =
    let marks = into_tx_marks s one change write in
    elim marks.mark_now [
      | inl goes ↦ rw (goes, one, marks.same_doom) refl
      | inr ends ↦ rw (ends.0, ends.1, one, marks.same_doom) refl
    ]
unit_kept s change (unit two write) =
    let marks = unit_marks s two change write in
    let before : has_unit s ≡ false = rw two refl in
    let after : has_unit (put s change) ≡ false =
    elim marks.mark_now [
      | inl goes ↦ rw goes refl
      | inr ends ↦ rw (ends.0, ends.1) (none_doomed (doomed (put s change)))
    ] in
    after ∙ sym before
unit_kept s change (event three write) =
    let marks = event_marks s three change write in
    let same : opened (put s change) ≡ opened s = elim marks.open_now [ inl e ↦ e | inr e ↦ e ] in
    elim marks.mark_now [
      | inl goes ↦ rw (goes, three, same, marks.same_doom) refl
      | inr ends ↦ rw (ends.0, three, same, marks.same_doom) refl
    ]

doom_kept : (s : State) (change : Change) → IsOfCommit s change →
    doomed (put s change) ≡ doomed s
doom_kept s change (into_tx one write) = (into_tx_marks s one change write).same_doom
doom_kept s change (unit two write) = (unit_marks s two change write).same_doom
doom_kept s change (event three write) = (event_marks s three change write).same_doom

marked : (s : State) (change : Change) → IsOfCommit s change → mark s ≢ 0
marked s change (into_tx one write) none = omega (arith, one, none)
marked s change (unit two write) none = omega (arith, two, none)
marked s change (event three write) none = omega (arith, three, none)

-- what a write of a commit does to the effort
pub record Commits (s t : State) : Type 0 where
  pub marked : mark s ≢ 0
  pub fewer : writes_under_way t < writes_under_way s
  pub held : held_count t ≡ held_count s
  pub place : place_behind t ≡ place_behind s

pub commits : (s : State) (change : Change) → IsCommitWrite s change → Commits s (put s change)
commits s change is =
    let of = commit_of s change is in
    let t = put s change in
    let on = marked s change of in
    let live : doomed t ≢ 1 = λ doom.
    on (is.closed.doomed_mark (sym (doom_kept s change of) ∙ doom)) in
    let less = commits_go_on s change is in
    let few = no_more t live in
    let all = marked_writes s on in
    let keeps = commits_keep s change is in
    record {
      marked = on;
      fewer = omega (arith, less, few, all);
      held = same_held s t keeps.meaning.held;
      place = same_place s t (unit_kept s change of) keeps.meaning.place;
    }

event_next : (s : State) (change : Change) → IsEventWrite s change → next (put s change) ≡ next s
event_next s change (lands word) =
    subst (λ (c : Change). next (put s c) ≡ next s) (sym word.is) refl
event_next s change (frees applied differs is) =
    subst (λ (c : Change). next (put s c) ≡ next s) (sym is) refl
event_next s change (rests there is) =
    subst (λ (c : Change). next (put s c) ≡ next s) (sym is) refl

-- the commit of an event leaves the place behind a task that has ended
pub next_kept : (s : State) (change : Change) → IsOfCommit s change → mark s ≢ 1 → mark s ≢ 2 →
    next (put s change) ≡ next s
next_kept s change (into_tx one write) first second = absurd (first one)
next_kept s change (unit two write) first second = absurd (second two)
next_kept s change (event three write) first second = event_next s change write
