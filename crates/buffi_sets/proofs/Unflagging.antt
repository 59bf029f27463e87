-- The flags of the attempt are taken back one by one.
use Rattle.std.proofs.Common.{◌≡◌, ◌≢◌, ℕ, ◌+◌, ◌<◌, ◌==◌, refl, sym, subst, ap, arith, inl, inr, List, [], ◌∷◌, None, Some, Bool, true, false, if◌then◌else◌}
use Rattle.std.proofs.lemmas.Bool.Decides.{nat_tests}
use Rattle.nv_memory.specs.declared.log.Log.{Log}
use Rattle.nv_memory.specs.declared.log.Log.TheVariants as log
use Rattle.nv_memory.specs.InRange.{InRange, IsClosed}
use Rattle.nv_memory.specs.Logs.{log_value}
use Rattle.nv_memory.specs.Seats.{Memory, address}
use Rattle.nv_memory.specs.State.{Change, State, first_undone, put, state}
use Rattle.nv_memory.specs.Words.{attempt_flag, attempt_flag_seat}
use Rattle.nv_memory.proofs.Frames.{range_after_attempt_flag}
use Rattle.nv_memory.proofs.Seats.{part_seat}
use Rattle.tx_buffer.specs.Next.{MakesNext, changes_below}
use Rattle.tx_buffer.proofs.Makes.{makes_head}
use Rattle.tx_buffer.proofs.Steps.{done_more, makes_below}
use Rattle.tx_buffer.proofs.Undone.{done_at, done_below, done_head, head_done, head_split, undone_at}
use Rattle.buffi_sets.specs.Flags.{HasNoFlag, UnflagWritesTakeOneBack, Unflags, unflag_attempt_changes, unflag_change}
use Rattle.buffi_sets.specs.Keeps.{Keeps}

abbrev pub each : ℕ → List Change
each word = unflag_change word ∷ []

-- a flag that is set is taken back
pub flag_still_set : (m : Memory) (word at : ℕ) → word < m.n →
    first_undone (state m) (changes_below each word) ≡ None →
    attempt_flag (state m) word ≡ true → at ≡ address m.n (attempt_flag_seat word) →
    MakesNext m (unflag_attempt_changes (state m)) (record { at = at; word = 0 })
flag_still_set m word at low before set is =
    let differs : (state m).at (attempt_flag_seat word) ≢ 0 =
    λ e. let no : attempt_flag (state m) word ≡ false = ap (λ (x : ℕ). x == 1) e in absurd cc in
    makes_below m each m.n word (record { at = at; word = 0 }) low before
    (makes_head m (attempt_flag_seat word) at 0 [] (part_seat m.n m.k 5 word (omega arith) low) is
    differs)

-- one that isn't stands as it should
pub flag_cleared : (s : State) (word : ℕ) → InRange s → word < s.n →
    attempt_flag s word ≡ false → first_undone s (changes_below each word) ≡ None →
    first_undone s (changes_below each (word + 1)) ≡ None
flag_cleared s word range low off before =
    let two = range.attempt_flags word low in
    done_more s each word before (done_head s (unflag_change word) [] (grind (arith, nat_tests)))

-- none is left exactly where no flag is set
pub none_set : (s : State) → first_undone s (unflag_attempt_changes s) ≡ None → HasNoFlag s
none_set s none word low =
    let stands = (head_done s (unflag_change word) [] (done_at s each s.n none word low)).0 in
    ap (λ (x : ℕ). x == 1) stands

pub all_stand : (s : State) → InRange s → HasNoFlag s →
    first_undone s (unflag_attempt_changes s) ≡ None
all_stand s range none = done_below s each s.n (λ word low.
    let two = range.attempt_flags word low in
    let off = none word low in
    done_head s (unflag_change word) [] (grind (arith, nat_tests)))

same_logs : (s : State) (word : ℕ) (log : Log) (other : ℕ) →
    log_value (put s (unflag_change word)) log other ≡ log_value s log other
same_logs s word log.Task other = refl
same_logs s word log.Tx other = refl
same_logs s word (log.Entry slot) other = refl

unflagged : (s : State) (word : ℕ) → InRange s → IsClosed s → Unflags s (put s (unflag_change word))
unflagged s word range closed = record {
  tx_flags = λ other. refl;
  logs = same_logs s word;
  same_mark = refl;
  same_current = refl;
  same_opened = refl;
  same_doomed = refl;
  same_mode = refl;
  keeps = record {
    meaning = record { words = λ other. refl; place = refl; held = refl };
    range = range_after_attempt_flag s word 0 (omega arith) range;
    places = λ tasks p. record { current = p.current; next = p.next; first = p.first };
    closed = record {
      empty = closed.empty;
      flags = closed.flags;
      doomed_mark = closed.doomed_mark;
      doomed_place = closed.doomed_place;
    };
  };
}

pub unflags : UnflagWritesTakeOneBack
unflags s change range closed next =
    let at = undone_at s each s.n change next in
    elim (head_split s (unflag_change at.i) change [] at.here) [
      | inl here ↦ subst (λ (c : Change). Unflags s (put s c)) here.1 (unflagged s at.i range closed)
      | inr none ↦ absurd (let never = none.1 in cc)
    ]
