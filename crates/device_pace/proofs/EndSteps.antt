-- What the executor does where a task has ended: the place behind it is written, and then the mark
-- from which the next progress is counted anew.
use Rattle.std.proofs.Common.{◌≡◌, ◌≢◌, ◌==◌, ℕ, refl, ap, arith, Bool, true, false}
use Rattle.coati_word.specs.declared.mode.Mode.{Mode}
use Rattle.task_syntax.specs.declared.program.Program.{Program}
use Rattle.task_syntax.specs.Names.{word_count}
use Rattle.nv_memory.specs.Blank.{mode_word}
use Rattle.nv_memory.specs.InRange.{InRange}
use Rattle.nv_memory.specs.Ring.{held_count}
use Rattle.nv_memory.specs.State.{State, put, set_to}
use Rattle.nv_memory.specs.Words.{mark_seat, mode, next, next_seat}
use Rattle.nv_memory.proofs.Looks.{test_other, test_same}
use Rattle.coati_device.specs.declared.device.Phase.{Phase}
use Rattle.coati_device.specs.declared.device.Phase.TheVariants.{Choose, End}
use Rattle.coati_device.specs.Rows.{ComesToTheEnd, IsClear}
use Rattle.coati_pace.specs.declared.effort.Stage.TheVariants.{EndsTask}
use Rattle.coati_pace.specs.Acts.{IsRestart, IsStep}
use Rattle.coati_pace.specs.Acts.IsRestart.{progresses}
use Rattle.coati_pace.specs.Acts.IsStep.{prepares}
use Rattle.coati_pace.specs.Effort.{shape_of}
use Rattle.device_pace.specs.Effort.{cleaning_of, effort_at, is_begun, is_prepared, place_behind, writes_under_way}
use Rattle.device_pace.proofs.Cleaning.{cleaning_within}
use Rattle.device_pace.proofs.Places.{clear_writes, none_before_end, reads, same_place}
use Rattle.device_pace.proofs.Ranges.{few_writes}

module _ (program : Program) (m : Mode) (s : State) (phase : Phase) (place : ℕ)
    (is : phase ≡ End place) (clear : IsClear s) (words : s.n ≡ word_count program.vars)
    (mode_is : mode s ≡ mode_word m) (ends : ComesToTheEnd s) where
  abbrev none : writes_under_way s ≡ 0
  none = clear_writes s clear.mark clear.doomed

  -- the place behind the task is written
  pub prepares_step : next s ≢ place →
      IsStep (shape_of program) m (effort_at s phase)
      (effort_at (put s (set_to next_seat place)) phase)
  prepares_step other =
      let t = put s (set_to next_seat place) in
      let missing : (next s == place) ≡ false = test_other (next s) place other in
      let there : (next t == place) ≡ true = test_same place place refl in
      prepares (held_count s) (place_behind s) (is_prepared s) (none_before_end s m mode_is ends)
      (reads s phase (End place) 0 _ _ _ is none refl refl
      (ap (λ (b : Bool). EndsTask b (is_prepared s)) missing))
      (reads t phase (End place) 0 _ _ _ is (clear_writes t clear.mark clear.doomed) refl
      (same_place s t refl (rw clear.mark refl))
      (ap (λ (b : Bool). EndsTask b (is_prepared s)) there))

  -- the task is merged into its transaction, or its unit is committed
  pub progress : (marker : ℕ) → InRange (put s (set_to mark_seat marker)) → marker ≢ 3 →
      next s ≡ place →
      IsRestart (shape_of program) m (effort_at s phase)
      (effort_at (put s (set_to mark_seat marker)) Choose)
  progress marker range other there =
      let t = put s (set_to mark_seat marker) in
      let test : (next s == place) ≡ true = test_same (next s) place there in
      let unheld : (marker == 3) ≡ false = test_other marker 3 other in
      let few = few_writes t range in
      progresses (held_count s) (writes_under_way t) (cleaning_of t) (place_behind s)
      (place_behind t) (is_prepared s) (is_begun t) (none_before_end s m mode_is ends)
      (omega (arith, words, few)) (cleaning_within program t words)
      (reads s phase (End place) 0 _ _ _ is none refl refl
      (ap (λ (b : Bool). EndsTask b (is_prepared s)) test))
      (reads t Choose Choose _ _ _ _ refl refl (rw (unheld, clear.mark) refl) refl refl)
