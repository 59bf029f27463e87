-- What the executor does for the oldest held posting in mode buffi, where its bottom half has run.
use Rattle.std.proofs.Common.{◌≡◌, ◌≢◌, ◌==◌, ℕ, suc, ◌-◌, ◌<◌, refl, ap, ◌∙◌, arith, true, false}
use Rattle.coati_word.specs.declared.mode.Mode.{Mode}
use Rattle.coati_word.specs.declared.mode.Mode.TheVariants.{Buffi}
use Rattle.task_syntax.specs.declared.program.Program.{Program}
use Rattle.task_syntax.specs.Names.{word_count}
use Rattle.nv_memory.specs.Blank.{mode_word}
use Rattle.nv_memory.specs.InRange.{InRange}
use Rattle.nv_memory.specs.Ring.{held_count, position_after}
use Rattle.nv_memory.specs.State.{State, put}
use Rattle.nv_memory.specs.Words.{head, head_next, mode, next}
use Rattle.event_buffer.specs.TurnLaws.{prepare_change}
use Rattle.coati_device.specs.declared.device.Phase.{Phase}
use Rattle.coati_device.specs.declared.device.Phase.TheVariants.{Choose, Run, End, EndBottom}
use Rattle.coati_device.specs.Rows.{IsBetween, IsClear}
use Rattle.coati_pace.specs.declared.effort.Stage.TheVariants.{Chooses, EndsTask}
use Rattle.coati_pace.specs.Acts.{IsStep}
use Rattle.coati_pace.specs.Acts.IsStep.{prepares_drain, prepares_below, drains, drains_below}
use Rattle.coati_pace.specs.Effort.{shape_of}
use Rattle.device_pace.specs.Effort.{cleaning_of, effort_at, is_begun, is_prepared, place_behind, writes_under_way}
use Rattle.device_pace.proofs.ChoiceSteps.{buffi_is}
use Rattle.device_pace.proofs.Cleaning.{cleaning_within}
use Rattle.device_pace.proofs.EventSteps.{held_then, prepared, prepared_then, taken, takes, unprepared}
use Rattle.device_pace.proofs.Places.{clear_writes, reads}

-- in buffi the oldest event is begun where its position is prepared
begun_is : (s : State) → mode s ≡ 1 → is_begun s ≡ is_prepared s
begun_is s buffi = rw buffi refl

module _ (program : Program) (m : Mode) (s : State) (clear : IsClear s) (buffi : mode s ≡ 1)
    (some : 0 < held_count s) (words : s.n ≡ word_count program.vars)
    (mode_is : mode s ≡ mode_word m) where
  abbrev none : writes_under_way s ≡ 0
  none = clear_writes s clear.mark clear.doomed

  abbrev of_mode : m ≡ Buffi
  of_mode = buffi_is m (mode s) mode_is buffi

  abbrev more : ℕ
  more = held_count s - 1

  one_more : held_count s ≡ suc more
  one_more = omega (arith, some)

  -- the position behind the head is written
  pub prepares_drain_step : (phase : Phase) → IsBetween phase →
      head_next s ≢ position_after s.k (head s) →
      IsStep (shape_of program) m (effort_at s phase)
      (effort_at (put s (prepare_change s)) phase)
  prepares_drain_step Choose between other =
      let t = put s (prepare_change s) in
      let before : is_begun s ≡ false = begun_is s buffi ∙ unprepared s other in
      let after : is_begun t ≡ true = begun_is t buffi ∙ prepared_then s in
      prepares_drain more (cleaning_of s) (cleaning_of t) (place_behind s) of_mode
      (cleaning_within program t words)
      (reads s Choose Choose 0 _ _ _ refl none one_more refl
      (ap (Chooses (cleaning_of s)) before))
      (reads t Choose Choose 0 _ _ _ refl (clear_writes t clear.mark clear.doomed)
      (held_then s clear.mark ∙ one_more) refl (ap (Chooses (cleaning_of t)) after))
  prepares_drain_step (Run cpu left) between other = absurd between
  prepares_drain_step (End place) between other =
      let t = put s (prepare_change s) in
      prepares_below more (place_behind s) (next s == place) of_mode
      (reads s (End place) (End place) 0 _ _ _ refl none one_more refl
      (ap (EndsTask (next s == place)) (unprepared s other)))
      (reads t (End place) (End place) 0 _ _ _ refl (clear_writes t clear.mark clear.doomed)
      (held_then s clear.mark ∙ one_more) refl (ap (EndsTask (next s == place)) (prepared_then s)))
  prepares_drain_step EndBottom between other = absurd between

  -- the event is committed
  pub drains_step : (phase : Phase) → IsBetween phase → InRange s →
      head_next s ≡ position_after s.k (head s) →
      IsStep (shape_of program) m (effort_at s phase) (effort_at (taken s) phase)
  drains_step Choose between range follows =
      let t = taken s in
      let took = takes program s range clear some words follows in
      let ready : is_begun s ≡ true = begun_is s buffi ∙ prepared s follows in
      drains (held_count t) (writes_under_way t) (cleaning_of s) (cleaning_of t) (place_behind s)
      (is_begun t) of_mode took.few (cleaning_within program t words)
      (reads s Choose Choose 0 _ _ _ refl none took.one_more refl
      (ap (Chooses (cleaning_of s)) ready))
      (reads t Choose Choose _ _ _ _ refl refl refl took.place refl)
  drains_step (Run cpu left) between range follows = absurd between
  drains_step (End place) between range follows =
      let t = taken s in
      let took = takes program s range clear some words follows in
      drains_below (held_count t) (writes_under_way t) (place_behind s) (next s == place)
      (is_prepared t) of_mode took.few
      (reads s (End place) (End place) 0 _ _ _ refl none took.one_more refl
      (ap (EndsTask (next s == place)) (prepared s follows)))
      (reads t (End place) (End place) _ _ _ _ refl refl refl took.place refl)
  drains_step EndBottom between range follows = absurd between
