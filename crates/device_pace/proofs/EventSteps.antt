-- What the executor does for the oldest held posting, in mode split behind its bottom half.
use Rattle.std.proofs.Common.{◌≡◌, ◌≢◌, suc, ◌<◌, ◌≤◌, refl, sym, ap, ◌∙◌, arith, List, length, true, false}
use Rattle.coati_word.specs.declared.mode.Mode.{Mode}
use Rattle.task_syntax.specs.declared.program.Program.{Program}
use Rattle.task_syntax.specs.Names.{word_count}
use Rattle.nv_memory.specs.Blank.{mode_word}
use Rattle.nv_memory.specs.InRange.{InRange}
use Rattle.nv_memory.specs.Ring.{Entry, held_count, position_after}
use Rattle.nv_memory.specs.State.{State, put, set_to}
use Rattle.nv_memory.specs.Words.{head, head_next, mark, mark_seat, mode}
use Rattle.nv_memory.proofs.Looks.{test_other, test_same}
use Rattle.event_buffer.proofs.Slots.{held_length}
use Rattle.event_buffer.proofs.Turning.{marks_take}
use Rattle.event_buffer.specs.TurnLaws.{prepare_change}
use Rattle.commit_log.proofs.Ends.{few_of_events}
use Rattle.coati_device.specs.declared.device.Phase.{Phase}
use Rattle.coati_device.specs.declared.device.Phase.TheVariants.{Choose, EndBottom}
use Rattle.coati_device.specs.OpenUnit.{has_unit}
use Rattle.coati_device.specs.Rows.{ComesToEvents, IsClear}
use Rattle.coati_pace.specs.declared.effort.Stage.TheVariants.{EndsBottom}
use Rattle.coati_pace.specs.Acts.{IsStep}
use Rattle.coati_pace.specs.Acts.IsStep.{prepares_event, commits_event}
use Rattle.coati_pace.specs.Effort.{event_writes, shape_of}
use Rattle.device_pace.specs.Effort.{cleaning_of, effort_at, is_begun, is_prepared, place_behind, writes_under_way}
use Rattle.device_pace.proofs.ChoiceSteps.{split_is}
use Rattle.device_pace.proofs.Cleaning.{cleaning_within}
use Rattle.device_pace.proofs.Places.{clear_writes, reads, same_place}

-- the marker of an event's commit
abbrev pub taken : State → State
taken s = put s (set_to mark_seat 3)

-- what it makes of the effort
pub record Takes (program : Program) (s : State) : Type 0 where
  pub one_more : held_count s ≡ suc (held_count (taken s))
  pub place : place_behind (taken s) ≡ place_behind s
  pub few : writes_under_way (taken s) ≤ event_writes (shape_of program)

pub takes : (program : Program) (s : State) → InRange s → IsClear s → 0 < held_count s →
    s.n ≡ word_count program.vars → head_next s ≡ position_after s.k (head s) → Takes program s
takes program s range clear some words follows =
    let t = taken s in
    let took = marks_take s range clear.mark clear.doomed some follows in
    let few = few_of_events t refl in
    let unit : has_unit t ≡ has_unit s = rw clear.mark refl in
    record {
      one_more = sym (held_length s)
          ∙ ap (λ (entries : List Entry). length entries) took.held
          ∙ ap suc (held_length t);
      place = same_place s t unit took.place;
      few = omega (arith, words, few);
    }

-- the position behind the head is written or not
pub unprepared : (s : State) → head_next s ≢ position_after s.k (head s) → is_prepared s ≡ false
unprepared s other = test_other (head_next s) (position_after s.k (head s)) other

pub prepared : (s : State) → head_next s ≡ position_after s.k (head s) → is_prepared s ≡ true
prepared s there = test_same (head_next s) (position_after s.k (head s)) there

pub prepared_then : (s : State) → is_prepared (put s (prepare_change s)) ≡ true
prepared_then s = test_same (position_after s.k (head s)) (position_after s.k (head s)) refl

-- and all is held as before
pub held_then : (s : State) → mark s ≡ 0 → held_count (put s (prepare_change s)) ≡ held_count s
held_then s clear = rw clear refl

module _ (program : Program) (m : Mode) (s : State) (phase : Phase) (is : phase ≡ EndBottom)
    (clear : IsClear s) (events : ComesToEvents s) (words : s.n ≡ word_count program.vars)
    (mode_is : mode s ≡ mode_word m) where
  abbrev none : writes_under_way s ≡ 0
  none = clear_writes s clear.mark clear.doomed

  pub prepares_event_step : head_next s ≢ position_after s.k (head s) →
      IsStep (shape_of program) m (effort_at s phase)
      (effort_at (put s (prepare_change s)) phase)
  prepares_event_step other =
      let t = put s (prepare_change s) in
      prepares_event (held_count s) (place_behind s)
      (reads s phase EndBottom 0 _ _ _ is none refl refl (ap EndsBottom (unprepared s other)))
      (reads t phase EndBottom 0 _ _ _ is (clear_writes t clear.mark clear.doomed)
      (held_then s clear.mark) refl (ap EndsBottom (prepared_then s)))

  pub commits_event_step : InRange s → head_next s ≡ position_after s.k (head s) →
      IsStep (shape_of program) m (effort_at s phase) (effort_at (taken s) Choose)
  commits_event_step range follows =
      let t = taken s in
      let took = takes program s range clear events.held words follows in
      commits_event (held_count t) (writes_under_way t) (cleaning_of t) (place_behind s)
      (is_begun t) (split_is m (mode s) mode_is events.mode) took.few
      (cleaning_within program t words)
      (reads s phase EndBottom 0 _ _ _ is none took.one_more refl
      (ap EndsBottom (prepared s follows)))
      (reads t Choose Choose _ _ _ _ refl refl refl took.place refl)
