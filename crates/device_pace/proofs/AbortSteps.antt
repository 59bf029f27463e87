-- In mode buffi a unit is given up for the oldest held posting.
use Rattle.std.proofs.Common.{◌≡◌, ◌≢◌, ◌==◌, ◌<◌, ◌≤◌, ◌&&◌, ◌||◌, ℕ, suc, ◌-◌, refl, ap, subst, ◌∙◌, arith, None, List, Bool, true, false}
use Rattle.coati_word.specs.declared.mode.Mode.{Mode}
use Rattle.coati_word.specs.declared.mode.Mode.TheVariants.{Buffi}
use Rattle.coati_word.specs.declared.reading.Reading.{Reading}
use Rattle.task_syntax.specs.declared.program.Program.{Program}
use Rattle.task_syntax.specs.Names.{word_count}
use Rattle.task_syntax.specs.Units.{halt, is_inside, transaction_of}
use Rattle.task_check.specs.Accepted.{IsAccepted}
use Rattle.nv_memory.specs.Blank.{mode_word}
use Rattle.nv_memory.specs.Ring.{held_count}
use Rattle.nv_memory.specs.StandsFor.{place_of}
use Rattle.nv_memory.specs.State.{State, put}
use Rattle.nv_memory.specs.Words.{attempt_flag, mode, next, opened, tx_flag}
use Rattle.serial_log.specs.SerialRun.{Stand}
use Rattle.buffi_sets.specs.Conflict.{IsConflict}
use Rattle.buffi_sets.specs.Undo.{doom_change, undo_left}
use Rattle.buffi_sets.proofs.Ending.{undo_ends}
use Rattle.coati_device.specs.declared.device.Phase.{Phase}
use Rattle.coati_device.specs.declared.device.Phase.TheVariants.{Choose, End}
use Rattle.coati_device.specs.OpenUnit.{HasFinished, OpenUnitFits, UnitFits, has_unit}
use Rattle.coati_device.specs.Rows.{IsClear}
use Rattle.coati_device.proofs.Members.{none_behind}
use Rattle.coati_pace.specs.declared.effort.Place.TheVariants.{Outside}
use Rattle.coati_pace.specs.Acts.{IsStep}
use Rattle.coati_pace.specs.Acts.IsStep.{aborts, drops}
use Rattle.coati_pace.specs.Effort.{most_writes, shape_of}
use Rattle.device_pace.specs.Effort.{cleaning_of, effort_at, is_begun, is_prepared, place_behind, writes_under_way}
use Rattle.device_pace.proofs.ChoiceSteps.{buffi_is}
use Rattle.device_pace.proofs.Cleaning.{cleaning_within}
use Rattle.device_pace.proofs.UndoWrites.{clear_undo}
use Rattle.device_pace.proofs.Places.{clear_writes, inside, outside, reads}

-- a unit with finished tasks begins at a task of a transaction
pub unit_at_task : (program : Program) (s : State) (stand : Stand) (read : List Reading)
    (finished : ℕ) → IsAccepted program → has_unit s ≡ true →
    OpenUnitFits program s stand read finished → stand.place ≢ halt
unit_at_task program s stand read finished accepted unit fits over =
    let whole : HasFinished program s stand read finished =
    subst (UnitFits program s stand read finished) unit fits in
    let none : transaction_of program stand.place ≡ None =
    ap (transaction_of program) over ∙ none_behind program accepted in
    let outside : is_inside program stand.place whole.reached.place ≡ false =
    rw none refl in
    let inside = whole.inside in
    absurd cc

-- without an attempt only an open transaction clashes
open_by : (opened flag other : Bool) → ((opened && flag) || (false && other)) ≡ true →
    opened ≡ true
open_by true flag other is = refl
open_by false flag other is = absurd cc

pub clash_opened : (s : State) (word : ℕ) → IsConflict s false word → (opened s == 1) ≡ true
clash_opened s word conflict =
    open_by (opened s == 1) (tx_flag s word) (attempt_flag s word) conflict.clashes.read

module _ (program : Program) (m : Mode) (s : State) (clear : IsClear s) (buffi : mode s ≡ 1)
    (some : 0 < held_count s) (words : s.n ≡ word_count program.vars)
    (mode_is : mode s ≡ mode_word m) where
  abbrev none : writes_under_way s ≡ 0
  none = clear_writes s clear.mark clear.doomed

  abbrev of_mode : m ≡ Buffi
  of_mode = buffi_is m (mode s) mode_is buffi

  abbrev more : ℕ
  more = held_count s - 1

  one_more : held_count s ≡ suc more
  one_more = omega (arith, some)

  abbrev doomed_state : State
  doomed_state = put s doom_change

  few_undone : writes_under_way doomed_state ≤ most_writes (shape_of program)
  few_undone =
      let few = (undo_ends doomed_state).few in
      let is : writes_under_way doomed_state ≡ undo_left doomed_state =
      clear_undo doomed_state clear.mark in
      omega (arith, words, few, is)

  given_up : place_of s ≢ halt → place_behind doomed_state ≡ Outside
  given_up on = outside doomed_state (rw clear.mark refl) on

  -- an open transaction is
  pub aborts_step : (phase : Phase) → phase ≡ Choose → has_unit s ≡ true → place_of s ≢ halt →
      IsStep (shape_of program) m (effort_at s phase) (effort_at doomed_state Choose)
  aborts_step phase is unit on =
      let t = doomed_state in
      aborts more (writes_under_way t) (cleaning_of s) (cleaning_of t) (is_begun s) (is_begun t)
      of_mode few_undone (cleaning_within program t words)
      (reads s phase Choose 0 _ _ _ is none one_more (inside s unit) refl)
      (reads t Choose Choose _ _ _ _ refl refl one_more (given_up on) refl)

  -- so is one in which a task has ended
  pub drops_open_step : (phase : Phase) (place : ℕ) → phase ≡ End place → place_of s ≢ halt →
      IsStep (shape_of program) m (effort_at s phase) (effort_at doomed_state Choose)
  drops_open_step phase place is on =
      let t = doomed_state in
      drops more (writes_under_way t) (cleaning_of t) (place_behind s) (next s == place)
      (is_prepared s) (is_begun t) of_mode few_undone (cleaning_within program t words)
      (reads s phase (End place) 0 _ _ _ is none one_more refl refl)
      (reads t Choose Choose _ _ _ _ refl refl one_more (given_up on) refl)

  -- and so is a lone task that has ended
  pub drops_closed_step : (phase : Phase) (place : ℕ) → phase ≡ End place → has_unit s ≡ false →
      place_of s ≢ halt →
      IsStep (shape_of program) m (effort_at s phase) (effort_at s Choose)
  drops_closed_step phase place is unit on =
      drops more 0 (cleaning_of s) (place_behind s) (next s == place) (is_prepared s)
      (is_begun s) of_mode (omega arith) (cleaning_within program s words)
      (reads s phase (End place) 0 _ _ _ is none one_more refl refl)
      (reads s Choose Choose 0 _ _ _ refl none one_more (outside s unit on) refl)
