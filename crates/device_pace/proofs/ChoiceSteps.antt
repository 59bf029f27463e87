-- What the executor does where memory alone tells what is next: it cleans, and starts a body.
use Rattle.std.proofs.Common.{◌≡◌, ◌≢◌, ◌==◌, ℕ, suc, ◌-◌, ◌<◌, ◌≤◌, refl, sym, ap, ◌∙◌, arith, Some, Bool, true, false}
use Rattle.std.proofs.lemmas.Bool.Decides.{nat_tests}
use Rattle.coati_word.specs.declared.mode.Mode.{Mode}
use Rattle.coati_word.specs.declared.mode.Mode.TheVariants.{Split, Buffi}
use Rattle.task_syntax.specs.declared.body.BodyId.TheVariants.{Bottom, Task}
use Rattle.task_syntax.specs.declared.program.Program.{Program}
use Rattle.task_syntax.specs.Names.{word_count}
use Rattle.task_syntax.specs.Units.{halt}
use Rattle.task_cost.specs.Limits.{attempt_bound}
use Rattle.nv_memory.specs.declared.log.Log.TheVariants as log
use Rattle.nv_memory.specs.Blank.{mode_word}
use Rattle.nv_memory.specs.InRange.{InRange, IsClosed}
use Rattle.nv_memory.specs.Logs.{log_length, seats_of}
use Rattle.nv_memory.specs.Ring.{held_count}
use Rattle.nv_memory.specs.StandsFor.{head_slot}
use Rattle.nv_memory.specs.State.{Change, State, first_undone, put, set_to}
use Rattle.nv_memory.specs.Words.{current, mode, opened}
use Rattle.nv_memory.proofs.Looks.{test_same}
use Rattle.buffi_sets.specs.Flags.{UnflagWritesTakeOneBack, unflag_attempt_changes}
use Rattle.word_cpu.specs.declared.cpu.Cpu.{Cpu}
use Rattle.coati_device.specs.declared.device.Phase.{Phase}
use Rattle.coati_device.specs.declared.device.Phase.TheVariants.{Choose, Run}
use Rattle.coati_device.specs.BottomView.{head_log}
use Rattle.coati_device.specs.OpenUnit.{has_unit}
use Rattle.coati_device.specs.Rows.{ComesToEvents, ComesToTasks, IsClear, steps_before_end}
use Rattle.coati_device.proofs.UnitGrows.{place_closed}
use Rattle.coati_device.proofs.OpenedUnits.{none_open}
use Rattle.coati_pace.specs.declared.effort.Stage.TheVariants.{Chooses}
use Rattle.coati_pace.specs.declared.effort.Place.TheVariants.{Halted}
use Rattle.coati_pace.specs.Acts.{IsStep}
use Rattle.coati_pace.specs.Acts.IsStep.{cleans, starts, empties_entry, starts_bottom}
use Rattle.coati_pace.specs.Effort.{shape_of}
use Rattle.device_pace.specs.Effort.{cleaning_of, effort_at, is_begun, place_behind, stage_in, writes_under_way}
use Rattle.device_pace.proofs.Cleaning.{cleaning_within, empties_lower, empty_log, unflags_lower}
use Rattle.device_pace.proofs.Places.{clear_writes, none_before, not_inside, of_halted, reads, same_place}
use Rattle.device_pace.proofs.Writes.{same_held}

-- which mode it is
pub split_is : (m : Mode) (word : ℕ) → word ≡ mode_word m → word ≡ 0 → m ≡ Split
split_is Split word is zero = refl
split_is Buffi word is zero = absurd (omega (arith, is, zero))

pub buffi_is : (m : Mode) (word : ℕ) → word ≡ mode_word m → word ≡ 1 → m ≡ Buffi
buffi_is Split word is one = absurd (omega (arith, is, one))
buffi_is Buffi word is one = refl

-- where a task is to run, the program hasn't halted
pub task_on : (s : State) → IsClear s → current s ≢ halt → place_behind s ≢ Halted
task_on s clear on is = by (opened s == 1) refl
  where
    by : (b : Bool) → (opened s == 1) ≡ b → ⊥
    by true open_now =
        let unit : has_unit s ≡ true = rw (clear.mark, clear.doomed, open_now) refl in
        let none = (of_halted s is).0 in
        absurd cc
    by false shut = on (sym (place_closed s clear.mark shut) ∙ (of_halted s is).1)

module _ (program : Program) (m : Mode) (s : State) (phase : Phase) (is : phase ≡ Choose)
    (clear : IsClear s) (words : s.n ≡ word_count program.vars)
    (mode_is : mode s ≡ mode_word m) where
  abbrev none : writes_under_way s ≡ 0
  none = clear_writes s clear.mark clear.doomed

  -- the log of the task to run is emptied
  pub empties_step : ComesToTasks s → current s ≢ halt → 0 < log_length s log.Task →
      IsStep (shape_of program) m (effort_at s phase) (effort_at (put s empty_log) phase)
  empties_step tasks on some =
      let t = put s empty_log in
      cleans (held_count s) (cleaning_of s) (cleaning_of t) (place_behind s) (is_begun s)
      (is_begun t) (none_before s m mode_is clear tasks) (task_on s clear on)
      (empties_lower s some)
      (reads s phase Choose 0 _ _ _ is none refl refl refl)
      (reads t phase Choose 0 _ _ _ is (clear_writes t clear.mark clear.doomed) refl refl refl)

  -- a flag is taken back
  pub unflags_step : UnflagWritesTakeOneBack → (change : Change) → InRange s → IsClosed s →
      ComesToTasks s → current s ≢ halt → mode s ≡ 1 →
      first_undone s (unflag_attempt_changes s) ≡ Some change →
      IsStep (shape_of program) m (effort_at s phase) (effort_at (put s change) phase)
  unflags_step law change range closed tasks on buffi next =
      let t = put s change in
      let u = law s change range closed next in
      let unit : has_unit t ≡ has_unit s =
      rw (u.same_mark, u.same_opened, u.same_doomed) refl in
      cleans (held_count s) (cleaning_of s) (cleaning_of t) (place_behind s) (is_begun s)
      (is_begun t) (none_before s m mode_is clear tasks) (task_on s clear on)
      (unflags_lower s change range buffi next)
      (reads s phase Choose 0 _ _ _ is none refl refl refl)
      (reads t phase Choose 0 _ _ _ is
      (clear_writes t (u.same_mark ∙ clear.mark) (u.same_doomed ∙ clear.doomed))
      (same_held s t u.keeps.meaning.held) (same_place s t unit u.keeps.meaning.place) refl)

  -- the task starts
  pub starts_step : (cpu : Cpu) → ComesToTasks s → current s ≢ halt →
      cpu.body ≡ Task (current s) → 2 ≤ attempt_bound program →
      IsStep (shape_of program) m (effort_at s phase)
      (effort_at s (Run cpu (steps_before_end program)))
  starts_step cpu tasks on body some =
      let left = steps_before_end program in
      starts (held_count s) (cleaning_of s) left (place_behind s) (is_begun s)
      (none_before s m mode_is clear tasks) (task_on s clear on) (omega (arith, some))
      (reads s phase Choose 0 _ _ _ is none refl refl refl)
      (reads s (Run cpu left) (Run cpu left) 0 _ _ _ refl none refl refl (ap (stage_in left) body))

  module _ (events : ComesToEvents s) where
    abbrev split : m ≡ Split
    split = split_is m (mode s) mode_is events.mode

    abbrev closed : has_unit s ≡ false
    closed = none_open s clear (rw events.closed refl)

    -- so many are held behind the oldest
    abbrev more : ℕ
    more = held_count s - 1

    one_more : held_count s ≡ suc more
    one_more = let some = events.held in omega (arith, some)

    -- the log of the entry at the head is emptied
    pub empties_entry_step : 0 < log_length s (head_log s) →
        IsStep (shape_of program) m (effort_at s phase)
        (effort_at (put s (set_to (seats_of (head_log s)).length 0)) phase)
    empties_entry_step some =
        let t = put s (set_to (seats_of (head_log s)).length 0) in
        let test : (log_length s (head_log s) == 0) ≡ false = grind (arith, nat_tests) in
        let old_begun : is_begun s ≡ false = rw events.mode test in
        let emptied : log_length t (head_log t) ≡ 0 =
        rw (test_same (head_slot s) (head_slot s) refl) refl in
        let new_begun : is_begun t ≡ true = rw (events.mode, emptied) refl in
        empties_entry more (cleaning_of s) (cleaning_of t) (place_behind s) split
        (not_inside s closed) (cleaning_within program t words)
        (reads s phase Choose 0 _ _ _ is none one_more refl
        (ap (Chooses (cleaning_of s)) old_begun))
        (reads t phase Choose 0 _ _ _ is (clear_writes t clear.mark clear.doomed) one_more refl
        (ap (Chooses (cleaning_of t)) new_begun))

    -- its bottom half starts
    pub starts_bottom_step : (cpu : Cpu) (event : ℕ) → log_length s (head_log s) ≡ 0 →
        cpu.body ≡ Bottom event → 2 ≤ attempt_bound program →
        IsStep (shape_of program) m (effort_at s phase)
        (effort_at s (Run cpu (steps_before_end program)))
    starts_bottom_step cpu event empty body some =
        let left = steps_before_end program in
        let ready : is_begun s ≡ true = rw (events.mode, empty) refl in
        starts_bottom more (cleaning_of s) left (place_behind s) split (not_inside s closed)
        (omega (arith, some))
        (reads s phase Choose 0 _ _ _ is none one_more refl
        (ap (Chooses (cleaning_of s)) ready))
        (reads s (Run cpu left) (Run cpu left) 0 _ _ _ refl none one_more refl
        (ap (stage_in left) body))
