-- Events and tasks take turns: in split each posting that waits came after the last commit of a
-- task or transaction, while a task is under way or a unit is open; in buffi none waits where a
-- task ends, and behind an abort nothing of tasks is under way until its event is committed.
use Rattle.std.proofs.Common.{◌≡◌, ◌<◌, ◌≤◌, ◌==◌, ℕ, ◌+◌, List, [], ◌∷◌, ◌++◌, refl, ap, sym, subst, ◌∙◌, arith, inl, inr, Bool, true, false, Option, Some, None, if◌then◌else◌}
use Rattle.std.specs.Prelude.{All}
use Rattle.std.proofs.lemmas.Bool.Decides.{nat_tests}
use Rattle.std.proofs.lemmas.List.Elements.{All-nil}
use Rattle.coati_word.specs.declared.reading.Reading.{Reading}
use Rattle.task_syntax.specs.declared.body.BodyId.TheVariants.{Bottom, Task}
use Rattle.task_syntax.specs.declared.program.Program.{Program}
use Rattle.task_syntax.specs.Units.{transaction_of}
use Rattle.task_check.specs.Accepted.{IsAccepted}
use Rattle.nv_memory.specs.Ring.{held_count}
use Rattle.nv_memory.specs.Seats.{Memory}
use Rattle.nv_memory.specs.State.{Change, State, first_undone, put, set_to, state}
use Rattle.nv_memory.specs.Words.{attempt_flag, current, mark, mark_seat, mode as mode_of, opened, tx_flag}
use Rattle.buffi_sets.specs.Conflict.{IsConflict, is_shared_read}
use Rattle.buffi_sets.specs.Flags.{unflag_attempt_changes}
use Rattle.buffi_sets.specs.Undo.{doom_change}
use Rattle.buffi_sets.proofs.Unflagging.{unflags as leaves_flags}
use Rattle.commit_log.specs.Changes.{commit_changes}
use Rattle.commit_log.proofs.Commits.{IsOfCommit, commit_of}
use Rattle.codegen.specs.Bodies.{program_code}
use Rattle.serial_log.specs.declared.held.Held.{Held}
use Rattle.serial_log.specs.declared.mark.Mark.{Mark}
use Rattle.serial_log.specs.declared.mark.MarkKind.{MarkKind}
use Rattle.serial_log.specs.declared.mark.MarkKind.TheVariants.{Abort, Commit, Done}
use Rattle.serial_log.specs.declared.unit.Unit.{Unit as Committed}
use Rattle.serial_log.specs.declared.unit.Unit.TheVariants as unit
use Rattle.serial_log.specs.Laws.{HistoriesGoOn, TurnsGoOn}
use Rattle.serial_log.specs.Postings.{IsDue}
use Rattle.serial_log.specs.Progresses.{IsOfTasks, IsServedFirst, awaited_of, settled_of}
use Rattle.serial_log.specs.Standing.{Standing, standing_of}
use Rattle.word_code.specs.FollowingLaws.{FollowingGoesOn}
use Rattle.word_code.specs.Machine.{move_of}
use Rattle.word_cpu.specs.declared.cpu.Cpu.{Cpu}
use Rattle.word_cpu.specs.declared.turn.Turn.{Turn}
use Rattle.word_cpu.specs.declared.turn.Turn.TheVariants.{Went, Storing, Ended}
use Rattle.word_cpu.specs.Turning.{IsStep, state_of}
use Rattle.word_cpu.proofs.OnCourse.{can_step}
use Rattle.coati_device.specs.declared.device.Device.{Device}
use Rattle.coati_device.specs.declared.device.Phase.{Phase}
use Rattle.coati_device.specs.declared.device.Phase.TheVariants.{Choose, Run, End}
use Rattle.coati_device.specs.Attempt.{IsAttempt, IsInBottom, IsRunningIn}
use Rattle.coati_device.specs.BottomView.{bottom_view}
use Rattle.coati_device.specs.Kept.{record_of_event, record_of_unit, unit_of}
use Rattle.coati_device.specs.Laws.{AreCounted, Fits, Rows, RowsKeepMode, ServesEvents}
use Rattle.coati_device.specs.OpenUnit.{has_unit}
use Rattle.coati_device.specs.Points.{Awaits, IsBodyOfTask, IsOfTask, ServesInTurn, TakeTurns}
use Rattle.coati_device.specs.Rows.{Chooses, ComesToEvents, Drains, Ends, EndsBottom, IsClear, abort_change, has_attempt, oldest_posting, phase_after, phase_of_bottom, steps_before_end}
use Rattle.coati_device.specs.Rows.IsRow.{applies, undoes, sleeps, empties, unflags, starts, runs, prepares, joins, commits}
use Rattle.coati_device.specs.Rows.IsRow.{empties_entry, starts_bottom, runs_bottom, prepares_event, commits_event}
use Rattle.coati_device.specs.Rows.IsRow.{aborts, prepares_drain, drains}
use Rattle.coati_device.specs.TaskView.{HasWritten, IsAfter}
use Rattle.coati_device.proofs.AwaitedEvents.{IsFirst, none_due, none_wait, number_due, oldest_due, oldest_first}
use Rattle.coati_device.proofs.AbortMarks.{shared_none}
use Rattle.coati_device.proofs.Histories.{is_of_tasks}
use Rattle.coati_device.proofs.MemoryWrites.{state_written}
use Rattle.coati_device.proofs.UndoRows.{after_undo}
use Rattle.coati_device.proofs.OpenedUnits.{move_opens_none, none_doomed, none_open, one_open, opened_before, shut_still}
use Rattle.coati_device.proofs.TurnMarks.{AreAllLater, GoesInTurn, IsUnderWayWith, StaysInTurn, TakesItsTurn, turns_by, turns_on}

-- the attempt of a device in a bottom half
bottom_of : (program : Program) (m : Memory) (rest : List Held) (read : List Reading) (cpu : Cpu)
    (left : ℕ) (phase : Phase) (event : ℕ) →
    phase ≡ Run cpu left → cpu.body ≡ Bottom event →
    IsAttempt program (program_code program) m rest read phase →
    IsInBottom program (program_code program) m rest read cpu left
bottom_of program m rest read cpu left phase event running body attempt =
    subst (IsRunningIn program (program_code program) m rest read cpu left) body
    (subst (IsAttempt program (program_code program) m rest read) running attempt)

-- behind its step there is no task under way
none_of_bottom : (after : Cpu) (left : ℕ) (turn : Turn) (event : ℕ) → after.body ≡ Bottom event →
    IsOfTask (phase_of_bottom after left turn) → ⊥
none_of_bottom after left (Went reading) event body is = subst IsBodyOfTask body is
none_of_bottom after left Storing event body is = subst IsBodyOfTask body is
none_of_bottom after left (Ended ending) event body is = is

module _ (turns : TurnsGoOn) (go_on : HistoriesGoOn) (follows : FollowingGoesOn)
    (program : Program) (old : Device) (fits : Fits program old)
    (h : ServesEvents program old) where
  abbrev s : State
  s = state old.image

  abbrev marks : List Mark
  marks = old.history.marks

  abbrev Waits : ℕ → Type 0
  Waits posting = Awaits program s old.phase marks posting

  abbrev Served : Type 0
  Served = ServesInTurn program s old.phase marks

  abbrev KeepsMode : Memory → Type 0
  KeepsMode image = mode_of (state image) ≡ mode_of s

  abbrev Stays : Memory → Phase → Type 0
  Stays image phase = StaysInTurn program s (state image) old.phase phase marks

  abbrev Goes : Memory → Phase → Mark → Type 0
  Goes image phase mark = GoesInTurn program s (state image) old.phase phase marks mark

  -- in split no event is awaited
  split_none : mode_of s ≡ 0 → (posting : ℕ) → Waits posting → ⊥
  split_none split posting waits = omega (arith, split, waits.mode)

  -- nor is one while a task or a bottom half is under way
  run_none : (cpu : Cpu) (left : ℕ) → old.phase ≡ Run cpu left → (posting : ℕ) →
      Waits posting → ⊥
  run_none cpu left running posting waits =
      let no : Choose ≡ Run cpu left = sym waits.chooses ∙ running in absurd cc

  end_none : (place : ℕ) → old.phase ≡ End place → (posting : ℕ) → Waits posting → ⊥
  end_none place ended posting waits =
      let no : Choose ≡ End place = sym waits.chooses ∙ ended in absurd cc

  -- nor where none is held
  held_none : held_count s ≡ 0 → (posting : ℕ) → Waits posting → ⊥
  held_none none posting waits =
      none_due (standing_of program marks).rest posting
      (none_wait program s (standing_of program marks) fits.stands none) waits.due

  start_none : Chooses old → (posting : ℕ) → Waits posting → ⊥
  start_none choosing posting waits = elim choosing.tasks [
    | inl none ↦ held_none none posting waits
    | inr both ↦ split_none both.0 posting waits
  ]

  -- so none is
  none_awaited : ((posting : ℕ) → Waits posting → ⊥) → awaited_of marks ≡ None
  none_awaited never = by (awaited_of marks) refl
    where
      by : (o : Option ℕ) → awaited_of marks ≡ o → o ≡ None
      by None is = refl
      by (Some posting) is = absurd (never posting (h.awaits posting is))

  served_first : (kind : MarkKind) → ((posting : ℕ) → Waits posting → ⊥) →
      IsServedFirst None kind → IsServedFirst (awaited_of marks) kind
  served_first kind never first =
      subst (λ (o : Option ℕ). IsServedFirst o kind) (sym (none_awaited never)) first

  -- behind a write
  written_on : (image : Memory) (change : Change) → HasWritten old.image change image →
      KeepsMode image → (has_unit (put s change) ≡ true → has_unit s ≡ true) →
      TakeTurns program (state image) old.phase marks
  written_on image change wrote same opened_so =
      let is = state_written old.image image change fits.memory.memory wrote in
      let before : has_unit (state image) ≡ true → has_unit s ≡ true =
      λ unit. opened_so (ap has_unit (sym is) ∙ unit) in
      turns_on program s (state image) old.phase old.phase marks h (record {
        mode = same;
        later = λ split served under. elim under [
          | inl task ↦ served.later (inl task)
          | inr unit ↦ served.later (inr (before unit))
        ];
        awaits = λ posting waits. record {
          chooses = waits.chooses;
          no_unit = shut_still s (state image) before waits.no_unit;
        };
      })

  -- a write elsewhere
  elsewhere : (image : Memory) (change seen : Change) → change ≡ seen →
      HasWritten old.image change image → KeepsMode image →
      has_unit (put s seen) ≡ has_unit s → TakeTurns program (state image) old.phase marks
  elsewhere image change seen is wrote kept same =
      written_on image change wrote kept (λ unit.
      sym same ∙ ap (λ (c : Change). has_unit (put s c)) (sym is) ∙ unit)

  -- a step of a task, which no event awaits
  task_on : (image : Memory) (phase : Phase) → KeepsMode image →
      ((posting : ℕ) → Waits posting → ⊥) → (Served → AreAllLater program marks) →
      TakeTurns program (state image) phase marks
  task_on image phase same never later =
      turns_on program s (state image) old.phase phase marks h (record {
        mode = same;
        later = λ split served under. later served;
        awaits = λ posting waits. absurd (never posting waits);
      })

  -- a task starts where nothing waits, or in an open transaction
  start_later : Chooses old → Served → AreAllLater program marks
  start_later choosing served = elim choosing.tasks [
    | inl none ↦
        let P : Held → Type 0 = λ held. (settled_of program marks).settled < held.number in
        subst (All P) (sym (none_wait program s (standing_of program marks) fits.stands none))
        (All-nil P)
    | inr both ↦ served.later (inr (one_open s choosing.clear both.1))
  ]

  -- each task ends where what waits came later
  end_later : (place : ℕ) → Ends old place → Served → AreAllLater program marks
  end_later place ends served = served.later (inl (subst IsOfTask (sym ends.phase) tt))

  run_later : (cpu : Cpu) (left task : ℕ) → old.phase ≡ Run cpu left → cpu.body ≡ Task task →
      Served → AreAllLater program marks
  run_later cpu left task running body served =
      served.later (inl (subst IsOfTask (sym running) (subst IsBodyOfTask (sym body) tt)))

  -- a step of a bottom half, in split
  bottom_on : (image : Memory) (before after : Cpu) (left : ℕ) (turn : Turn) (event : ℕ) →
      old.phase ≡ Run before left → before.body ≡ Bottom event → IsClear s → ComesToEvents s →
      KeepsMode image →
      IsStep bottom_view (program_code program) before after old.image image turn →
      TakeTurns program (state image) (phase_of_bottom after left turn) marks
  bottom_on image before after left turn event running body clear events kept step =
      let code = program_code program in
      let rest = (standing_of program marks).rest in
      let here =
      bottom_of program old.image rest old.attempt.items before left old.phase event running body
      fits.attempt in
      let on_course = here.under_way.on_course in
      let can =
      can_step bottom_view follows code before old.image here.left here.under_way.rest on_course
      in
      let same =
      move_opens_none before after old.image image fits.memory.memory turn
      (move_of can.0 (state_of before))
      (step.makes can.0 can.1.starts) in
      let none = none_open s clear (ap (λ (o : ℕ). o == 1) events.closed) in
      turns_on program s (state image) old.phase (phase_of_bottom after left turn) marks h (record {
        mode = kept;
        later = λ split served under. elim under [
          | inl task ↦ absurd (none_of_bottom after left turn event (step.body ∙ body) task)
          | inr unit ↦ absurd (let no : false ≡ true = sym none ∙ sym same ∙ unit in cc)
        ];
        awaits = λ posting waits. absurd (split_none events.mode posting waits);
      })

  -- the commit of a unit of tasks, or of an event, is marked
  marked_none : (image : Memory) (marker : ℕ) →
      HasWritten old.image (set_to mark_seat marker) image →
      has_unit (put s (set_to mark_seat marker)) ≡ false →
      IsUnderWayWith Choose (state image) → ⊥
  marked_none image marker wrote none under = elim under [
    | inl task ↦ task
    | inr unit ↦
        let is =
        state_written old.image image (set_to mark_seat marker) fits.memory.memory wrote in
        absurd (let no : false ≡ true = sym none ∙ ap has_unit (sym is) ∙ unit in cc)
  ]

  settled_now : Served →
      (settled_of program marks).standing.accepted ≤ (standing_of program marks).accepted
  settled_now served =
      let same = ap (λ (x : Standing). x.accepted) served.same in omega (arith, same)

  unit_by : (of_tasks : Committed) → IsOfTasks of_tasks →
      (tasks from count at : ℕ) (behind : Type 0) → (behind → ⊥) → Served →
      AreAllLater program marks →
      TakesItsTurn program (settled_of program marks) (standing_of program marks)
      (record { at = at; kind = Commit (record_of_unit of_tasks tasks from count) }) behind
  unit_by (unit.Task task) is tasks from count at behind never served later = record {
    serves = λ ends. later;
    settled = settled_now served;
    later = λ under. absurd (never under);
  }
  unit_by (unit.Transaction tx) is tasks from count at behind never served later = record {
    serves = λ ends. later;
    settled = settled_now served;
    later = λ under. absurd (never under);
  }
  unit_by (unit.Event event) is tasks from count at behind never served later = absurd is

  of_commit : (change : Change) → first_undone s (commit_changes s) ≡ Some change →
      IsOfCommit s change
  of_commit change is =
      let memory = fits.memory in
      commit_of s change (record { range = memory.range; closed = memory.closed; next = is })

  -- a task of a transaction is done
  done_goes : (image : Memory) (place at : ℕ) → Ends old place → KeepsMode image →
      Goes image Choose (record { at = at; kind = Done (current s) })
  done_goes image place at ends same = record {
    mode = same;
    split = λ split served. record {
      serves = λ done. end_later place ends served;
      settled = served.settled;
      later = λ under. end_later place ends served;
    };
    buffi = λ one done.
        none_wait program s (standing_of program marks) fits.stands (ends.tasks one);
    first = served_first (Done (current s)) (end_none place ends.phase) tt;
    awaits = λ posting is. absurd cc;
  }

  -- a unit of tasks is committed
  unit_goes : (image : Memory) (place : ℕ) (of_tasks : Committed) → IsOfTasks of_tasks →
      (tasks from count at : ℕ) → Ends old place → KeepsMode image →
      HasWritten old.image (set_to mark_seat 2) image →
      Goes image Choose
      (record { at = at; kind = Commit (record_of_unit of_tasks tasks from count) })
  unit_goes image place of_tasks is tasks from count at ends same write = record {
    mode = same;
    split = λ split served.
        unit_by of_tasks is tasks from count at (IsUnderWayWith Choose (state image))
        (marked_none image 2 write refl) served (end_later place ends served);
    buffi = λ one done.
        none_wait program s (standing_of program marks) fits.stands (ends.tasks one);
    first =
        served_first (Commit (record_of_unit of_tasks tasks from count))
        (end_none place ends.phase) tt;
    awaits = λ posting is. absurd cc;
  }

  -- an event is committed, in split
  event_goes : (image : Memory) (event number from count at : ℕ) → EndsBottom old →
      KeepsMode image → HasWritten old.image (set_to mark_seat 3) image →
      Goes image Choose
      (record { at = at; kind = Commit (record_of_event event number from count) })
  event_goes image event number from count at ends same write = record {
    mode = same;
    split = λ split served. record {
      serves = λ done. absurd done;
      settled = served.settled;
      later = λ under.
          absurd (marked_none image 3 write
          (rw (ends.events.closed, ends.clear.doomed) refl) under);
    };
    buffi = λ one done. absurd done;
    first =
        served_first (Commit (record_of_event event number from count))
        (split_none ends.events.mode) tt;
    awaits = λ posting is. absurd cc;
  }

  module _ (counted : AreCounted program old) where
    -- the oldest posting that waits
    oldest_waits : Drains old →
        IsFirst program s (standing_of program marks) (oldest_posting old)
    oldest_waits coming =
        oldest_first program s (standing_of program marks) old.accepted fits.stands fits.waiting
        counted coming.clear.mark coming.held

    not_split : Drains old → mode_of s ≡ 0 → ⊥
    not_split coming split = let one = coming.mode in omega (arith, split, one)

    -- an event is committed, in buffi: it is the one that is awaited, where one is
    drain_first : (coming : Drains old) (event from count : ℕ) (o : Option ℕ) →
        awaited_of marks ≡ o →
        IsServedFirst o (Commit (record_of_event event (oldest_posting old) from count))
    drain_first coming event from count None is = tt
    drain_first coming event from count (Some posting) is =
        let first = oldest_waits coming in
        sym first.numbered
        ∙ number_due (standing_of program marks).rest first.more first.held posting first.first
        (h.awaits posting is).due

    drain_goes : (image : Memory) (event from count at : ℕ) → Drains old → KeepsMode image →
        Goes image old.phase
        (record {
          at = at;
          kind = Commit (record_of_event event (oldest_posting old) from count);
        })
    drain_goes image event from count at coming same = record {
      mode = same;
      split = λ split served. absurd (not_split coming split);
      buffi = λ one done. absurd done;
      first = drain_first coming event from count (awaited_of marks) refl;
      awaits = λ posting is. absurd cc;
    }

    -- a unit is given up: none is awaited, since with an awaited event no unit is open and no
    -- attempt is under way that it could clash with
    clash_none : Drains old → (word : ℕ) → IsConflict s (has_attempt old.phase) word →
        (posting : ℕ) → Waits posting → ⊥
    clash_none coming word conflict posting waits = by (opened s == 1) refl
      where
        shared : is_shared_read s false word ≡ true
        shared = subst (λ (phase : Phase). is_shared_read s (has_attempt phase) word ≡ true)
            waits.chooses conflict.clashes.read

        by : (b : Bool) → (opened s == 1) ≡ b → ⊥
        by true is =
            let one : opened s ≡ 1 = grind (arith, nat_tests) in
            absurd (let no : false ≡ true =
            sym waits.no_unit ∙ one_open s coming.clear one in cc)
        by false is =
            absurd (let no : false ≡ true =
            sym (shared_none (opened s == 1) (tx_flag s word) (attempt_flag s word) is)
            ∙ shared in cc)

    -- and behind it no unit is open
    abort_none : (image : Memory) → Drains old → IsAfter old.image (abort_change s) image →
        has_unit (state image) ≡ false
    abort_none image coming wrote = by (opened s == 1) refl wrote
      where
        by : (b : Bool) → (opened s == 1) ≡ b →
            IsAfter old.image (if b then Some doom_change else None) image →
            has_unit (state image) ≡ false
        by true is wrote =
            ap has_unit (state_written old.image image doom_change fits.memory.memory wrote)
            ∙ none_doomed (put s doom_change) refl
        by false is wrote =
            ap (λ (m : Memory). has_unit (state m)) wrote ∙ none_open s coming.clear is

    abort_goes : (image : Memory) (own : Committed) (tasks word at : ℕ) → Drains old →
        IsConflict s (has_attempt old.phase) word → IsAfter old.image (abort_change s) image →
        KeepsMode image →
        Goes image Choose (record {
          at = at;
          kind = Abort (record {
            unit = own;
            tasks = tasks;
            posting = oldest_posting old;
            word = word;
          });
        })
    abort_goes image own tasks word at coming conflict wrote same = record {
      mode = same;
      split = λ split served. absurd (not_split coming split);
      buffi = λ one done. absurd done;
      first =
          served_first (Abort (record {
            unit = own;
            tasks = tasks;
            posting = oldest_posting old;
            word = word;
          })) (clash_none coming word conflict) tt;
      awaits = λ posting is.
          let number : oldest_posting old ≡ posting = cc in
          record {
            mode = same ∙ coming.mode;
            rests = record { chooses = refl; no_unit = abort_none image coming wrote };
            due = subst (IsDue (standing_of program marks).rest) number
                (oldest_due program s (standing_of program marks) (oldest_posting old)
                (oldest_waits coming));
          };
    }

    -- the mode behind a row, told of the device that it makes
    kept : {new acted : Device} → new ≡ acted → mode_of (state new.image) ≡ mode_of s →
        mode_of (state acted.image) ≡ mode_of s
    kept e same = subst (λ (d : Device). mode_of (state d.image) ≡ mode_of s) e same

    -- a flag that is taken back opens no unit
    unflagged_same : (change : Change) →
        first_undone s (unflag_attempt_changes s) ≡ Some change →
        has_unit (put s change) ≡ has_unit s
    unflagged_same change is =
        let leaves = leaves_flags s change fits.memory.range fits.memory.closed is in
        rw (leaves.same_mark, leaves.same_doomed, leaves.same_opened) refl

    -- behind a mark
    marked_on : (image : Memory) (phase : Phase) (mark : Mark) → Goes image phase mark →
        TakeTurns program (state image) phase (marks ++ mark ∷ [])
    marked_on image phase mark goes =
        turns_by turns go_on program s (state image) old.phase phase marks mark h goes

    turns_at : (new : Device) → Rows program old new →
        mode_of (state new.image) ≡ mode_of s → ServesEvents program new
    turns_at new (applies change image is write e) same =
        rw e (written_on image change write (kept e same)
        (opened_before s change (of_commit change is)))
    turns_at new (undoes change image clear is write e) same =
        let none = (after_undo s change clear is).1.no_unit in
        rw e (written_on image change write (kept e same) (λ unit.
        absurd (let no : false ≡ true = sym none ∙ unit in cc)))
    turns_at new (sleeps choosing halted e) same = rw e h
    turns_at new (empties image choosing more some write e) same =
        rw e (elsewhere image _ _ refl write (kept e same) refl)
    turns_at new (unflags change image choosing more none buffi is write e) same =
        rw e (written_on image change write (kept e same) (λ unit.
        sym (unflagged_same change is) ∙ unit))
    turns_at new (starts cpu choosing more none free start e) same =
        rw e (task_on old.image (Run cpu (steps_before_end program)) refl (start_none choosing)
        (start_later choosing))
    turns_at new (runs before after left image turn phase body clear step e) same =
        rw e (task_on image (phase_after after left turn) (kept e same)
        (run_none before left phase) (run_later before left (current s) phase body))
    turns_at new (prepares place image ends other write e) same =
        rw e (task_on image old.phase (kept e same) (end_none place ends.phase)
        (end_later place ends))
    turns_at new (joins place image ends there inside write e) same =
        rw e (marked_on image Choose _
        (done_goes image place (old.clock + 1) ends (kept e same)))
    turns_at new (commits place image ends there outside write e) same =
        let task = current s in
        let own = transaction_of program task in
        rw e (marked_on image Choose _
        (unit_goes image place (unit_of own task) (is_of_tasks own task) _ _ _ _ ends
        (kept e same) write))
    turns_at new (empties_entry image choosing some write e) same =
        rw e (elsewhere image _ _ refl write (kept e same) refl)
    turns_at new (starts_bottom cpu choosing none start e) same =
        rw e (turns_on program s s old.phase (Run cpu (steps_before_end program)) marks h (record {
          mode = refl;
          later = λ split served under. elim under [
            | inl task ↦ absurd (subst IsBodyOfTask start.body_is task)
            | inr unit ↦ served.later (inr unit)
          ];
          awaits = λ posting waits. absurd (split_none choosing.events.mode posting waits);
        }))
    turns_at new (runs_bottom before after left image turn phase body clear events step e) same =
        rw e (bottom_on image before after left turn _ phase body clear events (kept e same) step)
    turns_at new (prepares_event image ends other write e) same =
        rw e (elsewhere image _ _ refl write (kept e same) refl)
    turns_at new (commits_event image ends there write e) same =
        rw e (marked_on image Choose _
        (event_goes image _ _ _ _ _ ends (kept e same) write))
    turns_at new (aborts word image coming conflict write e) same =
        rw e (marked_on image Choose _
        (abort_goes image _ _ word _ coming conflict write (kept e same)))
    turns_at new (prepares_drain image free other write e) same =
        rw e (elsewhere image _ _ refl write (kept e same) refl)
    turns_at new (drains image free there write e) same =
        rw e (marked_on image old.phase _
        (drain_goes image _ _ _ _ free.drains (kept e same)))

    pub turns_kept : RowsKeepMode → IsAccepted program → (new : Device) → Rows program old new →
        ServesEvents program new
    turns_kept keeps rules new row = turns_at new row (keeps program old new rules fits row)
