-- After each row the held events are what their logs and kept readings say.
use Rattle.std.proofs.Common.{◌≡◌, ◌≢◌, ◌==◌, ℕ, ◌+◌, ◌-◌, ◌++◌, List, [], ◌∷◌, Bool, true, false, Option, Some, None, if◌then◌else◌, length, refl, sym, ap, subst, ◌∙◌, arith}
use Rattle.coati_word.specs.declared.reading.Reading.{Reading}
use Rattle.task_syntax.specs.declared.program.Program.{Program}
use Rattle.task_syntax.specs.declared.body.BodyId.TheVariants.{Task}
use Rattle.task_syntax.specs.Course.{after}
use Rattle.task_syntax.specs.Units.{transaction_of}
use Rattle.task_check.specs.Accepted.{IsAccepted}
use Rattle.nv_memory.specs.Ring.{held_count, held_slots, oldest, position_after, slots_from}
use Rattle.nv_memory.specs.Seats.{IsMemory, Memory}
use Rattle.nv_memory.specs.StandsFor.{head_slot}
use Rattle.nv_memory.specs.State.{Change, State, put, set_to, state}
use Rattle.nv_memory.specs.Words.{current, head, head_next, mark, mark_seat, mode, opened}
use Rattle.buffi_sets.specs.Flags.{flag_change}
use Rattle.buffi_sets.specs.Undo.{doom_change}
use Rattle.event_buffer.specs.TurnLaws.{MarksTakeTheOldest}
use Rattle.serial_log.specs.declared.held.Held.{Held}
use Rattle.serial_log.specs.declared.mark.Mark.{Mark}
use Rattle.serial_log.specs.SerialRun.{Stand, behind_event}
use Rattle.serial_log.specs.Standing.{Standing, after_mark, left_by, opening, standing_of}
use Rattle.serial_log.proofs.Walks.{walk_push}
use Rattle.codegen.specs.Bodies.{program_code}
use Rattle.word_code.specs.Machine.{Move, move_of}
use Rattle.word_code.specs.FollowingLaws.{FollowingGoesOn}
use Rattle.word_cpu.specs.declared.cpu.Cpu.{Cpu}
use Rattle.word_cpu.specs.declared.turn.Turn.{Turn}
use Rattle.word_cpu.specs.declared.turn.Turn.TheVariants.{Went, Storing, Ended}
use Rattle.word_cpu.specs.Turning.{IsStep, Makes, state_of}
use Rattle.word_cpu.proofs.OnCourse.{can_step}
use Rattle.coati_device.specs.declared.device.Device.{Device}
use Rattle.coati_device.specs.declared.device.Phase.TheVariants.{Run}
use Rattle.coati_device.specs.HeldEvents.{EventsFit, HoldEvents, effect_on}
use Rattle.coati_device.specs.Kept.{unit_commit, unit_of}
use Rattle.coati_device.specs.Laws.{AreCounted, Fits, HoldsItsEvents, Rows}
use Rattle.coati_device.specs.Rows.{ComesToTheEnd, DrainsFreely, head_entry, oldest_posting}
use Rattle.coati_device.specs.Rows.IsRow.{applies, undoes, sleeps, empties, unflags, starts, runs, prepares, joins, commits, empties_entry, starts_bottom, runs_bottom, prepares_event, commits_event, aborts, prepares_drain, drains}
use Rattle.coati_device.specs.TaskView.{HasWritten, IsAfter, needs_flag, task_view}
use Rattle.coati_device.specs.Waits.{behind_first, first_read}
use Rattle.coati_device.proofs.Attempts.{running_of}
use Rattle.coati_device.proofs.EntryWrites.{commit_kept, doom_kept, mark_kept, part_kept, place_kept, prepared_kept, store_kept, task_log_kept, undo_kept, unflag_kept}
use Rattle.coati_device.proofs.HeldLogs.{KeepsEntries, entries_stay, events_in_logs, events_stay, kept_written, none_held, oldest_of}
use Rattle.coati_device.proofs.MarkedMemory.{marked}
use Rattle.coati_device.proofs.MemoryWrites.{state_written}
use Rattle.coati_device.proofs.Modes.{mode_kept}
use Rattle.coati_device.proofs.ServedPostings.{event_mark, oldest_number, serves_oldest}

-- a step of the machine in a task leaves the held entries
module _ (m new : Memory) (is : IsMemory m) where
  abbrev Stay : Type 0
  Stay = KeepsEntries (state m) (state new)

  same_memory : new ≡ m → Stay
  same_memory same =
      subst (λ (x : Memory). KeepsEntries (state m) (state x)) (sym same) (entries_stay (state m))

  load_stays : (word : ℕ) (needs : Bool) →
      IsAfter m (if needs then Some (flag_change word) else None) new → Stay
  load_stays word true wrote =
      kept_written m new (flag_change word) is wrote (part_kept (state m) 5 word 1)
  load_stays word false same = same_memory same

  task_step_stays : (before after : Cpu) (turn : Turn) (move : Move) →
      Makes task_view before after m new turn move → Stay
  task_step_stays before after turn (Move.goes next) made = same_memory made.view
  task_step_stays before after turn (Move.loads word next) made =
      load_stays word (needs_flag (state m) word) made.view
  task_step_stays before after (Went None) (Move.stores word value next) made =
      kept_written m new _ is made.view.wrote (store_kept (state m) word value before.part)
  task_step_stays before after (Went (Some read)) (Move.stores word value next) made = absurd made
  task_step_stays before after Storing (Move.stores word value next) made =
      kept_written m new _ is made.view.wrote (store_kept (state m) word value before.part)
  task_step_stays before after (Ended ending) (Move.stores word value next) made = absurd made
  task_step_stays before after turn (Move.ends ending) made = same_memory made.view

-- no unit's commit serves a posting
rest_stays : (own : Option ℕ) (task : ℕ) (rest : List Held) →
    left_by (unit_of own task) 0 rest ≡ rest
rest_stays None task rest = refl
rest_stays (Some tx) task rest = refl

module _ (program : Program) (old new : Device) (fits : Fits program old)
    (holds : HoldsItsEvents program old) where
  abbrev s : State
  s = state old.image

  abbrev standing : Standing
  standing = standing_of program old.history.marks

  abbrev Holds : Device → Type 0
  Holds d = HoldsItsEvents program d

  -- what memory is behind a write that leaves the held entries
  after_write : (image : Memory) (change : Change) → HasWritten old.image change image →
      KeepsEntries s (put s change) → KeepsEntries s (state image)
  after_write image change wrote keeps =
      kept_written old.image image change fits.memory.memory wrote keeps

  events_on : (image : Memory) → KeepsEntries s (state image) →
      EventsFit program (state image) standing old.waiting.events
  events_on image keeps =
      events_stay program s (state image) standing old.waiting.events keeps holds

  written_keeps : (image : Memory) (change : Change) → HasWritten old.image change image →
      KeepsEntries s (put s change) → new ≡ record old { image = image } → Holds new
  written_keeps image change wrote keeps is =
      subst Holds (sym is) (events_on image (after_write image change wrote keeps))

  task_step : FollowingGoesOn → (before after : Cpu) (left : ℕ) (image : Memory) (turn : Turn) →
      old.phase ≡ Run before left →
      before.body ≡ Task (current s) →
      IsStep task_view (program_code program) before after old.image image turn →
      EventsFit program (state image) standing old.waiting.events
  task_step follows before after left image turn running body step =
      let here = running_of program old before left (current s) fits running body in
      let can =
      can_step task_view follows (program_code program) before old.image here.left
      here.under_way.rest here.under_way.on_course in
      events_on image
      (task_step_stays old.image image fits.memory.memory before after turn
      (move_of can.0 (state_of before)) (step.makes can.0 can.1.starts))

  -- where the history leads with a mark more
  with_more : (image : Memory) (told : Mark) (reads : List (List Reading)) →
      EventsFit program (state image) (after_mark program standing told) reads →
      EventsFit program (state image) (standing_of program (old.history.marks ++ told ∷ [])) reads
  with_more image told reads events =
      subst (λ (later : Standing). EventsFit program (state image) later reads)
      (sym (walk_push (after_mark program) (opening program) old.history.marks told)) events

  -- a unit's commit in buffi comes where no event is held
  commit_keeps : (image : Memory) (of_tasks : Option ℕ) (tasks at : ℕ)
      (all read : List Reading) → mark s ≡ 0 → ComesToTheEnd s →
      HasWritten old.image (set_to mark_seat 2) image →
      EventsFit program (state image)
      (after_mark program standing (unit_commit all (unit_of of_tasks (current s)) tasks read at))
      old.waiting.events
  commit_keeps image of_tasks tasks at all read clear ends wrote = λ buffi.
      let keeps = after_write image (set_to mark_seat 2) wrote
      (mark_kept s 2 (rw clear refl) refl) in
      let before : mode s ≡ 1 = sym keeps.same_mode ∙ buffi in
      let none : held_slots s ≡ [] = ap (slots_from s.k (oldest s)) (ends before) in
      let later = after_mark program standing
      (unit_commit all (unit_of of_tasks (current s)) tasks read at) in
      let nothing : HoldEvents program s [] standing.rest old.waiting.events standing.run.store =
      subst (λ (slots : List ℕ). HoldEvents program s slots standing.rest old.waiting.events
      standing.run.store) none (holds before) in
      let still : HoldEvents program (state image) [] standing.rest old.waiting.events
      later.run.store =
      none_held program s (state image) standing.rest old.waiting.events standing.run.store
      later.run.store nothing in
      subst (λ (slots : List ℕ). HoldEvents program (state image) slots later.rest
      old.waiting.events later.run.store) (sym (keeps.slots ∙ none))
      (subst (λ (rest : List Held). HoldEvents program (state image) [] rest old.waiting.events
      later.run.store) (sym (rest_stays of_tasks (current s) standing.rest)) still)

  abort_stays : (image : Memory) (is_open : Bool) →
      IsAfter old.image (if is_open then Some doom_change else None) image →
      KeepsEntries s (state image)
  abort_stays image true wrote = after_write image doom_change wrote (doom_kept s 1)
  abort_stays image false same = same_memory old.image image fits.memory.memory same

  -- the event that is drained is the oldest, and those behind it are held on what it leaves
  drain_keeps : MarksTakeTheOldest → (image : Memory) (from count at : ℕ) →
      AreCounted program old → DrainsFreely old → head_next s ≡ position_after s.k (head s) →
      HasWritten old.image (set_to mark_seat 3) image →
      EventsFit program (state image)
      (after_mark program standing
      (event_mark (head_entry s).event (oldest_posting old) from count at))
      (behind_first old.waiting.events)
  drain_keeps law image from count at counted free follows wrote = λ buffi.
      let drains = free.drains in
      let t = marked s 3 in
      let takes = law s fits.memory.range drains.clear.mark drains.clear.doomed drains.held
      follows in
      let has = oldest_of program s (head_slot s) (held_slots t) standing.rest old.waiting.events
      standing.run.store
      (subst (λ (slots : List ℕ). HoldEvents program s slots standing.rest old.waiting.events
      standing.run.store) takes.slots (holds drains.mode)) in
      let number : has.held.number ≡ oldest_posting old =
      oldest_number program standing has.held has.more has.first fits.waiting s fits.stands.held
      ∙ ap (λ (n : ℕ). n + 1 - held_count s) counted in
      let later = after_mark program standing
      (event_mark (head_entry s).event (oldest_posting old) from count at) in
      let serves = serves_oldest program standing has.held has.more has.first fits.waiting
      (head_entry s).event (oldest_posting old) from count at number in
      let behind : HoldEvents program t (held_slots t) has.more has.others
      (behind_event program standing.run has.held).store =
      events_in_logs program s t (λ slot word. refl) (held_slots t) has.more has.others
      (after (effect_on program has.held standing.run.store) standing.run.store) has.behind in
      let there : HoldEvents program t (held_slots t) later.rest (behind_first old.waiting.events)
      later.run.store =
      subst (λ (reads : List (List Reading)). HoldEvents program t (held_slots t) later.rest reads
      later.run.store) (sym (ap behind_first has.first_read))
      (subst (λ (rest : List Held). HoldEvents program t (held_slots t) rest has.others
      later.run.store) (sym serves.rest)
      (subst (λ (stand : Stand). HoldEvents program t (held_slots t) has.more has.others
      stand.store) (sym serves.run) behind)) in
      subst (λ (x : State). HoldEvents program x (held_slots x) later.rest
      (behind_first old.waiting.events) later.run.store)
      (sym (state_written old.image image (set_to mark_seat 3) fits.memory.memory wrote)) there

-- in split nothing is said of held events
not_buffi : (old new : Device) → mode (state old.image) ≡ 0 →
    mode (state new.image) ≡ mode (state old.image) → mode (state new.image) ≢ 1
not_buffi old new split same buffi = omega (arith, split, same, buffi)

pub events_kept : FollowingGoesOn → MarksTakeTheOldest → (program : Program) (old new : Device) →
    IsAccepted program → Fits program old → HoldsItsEvents program old →
    AreCounted program old → Rows program old new → HoldsItsEvents program new
events_kept follows takes program old new accepted fits holds counted row =
    let s = state old.image in
    let same = mode_kept follows program old new fits row in
    elim row [
      | applies change image next wrote is ↦
          written_keeps program old new fits holds image change wrote
          (commit_kept s change
          (record { range = fits.memory.range; closed = fits.memory.closed; next = next })) is
      | undoes change image clear next wrote is ↦
          written_keeps program old new fits holds image change wrote (undo_kept s change next) is
      | sleeps chooses halted is ↦ subst (HoldsItsEvents program) (sym is) holds
      | empties image chooses on some wrote is ↦
          written_keeps program old new fits holds image _ wrote (task_log_kept s 0) is
      | unflags change image chooses on none buffi next wrote is ↦
          written_keeps program old new fits holds image change wrote
          (unflag_kept s change next) is
      | starts cpu chooses on none unset start is ↦
          subst (HoldsItsEvents program) (sym is) holds
      | runs before after left image turn running body clear step is ↦
          subst (HoldsItsEvents program) (sym is)
          (task_step program old new fits holds follows before after left image turn running body
          step)
      | prepares place image ends other wrote is ↦
          written_keeps program old new fits holds image _ wrote (place_kept s place) is
      | joins place image ends there inside wrote is ↦
          subst (HoldsItsEvents program) (sym is)
          (with_more program old new fits holds image _ old.waiting.events
          (events_on program old new fits holds image
          (after_write program old new fits holds image (set_to mark_seat 1) wrote
          (mark_kept s 1 (rw ends.clear.mark refl) refl))))
      | commits place image ends there outside wrote is ↦
          subst (HoldsItsEvents program) (sym is)
          (with_more program old new fits holds image _ old.waiting.events
          (commit_keeps program old new fits holds image
          (transaction_of program (current s)) (old.finished + 1) (old.clock + 1)
          old.history.readings (old.unit.items ++ old.attempt.items) ends.clear.mark ends.tasks
          wrote))
      | empties_entry image chooses some wrote is ↦
          λ buffi. absurd (not_buffi old new chooses.events.mode same buffi)
      | starts_bottom cpu chooses none start is ↦ subst (HoldsItsEvents program) (sym is) holds
      | runs_bottom before after left image turn running body clear events step is ↦
          λ buffi. absurd (not_buffi old new events.mode same buffi)
      | prepares_event image ends other wrote is ↦
          written_keeps program old new fits holds image _ wrote
          (prepared_kept s _ ends.clear.mark) is
      | commits_event image ends follows wrote is ↦
          λ buffi. absurd (not_buffi old new ends.events.mode same buffi)
      | aborts word image clashing conflict changed is ↦
          subst (HoldsItsEvents program) (sym is)
          (with_more program old new fits holds image _ old.waiting.events
          (events_on program old new fits holds image
          (abort_stays program old new fits holds image (opened s == 1) changed)))
      | prepares_drain image free other wrote is ↦
          written_keeps program old new fits holds image _ wrote
          (prepared_kept s _ free.drains.clear.mark) is
      | drains image free follows wrote is ↦
          subst (HoldsItsEvents program) (sym is)
          (with_more program old new fits holds image _ (behind_first old.waiting.events)
          (drain_keeps program old new fits holds takes image (length old.history.readings)
          (length (first_read old.waiting.events)) (old.clock + 1) counted free follows wrote))
    ]
