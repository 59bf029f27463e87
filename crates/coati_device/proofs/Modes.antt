-- Each row leaves the mode.
use Rattle.std.proofs.Common.{◌≡◌, ◌==◌, ℕ, zero, suc, refl, ap, ◌∙◌, Option, None, Some, Bool, true, false, if◌then◌else◌}
use Rattle.task_syntax.specs.declared.program.Program.{Program}
use Rattle.task_syntax.specs.declared.body.BodyId.TheVariants.{Bottom, Task}
use Rattle.serial_log.specs.Standing.{standing_of}
use Rattle.nv_memory.specs.declared.log.Log.{Log}
use Rattle.nv_memory.specs.declared.log.Log.TheVariants as log
use Rattle.nv_memory.specs.Logs.{log_index}
use Rattle.nv_memory.specs.Seats.{IsMemory, Memory}
use Rattle.nv_memory.specs.State.{Change, State, put, state}
use Rattle.nv_memory.specs.Words.{current, mode, opened}
use Rattle.task_buffer.specs.Stores.{change_at, store_change}
use Rattle.buffi_sets.specs.Flags.{flag_change}
use Rattle.buffi_sets.specs.Undo.{doom_change}
use Rattle.buffi_sets.proofs.Unflagging.{unflags as flags_go}
use Rattle.word_code.specs.FollowingLaws.{FollowingGoesOn}
use Rattle.word_code.specs.Machine.{Move, move_of}
use Rattle.word_cpu.specs.declared.cpu.Cpu.{Cpu}
use Rattle.word_cpu.specs.declared.turn.Turn.{Turn}
use Rattle.word_cpu.specs.declared.turn.Turn.TheVariants.{Went, Storing, Ended}
use Rattle.word_cpu.specs.Turning.{IsStep, Makes, state_of}
use Rattle.word_cpu.proofs.OnCourse.{can_step}
use Rattle.codegen.specs.Bodies.{program_code}
use Rattle.coati_device.specs.declared.device.Device.{Device}
use Rattle.coati_device.specs.declared.device.Phase.TheVariants.{Run}
use Rattle.coati_device.specs.Attempt.{IsInBottom}
use Rattle.coati_device.specs.BottomView.{bottom_view, head_log}
use Rattle.coati_device.specs.Laws.{Fits, Rows}
use Rattle.coati_device.specs.Rows.{head_entry}
use Rattle.coati_device.specs.Rows.IsRow.{applies, undoes, sleeps, empties, unflags, starts, runs, prepares, joins, commits, empties_entry, starts_bottom, runs_bottom, prepares_event, commits_event, aborts, prepares_drain, drains}
use Rattle.coati_device.specs.TaskView.{HasStoredIn, HasWritten, IsAfter, load_change, needs_flag, task_view}
use Rattle.coati_device.proofs.Attempts.{running_in, running_of}
use Rattle.coati_device.proofs.CommitRows.{applying_leaves_mode}
use Rattle.coati_device.proofs.MemoryWrites.{state_written}
use Rattle.coati_device.proofs.UndoRows.{undoing_leaves_mode}

abbrev SameMode : Memory → Memory → Type 0
SameMode m new = mode (state new) ≡ mode (state m)

-- a write elsewhere
written_mode : (m new : Memory) (change : Change) → IsMemory m → HasWritten m change new →
    mode (put (state m) change) ≡ mode (state m) → SameMode m new
written_mode m new change memory wrote same =
    ap mode (state_written m new change memory wrote) ∙ same

-- a part of a store is in its log
change_mode : (s : State) (own : Log) (word value part : ℕ) (at : Option ℕ) →
    mode (put s (change_at s own word value part at)) ≡ mode s
change_mode s log.Task word value part (Some i) = refl
change_mode s log.Tx word value part (Some i) = refl
change_mode s (log.Entry slot) word value part (Some i) = refl
change_mode s log.Task word value zero None = refl
change_mode s log.Task word value (suc zero) None = refl
change_mode s log.Task word value (suc (suc more)) None = refl
change_mode s log.Tx word value zero None = refl
change_mode s log.Tx word value (suc zero) None = refl
change_mode s log.Tx word value (suc (suc more)) None = refl
change_mode s (log.Entry slot) word value zero None = refl
change_mode s (log.Entry slot) word value (suc zero) None = refl
change_mode s (log.Entry slot) word value (suc (suc more)) None = refl

pub stored_mode : (own : Log) (m new : Memory) (word value part : ℕ) (is_last : Bool) →
    IsMemory m → HasStoredIn own m word value part new is_last → SameMode m new
stored_mode own m new word value part is_last memory stored =
    written_mode m new (store_change (state m) own word value part) memory stored.wrote
    (change_mode (state m) own word value part (log_index (state m) own word))

loaded_by : (m new : Memory) (word : ℕ) (needs : Bool) → IsMemory m →
    IsAfter m (if needs then Some (flag_change word) else None) new → SameMode m new
loaded_by m new word true memory after =
    written_mode m new (flag_change word) memory after refl
loaded_by m new word false memory after = ap (λ (n : Memory). mode (state n)) after

loaded_mode : (m new : Memory) (word : ℕ) → IsMemory m →
    IsAfter m (load_change (state m) word) new → SameMode m new
loaded_mode m new word memory after = loaded_by m new word (needs_flag (state m) word) memory after

-- a step in the task
task_mode : (m new : Memory) (before after : Cpu) (turn : Turn) (made : Move) → IsMemory m →
    Makes task_view before after m new turn made → SameMode m new
task_mode m new before after turn (Move.goes next) memory makes =
    ap (λ (n : Memory). mode (state n)) makes.view
task_mode m new before after turn (Move.loads word next) memory makes =
    loaded_mode m new word memory makes.view
task_mode m new before after (Went None) (Move.stores word value next) memory makes =
    stored_mode log.Task m new word value before.part true memory makes.view
task_mode m new before after (Went (Some reading)) (Move.stores word value next) memory makes =
    absurd makes
task_mode m new before after Storing (Move.stores word value next) memory makes =
    stored_mode log.Task m new word value before.part false memory makes.view
task_mode m new before after (Ended ending) (Move.stores word value next) memory makes =
    absurd makes
task_mode m new before after turn (Move.ends ending) memory makes =
    ap (λ (n : Memory). mode (state n)) makes.view

-- a step in the bottom half
bottom_mode : (m new : Memory) (before after : Cpu) (turn : Turn) (made : Move) → IsMemory m →
    Makes bottom_view before after m new turn made → SameMode m new
bottom_mode m new before after turn (Move.goes next) memory makes =
    ap (λ (n : Memory). mode (state n)) makes.view
bottom_mode m new before after turn (Move.loads word next) memory makes =
    ap (λ (n : Memory). mode (state n)) makes.view
bottom_mode m new before after (Went None) (Move.stores word value next) memory makes =
    stored_mode (head_log (state m)) m new word value before.part true memory makes.view
bottom_mode m new before after (Went (Some reading)) (Move.stores word value next) memory makes =
    absurd makes
bottom_mode m new before after Storing (Move.stores word value next) memory makes =
    stored_mode (head_log (state m)) m new word value before.part false memory makes.view
bottom_mode m new before after (Ended ending) (Move.stores word value next) memory makes =
    absurd makes
bottom_mode m new before after turn (Move.ends ending) memory makes =
    ap (λ (n : Memory). mode (state n)) makes.view

run_mode : (program : Program) (old : Device) (before after : Cpu) (left : ℕ) (image : Memory)
    (turn : Turn) →
    FollowingGoesOn → Fits program old → old.phase ≡ Run before left →
    before.body ≡ Task (current (state old.image)) →
    IsStep task_view (program_code program) before after old.image image turn →
    SameMode old.image image
run_mode program old before after left image turn follows fits running body step =
    let m = old.image in
    let here = running_of program old before left (current (state m)) fits running body in
    let can = can_step task_view follows (program_code program) before m here.left
    here.under_way.rest here.under_way.on_course in
    task_mode m image before after turn (move_of can.0 (state_of before)) fits.memory.memory
    (step.makes can.0 can.1.starts)

run_bottom_mode : (program : Program) (old : Device) (before after : Cpu) (left : ℕ)
    (image : Memory) (turn : Turn) →
    FollowingGoesOn → Fits program old → old.phase ≡ Run before left →
    before.body ≡ Bottom (head_entry (state old.image)).event →
    IsStep bottom_view (program_code program) before after old.image image turn →
    SameMode old.image image
run_bottom_mode program old before after left image turn follows fits running body step =
    let m = old.image in
    let here : IsInBottom program (program_code program) m
    (standing_of program old.history.marks).rest old.attempt.items before left =
    running_in program old before left (Bottom (head_entry (state m)).event) fits running body in
    let can = can_step bottom_view follows (program_code program) before m here.left
    here.under_way.rest here.under_way.on_course in
    bottom_mode m image before after turn (move_of can.0 (state_of before)) fits.memory.memory
    (step.makes can.0 can.1.starts)

aborted_by : (m new : Memory) (is_open : Bool) → IsMemory m →
    IsAfter m (if is_open then Some doom_change else None) new → SameMode m new
aborted_by m new true memory after = written_mode m new doom_change memory after refl
aborted_by m new false memory after = ap (λ (n : Memory). mode (state n)) after

-- the device's image is that of the row
of_image : (old new : Device) (image : Memory) → new.image ≡ image → SameMode old.image image →
    SameMode old.image new.image
of_image old new image is same = ap (λ (n : Memory). mode (state n)) is ∙ same

image_of : (one other : Device) → one ≡ other → one.image ≡ other.image
image_of one other is = ap (λ (d : Device). d.image) is

pub mode_kept : FollowingGoesOn → (program : Program) (old new : Device) → Fits program old →
    Rows program old new → mode (state new.image) ≡ mode (state old.image)
mode_kept follows program old new fits row =
    let m = old.image in
    let memory = fits.memory.memory in
    elim row [
      | applies change image next wrote is ↦ of_image old new image (image_of new _ is)
          (written_mode m image change memory wrote
          (applying_leaves_mode (state m) change fits.memory.range fits.memory.closed next))
      | undoes change image clear next wrote is ↦ of_image old new image (image_of new _ is)
          (written_mode m image change memory wrote
          (undoing_leaves_mode (state m) change clear next))
      | sleeps chooses halted is ↦ of_image old new m (image_of new _ is) refl
      | empties image chooses on some wrote is ↦ of_image old new image (image_of new _ is)
          (written_mode m image _ memory wrote refl)
      | unflags change image chooses on none buffi next wrote is ↦
          of_image old new image (image_of new _ is)
          (written_mode m image change memory wrote
          (flags_go (state m) change fits.memory.range fits.memory.closed next).same_mode)
      | starts cpu chooses on none unset start is ↦ of_image old new m (image_of new _ is) refl
      | runs before after left image turn running body clear step is ↦
          of_image old new image (image_of new _ is)
          (run_mode program old before after left image turn follows fits running body step)
      | prepares place image ends other wrote is ↦ of_image old new image (image_of new _ is)
          (written_mode m image _ memory wrote refl)
      | joins place image ends there inside wrote is ↦ of_image old new image (image_of new _ is)
          (written_mode m image _ memory wrote refl)
      | commits place image ends there outside wrote is ↦
          of_image old new image (image_of new _ is)
          (written_mode m image _ memory wrote refl)
      | empties_entry image chooses some wrote is ↦ of_image old new image (image_of new _ is)
          (written_mode m image _ memory wrote refl)
      | starts_bottom cpu chooses none start is ↦ of_image old new m (image_of new _ is) refl
      | runs_bottom before after left image turn running body clear events step is ↦
          of_image old new image (image_of new _ is)
          (run_bottom_mode program old before after left image turn follows fits running body step)
      | prepares_event image ends other wrote is ↦ of_image old new image (image_of new _ is)
          (written_mode m image _ memory wrote refl)
      | commits_event image ends follows_head wrote is ↦
          of_image old new image (image_of new _ is)
          (written_mode m image _ memory wrote refl)
      | aborts word image draining clash after is ↦ of_image old new image (image_of new _ is)
          (aborted_by m image (opened (state m) == 1) memory after)
      | prepares_drain image free other wrote is ↦ of_image old new image (image_of new _ is)
          (written_mode m image _ memory wrote refl)
      | drains image free follows_head wrote is ↦ of_image old new image (image_of new _ is)
          (written_mode m image _ memory wrote refl)
    ]
