-- The rows of a held event's commit in mode buffi, and of the abort that it may cause.
use Rattle.std.proofs.Common.{◌≡◌, ℕ, ◌+◌, ◌==◌, Bool, true, false, refl, sym, subst}
use Rattle.buffi_sets.specs.Conflict.{IsConflict}
use Rattle.buffi_sets.specs.Undo.{doom_change}
use Rattle.nv_memory.specs.Ring.{position_after}
use Rattle.nv_memory.specs.Seats.{Memory}
use Rattle.nv_memory.specs.State.{set_to, state}
use Rattle.nv_memory.specs.Words.{current, head, head_next, mark_seat, opened}
use Rattle.serial_log.specs.declared.unit.Unit.{Unit as Committed}
use Rattle.serial_log.specs.History.{Past}
use Rattle.task_syntax.specs.declared.program.Program.{Program}
use Rattle.task_syntax.specs.Units.{transaction_of}
use Rattle.word_code.specs.Code.{Bodies}
use Rattle.coati_device.specs.declared.device.Device.{Device}
use Rattle.coati_device.specs.declared.device.Phase.TheVariants.{Choose}
use Rattle.coati_device.specs.Kept.{Kept, emptied, unit_of, with_abort, with_event}
use Rattle.coati_device.specs.Rows.{Drains, DrainsFreely, IsRow, abort_change, has_attempt, head_entry, oldest_posting, tasks_given_up}
use Rattle.coati_device.specs.Rows.IsRow.{aborts, drains}
use Rattle.coati_device.specs.TaskView.{HasWritten, IsAfter}
use Rattle.coati_device.specs.Waits.{Waits, first_read, without_first}

-- an open transaction is to be undone
pub after_doom : (old new : Memory) → (opened (state old) == 1) ≡ true →
    HasWritten old doom_change new → IsAfter old (abort_change (state old)) new
after_doom old new open_ wrote = rw open_ wrote

-- a lone attempt isn't
pub without_doom : (m : Memory) → (opened (state m) == 1) ≡ false →
    IsAfter m (abort_change (state m)) m
without_doom m closed = rw closed refl

-- the tasks that had run, with the attempt or without it
pub given_up_with : (d : Device) (attempt : Bool) → attempt ≡ has_attempt d.phase →
    attempt ≡ true → d.finished + 1 ≡ tasks_given_up d
given_up_with d attempt is has = rw (sym is, has) refl

pub given_up_without : (d : Device) (attempt : Bool) → attempt ≡ has_attempt d.phase →
    attempt ≡ false → d.finished ≡ tasks_given_up d
given_up_without d attempt is none = rw (sym is, none) refl

-- the unit is given up
pub aborts_row : (program : Program) (code : Bodies) (d : Device) (image : Memory) (past : Past)
    (unit attempt : Kept) (has : Bool) (word tasks posting : ℕ) (given : Committed) →
    Drains d → has ≡ has_attempt d.phase → IsConflict (state d.image) has word →
    IsAfter d.image (abort_change (state d.image)) image →
    given ≡ unit_of (transaction_of program (current (state d.image))) (current (state d.image)) →
    tasks ≡ tasks_given_up d → posting ≡ oldest_posting d →
    past ≡ with_abort d.history given tasks posting word (d.clock + 1) →
    unit ≡ emptied d.unit → attempt ≡ emptied d.attempt →
    IsRow program code d (record d {
      image = image;
      history = past;
      unit = unit;
      finished = 0;
      attempt = attempt;
      phase = Choose;
    })
aborts_row program code d image past unit attempt has word tasks posting given draining is conflict
    after given_is tasks_is posting_is past_is unit_is attempt_is =
    aborts word image draining
    (subst (λ (b : Bool). IsConflict (state d.image) b word) is conflict)
    after (rw (past_is, given_is, tasks_is, posting_is, unit_is, attempt_is) refl)

-- the event is committed
pub drains_row : (program : Program) (code : Bodies) (d : Device) (image : Memory) (past : Past)
    (waits : Waits) (event posting : ℕ) → DrainsFreely d →
    head_next (state d.image) ≡ position_after d.image.k (head (state d.image)) →
    HasWritten d.image (set_to mark_seat 3) image → event ≡ (head_entry (state d.image)).event →
    posting ≡ oldest_posting d →
    past ≡ with_event d.history event posting (first_read d.waiting.events) (d.clock + 1) →
    waits ≡ without_first d.waiting →
    IsRow program code d (record d { image = image; history = past; waiting = waits })
drains_row program code d image past waits event posting free prepared written event_is posting_is
    past_is waits_is =
    drains image free prepared written (rw (past_is, event_is, posting_is, waits_is) refl)
