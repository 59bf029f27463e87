-- The row of an event's commit.
use Rattle.std.proofs.Common.{◌≡◌, ℕ, ◌+◌, ◌-◌, refl}
use Rattle.nv_memory.specs.Ring.{held_count, position_after}
use Rattle.nv_memory.specs.Seats.{Memory}
use Rattle.nv_memory.specs.State.{set_to, state}
use Rattle.nv_memory.specs.Words.{head, head_next, mark_seat}
use Rattle.serial_log.specs.History.{Past}
use Rattle.task_syntax.specs.declared.program.Program.{Program}
use Rattle.word_code.specs.Code.{Bodies}
use Rattle.coati_device.specs.declared.device.Device.{Device}
use Rattle.coati_device.specs.declared.device.Phase.TheVariants.{Choose}
use Rattle.coati_device.specs.Kept.{Kept, emptied, with_event}
use Rattle.coati_device.specs.Rows.{EndsBottom, IsRow, head_entry}
use Rattle.coati_device.specs.Rows.IsRow.{commits_event}
use Rattle.coati_device.specs.TaskView.{HasWritten}

-- what is told is told of the entry at the head
pub commits_event_row : (program : Program) (code : Bodies) (d : Device) (image : Memory)
    (past : Past) (attempt : Kept) (event posting : ℕ) →
    EndsBottom d → head_next (state d.image) ≡ position_after d.image.k (head (state d.image)) →
    HasWritten d.image (set_to mark_seat 3) image → event ≡ (head_entry (state d.image)).event →
    posting ≡ d.accepted + 1 - held_count (state d.image) →
    past ≡ with_event d.history event posting d.attempt.items (d.clock + 1) →
    attempt ≡ emptied d.attempt →
    IsRow program code d (record d
    { image = image; history = past; attempt = attempt; phase = Choose })
commits_event_row program code d image past attempt event posting ends prepared written event_is
    posting_is past_is attempt_is =
    commits_event image ends prepared written (rw (past_is, event_is, posting_is, attempt_is) refl)
