-- A device's next posting is raised.
use Rattle.std.proofs.Common.{◌≡◌, ℕ, ◌+◌, ◌<◌, List, [], ◌∷◌, length, sym, ap, subst, ◌∙◌, false}
use Rattle.event_buffer.specs.Fill.{is_full}
use Rattle.nv_memory.specs.State.{state}
use Rattle.serial_log.specs.declared.posted.Answer.{Answer}
use Rattle.serial_log.specs.declared.script.Posting.{Posting}
use Rattle.serial_log.specs.History.{Past}
use Rattle.task_syntax.specs.declared.body.BodyId.TheVariants as body
use Rattle.task_syntax.specs.declared.program.Program.{Program}
use Rattle.word_code.specs.Code.{Bodies}
use Rattle.word_cpu.specs.declared.cpu.Cpu.{Cpu}
use Rattle.word_cpu.specs.UnderWay.{IsAtStart}
use Rattle.coati_device.specs.declared.cursor.Cursor.{Cursor}
use Rattle.coati_device.specs.declared.device.Device.{Device}
use Rattle.coati_device.specs.Cursors.{answered, cursor_of, next_posting}
use Rattle.coati_device.specs.Raises.{Handles, Raises, first_hand}
use Rattle.coati_device.specs.Raises.Raises.{handles}
use Rattle.coati_device.specs.Ticks.{ticked}
use Rattle.coati_board.specs.Cursors.{HasPosting}
use Rattle.coati_board.specs.Handlers.{LeavesTheRest}
use Rattle.coati_board.specs.Raising.{CanAnswer}

-- behind the handler the posting can be answered as before
pub can_answer : (postings : List Posting) (old new : Device) (number : ℕ) →
    CanAnswer postings old number → LeavesTheRest old new →
    CanAnswer postings new number
can_answer postings old new number can leaves = record {
  eight = ap (length {A = Cursor}) leaves.cursors ∙ can.eight;
  posting = subst (λ (cursors : List Cursor). HasPosting postings (cursor_of cursors number))
      (sym leaves.cursors) can.posting;
  few = can.few;
  room = subst (λ (past : Past). 0 < past.mark_room) (sym leaves.history) can.room;
}

-- a handler of a posting, to its first machine
abbrev HandlesOn : Program → Bodies → Posting → Device → Device → Answer → Type 0
HandlesOn program code posting old mid answer =
    (cpu : Cpu) × IsAtStart (body.Top posting.event) (posting.argument ∷ []) cpu × Handles code
    posting.event (first_hand program cpu) old mid answer

pub handled : (program : Program) (code : Bodies) (periods : List ℕ) (postings : List Posting)
    (number : ℕ) (old mid new : Device) (answer : Answer)
    (posting : Posting) → is_full (state old.image) ≡ false →
    posting ≡ next_posting postings old number →
    HandlesOn program code posting old mid answer →
    new ≡ ticked periods (answered postings number posting old.clock (mid.clock + 1) answer mid) →
    Raises program code periods postings number old new answer
handled program code periods postings number old mid new answer posting room is came time =
    let here = subst (λ (one : Posting). HandlesOn program code one old mid answer) is came in
    handles here.0 mid room here.1 here.2
    (time ∙ ap (λ (one : Posting). ticked periods
    (answered postings number one old.clock (mid.clock + 1) answer mid)) is)
