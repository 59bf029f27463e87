-- What a raised posting comes to. Where the buffer is full it is refused at once. Else its handler
-- runs, one machine step after another, each with its time, up to the write that accepts the
-- posting, or to the cut of power that loses it. In mode buffi the bottom half runs in the handler
-- too.
use Rattle.std.specs.Prelude.{ℕ, ◌+◌, ◌-◌, ◌==◌, ◌≡◌, ◌≢◌, Bool, List, [], ◌∷◌, length, replicate, true, false, if◌then◌else◌}
use Rattle.task_syntax.specs.declared.program.Program.{Program}
use Rattle.task_syntax.specs.declared.body.BodyId.TheVariants as body
use Rattle.task_syntax.specs.Events.{message_of}
use Rattle.task_syntax.specs.Names.{word_count}
use Rattle.serial_log.specs.declared.posted.Answer.{Answer}
use Rattle.serial_log.specs.declared.posted.Answer.TheVariants.{Accepted, Full, Lost}
use Rattle.serial_log.specs.declared.script.Posting.{Posting}
use Rattle.nv_memory.specs.Seats.{Memory}
use Rattle.nv_memory.specs.State.{State, state}
use Rattle.nv_memory.specs.Words.{mode}
use Rattle.event_buffer.specs.Fill.{fill_change, is_full, tail_slot}
use Rattle.event_buffer.specs.TurnLaws.{accept_change}
use Rattle.word_code.specs.Code.{Bodies}
use Rattle.word_cpu.specs.declared.cpu.Cpu.{Cpu}
use Rattle.word_cpu.specs.declared.turn.Turn.{Turn}
use Rattle.word_cpu.specs.declared.turn.Turn.TheVariants.{Went, Storing, Ended}
use Rattle.word_cpu.specs.Turning.{IsStep}
use Rattle.word_cpu.specs.UnderWay.{IsAtStart}
use Rattle.coati_device.specs.declared.device.Device.{Device}
use Rattle.coati_device.specs.declared.hand.Hand.{Hand}
use Rattle.coati_device.specs.declared.hand.Hand.TheVariants.{Top, Fill, Accept, Over}
use Rattle.coati_device.specs.declared.hand.Hand.TheVariants as hands
use Rattle.coati_device.specs.Cursors.{answered, next_posting}
use Rattle.coati_device.specs.HandlerView.{handler_view}
use Rattle.coati_device.specs.ScratchView.{scratch_view}
use Rattle.coati_device.specs.TaskView.{HasWritten}
use Rattle.coati_device.specs.Ticks.{passed, ticked}
use Rattle.coati_device.specs.Waits.{Waits, begun, waits_after, with_made}

-- what a step of the top half makes of the handler: behind it the posting is written with the
-- message that it gave
abbrev pub after_top : Cpu → List ℕ → Turn → Hand
after_top cpu words (Went reading) = Top cpu words
after_top cpu words Storing = Top cpu words
after_top cpu words (Ended ending) = Fill (message_of ending) 0

-- what a step of the bottom half makes of it
abbrev pub after_bottom : Cpu → Turn → Hand
after_bottom cpu (Went reading) = hands.Bottom cpu
after_bottom cpu Storing = hands.Bottom cpu
after_bottom cpu (Ended ending) = Accept

-- a posting has its event, each word of its message, and an empty log for parts: this is the last
abbrev pub is_last_part : List ℕ → ℕ → Bool
is_last_part message part = part == length message + 1

-- in buffi the event of an accepted posting waits for its commit with what it has read
abbrev pub waits_held : State → Waits → Waits
waits_held s waits = if mode s == 1 then with_made waits else waits

-- one machine step of a handler of an event, before its time
pub data IsHandStep (code : Bodies) (event : ℕ) (hand : Hand) (old : Device) (next : Hand)
    (new : Device) : Type 0 where
  tops : (before after : Cpu) (words changed : List ℕ) (turn : Turn) → hand ≡ Top before words →
      IsStep scratch_view code before after words changed turn → new ≡ old →
      next ≡ after_top after changed turn →
      IsHandStep code event hand old next new
  fills : (message : List ℕ) (part : ℕ) (image : Memory) → hand ≡ Fill message part →
      is_last_part message part ≡ false →
      HasWritten old.image (fill_change (tail_slot (state old.image)) event message part) image →
      new ≡ record old { image = image } → next ≡ Fill message (part + 1) →
      IsHandStep code event hand old next new
  -- in split the posting is accepted next
  fills_last : (message : List ℕ) (part : ℕ) (image : Memory) → hand ≡ Fill message part →
      is_last_part message part ≡ true → mode (state old.image) ≢ 1 →
      HasWritten old.image (fill_change (tail_slot (state old.image)) event message part) image →
      new ≡ record old { image = image } → next ≡ Accept →
      IsHandStep code event hand old next new
  -- in buffi its bottom half starts on the message
  begins_bottom : (message : List ℕ) (part : ℕ) (image : Memory) (cpu : Cpu) →
      hand ≡ Fill message part → is_last_part message part ≡ true →
      mode (state old.image) ≡ 1 →
      HasWritten old.image (fill_change (tail_slot (state old.image)) event message part) image →
      IsAtStart (body.Bottom event) message cpu →
      new ≡ record old { image = image; waiting = begun old.waiting } →
      next ≡ hands.Bottom cpu →
      IsHandStep code event hand old next new
  bottoms : (before after : Cpu) (image : Memory) (turn : Turn) → hand ≡ hands.Bottom before →
      IsStep handler_view code before after old.image image turn →
      new ≡ record old { image = image; waiting = waits_after old.waiting turn } →
      next ≡ after_bottom after turn →
      IsHandStep code event hand old next new
  accepts : (image : Memory) → hand ≡ Accept →
      HasWritten old.image (accept_change (state old.image)) image →
      new ≡ record old {
        image = image;
        accepted = old.accepted + 1;
        waiting = waits_held (state old.image) old.waiting;
      } → next ≡ Over →
      IsHandStep code event hand old next new

module _ (code : Bodies) (event : ℕ) (first : Hand) (start : Device) where
  -- so far the handler has come by steps none of which was its last or was followed by a cut
  pub data Ran : Hand → Device → Type 0 where
    begins : Ran first start
    goes_on : {hand next : Hand} {d mid : Device} → Ran hand d →
        IsHandStep code event hand d next mid → next ≢ Over →
        mid.until ≢ 1 → Ran next (passed mid)

  -- the step that decides was made: it accepted the posting, or a cut follows another step
  pub data Handles (new : Device) (answer : Answer) : Type 0 where
    takes : (hand : Hand) (d : Device) → Ran hand d → IsHandStep code event hand d Over new →
        answer ≡ Accepted new.accepted → Handles new answer
    loses : (hand next : Hand) (d : Device) → Ran hand d → IsHandStep code event hand d next new →
        next ≢ Over →
        new.until ≡ 1 → answer ≡ Lost (new.boots + 1) → Handles new answer

-- where a handler begins: its top half on the posting's argument, with words that are all 0
abbrev pub first_hand : Program → Cpu → Hand
first_hand program cpu = Top cpu (replicate (word_count program.vars) 0)

-- a device's next posting is raised
pub data Raises (program : Program) (code : Bodies) (periods : List ℕ) (postings : List Posting)
    (device : ℕ) (old new : Device)
    (answer : Answer) : Type 0 where
  fulls : is_full (state old.image) ≡ true → answer ≡ Full →
      new ≡ answered postings device (next_posting postings old device) old.clock old.clock Full
      (record old { spare = old.spare - 1 }) →
      Raises program code periods postings device old new answer
  handles : (cpu : Cpu) (decided : Device) → is_full (state old.image) ≡ false →
      IsAtStart (body.Top (next_posting postings old device).event)
      ((next_posting postings old device).argument ∷ []) cpu →
      Handles code (next_posting postings old device).event (first_hand program cpu) old decided
      answer →
      new ≡ ticked periods (answered postings device (next_posting postings old device) old.clock
      (decided.clock + 1) answer decided) →
      Raises program code periods postings device old new answer
