-- Where a handler is, and how each of its steps but the last brings it further.
use Rattle.std.proofs.Common.{◌≡◌, ◌≢◌, ℕ, ◌+◌, ◌-◌, ◌≤◌, List, [], ◌∷◌, ◌++◌, true, false, Some, None, refl, sym, ap, subst, ◌∙◌, append-nil, arith, length, length-append}
use Rattle.std.specs.Prelude.{slice_get}
use Rattle.coati_word.specs.declared.ending.Ending.{Ending}
use Rattle.coati_word.specs.declared.reading.Reading.{Reading}
use Rattle.task_syntax.specs.declared.body.BodyId.TheVariants as body
use Rattle.task_syntax.specs.declared.program.Event.{Event}
use Rattle.task_syntax.specs.declared.program.Program.{Program}
use Rattle.task_syntax.specs.Course.{Store}
use Rattle.task_syntax.specs.CourseLaws.{AccessesJoinUp, CoursesUnderWayGoOn, LastWritesTellTheStore}
use Rattle.task_syntax.specs.Events.{message}
use Rattle.task_check.specs.Accepted.{IsAccepted}
use Rattle.task_cost.specs.Bodies.{bottom_cost}
use Rattle.nv_memory.specs.Seats.{Memory}
use Rattle.nv_memory.specs.State.{state}
use Rattle.nv_memory.specs.Words.{mode}
use Rattle.task_buffer.specs.StoreLaws.{StoresSetTheValue}
use Rattle.buffi_sets.specs.View.{HandlersReadBehindHeldEvents}
use Rattle.event_buffer.specs.Fill.{fill_change, tail_slot}
use Rattle.event_buffer.specs.FillLaws.{AllPartsAreThePosting, LogsAreInTheirEntries, NoPartStandsAtFirst, PartsFillTheSlot, TailEntryIsFree}
use Rattle.event_buffer.specs.TurnLaws.{AcceptsAddTheNewest}
use Rattle.codegen.specs.Bodies.{program_code}
use Rattle.codegen.specs.ProgramLaws.{BottomHalvesComputeTheirCourse}
use Rattle.serial_log.specs.Standing.{Standing}
use Rattle.word_code.specs.FollowingLaws.{FollowingGoesOn}
use Rattle.word_code.specs.InstructionLaws.{DecodedIsEncoded}
use Rattle.word_cpu.specs.declared.cpu.Cpu.{Cpu}
use Rattle.word_cpu.specs.declared.turn.Turn.{Turn}
use Rattle.word_cpu.specs.declared.turn.Turn.TheVariants.{Went, Storing, Ended}
use Rattle.word_cpu.specs.OnCourse.{read_by}
use Rattle.word_cpu.specs.Turning.{IsStep}
use Rattle.word_cpu.specs.UnderWay.{IsAtStart}
use Rattle.coati_device.specs.declared.device.Device.{Device}
use Rattle.coati_device.specs.declared.hand.Hand.{Hand}
use Rattle.coati_device.specs.declared.hand.Hand.TheVariants.{Top, Fill, Accept, Over}
use Rattle.coati_device.specs.declared.hand.Hand.TheVariants as hands
use Rattle.coati_device.specs.HandlerView.{handler_view}
use Rattle.coati_device.specs.OpenUnit.{has_unit}
use Rattle.coati_device.specs.Points.{reads_of}
use Rattle.coati_device.specs.Raises.{IsHandStep, after_bottom, after_top, is_last_part}
use Rattle.coati_device.specs.Raises.IsHandStep.{tops, fills, fills_last, begins_bottom, bottoms, accepts}
use Rattle.coati_device.specs.TaskView.{HasWritten}
use Rattle.coati_device.specs.Waits.{Waits, waits_after}
use Rattle.coati_device.proofs.AcceptedEvents.{behind_events}
use Rattle.coati_device.proofs.HandlerHalves.{HasRunIn, IsInHandler, IsReadyAtTail, LeadsIn, bottom_leads_on, starts_in_handler, step_touches}
use Rattle.coati_device.proofs.HandlerWords.{handler_at_start}
use Rattle.coati_device.proofs.HandlerWrites.{Around, IsOpen, IsStill, IsWhole, all_filled, fill_keeps, whole_filled, whole_touched}
use Rattle.coati_device.proofs.HeadEntry.{MessagesFit}
use Rattle.coati_device.proofs.Tests.{other_by_test, same_by_test}
use Rattle.coati_device.proofs.TopHalves.{IsInTop, LeadsOn, top_leads_on}

-- the laws of the layers below that a handler's steps rest on
pub record AreLaws : Type 0 where
  pub joins : AccessesJoinUp
  pub courses : CoursesUnderWayGoOn Ending
  pub lasts : LastWritesTellTheStore
  pub follows : FollowingGoesOn
  pub decodes : DecodedIsEncoded
  pub bottoms_compute : BottomHalvesComputeTheirCourse
  pub messages : MessagesFit
  pub stores : StoresSetTheValue
  pub behind : HandlersReadBehindHeldEvents
  pub first : NoPartStandsAtFirst
  pub parts : PartsFillTheSlot
  pub all_parts : AllPartsAreThePosting
  pub logs : LogsAreInTheirEntries
  pub free : TailEntryIsFree
  pub adds : AcceptsAddTheNewest

-- a posting's handler on a device: the number and the declaration of its event, and its argument
pub record Handler : Type 0 where
  pub program : Program
  pub number : ℕ
  pub event : Event
  pub argument : ℕ
  pub standing : Standing
  pub start : Device

abbrev pub message_by : Handler → List ℕ
message_by h = message h.program h.event h.argument

-- what it finds
abbrev pub around_of : Handler → Around
around_of h = record {
  program = h.program;
  code = program_code h.program;
  reads = reads_of h.start;
  phase = h.start.phase;
  opened = has_unit (state h.start.image);
  mode = mode (state h.start.image);
}

-- what the events held before it leave
abbrev pub base_of : Handler → Store
base_of h = behind_events h.program h.standing.rest h.standing.run.store

-- memory as the handler has it, with so many parts of its posting written
abbrev pub HasParts : Handler → ℕ → Memory → Type 0
HasParts h part m =
    IsOpen (around_of h) h.standing h.start.waiting.events h.number (message_by h) part m

-- and with all of them
abbrev pub HasAll : Handler → Memory → Type 0
HasAll h m = IsWhole (around_of h) h.standing h.start.waiting.events h.number (message_by h) m

-- memory fits with this standing and these kept readings
abbrev pub FitsStill : Handler → Standing → List (List Reading) → Memory → Type 0
FitsStill h standing events m = IsStill (around_of h) standing events m

-- in the top half, with so many steps left at most
pub record IsAtTop (h : Handler) (cpu : Cpu) (words : List ℕ) (steps : ℕ)
    (m : Memory) : Type 0 where
  pub left : ℕ
  pub in_top : IsInTop h.program h.event h.argument cpu words left
  pub in_time : left + bottom_cost h.program h.event + 9 ≤ steps
  pub has_parts : HasParts h 0 m

-- at a part of the posting
pub record IsAtPart (h : Handler) (words : List ℕ) (part steps : ℕ) (m : Memory) : Type 0 where
  pub message : words ≡ message_by h
  pub short : length (message_by h) ≤ 4
  pub low : part ≤ length (message_by h) + 1
  pub in_time : length (message_by h) + bottom_cost h.program h.event + 4 ≤ steps + part
  pub has_parts : HasParts h part m

-- in the bottom half, which has read this
pub record IsAtBottom (h : Handler) (cpu : Cpu) (steps : ℕ) (m : Memory) (made : List Reading)
    : Type 0 where
  pub left : ℕ
  pub in_bottom : IsInHandler h.program h.number h.argument (base_of h) cpu left m made
  pub in_time : left + 2 ≤ steps
  pub has_all : HasAll h m

-- at the write that accepts it: in buffi its event has run
pub record IsAtAccept (h : Handler) (steps : ℕ) (m : Memory) (made : List Reading) : Type 0 where
  pub in_time : 1 ≤ steps
  pub has_all : HasAll h m
  pub has_run : mode (state m) ≡ 1 → HasRunIn h.program h.number h.argument (base_of h) m made

abbrev pub IsAt : Handler → Hand → ℕ → Memory → List Reading → Type 0
IsAt h (Top cpu words) steps m made = IsAtTop h cpu words steps m
IsAt h (Fill words part) steps m made = IsAtPart h words part steps m
IsAt h (hands.Bottom cpu) steps m made = IsAtBottom h cpu steps m made
IsAt h Accept steps m made = IsAtAccept h steps m made
IsAt h Over steps m made = ⊥

-- a step is left, and memory fits
pub record CanGoOn (h : Handler) (steps : ℕ) (m : Memory) : Type 0 where
  pub some : 1 ≤ steps
  pub still : FitsStill h h.standing h.start.waiting.events m

pub can_go_on : (h : Handler) (hand : Hand) (steps : ℕ) (m : Memory) (made : List Reading)
    → IsAt h hand steps m made → CanGoOn h steps m
can_go_on h (Top cpu words) steps m made at = record {
  some = let t = at.in_time in omega (arith, t);
  still = at.has_parts.has_room.still;
}
can_go_on h (Fill words part) steps m made at = record {
  some = let t = at.in_time in let l = at.low in omega (arith, t, l);
  still = at.has_parts.has_room.still;
}
can_go_on h (hands.Bottom cpu) steps m made at = record {
  some = let t = at.in_time in omega (arith, t);
  still = at.has_all.has_room.still;
}
can_go_on h Accept steps m made at =
    record { some = at.in_time; still = at.has_all.has_room.still }
can_go_on h Over steps m made at = absurd at

-- what a step in the bottom half has read comes behind what was read
read_more : (waits : Waits) (turn : Turn)
    → (waits_after waits turn).made ≡ waits.made ++ read_by turn
read_more waits (Went None) = sym (append-nil waits.made)
read_more waits (Went (Some reading)) = refl
read_more waits Storing = sym (append-nil waits.made)
read_more waits (Ended ending) = sym (append-nil waits.made)

module _ (laws : AreLaws) (h : Handler) where
  behind_top : (cpu : Cpu) (words : List ℕ) (turn : Turn) (left steps : ℕ) (m : Memory)
      (made : List Reading) → left + bottom_cost h.program h.event + 9 ≤ steps → HasParts h 0 m
      → LeadsOn h.program h.event h.argument left cpu words turn
      → IsAt h (after_top cpu words turn) (steps - 1) m made
  behind_top cpu words (Went reading) left steps m made time has_parts leads =
      let less = leads.1 in
      record {
        left = leads.0;
        in_top = leads.2;
        in_time = omega (arith, less, time);
        has_parts = has_parts;
      }
  behind_top cpu words Storing left steps m made time has_parts leads =
      let less = leads.1 in
      record {
        left = leads.0;
        in_top = leads.2;
        in_time = omega (arith, less, time);
        has_parts = has_parts;
      }
  behind_top cpu words (Ended ending) left steps m made time has_parts given =
      let short : length (message_by h) ≤ 4 =
      subst (λ (list : List ℕ). length list ≤ 4) given.message given.short in
      record {
        message = given.message;
        short = short;
        low = omega arith;
        in_time = omega (arith, short, time);
        has_parts = has_parts;
      }

  -- a part was written
  part_written : (words : List ℕ) (part steps : ℕ) (m new : Memory)
      → IsAtPart h words part steps m
      → HasWritten m (fill_change (tail_slot (state m)) h.number words part) new
      → HasParts h (part + 1) new
  part_written words part steps m new at wrote =
      fill_keeps laws.courses (around_of h) h.standing h.start.waiting.events h.number
      (message_by h) m new laws.parts laws.free part at.has_parts
      (subst (λ (given : List ℕ). HasWritten m
      (fill_change (tail_slot (state m)) h.number given part) new) at.message wrote)

  behind_part : (words : List ℕ) (part steps : ℕ) (m new : Memory)
      → is_last_part words part ≡ false → IsAtPart h words part steps m
      → HasParts h (part + 1) new → IsAtPart h words (part + 1) (steps - 1) new
  behind_part words part steps m new more at has_parts =
      let other = other_by_test part (length words + 1) more in
      let same : length words ≡ length (message_by h) = ap length at.message in
      let low = at.low in
      let time = at.in_time in
      record {
        message = at.message;
        short = at.short;
        low = omega (arith, low, other, same);
        in_time = omega (arith, time, low);
        has_parts = has_parts;
      }

  -- it was the last one
  behind_last : (words : List ℕ) (part steps : ℕ) (m new : Memory)
      → is_last_part words part ≡ true → IsAtPart h words part steps m
      → HasParts h (part + 1) new → HasParts h (length (message_by h) + 2) new
  behind_last words part steps m new last at has_parts =
      let here = same_by_test part (length words + 1) last in
      let same : length words ≡ length (message_by h) = ap length at.message in
      let all : part + 1 ≡ length (message_by h) + 2 = omega (arith, here, same) in
      subst (λ (parts : ℕ). HasParts h parts new) all has_parts

  time_behind_last : (words : List ℕ) (part steps : ℕ) (m : Memory)
      → is_last_part words part ≡ true → IsAtPart h words part steps m
      → bottom_cost h.program h.event + 2 ≤ steps - 1
  time_behind_last words part steps m last at =
      let here = same_by_test part (length words + 1) last in
      let same : length words ≡ length (message_by h) = ap length at.message in
      let time = at.in_time in
      omega (arith, here, same, time)

  all_written : (m : Memory) → length (message_by h) ≤ 4
      → HasParts h (length (message_by h) + 2) m → HasAll h m
  all_written m short has_parts =
      whole_filled laws.all_parts (around_of h) h.standing h.start.waiting.events h.number
      (message_by h) m short has_parts

  -- no mode but buffi runs the event here
  accepts_next : (words : List ℕ) (part steps : ℕ) (m new : Memory) (made : List Reading)
      → is_last_part words part ≡ true → mode (state m) ≢ 1 → IsAtPart h words part steps m
      → HasParts h (part + 1) new → IsAtAccept h (steps - 1) new made
  accepts_next words part steps m new made last other at has_parts =
      let all = behind_last words part steps m new last at has_parts in
      let time = time_behind_last words part steps m last at in
      let same : mode (state new) ≡ mode (state m) =
      all.has_room.still.mode ∙ sym at.has_parts.has_room.still.mode in
      record {
        in_time = omega (arith, time);
        has_all = all_written new at.short all;
        has_run = λ buffi. absurd (other (sym same ∙ buffi));
      }

  module _ (accepted : IsAccepted h.program)
      (declared : slice_get h.program.events h.number ≡ Some h.event) where
    -- in buffi the bottom half starts
    begins_next : (words : List ℕ) (part steps : ℕ) (m new : Memory) (cpu : Cpu)
        → is_last_part words part ≡ true → mode (state m) ≡ 1 → IsAtPart h words part steps m
        → HasParts h (part + 1) new → IsAtStart (body.Bottom h.number) words cpu
        → IsAtBottom h cpu (steps - 1) new []
    begins_next words part steps m new cpu last buffi at has_parts start =
        let all = behind_last words part steps m new last at has_parts in
        let still = all.has_room.still in
        let fit = still.fit in
        let now : mode (state new) ≡ 1 =
        still.mode ∙ sym at.has_parts.has_room.still.mode ∙ buffi in
        let posting =
        all_filled laws.all_parts (around_of h) h.standing h.start.waiting.events h.number
        (message_by h) new at.short all in
        record {
          left = bottom_cost h.program h.event;
          in_bottom =
              starts_in_handler laws.bottoms_compute laws.messages h.program h.number h.argument
              h.event (base_of h) cpu new accepted declared fit.memory.words
              (subst (λ (given : List ℕ). IsAtStart (body.Bottom h.number) given cpu) at.message
              start) posting.empty
              (handler_at_start laws.behind laws.lasts h.program new h.standing
              h.start.waiting.events fit.memory.range now fit.stands still.events posting.empty);
          in_time = time_behind_last words part steps m last at;
          has_all = all_written new at.short all;
        }

  -- a step in the bottom half
  behind_bottom : (before after : Cpu) (turn : Turn) (steps : ℕ) (m new : Memory)
      (made : List Reading) (at : IsAtBottom h before steps m made) → HasAll h new
      → LeadsIn h.program h.number h.argument (base_of h) at.left m new made after turn
      → IsAt h (after_bottom after turn) (steps - 1) new (made ++ read_by turn)
  behind_bottom before after (Went reading) steps m new made at has_all leads =
      let less = leads.1 in
      let time = at.in_time in
      record {
        left = leads.0;
        in_bottom = leads.2;
        in_time = omega (arith, less, time);
        has_all = has_all;
      }
  behind_bottom before after Storing steps m new made at has_all leads =
      let less = leads.1 in
      let time = at.in_time in
      record {
        left = leads.0;
        in_bottom = leads.2;
        in_time = omega (arith, less, time);
        has_all = has_all;
      }
  behind_bottom before after (Ended ending) steps m new made at has_all ran =
      let time = at.in_time in
      record {
        in_time = omega (arith, time);
        has_all = has_all;
        has_run = λ buffi. ran;
      }

  bottom_goes_on : (before after : Cpu) (image : Memory) (turn : Turn) (steps : ℕ) (m : Memory)
      (waits : Waits) → IsAtBottom h before steps m waits.made
      → IsStep handler_view (program_code h.program) before after m image turn
      → IsAt h (after_bottom after turn) (steps - 1) image (waits_after waits turn).made
  bottom_goes_on before after image turn steps m waits at step =
      let program = h.program in
      let still = at.has_all.has_room.still in
      let ready : IsReadyAtTail m = record {
        memory = still.fit.memory.memory;
        range = still.fit.memory.range;
        room = at.has_all.has_room.room;
      } in
      let touches =
      step_touches laws.joins laws.courses laws.follows laws.stores laws.logs laws.free program
      h.number h.argument (base_of h) before after at.left m image waits.made ready at.in_bottom
      turn step in
      let has_all =
      whole_touched laws.courses (around_of h) h.standing h.start.waiting.events h.number
      (message_by h) m image touches.0 touches.1 at.has_all in
      let leads =
      bottom_leads_on laws.joins laws.courses laws.follows laws.stores laws.logs laws.free program
      h.number h.argument (base_of h) before after at.left m image waits.made ready at.in_bottom
      turn step in
      subst (λ (made : List Reading). IsAt h (after_bottom after turn) (steps - 1) image made)
      (sym (read_more waits turn))
      (behind_bottom before after turn steps m image waits.made at has_all leads)

module _ (laws : AreLaws) (h : Handler) (accepted : IsAccepted h.program)
    (declared : slice_get h.program.events h.number ≡ Some h.event) where
  -- a step that isn't the last
  pub step_goes_on : (hand next : Hand) (d mid : Device) (steps : ℕ)
      → IsAt h hand steps d.image d.waiting.made
      → IsHandStep (program_code h.program) h.number hand d next mid → next ≢ Over
      → IsAt h next (steps - 1) mid.image mid.waiting.made
  step_goes_on hand next d mid steps at (tops before after words changed turn is step same to)
      other =
      let here = subst (λ (one : Hand). IsAt h one steps d.image d.waiting.made) is at in
      let leads =
      top_leads_on laws.joins laws.courses laws.follows laws.decodes h.program h.event h.argument
      before after words changed
      here.left here.in_top turn step in
      rw (to, same) (behind_top laws h after changed turn here.left steps d.image d.waiting.made
      here.in_time here.has_parts leads)
  step_goes_on hand next d mid steps at (fills words part image is more wrote same to) other =
      let here = subst (λ (one : Hand). IsAt h one steps d.image d.waiting.made) is at in
      rw (to, same) (behind_part laws h words part steps d.image image more here
      (part_written laws h words part steps d.image image here wrote))
  step_goes_on hand next d mid steps at (fills_last words part image is last split wrote same to)
      other =
      let here = subst (λ (one : Hand). IsAt h one steps d.image d.waiting.made) is at in
      rw (to, same) (accepts_next laws h words part steps d.image image d.waiting.made last split
      here (part_written laws h words part steps d.image image here wrote))
  step_goes_on hand next d mid steps at
      (begins_bottom words part image cpu is last buffi wrote start same to) other =
      let here = subst (λ (one : Hand). IsAt h one steps d.image d.waiting.made) is at in
      rw (to, same) (begins_next laws h accepted declared words part steps d.image image cpu last
      buffi here (part_written laws h words part steps d.image image here wrote) start)
  step_goes_on hand next d mid steps at (bottoms before after image turn is step same to) other =
      let here = subst (λ (one : Hand). IsAt h one steps d.image d.waiting.made) is at in
      rw (to, same) (bottom_goes_on laws h before after image turn steps d.image d.waiting here
      step)
  step_goes_on hand next d mid steps at (accepts image is wrote same to) other = absurd (other to)

-- what a step that doesn't accept leaves of the kept readings
pub record LeavesWaits (old new : Waits) : Type 0 where
  pub events : new.events ≡ old.events
  pub places : new.places ≡ old.places
  pub room : old.room ≤ new.room + 1
  pub made : length new.made ≤ length old.made + 1

waits_same : (waits : Waits) → LeavesWaits waits waits
waits_same waits =
    record { events = refl; places = refl; room = omega arith; made = omega arith }

waits_read : (waits : Waits) (turn : Turn) → LeavesWaits waits (waits_after waits turn)
waits_read waits (Went None) = waits_same waits
waits_read waits (Went (Some reading)) =
    let longer = length-append waits.made (reading ∷ []) in
    record { events = refl; places = refl; room = omega arith; made = omega (arith, longer) }
waits_read waits Storing = waits_same waits
waits_read waits (Ended ending) = waits_same waits

-- such a step changes memory and the kept readings alone
pub record LeavesRest (d mid : Device) : Type 0 where
  pub same : mid ≡ record d { image = mid.image; waiting = mid.waiting }
  pub waits : LeavesWaits d.waiting mid.waiting

module _ (h : Handler) where
  pub step_leaves : (hand next : Hand) (d mid : Device)
      → IsHandStep (program_code h.program) h.number hand d next mid → next ≢ Over
      → LeavesRest d mid
  step_leaves hand next d mid (tops before after words changed turn is step same to) other =
      rw same (record { same = refl; waits = waits_same d.waiting })
  step_leaves hand next d mid (fills words part image is more wrote same to) other =
      rw same (record { same = refl; waits = waits_same d.waiting })
  step_leaves hand next d mid (fills_last words part image is last split wrote same to) other =
      rw same (record { same = refl; waits = waits_same d.waiting })
  step_leaves hand next d mid
      (begins_bottom words part image cpu is last buffi wrote start same to) other =
      rw same (record {
        same = refl;
        waits =
            record { events = refl; places = refl; room = omega arith; made = omega arith };
      })
  step_leaves hand next d mid (bottoms before after image turn is step same to) other =
      rw same (record { same = refl; waits = waits_read d.waiting turn })
  step_leaves hand next d mid (accepts image is wrote same to) other = absurd (other to)
