-- A handler on its way: it can make its next step, and there is time for it.
use Rattle.std.proofs.Common.{◌≡◌, ℕ, ◌+◌, ◌^◌, ◌<◌, ◌≤◌, List, [], ◌∷◌, length, refl, sym, ap, subst, ◌∙◌, arith, Some}
use Rattle.std.specs.Prelude.{option_map, replicate, slice_get}
use Rattle.std.proofs.lemmas.List.{length-replicate}
use Rattle.codegen.specs.Bodies.{program_code}
use Rattle.codegen.specs.CodeLaws.{BodiesStandByNumber}
use Rattle.codegen.specs.ProgramLaws.{TopHalvesComputeTheirCourse}
use Rattle.event_buffer.specs.Fill.{tail_slot}
use Rattle.nv_memory.specs.Seats.{Memory}
use Rattle.nv_memory.specs.State.{state}
use Rattle.serial_log.specs.Standing.{standing_of}
use Rattle.task_check.specs.Bodies.{bottom_half, top_half}
use Rattle.task_cost.specs.Bodies.{event_cost, top_cost}
use Rattle.task_syntax.specs.declared.body.BodyId.TheVariants as body
use Rattle.task_syntax.specs.declared.program.Event.{Event}
use Rattle.task_syntax.specs.declared.program.Program.{Program}
use Rattle.task_syntax.specs.Events.{blank_store, event_course}
use Rattle.task_syntax.specs.Names.{word_count}
use Rattle.word_code.specs.Code.{Bodies, HasBody}
use Rattle.word_cpu.specs.declared.cpu.Cpu.{Cpu}
use Rattle.word_cpu.specs.declared.turn.Turn.{Turn}
use Rattle.word_cpu.specs.declared.turn.Turn.TheVariants.{Ended, Storing, Went}
use Rattle.word_cpu.specs.Turning.{IsStep}
use Rattle.word_cpu.specs.UnderWay as machine
use Rattle.word_cpu.proofs.OnCourse.{can_step, steps_along}
use Rattle.word_cpu.proofs.UnderWay.{ready_under_way, steps_under_way}
use Rattle.coati_device.specs.declared.device.Device.{Device}
use Rattle.coati_device.specs.declared.hand.Hand.{Hand}
use Rattle.coati_device.specs.declared.hand.Hand.TheVariants.{Accept, Fill, Over, Top}
use Rattle.coati_device.specs.declared.hand.Hand.TheVariants as hands
use Rattle.coati_device.specs.HandlerView.{handler_view}
use Rattle.coati_device.specs.Raises.{IsHandStep, Ran, after_bottom, after_top, first_hand}
use Rattle.coati_device.specs.Raises.IsHandStep.{accepts, begins_bottom, bottoms, fills, fills_last, tops}
use Rattle.coati_device.specs.Raises.Ran.{begins, goes_on}
use Rattle.coati_device.specs.ScratchView.{scratch_view}
use Rattle.coati_device.specs.Waits.{Waits}
use Rattle.coati_device.proofs.HeadEntry.{event_there}
use Rattle.coati_device.proofs.HandlerSteps as steps
use Rattle.coati_device.proofs.HandlerSteps.{AreLaws, Handler, IsAt, base_of}
use Rattle.coati_device.proofs.HandlerWords.{handler_length}
use Rattle.coati_device.proofs.Handlers.{IsHandling, is_handling}
use Rattle.coati_device.proofs.TopHalves.{halves_in_bound, starts_in_top, top_course}
use Rattle.coati_board.specs.Handlers.{CanHandStep, CanHandle, IsAtHandler, LeavesTheRest}

-- a machine is in a half of an event, in the top half with so many words
abbrev IsOf : ℕ → ℕ → Hand → Type 0
IsOf event count (Top cpu words) = (cpu.body ≡ body.Top event) × (length words ≡ count)
IsOf event count (Fill words part) = Unit {0}
IsOf event count (hands.Bottom cpu) = cpu.body ≡ body.Bottom event
IsOf event count Accept = Unit {0}
IsOf event count Over = Unit {0}

-- the handler that begins
abbrev handler_at : (program : Program) (number argument : ℕ) (event : Event) (start : Device) →
    Handler
handler_at program number argument event start = record {
  program = program;
  number = number;
  event = event;
  argument = argument;
  standing = standing_of program start.history.marks;
  start = start;
}

abbrev bound_of : Program → Event → ℕ
bound_of program event = event_cost program event + 9

begins_handling : AreLaws → TopHalvesComputeTheirCourse → (program : Program)
    (number argument : ℕ) (event : Event) (start : Device) (cpu : Cpu) →
    slice_get program.events number ≡ Some event → (can : CanHandle program number start) →
    machine.IsAtStart (body.Top number) (argument ∷ []) cpu →
    IsHandling (handler_at program number argument event start) can.periods
    (bound_of program event) (first_hand program cpu) start
begins_handling laws computes program number argument event start cpu there can at = record {
  steps = bound_of program event;
  at = record {
    left = top_cost program event;
    in_top = starts_in_top computes program number event argument cpu can.accepted there at;
    in_time = omega arith;
    has_parts = record {
      has_room = record {
        still = record { fit = can.fit; unit = refl; mode = refl; events = can.events };
        room = can.room;
      };
      filled = laws.first (state start.image) (tail_slot (state start.image)) number _;
    };
  };
  same = refl;
  waited = record { events = refl; places = refl; room = omega arith; made = omega arith };
  in_time = omega arith;
  clock = omega arith;
  spare = refl;
  timed = can.timed;
}

module _ (laws : AreLaws) (h : Handler) where
  -- the step of the machine in a top half keeps how many words there are
  same_count : (cpu after : Cpu) (words changed : List ℕ) (turn : Turn) (left : ℕ) (d : Device) →
      IsAt h (Top cpu words) left d.image d.waiting.made →
      IsStep scratch_view (program_code h.program) cpu after words changed turn →
      (cpu.body ≡ body.Top h.number) × (length words ≡ word_count h.program.vars) →
      IsOf h.number (word_count h.program.vars) (after_top after changed turn)
  same_count cpu after words changed turn left d at step is = by turn step
    where
      by : (one : Turn) →
          IsStep scratch_view (program_code h.program) cpu after words changed one →
          IsOf h.number (word_count h.program.vars) (after_top after changed one)
      by (Went reading) made =
          let further =
          steps_under_way scratch_view laws.joins laws.courses
          (steps_along scratch_view laws.follows) (program_code h.program) cpu after words changed
          at.left (top_course h.program h.event h.argument) blank_store at.in_top.done
          at.in_top.under_way (Went reading) made in
          (made.body ∙ is.0, further.count ∙ is.1)
      by Storing made =
          let further =
          steps_under_way scratch_view laws.joins laws.courses
          (steps_along scratch_view laws.follows) (program_code h.program) cpu after words changed
          at.left (top_course h.program h.event h.argument) blank_store at.in_top.done
          at.in_top.under_way Storing made in
          (made.body ∙ is.0, further.count ∙ is.1)
      by (Ended ending) made = tt

  -- the machine in a bottom half stays in it
  same_body : (after : Cpu) (turn : Turn) → after.body ≡ body.Bottom h.number →
      IsOf h.number (word_count h.program.vars) (after_bottom after turn)
  same_body after (Went reading) is = is
  same_body after Storing is = is
  same_body after (Ended ending) is = tt

  behind_step : (hand next : Hand) (d mid : Device) (left : ℕ) →
      IsAt h hand left d.image d.waiting.made →
      IsHandStep (program_code h.program) h.number hand d next mid →
      IsOf h.number (word_count h.program.vars) hand →
      IsOf h.number (word_count h.program.vars) next
  behind_step hand next d mid left at (tops before after words changed turn is step same to) of =
      subst (IsOf h.number (word_count h.program.vars)) (sym to)
      (same_count before after words changed turn left d
      (subst (λ (one : Hand). IsAt h one left d.image d.waiting.made) is at) step
      (subst (IsOf h.number (word_count h.program.vars)) is of))
  behind_step hand next d mid left at (fills words part image is more wrote same to) of =
      rw to tt
  behind_step hand next d mid left at (fills_last words part image is last split wrote same to)
      of = rw to tt
  behind_step hand next d mid left at
      (begins_bottom words part image cpu is last buffi wrote start same to) of =
      rw to start.body_is
  behind_step hand next d mid left at (bottoms before after image turn is step same to) of =
      subst (IsOf h.number (word_count h.program.vars)) (sym to)
      (same_body after turn
      (step.body ∙ subst (IsOf h.number (word_count h.program.vars)) is of))
  behind_step hand next d mid left at (accepts image is wrote same to) of = rw to tt

-- what the handler that begins finds
pub record Begins (h : Handler) (bound : ℕ) : Type 0 where
  pub there : slice_get h.program.events h.number ≡ Some h.event
  pub can : CanHandle h.program h.number h.start
  pub enough : bound ≤ h.start.spare

module _ (laws : AreLaws) (h : Handler) (bound : ℕ) (begun : Begins h bound) where
  abbrev periods : List ℕ
  periods = begun.can.periods

  of_half : (first : Hand) {hand : Hand} {d : Device} →
      IsHandling h periods bound first h.start →
      IsOf h.number (word_count h.program.vars) first →
      Ran (program_code h.program) h.number first h.start hand d →
      IsOf h.number (word_count h.program.vars) hand
  of_half first at of begins = of
  of_half first at of (goes_on {hand} {next} {d} {mid} ran step other goes) =
      let here =
      is_handling laws h begun.can.accepted begun.there periods bound begun.enough first at ran in
      behind_step laws h hand next d mid here.steps here.at step (of_half first at of ran)

  -- there is room for a reading
  has_room : (d : Device) (hand : Hand) (here : IsHandling h periods bound hand d) →
      1 ≤ here.steps → 0 < d.waiting.room
  has_room d hand here some =
      let soon = here.in_time in
      let left = here.waited.room in
      let enough = begun.enough in
      let all = begun.can.waiting.readings in
      omega (arith, some, soon, left, enough, all)

  can_make : BodiesStandByNumber → (d : Device) (hand : Hand) → word_count h.program.vars ≤ 256 →
      d.accepted + 1 < 2 ^ 32 → IsHandling h periods bound hand d →
      IsOf h.number (word_count h.program.vars) hand →
      CanHandStep (program_code h.program) h.number hand d
  can_make stand d (Top cpu words) few count here of = record {
    exists =
        subst (HasBody (program_code h.program)) (sym of.0)
        (stand h.program (body.Top h.number) (top_half h.event)
        (ap (option_map top_half) begun.there)).exists;
    few = let same = of.1 in omega (arith, few, same);
    ready =
        ready_under_way scratch_view (can_step scratch_view laws.follows) (program_code h.program)
        cpu words here.at.left (top_course h.program h.event h.argument) blank_store
        here.at.in_top.done here.at.in_top.under_way;
  }
  can_make stand d (Fill words part) few count here of = record {
    range = here.at.has_parts.has_room.still.fit.memory.range;
    part_low =
        let low = here.at.low in
        let same = ap length here.at.message in
        omega (arith, low, same);
    exists =
        (stand h.program (body.Bottom h.number) (bottom_half h.event)
        (ap (option_map bottom_half) begun.there)).exists;
  }
  can_make stand d (hands.Bottom cpu) few count here of = record {
    range = here.at.has_all.has_room.still.fit.memory.range;
    free = here.at.has_all.has_room.room;
    exists =
        subst (HasBody (program_code h.program)) (sym of)
        (stand h.program (body.Bottom h.number) (bottom_half h.event)
        (ap (option_map bottom_half) begun.there)).exists;
    few =
        let words = here.at.has_all.has_room.still.fit.memory.words in
        let same = handler_length d.image in
        omega (arith, few, words, same);
    ready =
        ready_under_way handler_view (can_step handler_view laws.follows) (program_code h.program)
        cpu d.image here.at.left (event_course h.program h.number h.argument) (base_of h)
        here.at.in_bottom.done here.at.in_bottom.under_way;
    room = has_room d (hands.Bottom cpu) here
        (let time = here.at.in_time in omega (arith, time));
  }
  can_make stand d Accept few count here of = record {
    range = here.at.has_all.has_room.still.fit.memory.range;
    room = here.at.has_all.has_room.room;
    count = count;
    places =
        let same = here.waited.places in
        let some = begun.can.waiting.places in
        omega (arith, same, some);
  }
  can_make stand d Over few count here of = absurd here.at

-- a handler can make its next step, and there is time for it
pub record CanGoOn (code : Bodies) (number : ℕ) (start : Device) (hand : Hand) (d : Device)
    : Type 0 where
  pub step : CanHandStep code number hand d
  pub cursors : d.cursors ≡ start.cursors
  pub history : d.history ≡ start.history
  pub spare : 0 < d.spare
  pub time : d.clock + 1 < 2 ^ 32
  pub boots : d.boots + 1 < 2 ^ 32

can_go_on : (h : Handler) (periods : List ℕ) (bound : ℕ) (d : Device) (hand : Hand) →
    bound ≤ h.start.spare → IsHandling h periods bound hand d →
    CanHandStep (program_code h.program) h.number hand d →
    h.start.clock + h.start.spare < 2 ^ 32 → length periods ≤ 4096 →
    CanGoOn (program_code h.program) h.number h.start hand d
can_go_on h periods bound d hand enough here step time few =
    let some = (steps.can_go_on h hand here.steps d.image d.waiting.made here.at).some in
    let soon = here.in_time in
    let all = here.spare in
    let boots : d.boots ≡ h.start.boots = ap (λ (x : Device). x.boots) here.same in
    let low = here.timed.few in
    record {
      step = step;
      cursors = ap (λ (x : Device). x.cursors) here.same;
      history = ap (λ (x : Device). x.history) here.same;
      spare = omega (arith, some, soon, all, enough);
      time = omega (arith, some, soon, all, enough, time);
      boots = omega (arith, boots, low, few);
    }

-- a handler that has begun can go on wherever it comes
module _ (laws : AreLaws) (computes : TopHalvesComputeTheirCourse) (stand : BodiesStandByNumber)
  where
    from_start : (program : Program) (number argument : ℕ) (event : Event) (start : Device)
        (cpu : Cpu) (can : CanHandle program number start) →
        slice_get program.events number ≡ Some event →
        machine.IsAtStart (body.Top number) (argument ∷ []) cpu → (hand : Hand) (d : Device) →
        Ran (program_code program) number (first_hand program cpu) start hand d →
        CanGoOn (program_code program) number start hand d
    from_start program number argument event start cpu can there at hand d ran =
        let h = handler_at program number argument event start in
        let bound = bound_of program event in
        let first = begins_handling laws computes program number argument event start cpu there can
        at in
        let most = halves_in_bound program number event there in
        let spare = can.spare in
        let enough : bound ≤ start.spare = omega (arith, most, spare) in
        let begun : Begins h bound = record { there = there; can = can; enough = enough } in
        let here =
        is_handling laws h can.accepted there can.periods bound enough (first_hand program cpu) first
        ran in
        let of =
        of_half laws h bound begun (first_hand program cpu) first
        (at.body_is, length-replicate {A = ℕ} (word_count program.vars) 0) ran in
        let words = can.fit.memory.words in
        let sizes = can.fit.memory.range.sizes.few_words in
        let accepted : d.accepted ≡ start.accepted = ap (λ (x : Device). x.accepted) here.same in
        let count = can.count in
        can_go_on h can.periods bound d hand enough here
        (can_make laws h bound begun stand d hand (omega (arith, words, sizes))
        (omega (arith, accepted, count)) here of)
        can.time can.few_periods

    pub goes_anywhere : (code : Bodies) (number : ℕ) (first : Hand) (start : Device) →
        IsAtHandler code number first start → (hand : Hand) (d : Device) →
        Ran code number first start hand d → CanGoOn code number start hand d
    goes_anywhere code number first start at hand d ran =
        let there = event_there at.program number at.can.known in
        subst (λ (one : Bodies). CanGoOn one number start hand d) (sym at.code_is)
        (from_start at.program number at.argument there.0 start at.cpu at.can there.1 at.start hand d
        (subst (λ (one : Hand). Ran (program_code at.program) number one start hand d) at.first_is
        (subst (λ (one : Bodies). Ran one number first start hand d) at.code_is ran)))

-- behind a step there is time for its mark and for its own time
pub record HasTime (start d mid : Device) : Type 0 where
  pub same : mid.spare ≡ d.spare
  pub leaves : LeavesTheRest start mid

pub has_time : (code : Bodies) (number : ℕ) (start : Device) (hand next : Hand) (d mid : Device) →
    IsHandStep code number hand d next mid →
    CanGoOn code number start hand d → HasTime start d mid
has_time code number start hand next d mid step can = rest_left step
  where
    leaves : (image : Memory) (accepted : ℕ) (waits : Waits) →
        HasTime start d (record d { image = image; accepted = accepted; waiting = waits })
    leaves image accepted waits = record {
      same = refl;
      leaves = record {
        cursors = can.cursors;
        history = can.history;
        spare = can.spare;
        time = can.time;
        boots = can.boots;
      };
    }

    rest_left : IsHandStep code number hand d next mid → HasTime start d mid
    rest_left (tops before after words changed turn is makes same to) =
        rw same (leaves d.image d.accepted d.waiting)
    rest_left (fills words part image is more wrote same to) =
        rw same (leaves image d.accepted d.waiting)
    rest_left (fills_last words part image is last split wrote same to) =
        rw same (leaves image d.accepted d.waiting)
    rest_left (begins_bottom words part image cpu is last buffi wrote at same to) =
        rw same (leaves image d.accepted _)
    rest_left (bottoms before after image turn is makes same to) =
        rw same (leaves image d.accepted _)
    rest_left (accepts image is wrote same to) = rw same (leaves image (d.accepted + 1) _)

-- a top half begins on words that are all 0
pub first_is : (program : Program) (cpu : Cpu) (words : List ℕ) (count : ℕ) →
    words ≡ replicate count 0 → count ≡ word_count program.vars →
    Top cpu words ≡ first_hand program cpu
first_is program cpu words count zeros all = rw (zeros, all) refl

-- an event has a top half in the code
pub has_top_half : BodiesStandByNumber → (program : Program) (event : ℕ) →
    event < length program.events → HasBody (program_code program) (body.Top event)
has_top_half stand program event low =
    let there = event_there program event low in
    (stand program (body.Top event) (top_half there.0)
    (ap (option_map top_half) there.1)).exists
