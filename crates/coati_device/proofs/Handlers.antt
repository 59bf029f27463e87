-- A handler on its way: what its steps so far have left of the device, and what the one that
-- decides makes of it.
use Rattle.std.proofs.Common.{◌≡◌, ◌≢◌, ℕ, ◌+◌, ◌-◌, ◌<◌, ◌≤◌, ◌==◌, List, [], ◌∷◌, ◌++◌, Bool, true, false, Some, if◌then◌else◌, refl, sym, ap, subst, ◌∙◌, arith, length}
use Rattle.std.specs.Prelude.{slice_get}
use Rattle.coati_word.specs.declared.reading.Reading.{Reading}
use Rattle.task_check.specs.Accepted.{IsAccepted}
use Rattle.nv_memory.specs.Seats.{Memory}
use Rattle.nv_memory.specs.State.{state}
use Rattle.nv_memory.specs.Words.{mode}
use Rattle.event_buffer.specs.TurnLaws.{accept_change}
use Rattle.codegen.specs.Bodies.{program_code}
use Rattle.serial_log.specs.Standing.{Standing}
use Rattle.serial_log.specs.declared.held.Held.{Held}
use Rattle.serial_log.specs.declared.posted.Answer.{Answer}
use Rattle.serial_log.specs.declared.posted.Answer.TheVariants.{Accepted, Full, Lost}
use Rattle.word_cpu.specs.declared.turn.Turn.{Turn}
use Rattle.word_cpu.specs.declared.turn.Turn.TheVariants.{Went, Storing, Ended}
use Rattle.coati_device.specs.declared.device.Device.{Device}
use Rattle.coati_device.specs.declared.hand.Hand.{Hand}
use Rattle.coati_device.specs.declared.hand.Hand.TheVariants.{Over}
use Rattle.coati_device.specs.Points.{IsTimed}
use Rattle.coati_device.specs.Raises.{Handles, IsHandStep, Ran, after_bottom, after_top, waits_held}
use Rattle.coati_device.specs.Raises.Handles.{takes, loses}
use Rattle.coati_device.specs.Raises.IsHandStep.{tops, fills, fills_last, begins_bottom, bottoms, accepts}
use Rattle.coati_device.specs.Raises.Ran.{begins, goes_on}
use Rattle.coati_device.specs.TaskView.{HasWritten}
use Rattle.coati_device.specs.Ticks.{passed}
use Rattle.coati_device.specs.Waits.{Waits, count_all, waiting_count, with_made}
use Rattle.coati_device.proofs.HandlerSteps.{AreLaws, FitsStill, Handler, IsAt, IsAtAccept, LeavesWaits, around_of, can_go_on, message_by, step_goes_on, step_leaves}
use Rattle.coati_device.proofs.HandlerWrites.{IsWhole, accept_keeps}
use Rattle.coati_device.proofs.Times.{passes}

-- the kept readings up to a time: those of held events, and at most one more with each step
pub record HaveWaited (start : Device) (waits : Waits) (clock : ℕ) : Type 0 where
  pub events : waits.events ≡ start.waiting.events
  pub places : waits.places ≡ start.waiting.places
  pub room : start.waiting.room + start.clock ≤ waits.room + clock
  pub made : length waits.made + start.clock ≤ length start.waiting.made + clock

waited_more : (start : Device) (old new : Waits) (clock : ℕ) → HaveWaited start old clock
    → LeavesWaits old new → HaveWaited start new (clock + 1)
waited_more start old new clock waited leaves =
    let room = waited.room in
    let made = waited.made in
    let less = leaves.room in
    let more = leaves.made in
    record {
      events = leaves.events ∙ waited.events;
      places = leaves.places ∙ waited.places;
      room = omega (arith, room, less);
      made = omega (arith, made, more);
    }

-- the device while its handler is on its way
pub record IsHandling (h : Handler) (periods : List ℕ) (bound : ℕ) (hand : Hand)
    (d : Device) : Type 0 where
  pub steps : ℕ
  pub at : IsAt h hand steps d.image d.waiting.made
  pub same : d ≡ record h.start {
    image = d.image;
    clock = d.clock;
    until = d.until;
    waiting = d.waiting;
    spare = d.spare;
  }
  pub waited : HaveWaited h.start d.waiting d.clock
  pub in_time : d.clock + steps ≤ h.start.clock + bound
  pub clock : h.start.clock ≤ d.clock
  pub spare : d.spare + d.clock ≡ h.start.spare + h.start.clock
  pub timed : IsTimed periods d.clock h.start.boots d.until

module _ (laws : AreLaws) (h : Handler) (accepted : IsAccepted h.program)
    (declared : slice_get h.program.events h.number ≡ Some h.event) (periods : List ℕ)
    (bound : ℕ) (enough : bound ≤ h.start.spare) where
  goes_further : (hand next : Hand) (d mid : Device) → IsHandling h periods bound hand d
      → IsHandStep (program_code h.program) h.number hand d next mid → next ≢ Over → mid.until ≢ 1
      → IsHandling h periods bound next (passed mid)
  goes_further hand next d mid here step other goes =
      let leaves = step_leaves h hand next d mid step other in
      let one = leaves.same in
      let some = (can_go_on h hand here.steps d.image d.waiting.made here.at).some in
      let clock : mid.clock ≡ d.clock = ap (λ (x : Device). x.clock) one in
      let spare : mid.spare ≡ d.spare = ap (λ (x : Device). x.spare) one in
      let until : mid.until ≡ d.until = ap (λ (x : Device). x.until) one in
      let before = here.clock in
      let time = here.in_time in
      let all = here.spare in
      let left : 0 < mid.spare = omega (arith, some, time, all, spare, enough) in
      record {
        steps = here.steps - 1;
        at = step_goes_on laws h accepted declared hand next d mid here.steps here.at step other;
        same =
            ap (λ (x : Device). record x {
              image = mid.image;
              clock = mid.clock + 1;
              until = mid.until - 1;
              waiting = mid.waiting;
              spare = mid.spare - 1;
            }) one
            ∙ ap (λ (x : Device). record x {
              image = mid.image;
              clock = mid.clock + 1;
              until = mid.until - 1;
              waiting = mid.waiting;
              spare = mid.spare - 1;
            }) here.same;
        waited =
            subst (λ (now : ℕ). HaveWaited h.start mid.waiting (now + 1)) (sym clock)
            (waited_more h.start d.waiting mid.waiting d.clock here.waited leaves.waits);
        in_time = omega (arith, time, some, clock);
        clock = omega (arith, before, clock);
        spare = omega (arith, all, left, clock, spare);
        timed =
            rw (clock, until) (passes periods d.clock h.start.boots d.until here.timed
            (λ last. goes (until ∙ last)));
      }

  -- so it is wherever the handler comes
  pub is_handling : (first : Hand) {hand : Hand} {d : Device}
      → IsHandling h periods bound first h.start
      → Ran (program_code h.program) h.number first h.start hand d
      → IsHandling h periods bound hand d
  is_handling first at_first begins = at_first
  is_handling first at_first (goes_on {hand} {next} {d} {mid} ran step other goes) =
      goes_further hand next d mid (is_handling first at_first ran) step other goes

-- the posting that is accepted, with its number
abbrev pub accepted_by : Handler → ℕ → Held
accepted_by h number = record { number = number; event = h.number; argument = h.argument }

-- the posting waits: memory fits where it is the newest
abbrev pub FitsMore : Handler → ℕ → List (List Reading) → Memory → Type 0
FitsMore h number events m =
    (more : Standing) → more.run ≡ h.standing.run
    → more.rest ≡ h.standing.rest ++ accepted_by h number ∷ []
    → more.accepted ≡ h.standing.accepted + 1 → number ≡ h.standing.accepted + 1
    → FitsStill h more events m

-- a posting was accepted
pub record IsTaken (h : Handler) (number : ℕ) (d : Device) : Type 0 where
  pub numbered : number ≡ h.start.accepted + 1
  pub accepted : d.accepted ≡ h.start.accepted + 1
  pub fits : FitsMore h number d.waiting.events d.image

-- or the power is cut
pub record IsLost (h : Handler) (boot : ℕ) (d : Device) : Type 0 where
  pub numbered : boot ≡ h.start.boots + 1
  pub accepted : d.accepted ≡ h.start.accepted
  pub until : d.until ≡ 1
  pub still : FitsStill h h.standing d.waiting.events d.image

abbrev pub HasAnswered : Handler → Answer → Device → Type 0
HasAnswered h (Accepted number) d = IsTaken h number d
HasAnswered h Full d = ⊥
HasAnswered h (Lost boot) d = IsLost h boot d

-- what is left of the room for readings and events, at a time
pub record IsRoomy (start : Device) (waits : Waits) (clock : ℕ) : Type 0 where
  pub room : start.waiting.room + start.clock ≤ waits.room + clock
  pub places : start.waiting.places ≤ waits.places + 1
  pub count : waiting_count waits + start.clock ≤ waiting_count start.waiting + clock

roomy : (start : Device) (waits : Waits) (clock : ℕ) → HaveWaited start waits clock
    → IsRoomy start waits clock
roomy start waits clock waited =
    let same = ap count_all waited.events in
    let places = waited.places in
    let made = waited.made in
    record {
      room = waited.room;
      places = omega (arith, places);
      count = omega (arith, same, made);
    }

counts_more : (events : List (List Reading)) (read : List Reading)
    → count_all (events ++ read ∷ []) ≡ count_all events + length read
counts_more [] read = omega arith
counts_more (first ∷ events) read = omega (arith, counts_more events read)

-- the event of an accepted posting takes a place
roomy_held : (start : Device) (waits : Waits) (clock : ℕ) (buffi : Bool)
    → HaveWaited start waits clock
    → IsRoomy start (if buffi then with_made waits else waits) (clock + 1)
roomy_held start waits clock true waited =
    let same = ap count_all waited.events in
    let more = counts_more waits.events waits.made in
    let places = waited.places in
    let made = waited.made in
    let room = waited.room in
    record {
      room = omega (arith, room);
      places = omega (arith, places);
      count = omega (arith, same, more, made);
    }
roomy_held start waits clock false waited =
    let same = ap count_all waited.events in
    let places = waited.places in
    let made = waited.made in
    let room = waited.room in
    record {
      room = omega (arith, room);
      places = omega (arith, places);
      count = omega (arith, same, made);
    }

-- the step that decides was made
pub record IsDecided (h : Handler) (periods : List ℕ) (bound : ℕ) (answer : Answer)
    (d : Device) : Type 0 where
  pub answered : HasAnswered h answer d
  pub same : d ≡ record h.start {
    image = d.image;
    clock = d.clock;
    until = d.until;
    accepted = d.accepted;
    waiting = d.waiting;
    spare = d.spare;
  }
  pub waits : IsRoomy h.start d.waiting (d.clock + 1)
  pub in_time : d.clock + 1 ≤ h.start.clock + bound
  pub clock : h.start.clock ≤ d.clock
  pub spare : d.spare + d.clock ≡ h.start.spare + h.start.clock
  pub some : 0 < d.spare
  pub timed : IsTimed periods d.clock h.start.boots d.until

module _ (laws : AreLaws) (h : Handler) (accepted : IsAccepted h.program)
    (declared : slice_get h.program.events h.number ≡ Some h.event) (periods : List ℕ)
    (bound : ℕ) (enough : bound ≤ h.start.spare)
    (known : h.number < length h.program.events) where
  fits_more : (number steps : ℕ) (m new : Memory) (waits : Waits)
      → waits.events ≡ h.start.waiting.events → IsAtAccept h steps m waits.made
      → HasWritten m (accept_change (state m)) new
      → FitsMore h number (waits_held (state m) waits).events new
  fits_more number steps m new waits events at wrote more run rest accepted_one is =
      accept_keeps laws.courses laws.adds (around_of h) h.standing more waits
      (accepted_by h number) h.number (message_by h) m new
      (record {
        run = run;
        rest = rest;
        accepted = accepted_one;
        number = is;
        known = known;
        is_event = refl;
        is_message = rw declared refl;
      })
      (subst (λ (kept : List (List Reading)).
      IsWhole (around_of h) h.standing kept h.number (message_by h) m) (sym events) at.has_all)
      wrote
      (λ buffi. let ran = at.has_run buffi in record { log = ran.log; reads = ran.reads })

  taken : (hand : Hand) (d mid : Device) (answer : Answer) → IsHandling h periods bound hand d
      → IsHandStep (program_code h.program) h.number hand d Over mid
      → answer ≡ Accepted mid.accepted
      → IsDecided h periods bound answer mid
  taken hand d mid answer here (tops before after words changed turn is step same to) answers =
      absurd (not_over turn to)
    where
      not_over : (other : Turn) → Over ≡ after_top after changed other → ⊥
      not_over (Went reading) e = cc
      not_over Storing e = cc
      not_over (Ended ending) e = cc
  taken hand d mid answer here (fills words part image is more wrote same to) answers =
      absurd cc
  taken hand d mid answer here (fills_last words part image is last split wrote same to) answers =
      absurd cc
  taken hand d mid answer here
      (begins_bottom words part image cpu is last buffi wrote start same to) answers = absurd cc
  taken hand d mid answer here (bottoms before after image turn is step same to) answers =
      absurd (not_over turn to)
    where
      not_over : (other : Turn) → Over ≡ after_bottom after other → ⊥
      not_over (Went reading) e = cc
      not_over Storing e = cc
      not_over (Ended ending) e = cc
  taken hand d mid answer here (accepts image is wrote same to) answers =
      let at = subst (λ (one : Hand). IsAt h one here.steps d.image d.waiting.made) is here.at in
      let counted : d.accepted ≡ h.start.accepted = ap (λ (x : Device). x.accepted) here.same in
      let some = at.in_time in
      let time = here.in_time in
      let all = here.spare in
      rw (answers, same) (record {
        answered = record {
          numbered = ap (λ (n : ℕ). n + 1) counted;
          accepted = ap (λ (n : ℕ). n + 1) counted;
          fits =
              fits_more (d.accepted + 1) here.steps d.image image d.waiting here.waited.events at
              wrote;
        };
        same = ap (λ (x : Device). record x {
          image = image;
          accepted = d.accepted + 1;
          waiting = waits_held (state d.image) d.waiting;
        }) here.same;
        waits =
            roomy_held h.start d.waiting d.clock (mode (state d.image) == 1) here.waited;
        in_time = omega (arith, time, some);
        clock = here.clock;
        spare = here.spare;
        some = omega (arith, time, some, all, enough);
        timed = here.timed;
      })

  lost : (hand next : Hand) (d mid : Device) (answer : Answer) → IsHandling h periods bound hand d
      → IsHandStep (program_code h.program) h.number hand d next mid → next ≢ Over → mid.until ≡ 1
      → answer ≡ Lost (mid.boots + 1) → IsDecided h periods bound answer mid
  lost hand next d mid answer here step other cut answers =
      let leaves = step_leaves h hand next d mid step other in
      let one = leaves.same in
      let some = (can_go_on h hand here.steps d.image d.waiting.made here.at).some in
      let clock : mid.clock ≡ d.clock = ap (λ (x : Device). x.clock) one in
      let spare : mid.spare ≡ d.spare = ap (λ (x : Device). x.spare) one in
      let until : mid.until ≡ d.until = ap (λ (x : Device). x.until) one in
      let boots : mid.boots ≡ h.start.boots =
      ap (λ (x : Device). x.boots) one ∙ ap (λ (x : Device). x.boots) here.same in
      let counted : mid.accepted ≡ h.start.accepted =
      ap (λ (x : Device). x.accepted) one ∙ ap (λ (x : Device). x.accepted) here.same in
      let before = here.clock in
      let time = here.in_time in
      let all = here.spare in
      let at = step_goes_on laws h accepted declared hand next d mid here.steps here.at step other
      in
      let waited = waited_more h.start d.waiting mid.waiting d.clock here.waited leaves.waits in
      rw answers (record {
        answered = record {
          numbered = ap (λ (n : ℕ). n + 1) boots;
          accepted = counted;
          until = cut;
          still =
              subst (λ (events : List (List Reading)). FitsStill h h.standing events mid.image)
              (sym waited.events)
              (can_go_on h next (here.steps - 1) mid.image mid.waiting.made at).still;
        };
        same =
            one
            ∙ ap (λ (x : Device). record x { image = mid.image; waiting = mid.waiting }) here.same
            ∙ ap (λ (x : Device). record h.start {
              image = mid.image;
              clock = x.clock;
              until = x.until;
              waiting = mid.waiting;
              spare = x.spare;
            }) (sym one)
            ∙ ap (λ (n : ℕ). record h.start {
              image = mid.image;
              clock = mid.clock;
              until = mid.until;
              accepted = n;
              waiting = mid.waiting;
              spare = mid.spare;
            }) (sym counted);
        waits =
            subst (λ (now : ℕ). IsRoomy h.start mid.waiting (now + 1)) (sym clock)
            (roomy h.start mid.waiting (d.clock + 1) waited);
        in_time = omega (arith, time, some, clock);
        clock = omega (arith, before, clock);
        spare = omega (arith, all, clock, spare);
        some = omega (arith, time, some, all, clock, spare, enough);
        timed = rw (clock, until) here.timed;
      })

  -- what a handler comes to
  pub is_decided : (first : Hand) (decided : Device) (answer : Answer)
      → IsHandling h periods bound first h.start
      → Handles (program_code h.program) h.number first h.start decided answer
      → IsDecided h periods bound answer decided
  is_decided first decided answer at_first (takes hand d ran step answers) =
      taken hand d decided answer
      (is_handling laws h accepted declared periods bound enough first at_first ran) step answers
  is_decided first decided answer at_first (loses hand next d ran step other cut answers) =
      lost hand next d decided answer
      (is_handling laws h accepted declared periods bound enough first at_first ran) step other
      cut answers
