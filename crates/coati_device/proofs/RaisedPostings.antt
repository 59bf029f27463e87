-- A raised posting keeps what a device keeps.
use Rattle.std.proofs.Common.{◌≡◌, ℕ, suc, ◌+◌, ◌-◌, ◌<◌, ◌≤◌, ◌==◌, List, [], ◌∷◌, ◌++◌, Bool, true, false, Option, Some, if◌then◌else◌, refl, sym, ap, subst, ◌∙◌, arith, inl, inr, length, append_assoc, append-nil}
use Rattle.std.specs.Prelude.{slice_get}
use Rattle.std.proofs.lemmas.Option.{slice_get_cases}
use mathlib.Core.List.{IsPrefix}
use Rattle.task_syntax.specs.declared.body.BodyId.TheVariants as body
use Rattle.task_syntax.specs.declared.program.Event.{Event}
use Rattle.task_syntax.specs.declared.program.Program.{Program}
use Rattle.task_check.specs.Accepted.{IsAccepted}
use Rattle.task_check.specs.Numbers.{buffer_size}
use Rattle.task_cost.specs.Bodies.{event_cost, top_cost}
use Rattle.codegen.specs.Bodies.{program_code}
use Rattle.codegen.specs.ProgramLaws.{TopHalvesComputeTheirCourse}
use Rattle.nv_memory.specs.Ring.{Entry, held_entries}
use Rattle.nv_memory.specs.Seats.{Memory}
use Rattle.nv_memory.specs.State.{state}
use Rattle.nv_memory.proofs.Looks.{test_same}
use Rattle.event_buffer.specs.Fill.{is_full, tail_slot}
use Rattle.event_buffer.proofs.Counts.{room_is}
use Rattle.event_buffer.proofs.Slots.{held_length}
use Rattle.serial_log.specs.declared.held.Held.{Held}
use Rattle.serial_log.specs.declared.posted.Answer.{Answer}
use Rattle.serial_log.specs.declared.posted.Answer.TheVariants.{Accepted, Full, Lost}
use Rattle.serial_log.specs.declared.posted.Posted.{Posted as Raised}
use Rattle.serial_log.specs.declared.script.Posting.{Posting}
use Rattle.serial_log.specs.History.{Past, readings_in, with_mark}
use Rattle.serial_log.specs.Laws.{HistoriesGoOn, MarksJoinUp, TurnsGoOn}
use Rattle.serial_log.specs.Marks.{raised_postings}
use Rattle.serial_log.specs.Postings.{IsLegalAnswer, IsLegalPost, Terms}
use Rattle.serial_log.specs.Standing.{Standing, after_mark, standing_of}
use Rattle.word_code.specs.Code.{Bodies}
use Rattle.word_cpu.specs.declared.cpu.Cpu.{Cpu}
use Rattle.word_cpu.specs.UnderWay.{IsAtStart}
use Rattle.coati_device.specs.declared.device.Device.{Device}
use Rattle.coati_device.specs.declared.device.Phase.{Phase}
use Rattle.coati_device.specs.declared.device.Phase.TheVariants.{Choose}
use Rattle.coati_device.specs.Cursors.{AreCursors, answered, cursor_of, next_posting}
use Rattle.coati_device.specs.Laws.{ArePeriods, HasRaisedOne, TicksKeepRoom, TicksKeepSound, handler_steps}
use Rattle.coati_device.specs.Points.{AreHeld, HasRoomFor, IsFit, IsLegalBy, IsSound, IsSoundBy, IsTimed, reads_of}
use Rattle.coati_device.specs.Raises.{Handles, Raises, first_hand}
use Rattle.coati_device.specs.Raises.Raises.{fulls, handles}
use Rattle.coati_device.specs.HeldEvents.{EventsFit}
use Rattle.coati_device.specs.Ticks.{cut, passed, ticked}
use Rattle.coati_device.specs.Waits.{Waits}
use Rattle.coati_device.proofs.CursorMoves.{cursors_move, cursors_stay, next_is_own}
use Rattle.coati_device.proofs.HandlerSteps.{AreLaws, Handler}
use Rattle.coati_device.proofs.Handlers.{HasAnswered, IsHandling, IsLost, IsRoomy, IsTaken, is_decided}
use Rattle.coati_device.proofs.PostedMarks.{boot_at, booted_standing, booted_told, booted_turns, lost_legal, posted_at, posted_legal, posted_standing, posted_told, posted_turns, raised_counted}
use Rattle.coati_device.proofs.Tests.{same_by_test}
use Rattle.coati_device.proofs.Times.{boots_low, ends_now, is_cut, is_later}
use Rattle.coati_device.proofs.TopHalves.{halves_in_bound, starts_in_top}

-- as many postings wait as entries are held
rest_length : (program : Program) (entries : List Entry) (rest : List Held)
    → AreHeld program entries rest
    → length rest ≡ length entries
rest_length program [] [] are = refl
rest_length program [] (first ∷ rest) are = absurd are
rest_length program (first ∷ entries) [] are = absurd are
rest_length program (first ∷ entries) (oldest ∷ rest) are =
    ap suc (rest_length program entries rest are.1)

-- what time leaves of a device, and what it takes
record LeavesMost (d new : Device) : Type 0 where
  clock : new.clock ≡ d.clock + 1
  steps : new.steps ≡ d.steps
  spare : new.spare ≡ d.spare - 1
  cursors : new.cursors ≡ d.cursors
  raised : raised_postings new.history.marks ≡ raised_postings d.history.marks
  marks : IsPrefix d.history.marks new.history.marks
  readings : new.history.readings ≡ d.history.readings

time_leaves : MarksJoinUp → (periods : List ℕ) (d : Device) → LeavesMost d (ticked periods d)
time_leaves join periods d = by (d.until == 1)
  where
    by : (b : Bool) → LeavesMost d (if b then cut periods d else passed d)
    by true = record {
      clock = refl;
      steps = refl;
      spare = refl;
      cursors = refl;
      raised =
          (join d.history.marks (boot_at (d.clock + 1) (d.boots + 1) ∷ [])).raised
          ∙ append-nil (raised_postings d.history.marks);
      marks = (boot_at (d.clock + 1) (d.boots + 1) ∷ [], refl);
      readings = refl;
    }
    by false = record {
      clock = refl;
      steps = refl;
      spare = refl;
      cursors = refl;
      raised = refl;
      marks = ([], append-nil d.history.marks);
      readings = refl;
    }

-- what is given where a device's next posting is raised
pub record CanRaise (terms : Terms) (periods : List ℕ) (postings : List Posting) (device : ℕ)
    (old : Device) : Type 0 where
  pub periods_are : ArePeriods periods
  pub accepted : IsAccepted terms.program
  pub bound : handler_steps terms.program ≤ terms.handler
  pub low : device < 8
  pub left : 0 < (cursor_of old.cursors device).left
  pub known : (next_posting postings old device).event < length terms.program.events
  pub spare : handler_steps terms.program ≤ old.spare
  pub sound : IsSound terms (program_code terms.program) periods old
  pub cursors : AreCursors postings old.history.marks old.cursors
  pub room : HasRoomFor old.spare periods old

module _ (go_on : HistoriesGoOn) (turns : TurnsGoOn) (join : MarksJoinUp) (ticks : TicksKeepSound)
    (rooms : TicksKeepRoom)
    (terms : Terms) (periods : List ℕ) (postings : List Posting) (device : ℕ) (old : Device)
    (can : CanRaise terms periods postings device old) where
  abbrev code : Bodies
  code = program_code terms.program

  abbrev standing : Standing
  standing = standing_of terms.program old.history.marks

  abbrev posting : Posting
  posting = next_posting postings old device

  abbrev posted : Answer → Raised
  posted answer = record {
    device = device;
    index = (cursor_of old.cursors device).done + 1;
    event = posting.event;
    argument = posting.argument;
    from = old.clock;
    answer = answer;
  }

  -- the device with another image and other numbers
  abbrev decided : Memory → Waits → (clock until accepted spare : ℕ) → Device
  decided image waiting clock until accepted spare = record old {
    image = image;
    waiting = waiting;
    clock = clock;
    until = until;
    accepted = accepted;
    spare = spare;
  }

  abbrev answered_by : Memory → Waits → (clock until accepted spare at : ℕ) → Answer → Device
  answered_by image waiting clock until accepted spare at answer =
      answered postings device posting old.clock at answer
      (decided image waiting clock until accepted spare)

  legal_post : (at : ℕ) (answer : Answer) → IsLegalAnswer terms standing at old.clock answer
      → IsLegalPost terms standing at (posted answer)
  legal_post at answer legal =
      let done = (can.cursors.each device can.low).done in
      let told = raised_counted terms.program device old.history.marks in
      record {
        counted = omega (arith, done, told);
        raised = can.sound.legal.latest;
        answer = legal;
      }

  waiting_is : length standing.rest ≡ length (held_entries (state old.image))
  waiting_is =
      rest_length terms.program (held_entries (state old.image)) standing.rest
      can.sound.fit.stands.held

  -- where the buffer isn't full there is room for a posting
  has_room : is_full (state old.image) ≡ false → length standing.rest < buffer_size terms.program
  has_room room =
      let fit = can.sound.fit in
      let some = room_is (state old.image) fit.memory.range.ring room in
      let slots = fit.memory.slots in
      let held = held_length (state old.image) in
      let waiting = waiting_is in
      omega (arith, some, slots, held, waiting)

  -- the cursors behind the mark
  moved_cursors : (image : Memory) (waiting : Waits) (clock until accepted spare at : ℕ)
      (answer : Answer) → AreCursors postings
      (answered_by image waiting clock until accepted spare at answer).history.marks
      (answered_by image waiting clock until accepted spare at answer).cursors
  moved_cursors image waiting clock until accepted spare at answer =
      let marks = old.history.marks in
      let more = marks ++ posted_at at (posted answer) ∷ [] in
      let raised = (join marks (posted_at at (posted answer) ∷ [])).raised in
      let own =
      next_is_own postings marks more old.cursors device (posted answer) can.low can.cursors
      can.left raised in
      cursors_move postings marks more old.cursors device (posted answer) can.low can.cursors
      can.left raised refl
      (ap (λ (number : ℕ). record {
        device = number;
        event = posting.event;
        argument = posting.argument;
      }) (sym own))

  -- what a device that was answered keeps, its time aside
  room_answered : (image : Memory) (waiting : Waits) (clock until accepted spare at left : ℕ)
      (answer : Answer) → left + 1 + clock ≤ old.spare + old.clock → old.clock ≤ clock
      → IsRoomy old waiting (clock + 1)
      → HasRoomFor left periods
      (answered_by image waiting clock until accepted spare at answer)
  room_answered image waiting clock until accepted spare at left answer low later waits =
      let room = can.room in
      let more = waits.count in
      record {
        marks = let m = room.marks in omega (arith, m, low, later);
        attempt = let m = room.attempt in omega (arith, m, low, later);
        unit = let m = room.unit in omega (arith, m, low, later);
        waiting = let m = room.waiting in let w = waits.room in omega (arith, m, w, low);
        places = let m = room.places in let w = waits.places in omega (arith, m, w, low, later);
        records = let m = room.records in omega (arith, m, low, more);
        few = let m = room.few in omega (arith, m, low, more);
      }

  -- the standing behind a posting that isn't accepted fits as the one before
  fits_still : (m : Memory) (phase : Phase) (boots last_boot latest : ℕ) (raised : ℕ → ℕ)
      (lost : Option ℕ)
      → IsFit terms.program code m (reads_of old) phase standing
      → IsFit terms.program code m (reads_of old) phase (record standing {
        raised = raised;
        boots = boots;
        last_boot = last_boot;
        lost = lost;
        latest = latest;
      })
  fits_still m phase boots last_boot latest raised lost fit = record {
    memory = fit.memory;
    stands = record { words = fit.stands.words; place = fit.stands.place; held = fit.stands.held };
    waiting = record { few = fit.waiting.few; numbered = fit.waiting.numbered };
    place = fit.place;
    unit = fit.unit;
    attempt = fit.attempt;
  }

  chooses : (m : Memory) (phase : Phase) → IsFit terms.program code m (reads_of old) phase standing
      → IsFit terms.program code m (reads_of old) Choose standing
  chooses m phase fit = record {
    memory = fit.memory;
    stands = fit.stands;
    waiting = fit.waiting;
    place = fit.place;
    unit = fit.unit;
    attempt = tt;
  }

  -- the buffer is full
  abbrev refused : Device
  refused =
      answered_by old.image old.waiting old.clock old.until old.accepted (old.spare - 1) old.clock
      Full

  full_sound : is_full (state old.image) ≡ true → IsSound terms code periods refused
  full_sound full =
      let fit = can.sound.fit in
      let held = same_by_test (length (held_entries (state old.image))) old.image.k full in
      let slots = fit.memory.slots in
      let waiting = waiting_is in
      let legal =
      legal_post old.clock Full (record
      { full = omega (arith, held, slots, waiting); at_once = refl }) in
      let same =
      posted_standing go_on turns join terms old.history.marks old.clock (posted Full) in
      record {
        fit =
            subst (IsFit terms.program code old.image (reads_of old) old.phase) (sym same)
            (fits_still old.image old.phase _ _ _ _ _ fit);
        mode = can.sound.mode;
        events =
            subst (λ (s : Standing). EventsFit terms.program (state old.image) s
            old.waiting.events) (sym same)
            can.sound.events;
        legal =
            posted_legal go_on turns join terms old.history old.clock old.clock (posted Full)
            can.sound.legal (omega arith)
            legal (λ boot e. absurd cc);
        turns =
            posted_turns go_on turns join terms (state old.image) (state old.image) old.phase
            old.history.marks old.clock
            (posted Full) refl refl legal can.sound.turns;
        accepted = ap (λ (s : Standing). s.accepted) same ∙ can.sound.accepted;
        timed = can.sound.timed;
        boots =
            posted_told go_on turns join terms periods old.boots old.history old.clock
            (posted Full) can.sound.boots;
      }

  pub full_keeps : (new : Device) → is_full (state old.image) ≡ true → new ≡ refused
      → HasRaisedOne terms periods postings old new
  full_keeps new full is =
      let enough = can.spare in
      let some : 1 ≤ old.spare = omega (arith, enough) in
      rw is (record {
        sound = full_sound full;
        cursors =
            moved_cursors old.image old.waiting old.clock old.until old.accepted (old.spare - 1)
            old.clock Full;
        room =
            room_answered old.image old.waiting old.clock old.until old.accepted (old.spare - 1)
            old.clock (old.spare - 1) Full (omega (arith, some)) (omega arith)
            (record { room = omega arith; places = omega arith; count = omega arith });
        steps = refl;
        spare = omega (arith, some);
        time = omega (arith, some);
        grows =
            record {
              marks = (posted_at old.clock (posted Full) ∷ [], refl);
              kept = λ committed has. refl;
            };
      })

  -- its handler ran
  module _ (room : is_full (state old.image) ≡ false) (event : Event)
      (declared : slice_get terms.program.events posting.event ≡ Some event) where
    abbrev handler : Handler
    handler = record {
      program = terms.program;
      number = posting.event;
      event = event;
      argument = posting.argument;
      standing = standing;
      start = old;
    }

    module _ (image : Memory) (waiting : Waits) (clock until accepted spare : ℕ)
        (timed : IsTimed periods clock old.boots until)
        (later : old.clock ≤ clock) (soon : clock + 1 ≤ old.clock + terms.handler) where
      abbrev ran : Device
      ran = decided image waiting clock until accepted spare

      abbrev told : Answer → Device
      told answer = answered_by image waiting clock until accepted spare (clock + 1) answer

      -- and its posting was accepted
      taken_sound : (number : ℕ) → IsTaken handler number ran
          → IsSoundBy terms code periods (clock + 1) (told (Accepted number))
      taken_sound number taken =
          let counted = can.sound.accepted in
          let new_number = taken.numbered in
          let numbered : number ≡ standing.accepted + 1 = omega (arith, counted, new_number) in
          let legal = legal_post (clock + 1) (Accepted number) (record {
            handled = record { room = has_room room; later = omega (arith, later); soon = soon };
            numbered = numbered;
          }) in
          let same =
          posted_standing go_on turns join terms old.history.marks (clock + 1)
          (posted (Accepted number)) in
          let still =
          taken.fits (after_mark terms.program standing
          (posted_at (clock + 1) (posted (Accepted number)))) refl refl refl
          numbered in
          record {
            fit =
                subst (IsFit terms.program code image (reads_of old) old.phase) (sym same)
                still.fit;
            mode = still.mode ∙ can.sound.mode;
            events =
                subst (λ (s : Standing). EventsFit terms.program (state image) s waiting.events)
                (sym same) still.events;
            legal =
                posted_legal go_on turns join terms old.history old.clock (clock + 1)
                (posted (Accepted number))
                can.sound.legal (omega (arith, later)) legal (λ boot e. absurd cc);
            turns =
                posted_turns go_on turns join terms (state old.image) (state image) old.phase
                old.history.marks (clock + 1)
                (posted (Accepted number)) still.unit still.mode legal can.sound.turns;
            accepted =
                ap (λ (s : Standing). s.accepted) same
                ∙ ap (λ (n : ℕ). n + 1) counted
                ∙ sym taken.accepted;
            timed = timed;
            boots =
                posted_told go_on turns join terms periods old.boots old.history (clock + 1)
                (posted (Accepted number))
                can.sound.boots;
          }

      -- or lost by a cut
      lost_sound : (boot : ℕ) → IsLost handler boot ran
          → IsSound terms code periods (ticked periods (told (Lost boot)))
      lost_sound boot lost =
          let one : until ≡ 1 = lost.until in
          let number : boot ≡ old.boots + 1 = lost.numbered in
          let counted = can.sound.boots.counted in
          let boots : boot ≡ standing.boots + 1 = omega (arith, number, counted) in
          let past : Past = with_mark old.history (posted_at (clock + 1) (posted (Lost boot))) in
          let legal = legal_post (clock + 1) (Lost boot) (record {
            handled = record { room = has_room room; later = omega (arith, later); soon = soon };
            numbered = boots;
          }) in
          let same =
          posted_standing go_on turns join terms old.history.marks (clock + 1)
          (posted (Lost boot)) in
          let behind : standing_of terms.program
          (past.marks ++ boot_at (clock + 1) (old.boots + 1) ∷ [])
          ≡ after_mark terms.program (after_mark terms.program standing
          (posted_at (clock + 1) (posted (Lost boot))))
          (boot_at (clock + 1) (old.boots + 1)) =
          booted_standing go_on turns join terms past.marks (clock + 1) (old.boots + 1)
          ∙ ap (λ (s : Standing). after_mark terms.program s (boot_at (clock + 1) (old.boots + 1)))
          same in
          let low = boots_low periods clock old.boots until timed one in
          let end = ends_now periods clock old.boots until timed one in
          let last = can.sound.boots.last in
          let since = is_later periods clock old.boots until timed in
          rw (test_same until 1 one) (record {
            fit =
                subst (IsFit terms.program code image (reads_of old) Choose) (sym behind)
                (fits_still image Choose _ _ _ _ _ (chooses image old.phase lost.still.fit));
            mode = lost.still.mode ∙ can.sound.mode;
            events =
                subst (λ (s : Standing). EventsFit terms.program (state image) s waiting.events)
                (sym behind)
                lost.still.events;
            legal =
                subst (λ (n : ℕ). IsLegalBy terms (with_mark past (boot_at (clock + 1) n))
                (clock + 1)) number
                (lost_legal go_on turns join terms old.history old.clock (clock + 1) boot
                (posted (Lost boot))
                can.sound.legal (omega (arith, later)) legal refl boots
                (omega (arith, last, since)));
            turns =
                booted_turns go_on turns join terms (state image) old.phase past.marks (clock + 1)
                (old.boots + 1)
                (posted_turns go_on turns join terms (state old.image) (state image) old.phase
                old.history.marks (clock + 1)
                (posted (Lost boot)) lost.still.unit lost.still.mode legal can.sound.turns);
            accepted =
                ap (λ (s : Standing). s.accepted) behind ∙ can.sound.accepted ∙ sym lost.accepted;
            timed = is_cut periods clock old.boots until can.periods_are timed one;
            boots =
                booted_told go_on turns join terms periods old.boots past (clock + 1) low end
                (posted_told go_on turns join terms periods old.boots old.history (clock + 1)
                (posted (Lost boot))
                can.sound.boots);
          })

      ticked_sound : (answer : Answer) → HasAnswered handler answer ran
          → IsSound terms code periods (ticked periods (told answer))
      ticked_sound (Accepted number) taken =
          ticks terms periods (told (Accepted number)) can.periods_are can.accepted
          (taken_sound number taken)
      ticked_sound Full none = absurd none
      ticked_sound (Lost boot) lost = lost_sound boot lost

      ticked_keeps : (answer : Answer) → HasAnswered handler answer ran
          → spare + clock ≡ old.spare + old.clock → 0 < spare
          → clock + 1 ≤ old.clock + handler_steps terms.program
          → IsRoomy old waiting (clock + 1)
          → HasRaisedOne terms periods postings old (ticked periods (told answer))
      ticked_keeps answer came all some bound waits =
          let d = told answer in
          let time = time_leaves join periods d in
          let spare_is = time.spare in
          let clock_is = time.clock in
          record {
            sound = ticked_sound answer came;
            cursors =
                subst (AreCursors postings (ticked periods d).history.marks) (sym time.cursors)
                (cursors_stay postings d.history.marks (ticked periods d).history.marks d.cursors
                time.raised
                (moved_cursors image waiting clock until accepted spare (clock + 1) answer));
            room =
                subst (λ (left : ℕ). HasRoomFor left periods (ticked periods d)) (sym time.spare)
                (rooms (spare - 1) periods d timed
                (room_answered image waiting clock until accepted spare (clock + 1) (spare - 1)
                answer (omega (arith, all, some)) later waits));
            steps = time.steps;
            spare = omega (arith, spare_is, all, some, bound);
            time = omega (arith, spare_is, clock_is, all, some);
            grows = record {
              marks =
                  let (more, is) = time.marks in (
                    posted_at (clock + 1) (posted answer) ∷ more,
                    sym (append_assoc old.history.marks
                        (posted_at (clock + 1) (posted answer) ∷ []) more) ∙ is,
                  );
              kept = λ committed has.
                  ap (λ list. readings_in list committed) time.readings;
            };
          }

    module _ (laws : AreLaws) (computes : TopHalvesComputeTheirCourse) (cpu : Cpu)
        (start : IsAtStart (body.Top posting.event) (posting.argument ∷ []) cpu) where
      abbrev bound : ℕ
      bound = event_cost terms.program event + 9

      at_first : IsHandling handler periods bound (first_hand terms.program cpu) old
      at_first = record {
        steps = bound;
        at = record {
          left = top_cost terms.program event;
          in_top =
              starts_in_top computes terms.program posting.event event posting.argument cpu
              can.accepted declared start;
          in_time = omega arith;
          has_parts = record {
            has_room = record {
              still = record {
                fit = can.sound.fit;
                unit = refl;
                mode = refl;
                events = can.sound.events;
              };
              room = room;
            };
            filled = laws.first (state old.image) (tail_slot (state old.image)) posting.event _;
          };
        };
        same = refl;
        waited =
            record { events = refl; places = refl; room = omega arith; made = omega arith };
        in_time = omega arith;
        clock = omega arith;
        spare = refl;
        timed = can.sound.timed;
      }

      pub handled_keeps : (new mid : Device) (answer : Answer)
          → Handles code posting.event (first_hand terms.program cpu) old mid answer
          → new ≡ ticked periods (answered postings device posting old.clock (mid.clock + 1) answer
          mid)
          → HasRaisedOne terms periods postings old new
      handled_keeps new mid answer handling is =
          let low = halves_in_bound terms.program posting.event event declared in
          let most = can.spare in
          let judged = can.bound in
          let enough : bound ≤ old.spare = omega (arith, low, most) in
          let came =
          is_decided laws handler can.accepted declared periods bound enough can.known
          (first_hand terms.program cpu) mid answer at_first
          handling in
          let soon = came.in_time in
          let same : new ≡ ticked periods
          (answered_by mid.image mid.waiting mid.clock mid.until mid.accepted mid.spare
          (mid.clock + 1) answer) =
          is ∙ ap (λ (x : Device). ticked periods
          (answered postings device posting old.clock (mid.clock + 1) answer x)) came.same in
          subst (HasRaisedOne terms periods postings old) (sym same)
          (ticked_keeps mid.image mid.waiting mid.clock mid.until mid.accepted mid.spare came.timed
          came.clock (omega (arith, soon, low, judged))
          answer (subst (HasAnswered handler answer) came.same came.answered) came.spare came.some
          (omega (arith, soon, low)) came.waits)

  -- the event of the posting is declared
  pub event_there : (event : Event) × (slice_get terms.program.events posting.event ≡ Some event)
  event_there = elim (slice_get_cases terms.program.events posting.event).1 [
    | inl there ↦ (there.0, there.2)
    | inr past ↦ absurd (let low = can.known in omega (arith, past.0, low))
  ]

  pub raise_keeps : AreLaws → TopHalvesComputeTheirCourse → (new : Device) (answer : Answer)
      → Raises terms.program code periods postings device old new answer
      → HasRaisedOne terms periods postings old new
  raise_keeps laws computes new answer (fulls full answers is) = full_keeps new full is
  raise_keeps laws computes new answer (handles cpu mid room start came is) =
      let there = event_there in
      handled_keeps room there.0 there.1 laws computes cpu start new mid answer came is
