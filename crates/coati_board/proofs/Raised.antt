-- A board on which a device has raised its next posting.
use Rattle.std.proofs.Common.{◌≡◌, ◌≢◌, ◌↔◌, ℕ, ◌+◌, ◌<◌, ◌≤◌, ◌==◌, List, [], ◌∷◌, ◌++◌, Bool, true, false, if◌then◌else◌, append-nil, get_or-set_same, get_or-set_other, length, length-append, drop, refl, sym, ap, ◌∙◌, arith, Option, None}
use Rattle.std.specs.Prelude.{filter, map, slice_set}
use Rattle.std.proofs.lemmas.List.{length-map, map-append}
use Rattle.std.proofs.lemmas.List.Concat.{flat_map-append}
use Rattle.std.proofs.lemmas.List.Elements.{All-get_or}
use Rattle.codegen.specs.Bodies.{program_code}
use Rattle.coati_word.specs.declared.mode.Mode.{Mode}
use Rattle.event_buffer.specs.Fill.{is_full}
use Rattle.nv_memory.specs.State.{state}
use Rattle.serial_log.specs.declared.end.End.{End}
use Rattle.serial_log.specs.declared.mark.Mark.{Mark}
use Rattle.serial_log.specs.History.{Past}
use Rattle.serial_log.specs.declared.posted.Answer.{Answer}
use Rattle.serial_log.specs.declared.posted.Answer.TheVariants.{Full}
use Rattle.serial_log.specs.declared.script.Posting.{Posting}
use Rattle.serial_log.specs.declared.script.Script.{Script}
use Rattle.serial_log.specs.declared.posted.Posted.{Posted}
use Rattle.serial_log.specs.Marks.{raised_by, raised_postings}
use Rattle.serial_log.specs.Scripted.{Sent, of_device, sent_as, sent_by}
use Rattle.task_cost.specs.Limits.{handler_bound}
use Rattle.task_syntax.specs.declared.program.Program.{Program}
use Rattle.word_code.specs.Code.{Bodies}
use Rattle.coati_device.specs.declared.cursor.Cursor.{Cursor}
use Rattle.coati_device.specs.declared.device.Device.{Device}
use Rattle.coati_device.specs.declared.hand.Hand.{Hand}
use Rattle.coati_device.specs.declared.hand.Hand.TheVariants.{Over}
use Rattle.coati_device.specs.Cursors.{HasRaised, answered, cursor_of, moved, next_posting, no_cursor, no_posting}
use Rattle.coati_device.specs.Laws.{AreRecordsGrown, RaisesKeepSound}
use Rattle.coati_device.specs.Raises.{Handles, IsHandStep, Raises, Ran}
use Rattle.coati_device.specs.Raises.Handles.{loses, takes}
use Rattle.coati_device.specs.Raises.IsHandStep.{accepts, begins_bottom, bottoms, fills, fills_last, tops}
use Rattle.coati_device.specs.Raises.Raises.{fulls, handles}
use Rattle.coati_device.specs.Raises.Ran.{begins, goes_on}
use Rattle.coati_device.specs.Ticks.{cut, passed, ticked}
use Rattle.coati_device.proofs.CursorMoves.{left_within}
use Rattle.device_pace.specs.Laws.{RaisesKeepPace}
use Rattle.coati_board.specs.Board.{IsBoard, IsRefused, end_of, end_of_kind, terms_of}
use Rattle.coati_board.specs.Postings.{answers_of}
use Rattle.coati_board.specs.Raising.{CanRaise}
use Rattle.coati_board.specs.Served.{IsPosting}

few_behind : (b : Bool) (one : Sent) (some all : List Sent) → length some ≤ length all →
    length (if b then one ∷ some else some) ≤ length (one ∷ all)
few_behind true one some all few = omega (arith, few)
few_behind false one some all few = omega (arith, few)

few_filtered : (p : Sent → Bool) (all : List Sent) → length (filter p all) ≤ length all
few_filtered p [] = omega arith
few_filtered p (one ∷ more) = few_behind (p one) one (filter p more) more (few_filtered p more)

-- a device has raised no more postings than there are
few_raised : (postings : List Posting) (marks : List Mark) (device : ℕ) (c : Cursor) →
    HasRaised postings marks device c → c.done ≤ length postings
few_raised postings marks device c has =
    let sent = map sent_by postings in
    let raised = of_device device (map sent_as (raised_postings marks)) in
    let parts = ap (length {A = Sent}) has.parts in
    let few = few_filtered (λ (one : Sent). one.device == device) sent in
    let count : length (map sent_by postings) ≡ length postings = length-map postings sent_by in
    let done = has.done in
    omega (
      arith,
      parts,
      few,
      count,
      done,
      length-append raised
          (of_device device (map sent_by (drop c.at postings))),
    )

-- a device with a posting left can raise it
module _ (program : Program) (mode : Mode) (script : Script) (old : Device)
    (board : IsBoard program mode script old) (number : ℕ)
    (low : number < 8) (left : 0 < (cursor_of old.cursors number).left)
    (spare : handler_bound program ≤ old.spare)
    (open_ : end_of old.history.marks ≡ None) where
  here : HasRaised script.postings old.history.marks number (cursor_of old.cursors number)
  here = board.cursors.each number low

  within : (cursor_of old.cursors number).at < length script.postings
  within = let count = here.left in
      left_within script.postings number (cursor_of old.cursors number).at
      (omega (arith, count, left))

  known : (next_posting script.postings old number).event < length program.events
  known = (All-get_or (IsPosting program) script.postings (cursor_of old.cursors number).at
      no_posting within board.scripted.postings).event

  pub can_raise : CanRaise program script old number
  can_raise =
      let room = (board.room open_).marks in
      let time = board.time in
      let counted = board.counted in
      let few = few_raised script.postings old.history.marks number (cursor_of old.cursors number)
      here in
      let most : 1 ≤ handler_bound program = omega arith in
      record {
        low = low;
        answer = record {
          eight = board.cursors.eight;
          posting = record { within = within; some = left; few = few };
          few = board.scripted.few_postings;
          room = omega (arith, room);
        };
        marks = omega (arith, room, spare, most);
        accepted = board.accepted;
        fit = board.sound.fit;
        known = known;
        spare = spare;
        some = omega (arith, spare, most);
        time = time;
        count = omega (arith, counted, time, spare, most);
        events = board.sound.events;
        waiting = record {
          readings = (board.room open_).waiting;
          places = let places = (board.room open_).places in omega (arith, places, spare, most);
        };
        timed = board.sound.timed;
        few_periods = board.scripted.few_periods;
      }

-- what a handler's steps leave beside
pub record Goes (start d : Device) : Type 0 where
  clock : start.clock ≤ d.clock
  accepted : d.accepted ≤ start.accepted + 1
  finished : d.finished ≡ start.finished
  history : d.history ≡ start.history
  cursors : d.cursors ≡ start.cursors

pub record GoesOn (start d : Device) : Type 0 where
  goes : Goes start d
  same : d.accepted ≡ start.accepted

module _ (code : Bodies) (event : ℕ) (start : Device) where
  step_goes : (hand next : Hand) (d mid : Device) → GoesOn start d →
      IsHandStep code event hand d next mid → Goes start mid
  step_goes hand next d mid here (tops before after words changed turn is step same to) =
      rw same here.goes
  step_goes hand next d mid here (fills words part image is more wrote same to) =
      let goes = here.goes in
      rw same (record {
        clock = goes.clock;
        accepted = goes.accepted;
        finished = goes.finished;
        history = goes.history;
        cursors = goes.cursors;
      })
  step_goes hand next d mid here (fills_last words part image is last other wrote same to) =
      let goes = here.goes in
      rw same (record {
        clock = goes.clock;
        accepted = goes.accepted;
        finished = goes.finished;
        history = goes.history;
        cursors = goes.cursors;
      })
  step_goes hand next d mid here
      (begins_bottom words part image cpu is last buffi wrote start same to) =
      let goes = here.goes in
      rw same (record {
        clock = goes.clock;
        accepted = goes.accepted;
        finished = goes.finished;
        history = goes.history;
        cursors = goes.cursors;
      })
  step_goes hand next d mid here (bottoms before after image turn is step same to) =
      let goes = here.goes in
      rw same (record {
        clock = goes.clock;
        accepted = goes.accepted;
        finished = goes.finished;
        history = goes.history;
        cursors = goes.cursors;
      })
  step_goes hand next d mid here (accepts image is wrote same to) =
      let goes = here.goes in
      let count = here.same in
      rw same (record {
        clock = goes.clock;
        accepted = omega (arith, count);
        finished =
            goes.finished;
        history = goes.history;
        cursors = goes.cursors;
      })

  step_counts_none : (hand next : Hand) (d mid : Device) → IsHandStep code event hand d next mid →
      next ≢ Over → mid.accepted ≡ d.accepted
  step_counts_none hand next d mid (tops before after words changed turn is step same to) other =
      rw same refl
  step_counts_none hand next d mid (fills words part image is more wrote same to) other =
      rw same refl
  step_counts_none hand next d mid (fills_last words part image is last split wrote same to)
      other = rw same refl
  step_counts_none hand next d mid
      (begins_bottom words part image cpu is last buffi wrote start same to) other = rw same refl
  step_counts_none hand next d mid (bottoms before after image turn is step same to) other =
      rw same refl
  step_counts_none hand next d mid (accepts image is wrote same to) other = absurd (other to)

  ran_goes : (first : Hand) {hand : Hand} {d : Device} → Ran code event first start hand d →
      GoesOn start d
  ran_goes first begins =
      record {
        goes = record {
          clock = omega arith;
          accepted = omega arith;
          finished =
              refl;
          history = refl;
          cursors = refl;
        };
        same = refl;
      }
  ran_goes first (goes_on {hand} {next} {d} {mid} ran step other no_cut) =
      let here = ran_goes first ran in
      let goes = step_goes hand next d mid here step in
      let clock = goes.clock in
      record {
        goes = record {
          clock = omega (arith, clock);
          accepted = goes.accepted;
          finished =
              goes.finished;
          history = goes.history;
          cursors = goes.cursors;
        };
        same = step_counts_none hand next d mid step other ∙ here.same;
      }

  handler_goes : (first : Hand) (mid : Device) (answer : Answer) →
      Handles code event first start mid answer → (answer ≢ Full) × Goes start mid
  handler_goes first mid answer (takes hand d ran step is) =
      ((λ full. let e = sym is ∙ full in cc), step_goes hand Over d mid (ran_goes first ran) step)
  handler_goes first mid answer (loses hand next d ran step other due is) =
      ((λ full. let e = sym is ∙ full in cc), step_goes hand next d mid (ran_goes first ran) step)

end_stays : (marks : List Mark) (mark : Mark) →
    ((rest : Option End) → end_of_kind mark.kind rest ≡ rest) →
    end_of (marks ++ mark ∷ []) ≡ end_of marks
end_stays [] mark quiet = quiet None
end_stays (first ∷ more) mark quiet = ap (end_of_kind first.kind) (end_stays more mark quiet)

-- a mark's answer, if it tells one
abbrev answers_by : Mark → List Answer
answers_by mark = map (λ (posted : Posted). posted.answer) (raised_by mark.kind)

answers_behind : (marks : List Mark) (mark : Mark) →
    answers_of (marks ++ mark ∷ []) ≡ answers_of marks ++ answers_by mark
answers_behind marks mark =
    let told = map {A = Posted} (λ posted. posted.answer) in
    ap told (flat_map-append (λ (one : Mark). raised_by one.kind) marks (mark ∷ [])
    ∙ ap (λ (more : List Posted). raised_postings marks ++ more)
    (append-nil (raised_by mark.kind)))
    ∙ map-append (λ (posted : Posted). posted.answer) (raised_postings marks)
    (raised_by mark.kind)

quiet_answers : (marks : List Mark) (mark : Mark) → answers_by mark ≡ [] →
    answers_of (marks ++ mark ∷ []) ≡ answers_of marks
quiet_answers marks mark quiet =
    answers_behind marks mark ∙ ap (λ (more : List Answer). answers_of marks ++ more) quiet
    ∙ append-nil (answers_of marks)

-- what a raised posting leaves beside
pub record Raise (postings : List Posting) (number : ℕ) (old new : Device) (answer : Answer)
    : Type 0 where
  pub answers : answers_of new.history.marks ≡ answers_of old.history.marks ++ answer ∷ []
  pub cursors : new.cursors
      ≡ slice_set old.cursors number (moved postings number (cursor_of old.cursors number))
  pub full : (answer ≡ Full) ↔ (is_full (state old.image) ≡ true)
  pub refused : answer ≡ Full → IsRefused old new
  pub clock : old.clock ≤ new.clock
  pub accepted : new.accepted + old.clock ≤ old.accepted + new.clock
  pub finished : new.finished ≡ old.finished
  pub ends : end_of new.history.marks ≡ end_of old.history.marks

-- the time of the deciding step
record Times (d new : Device) : Type 0 where
  answers : answers_of new.history.marks ≡ answers_of d.history.marks
  cursors : new.cursors ≡ d.cursors
  clock : new.clock ≡ d.clock + 1
  accepted : new.accepted ≡ d.accepted
  finished : new.finished ≡ d.finished
  ends : end_of new.history.marks ≡ end_of d.history.marks

times : (periods : List ℕ) (d : Device) (is_over : Bool) →
    Times d (if is_over then cut periods d else passed d)
times periods d true =
    record {
      answers = quiet_answers d.history.marks _ refl;
      cursors = refl;
      clock = refl;
      accepted = refl;
      finished = refl;
      ends =
          end_stays d.history.marks _ (λ rest. refl);
    }
times periods d false = record {
  answers = refl;
  cursors = refl;
  clock = refl;
  accepted = refl;
  finished = refl;
  ends = refl;
}

raised_by_handler : (program : Program) (periods : List ℕ) (postings : List Posting) (number : ℕ)
    (old mid new : Device) (answer : Answer) →
    is_full (state old.image) ≡ false → answer ≢ Full → Goes old mid →
    new ≡ ticked periods (answered postings number (next_posting postings old number) old.clock
    (mid.clock + 1) answer mid) → Raise postings number old new answer
raised_by_handler program periods postings number old mid new answer room other goes is =
    let told = answered postings number (next_posting postings old number) old.clock
    (mid.clock + 1) answer mid in
    let time = times periods told (mid.until == 1) in
    let clock_ = time.clock in
    let accepted_ = time.accepted in
    let later = goes.clock in
    let few = goes.accepted in
    rw is (record {
      answers =
          time.answers ∙ answers_behind mid.history.marks _
          ∙ ap (λ (past : Past). answers_of past.marks ++ answer ∷ []) goes.history;
      cursors =
          time.cursors
          ∙ ap (λ (cursors : List Cursor). slice_set cursors number
          (moved postings number (cursor_of cursors number))) goes.cursors;
      full = (λ e. absurd (other e), λ e. absurd (let both : true ≡ false = sym e ∙ room in cc));
      refused = λ e. absurd (other e);
      clock = omega (arith, clock_, later);
      accepted = omega (arith, clock_, accepted_, later, few);
      finished = time.finished ∙ goes.finished;
      ends =
          time.ends ∙ end_stays mid.history.marks _ (λ rest. refl) ∙ ap
          (λ (past : Past). end_of past.marks) goes.history;
    })

pub raised_leaves : (program : Program) (code : Bodies) (periods : List ℕ)
    (postings : List Posting) (number : ℕ) (old new : Device) (answer : Answer) →
    Raises program code periods postings number old new answer →
    Raise postings number old new answer
raised_leaves program code periods postings number old new answer (fulls full answers is) =
    rw is (record {
      answers =
          answers_behind old.history.marks _
          ∙ ap (λ (one : Answer). answers_of old.history.marks ++ one ∷ []) (sym answers);
      cursors = refl;
      full = (λ e. full, λ e. answers);
      refused = λ e. record {
        image = refl;
        phase = refl;
        clock = refl;
        marks = length-append old.history.marks _;
      };
      clock = omega arith;
      accepted = omega arith;
      finished = refl;
      ends = end_stays old.history.marks _ (λ rest. refl);
    })
raised_leaves program code periods postings number old new answer
    (handles cpu mid room start came is) =
    let goes = handler_goes code (next_posting postings old number).event old _ mid answer came in
    raised_by_handler program periods postings number old mid new answer room goes.0 goes.1 is

-- what a board has then
pub record RaisesOn (program : Program) (mode : Mode) (script : Script) (number : ℕ)
    (old new : Device) (answer : Answer) : Type 0 where
  pub board : IsBoard program mode script new
  pub leaves : Raise script.postings number old new answer
  pub steps : new.steps ≡ old.steps
  pub spare : old.spare ≤ new.spare + handler_bound program
  pub grows : AreRecordsGrown old new
  pub left : (cursor_of new.cursors number).left + 1 ≡ (cursor_of old.cursors number).left
  pub others : (other : ℕ) → other ≢ number →
      cursor_of new.cursors other ≡ cursor_of old.cursors other

-- a device has one posting less left, and no other has
module _ (postings : List Posting) (number : ℕ) (old new : Device) (answer : Answer)
    (leaves : Raise postings number old new answer) where
  abbrev own : Cursor
  own = cursor_of old.cursors number

  one_left_less : number < length old.cursors → 0 < own.left →
      (cursor_of new.cursors number).left + 1 ≡ own.left
  one_left_less within some =
      let found =
      ap (λ (cursors : List Cursor). (cursor_of cursors number).left) leaves.cursors
      ∙ ap (λ (c : Cursor). c.left) (get_or-set_same old.cursors number
      (moved postings number own) no_cursor within) in
      omega (arith, found, some)

  others_stay : (other : ℕ) → other ≢ number →
      cursor_of new.cursors other ≡ cursor_of old.cursors other
  others_stay other apart =
      ap (λ (cursors : List Cursor). cursor_of cursors other) leaves.cursors
      ∙ get_or-set_other old.cursors number other (moved postings number own) no_cursor apart

pub raise_keeps : (program : Program) (mode : Mode) (script : Script) (number : ℕ)
    (old new : Device) (answer : Answer) →
    IsBoard program mode script old → number < 8 → 0 < (cursor_of old.cursors number).left →
    handler_bound program ≤ old.spare →
    end_of old.history.marks ≡ None → RaisesKeepSound → RaisesKeepPace →
    Raises program (program_code program) script.power script.postings number old new answer →
    RaisesOn program mode script number old new answer
raise_keeps program mode script number old new answer board low left spare open_ law paces
    raised =
    let same : handler_bound program ≤ handler_bound program = omega arith in
    let has =
    law (terms_of program mode) script.power script.postings number old new answer
    board.scripted.periods board.accepted same low left
    (known program mode script old board number low left spare open_) spare board.sound
    board.cursors (board.room open_) raised in
    let leaves = raised_leaves program (program_code program) script.power script.postings number
    old new answer raised in
    let clock = leaves.clock in
    let counted = leaves.accepted in
    let finished = leaves.finished in
    let steps = has.steps in
    let time = has.time in
    let old_steps = board.steps in
    let old_counted = board.counted in
    let old_finished = board.finished in
    let old_limit = board.limit in
    let old_time = board.time in
    let few = has.room.few in
    let eight = board.cursors.eight in
    record {
      board = record {
        accepted = board.accepted;
        sizes = board.sizes;
        scripted = board.scripted;
        sound = has.sound;
        paced = paces (terms_of program mode) script.power script.postings number old new answer
            has.sound.fit board.paced raised;
        cursors = has.cursors;
        steps = omega (arith, clock, steps, old_steps);
        counted = omega (arith, clock, counted, old_counted);
        finished = omega (arith, clock, finished, old_finished);
        limit = omega (arith, steps, old_limit);
        time = omega (arith, time, old_time);
        few = few;
        room = λ still. has.room;
      };
      leaves = leaves;
      steps = has.steps;
      spare = has.spare;
      grows = has.grows;
      left = one_left_less script.postings number old new answer leaves
          (omega (arith, low, eight)) left;
      others = others_stay script.postings number old new answer leaves;
    }
