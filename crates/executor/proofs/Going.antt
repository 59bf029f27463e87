-- A scripted run on its way.
use Rattle.std.proofs.Common.{◌≡◌, ℕ, ◌+◌, ◌-◌, ◌*◌, ◌<◌, ◌≤◌, List, [], refl, sym, ap, ◌∙◌, subst, arith, length}
use Rattle.serial_log.specs.declared.end.End.{End}
use Rattle.serial_log.specs.declared.posted.Answer.{Answer}
use Rattle.serial_log.specs.declared.script.Posting.{Posting}
use Rattle.serial_log.specs.declared.script.Script.{Script}
use Rattle.task_cost.specs.Limits.{handler_bound}
use Rattle.task_syntax.specs.declared.program.Program.{Program}
use Rattle.coati_board.specs.Board.{CanBeRun, IsBoardStep, IsOpen, IsOver, IsRaise, IsSameRun, Whole, end_of}
use Rattle.coati_board.specs.Served.{IsScript}
use Rattle.coati_device.specs.Cursors.{posting_at}
use Rattle.executor.specs.InTurn.{ArePostingsInTurn, IsFirstToCome, Turns, all_left, turns_of}
use Rattle.executor.specs.Run.{Goes, HasMadeAllSteps, HasNoneDue, IsDue, closed}
use Rattle.executor.specs.Run.Goes.{begins, raises, steps}
use Rattle.executor.proofs.Moves.{RaisesOne, raise_raises_one, step_raises_none}
use Rattle.executor.proofs.Places.{AreOfDevices}
use Rattle.executor.proofs.Quiet.{IsQuiet, one_mark}
use Rattle.executor.proofs.Rounds.{HasRaised, IsNext, first_is_next, first_to_come, left_count, next_is_first, none_left, none_raised, of_devices, raise_goes_on, step_goes_on}

-- the room for the steps and the handlers that are left
abbrev pub room_left : Whole → ℕ → ℕ
room_left board raised =
    (board.script.limit - board.device.steps)
    + handler_bound board.program * (length board.script.postings - raised)

pub record IsGoing (start now : Whole) : Type 0 where
  pub goes : Goes start now
  pub same : IsSameRun start now
  pub still_open : IsOpen now
  pub devices : AreOfDevices now.script.postings
  pub raised : ℕ
  pub has : HasRaised now.script.postings raised now.device
  pub steps : now.device.steps ≤ now.script.limit
  pub room : room_left now raised ≤ now.device.spare

same_still : (a b c : Whole) → IsSameRun a b → IsSameRun b c → IsSameRun a c
same_still a b c one two = record {
  program = two.program ∙ one.program;
  mode = two.mode ∙ one.mode;
  script = two.script ∙ one.script;
}

-- the room that is left, in words of the board before
room_is : (old new : Whole) (raised : ℕ) → IsSameRun old new
    → room_left new raised
    ≡ (old.script.limit - new.device.steps)
    + handler_bound old.program * (length old.script.postings - raised)
room_is old new raised same =
    let steps_left : ℕ = old.script.limit - new.device.steps in
    let postings_left : ℕ = length old.script.postings - raised in
    ap (λ (s : Script). (s.limit - new.device.steps)
    + handler_bound new.program * (length s.postings - raised)) same.script
    ∙ ap (λ (p : Program). steps_left + handler_bound p * postings_left) same.program

-- one posting fewer leaves the room of one handler
room_for_next : (bound all raised : ℕ) → raised < all
    → bound * (all - raised) ≡ bound * (all - (raised + 1)) + bound
room_for_next bound all raised within =
    let fewer : all - raised ≡ (all - (raised + 1)) + 1 = omega (arith, within) in
    let every = ap (λ (n : ℕ). bound * n) fewer in
    omega (arith, every)

pub going_at_first : (board : Whole) → CanBeRun board → IsScript board.program board.script
    → IsGoing board board
going_at_first board can script =
    let count = can.opened.fresh.steps in
    let room = can.room in
    let postings : List Posting = board.script.postings in
    let fresh = can.opened.fresh in
    record {
      goes = begins;
      same = record { program = refl; mode = refl; script = refl };
      still_open = ap end_of fresh.marks;
      devices = of_devices board.program postings script.postings;
      raised = 0;
      has = none_raised postings board.device fresh.clock fresh.marks can.opened.cursors;
      steps = omega (arith, count);
      room =
          let all : length postings - 0 ≡ length postings = omega arith in
          let every = ap (λ (n : ℕ). handler_bound board.program * n) all in
          omega (arith, count, room, every);
    }

-- the due posting is the next one
due_is_next : (start now : Whole) (posting : Posting) (going : IsGoing start now)
    → IsDue now posting → IsNext now.script.postings going.raised posting
due_is_next start now posting going due =
    first_is_next now.script.postings going.devices going.raised now.device going.has posting
    due.first

pub can_raise : (start now : Whole) (posting : Posting) → IsGoing start now → IsDue now posting
    → handler_bound now.program ≤ now.device.spare
can_raise start now posting going due =
    let postings : List Posting = now.script.postings in
    let next = due_is_next start now posting going due in
    let bound : ℕ = handler_bound now.program in
    let more = room_for_next bound (length postings) going.raised next.within in
    let room = going.room in
    omega (arith, more, room)

-- what a board tells of a raised posting
pub record HasRaisedOne (old new : Whole) (posting : Posting) (answer : Answer) : Type 0 where
  pub due : IsDue old posting
  pub raise : IsRaise old posting.device new answer
  pub still_open : IsOpen new
  pub steps : new.device.steps ≡ old.device.steps
  pub spare : old.device.spare ≤ new.device.spare + handler_bound old.program

pub going_raised : (start old new : Whole) (posting : Posting) (answer : Answer) →
    IsGoing start old
    → HasRaisedOne old new posting answer → IsGoing start new
going_raised start old new posting answer going told =
    let postings : List Posting = old.script.postings in
    let same = told.raise.same in
    let next = due_is_next start old posting going told.due in
    let one : RaisesOne postings posting.device old.device new.device answer =
    raise_raises_one postings posting.device old.device old.program _ old.script.power new.device
    answer told.raise.raised in
    let come : (posting_at postings going.raised).time ≤ old.device.clock =
    subst (λ (p : Posting). p.time ≤ old.device.clock) next.is told.due.come in
    let own = λ (p : Posting). RaisesOne postings p.device old.device new.device answer in
    let has : HasRaised postings (going.raised + 1) new.device =
    raise_goes_on postings going.devices going.raised old.device new.device going.has answer
    next.within come (subst own next.is one) in
    let bound : ℕ = handler_bound old.program in
    let more = room_for_next bound (length postings) going.raised next.within in
    let room = going.room in
    let low = going.steps in
    let still = told.steps in
    let spare = told.spare in
    let left = room_is old new (going.raised + 1) same in
    let limit = ap (λ (s : Script). s.limit) same.script in
    record {
      goes = raises old new posting answer going.goes told.due told.raise;
      same = same_still start old new going.same same;
      still_open = told.still_open;
      devices =
          subst (λ (s : Script). AreOfDevices s.postings) (sym same.script) going.devices;
      raised = going.raised + 1;
      has =
          subst (λ (s : Script). HasRaised s.postings (going.raised + 1) new.device)
          (sym same.script) has;
      steps = omega (arith, still, low, limit);
      room = omega (arith, more, room, still, spare, left);
    }

-- what a board tells of a step
pub record HasStepped (old new : Whole) : Type 0 where
  pub none_due : HasNoneDue old
  pub not_over : IsOver old → ⊥
  pub below : old.device.steps < old.script.limit
  pub step : IsBoardStep old new
  pub same : IsSameRun old new
  pub still_open : IsOpen new
  pub clock : new.device.clock ≡ old.device.clock + 1
  pub steps : new.device.steps ≡ old.device.steps + 1
  pub spare : new.device.spare + 1 ≡ old.device.spare

pub going_stepped : (start old new : Whole) → IsGoing start old → HasStepped old new
    → IsGoing start new
going_stepped start old new going told =
    let postings : List Posting = old.script.postings in
    let has : HasRaised postings going.raised new.device =
    step_goes_on postings going.devices going.raised old.device new.device going.has
    (λ within. told.none_due (posting_at postings going.raised)
    (next_is_first postings going.devices going.raised old.device going.has within))
    (step_raises_none old.program _ old.script.power old.device new.device told.step) told.clock in
    let room = going.room in
    let below = told.below in
    let count = told.steps in
    let spare = told.spare in
    let left = room_is old new going.raised told.same in
    let limit = ap (λ (s : Script). s.limit) told.same.script in
    record {
      goes = steps old new going.goes told.none_due told.not_over told.below told.step;
      same = same_still start old new going.same told.same;
      still_open = told.still_open;
      devices =
          subst (λ (s : Script). AreOfDevices s.postings) (sym told.same.script) going.devices;
      raised = going.raised;
      has =
          subst (λ (s : Script). HasRaised s.postings going.raised new.device)
          (sym told.same.script) has;
      steps = omega (arith, below, count, limit);
      room = omega (arith, room, count, spare, below, left);
    }

-- the steps and the postings that are left
abbrev pub rounds_left : Whole → ℕ
rounds_left board =
    (board.script.limit - board.device.steps)
    + length (turns_of board.script.postings board.device.history.marks).left

-- one step or one posting more
fewer_left : (start old new : Whole) (going : IsGoing start old) (gone : IsGoing start new)
    → new.script ≡ old.script → going.raised ≤ gone.raised → old.device.steps ≤ new.device.steps
    → new.device.steps + gone.raised ≡ old.device.steps + going.raised + 1
    → rounds_left new < rounds_left old
fewer_left start old new going gone script more_raised more_steps one =
    let before =
    left_count old.script.postings going.devices going.raised old.device going.has in
    let behind =
    left_count new.script.postings gone.devices gone.raised new.device gone.has in
    let limit = ap (λ (s : Script). s.limit) script in
    let count = ap (λ (s : Script). length s.postings) script in
    let low = gone.steps in
    let few = gone.has.few in
    omega (arith, one, before, behind, limit, count, low, few)

pub fewer_behind_raise : (start old new : Whole) (posting : Posting) (answer : Answer)
    → IsGoing start old → HasRaisedOne old new posting answer → rounds_left new < rounds_left old
unfolding going_raised
fewer_behind_raise start old new posting answer going told =
    let gone = going_raised start old new posting answer going told in
    let one : gone.raised ≡ going.raised + 1 = refl in
    let still = told.steps in
    fewer_left start old new going gone told.raise.same.script (omega (arith, one))
    (omega (arith, still)) (omega (arith, still, one))

pub fewer_behind_step : (start old new : Whole) → IsGoing start old → HasStepped old new
    → rounds_left new < rounds_left old
unfolding going_stepped
fewer_behind_step start old new going told =
    let gone = going_stepped start old new going told in
    let none : gone.raised ≡ going.raised = refl in
    let count = told.steps in
    fewer_left start old new going gone told.same.script (omega (arith, none))
    (omega (arith, count)) (omega (arith, count, none))

-- the End mark raises nothing
end_is_quiet : (board : Whole) (end : End)
    → IsQuiet board.device.history.marks (closed board end).device.history.marks
end_is_quiet board end = one_mark board.device.history.marks _ (λ t. refl) (λ t. tt)

pub turns_at_end : (start last : Whole) (end : End) → IsGoing start last
    → ArePostingsInTurn start.script.postings (closed last end).device.history.marks
turns_at_end start last end going =
    let marks = (closed last end).device.history.marks in
    subst (λ (s : Script). ArePostingsInTurn s.postings marks) going.same.script
    ((end_is_quiet last end).turns (all_left last.script.postings) going.has.turns)

left_at_end : (last : Whole) (end : End)
    → (turns_of last.script.postings (closed last end).device.history.marks).left
    ≡ (turns_of last.script.postings last.device.history.marks).left
left_at_end last end =
    ap (λ (t : Turns). t.left) ((end_is_quiet last end).same (all_left last.script.postings))

-- where it is over no posting is left
pub none_at_end : (start last : Whole) (end : End) → IsGoing start last → IsOver last
    → (turns_of start.script.postings (closed last end).device.history.marks).left ≡ []
none_at_end start last end going over =
    let postings : List Posting = last.script.postings in
    let marks = (closed last end).device.history.marks in
    let none = none_left postings going.devices going.raised last.device going.has
    over.none_left in
    subst (λ (s : Script). (turns_of s.postings marks).left ≡ []) going.same.script
    (left_at_end last end ∙ none)

-- where it isn't all steps are made
pub all_steps_at_end : (start last : Whole) (end : End) → IsGoing start last → HasNoneDue last
    → last.device.steps ≡ last.script.limit → HasMadeAllSteps (closed last end)
all_steps_at_end start last end going none all =
    let postings : List Posting = last.script.postings in
    record {
      steps = all;
      to_come =
          subst (IsFirstToCome last.device.clock) (sym (left_at_end last end))
          (first_to_come postings going.devices going.raised last.device going.has none);
    }
