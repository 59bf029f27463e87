-- Each act of a booth keeps what it is.
use Rattle.std.proofs.Common.{◌≡◌, ℕ, ◌+◌, ◌*◌, ◌<◌, ◌≤◌, Bool, true, false, if◌then◌else◌, List, refl, sym, ap, ◌∙◌, arith, length, mul-le-mul_left}
use Rattle.std.proofs.Math.Nat.{mul-add}
use Rattle.coati_word.specs.declared.mode.Mode.{Mode}
use Rattle.serial_log.specs.declared.mark.Mark.{Mark}
use Rattle.serial_log.specs.declared.posted.Answer.{Answer}
use Rattle.serial_log.specs.declared.script.Script.{Script}
use Rattle.task_cost.specs.Limits.{handler_bound}
use Rattle.task_syntax.specs.declared.program.Program.{Program}
use Rattle.coati_board.specs.Board.{IsOpen, IsOpened, IsOver, IsRaise, IsSameRun, Whole, end_of, left_of}
use Rattle.coati_board.specs.Cursors.{first_cursors}
use Rattle.coati_board.specs.Postings.{HasNoneLeft, RaisesNext, RaisesNone}
use Rattle.booth.specs.Acts.{IsPost, one_if, told_to}
use Rattle.booth.specs.Left.{HasRoom, left_in_all}
use Rattle.booth.specs.Views.{Counted, IsBooth, Place, answers_in, is_accepted, is_full, is_lost}
use Rattle.booth.proofs.Counts.{no_answer_more, one_answer_more}
use Rattle.booth.proofs.Left.{few_left, left_counts, left_falls, left_stays}

-- there is room for one handler where a posting is left
pub room_for_one : (board : Whole) (device : ℕ) → HasRoom board → device < 8 →
    0 < left_of board device → handler_bound board.program ≤ board.device.spare
room_for_one board device room low some =
    let count = left_counts board device 8 low in
    let bound : ℕ = handler_bound board.program in
    let one : 1 ≤ left_in_all board = omega (arith, count, some) in
    let each : bound * 1 ≤ bound * left_in_all board = mul-le-mul_left bound one in
    omega (arith, room, each)

-- what a board tells of a raised posting
pub record Raised (old : Whole) (device : ℕ) (new : Whole) (answer : Answer) : Type 0 where
  pub low : device < 8
  pub next : RaisesNext old device new answer
  pub same : IsSameRun old new
  pub still_open : IsOpen new
  pub steps : new.device.steps ≡ old.device.steps
  pub spare : old.device.spare ≤ new.device.spare + handler_bound old.program

pub room_behind_raise : (old : Whole) (device : ℕ) (new : Whole) (answer : Answer) →
    HasRoom old → Raised old device new answer → HasRoom new
room_behind_raise old device new answer room told =
    let bound : ℕ = handler_bound old.program in
    let limit = ap (λ (script : Script). script.limit) told.same.script in
    let product = ap (λ (program : Program). handler_bound program * left_in_all new)
    told.same.program in
    let fewer : bound * left_in_all old ≡ bound * left_in_all new + bound * 1 =
    ap (λ (n : ℕ). bound * n) (sym (left_falls old new device answer told.next 8 told.low))
    ∙ mul-add bound (left_in_all new) 1 in
    let steps = told.steps in
    let spare = told.spare in
    omega (arith, room, limit, product, fewer, steps, spare)

-- and of a step
pub record Stepped (old new : Whole) : Type 0 where
  pub below : old.device.steps < old.script.limit
  pub none : RaisesNone old new
  pub same : IsSameRun old new
  pub still_open : IsOpen new
  pub steps : new.device.steps ≡ old.device.steps + 1
  pub spare : new.device.spare + 1 ≡ old.device.spare

pub room_behind_step : (old new : Whole) → HasRoom old → Stepped old new → HasRoom new
room_behind_step old new room told =
    let bound : ℕ = handler_bound old.program in
    let limit = ap (λ (script : Script). script.limit) told.same.script in
    let product = ap (λ (program : Program). handler_bound program * left_in_all new)
    told.same.program in
    let as_many : bound * left_in_all new ≡ bound * left_in_all old =
    ap (λ (n : ℕ). bound * n) (left_stays old new told.none 8) in
    let steps = told.steps in
    let spare = told.spare in
    let below = told.below in
    omega (arith, room, below, limit, product, as_many, steps, spare)

module _ (program : Program) (mode : Mode) (script : Script) (old : Counted) (ended : Bool)
    (booth : IsBooth program mode script old ended) where
  -- the posting is booked as it was answered
  pub post_keeps : (device : ℕ) (board : Whole) (answer : Answer) (accepted full lost : ℕ) →
      0 < left_of old.board device → Raised old.board device board answer →
      accepted ≡ old.accepted + one_if (is_accepted answer) →
      full ≡ old.full + one_if (is_full answer) → lost ≡ old.lost + one_if (is_lost answer) →
      IsBooth program mode script
      (record old { board = board; accepted = accepted; full = full; lost = lost }) ended
  post_keeps device board answer accepted full lost some told accepted_is full_is lost_is =
      record {
        program_is = told.same.program ∙ booth.program_is;
        mode_is = told.same.mode ∙ booth.mode_is;
        script_is = told.same.script ∙ booth.script_is;
        still_open = told.still_open;
        room = room_behind_raise old.board device board answer booth.room told;
        accepted = counted is_accepted accepted old.accepted accepted_is booth.accepted;
        full = counted is_full full old.full full_is booth.full;
        lost = counted is_lost lost old.lost lost_is booth.lost;
        steps = booth.steps ∙ sym told.steps;
        ends = booth.ends;
        over = λ told_so. absurd (more told_so);
        none_left = λ told_so. absurd (more told_so);
      }
    where
      more : ended ≡ true → ⊥
      more told_so = let none = booth.none_left told_so device told.low in omega (arith, some, none)

      counted : (kind : Answer → Bool) (now before : ℕ) → now ≡ before + one_if (kind answer) →
          before ≡ answers_in kind old.board.device.history.marks →
          now ≡ answers_in kind board.device.history.marks
      counted kind now before is had =
          let one = one_answer_more kind old.board.device.history.marks
          board.device.history.marks answer told.next.answers in
          omega (arith, is, had, one)

  -- the step is booked
  pub step_keeps : (board : Whole) (steps ends : ℕ) → (IsOver old.board → ⊥) →
      Stepped old.board board → steps ≡ old.steps + 1 → ends ≡ old.ends →
      IsBooth program mode script (record old { board = board; steps = steps; ends = ends }) ended
  step_keeps board steps ends more told steps_is ends_is =
      let marks : List Mark = old.board.device.history.marks in
      let behind : List Mark = board.device.history.marks in
      let same = told.none.answers in
      let had = booth.steps in
      let made = told.steps in
      record {
        program_is = told.same.program ∙ booth.program_is;
        mode_is = told.same.mode ∙ booth.mode_is;
        script_is = told.same.script ∙ booth.script_is;
        still_open = told.still_open;
        room = room_behind_step old.board board booth.room told;
        accepted = booth.accepted ∙ sym (no_answer_more is_accepted marks behind same);
        full = booth.full ∙ sym (no_answer_more is_full marks behind same);
        lost = booth.lost ∙ sym (no_answer_more is_lost marks behind same);
        steps = omega (arith, steps_is, had, made);
        ends = ends_is ∙ booth.ends;
        over = λ told_so. absurd (more (booth.over told_so));
        none_left = λ told_so. absurd (more (booth.over told_so));
      }

  -- the end is told
  pub end_keeps : (ends : ℕ) → IsOver old.board → HasNoneLeft old.board → ends ≡ 1 →
      IsBooth program mode script (record old { ends = ends }) true
  end_keeps ends over none one = record {
    program_is = booth.program_is;
    mode_is = booth.mode_is;
    script_is = booth.script_is;
    still_open = booth.still_open;
    room = booth.room;
    accepted = booth.accepted;
    full = booth.full;
    lost = booth.lost;
    steps = booth.steps;
    ends = one;
    over = λ told_so. over;
    none_left = λ told_so. none;
  }

-- at first nothing is told
pub fresh_is_booth : (program : Program) (mode : Mode) (script : Script) (board : Whole)
    (accepted full lost steps ends : ℕ) → IsOpened program mode script board →
    board.script.limit + handler_bound board.program * length board.script.postings
    ≤ board.device.spare →
    accepted ≡ 0 → full ≡ 0 → lost ≡ 0 → steps ≡ 0 → ends ≡ 0 →
    IsBooth program mode script
    (record {
      board = board;
      accepted = accepted;
      full = full;
      lost = lost;
      steps = steps;
      ends = ends;
    }) false
fresh_is_booth program mode script board accepted full lost steps ends opened room no_accepted
    no_full no_lost no_steps no_ends =
    let marks = opened.fresh.marks in
    let made = opened.fresh.steps in
    let cursors = opened.cursors ∙ ap (λ (s : Script). first_cursors s.postings)
    (sym opened.script_is) in
    let few = mul-le-mul_left (handler_bound board.program) (few_left board cursors) in
    record {
      program_is = opened.program_is;
      mode_is = opened.mode_is;
      script_is = opened.script_is;
      still_open = ap end_of marks;
      room = omega (arith, room, made, few);
      accepted = no_accepted ∙ sym (ap (answers_in is_accepted) marks);
      full = no_full ∙ sym (ap (answers_in is_full) marks);
      lost = no_lost ∙ sym (ap (answers_in is_lost) marks);
      steps = no_steps ∙ sym made;
      ends = no_ends;
      over = λ told_so. absurd cc;
      none_left = λ told_so. absurd cc;
    }

-- where the end was told it is so
pub is_ended : (ended : Bool) (ends : ℕ) → ends ≡ (if ended then 1 else 0) → ends ≡ 1 →
    ended ≡ true
is_ended true ends is one = refl
is_ended false ends is one = absurd (omega (arith, is, one))

-- what is told of a posting that was booked
pub is_post : (device : ℕ) (old : Counted) (board : Whole) (answer : Answer)
    (accepted full lost : ℕ) → 0 < left_of old.board device →
    IsRaise old.board device board answer → accepted ≡ old.accepted + one_if (is_accepted answer) →
    full ≡ old.full + one_if (is_full answer) → lost ≡ old.lost + one_if (is_lost answer) →
    IsPost device old
    (record old { board = board; accepted = accepted; full = full; lost = lost }) answer
is_post device old board answer accepted full lost some raise accepted_is full_is lost_is =
    rw (accepted_is, full_is, lost_is) (record { some = some; raise = raise; totals = refl })

pub is_told : (old : Place) (answer : Answer) (accepted full lost : ℕ) →
    accepted ≡ old.accepted + one_if (is_accepted answer) →
    full ≡ old.full + one_if (is_full answer) → lost ≡ old.lost + one_if (is_lost answer) →
    record old { accepted = accepted; full = full; lost = lost } ≡ told_to old answer
is_told old answer accepted full lost accepted_is full_is lost_is =
    rw (accepted_is, full_is, lost_is) refl
