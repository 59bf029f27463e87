use Rattle.std.proofs.Common.{◌≡◌, sym, subst, arith, []}
use Rattle.serial_log.specs.declared.end.End.TheVariants.{Idle}
use Rattle.coati_board.specs.Board.{Whole}
use Rattle.executor.specs.InTurn.{ArePostingsInTurn, turns_of}
use Rattle.executor.specs.Run.{HasMadeAllSteps}
use Rattle.executor.proofs.Going.{HasRaisedOne, HasStepped, all_steps_at_end, can_raise, fewer_behind_raise, fewer_behind_step, going_at_first, going_raised, going_stepped, none_at_end, turns_at_end}
use Rattle.executor.proofs.scripted.run_scripted.Goals as goal
use Rattle.executor.proofs.scripted.run_scripted.Goals.{After-post_next, After-step, then-is_over-via-then-is_over, then-is_over-via-else-is_over+then-executor_steps-limit}

pub loop-posting-init : goal.loop-posting-init
loop-posting-init c =
    going_at_first c.args.board.now c.requires.fresh c.script-script.ensures.scripted

pub post_next-requires-clause-spare : goal.post_next-requires-clause-spare
post_next-requires-clause-spare c =
    can_raise c.args.board.now c.loop-posting.board c.in-Some.posting c.loop-posting.invariant
    c.in-Some.ensures.some

raised_one : (c : After-post_next)
    → HasRaisedOne c.loop-posting.board c.post_next.new.self c.in-Some.posting c.post_next.result
raised_one c =
    let e = c.post_next.ensures in
    record {
      due = c.in-Some.ensures.some;
      raise = e.raise;
      still_open = e.open;
      steps = e.steps;
      spare = e.spare;
    }

pub loop-posting-preserved-in-Some : goal.loop-posting-preserved-in-Some
loop-posting-preserved-in-Some c =
    going_raised c.args.board.now c.loop-posting.board c.post_next.new.self c.in-Some.posting
    c.post_next.result c.loop-posting.invariant
    (raised_one (goal.at.loop-posting-preserved-in-Some c).After-post_next)

pub loop-posting-smaller-in-Some : goal.loop-posting-smaller-in-Some
loop-posting-smaller-in-Some c =
    fewer_behind_raise c.args.board.now c.loop-posting.board c.post_next.new.self c.in-Some.posting
    c.post_next.result c.loop-posting.invariant
    (raised_one (goal.at.loop-posting-smaller-in-Some c).After-post_next)

pub returns-then-is_over-clause-turns : goal.returns-then-is_over-clause-turns
returns-then-is_over-clause-turns c =
    let postings = c.args.board.now.script.postings in
    subst (λ (b : Whole). ArePostingsInTurn postings b.device.history.marks)
    (sym c.close.ensures.marked)
    (turns_at_end c.args.board.now c.loop-posting.board c.close.result c.loop-posting.invariant)

pub returns-then-is_over-clause-all : goal.returns-then-is_over-clause-all
returns-then-is_over-clause-all c idle =
    let postings = c.args.board.now.script.postings in
    let over = c.close.ensures.idle.0 idle in
    subst (λ (b : Whole). (turns_of postings b.device.history.marks).left ≡ [])
    (sym c.close.ensures.marked)
    (none_at_end c.args.board.now c.loop-posting.board c.close.result c.loop-posting.invariant
    over)

pub returns-then-is_over-clause-limit : goal.returns-then-is_over-clause-limit
returns-then-is_over-clause-limit c limited =
    let last = c.loop-posting.board in
    let going = c.loop-posting.invariant in
    let low = going.steps in
    let all : last.device.steps ≡ last.script.limit = elim c.then-is_over.branch [
      | then-is_over-via-then-is_over w ↦
          absurd (let over = c.is_over.ensures.over.0 w.if-is_over.true in
          let idle : c.close.result ≡ Idle = c.close.ensures.idle.1 over in cc)
      | then-is_over-via-else-is_over+then-executor_steps-limit w ↦
          let count = w.executor_steps.ensures.steps in
          omega (arith, low, w.if-executor_steps-limit.true, count, w.limit.ensures)
    ] in
    subst HasMadeAllSteps (sym c.close.ensures.marked)
    (all_steps_at_end c.args.board.now last c.close.result going c.in_default.ensures.none all)

stepped : (c : After-step) → HasStepped c.loop-posting.board c.step.new.self
stepped c =
    let e = c.step.ensures in
    record {
      none_due = c.in_default.ensures.none;
      not_over =
          λ over. (let yes = c.is_over.ensures.over.1 over in let no = c.if-is_over.false in cc);
      below =
          let count = c.executor_steps.ensures.steps in
          omega (arith, c.if-executor_steps-limit.false, count, c.limit.ensures);
      step = e.step;
      same = e.run;
      still_open = e.open;
      clock = e.clock;
      steps = e.steps;
      spare = e.spare;
    }

pub loop-posting-smaller : goal.loop-posting-smaller
loop-posting-smaller c =
    fewer_behind_step c.args.board.now c.loop-posting.board c.step.new.self
    c.loop-posting.invariant
    (stepped (goal.at.loop-posting-smaller c).After-step)

pub loop-posting-preserved : goal.loop-posting-preserved
loop-posting-preserved c =
    going_stepped c.args.board.now c.loop-posting.board c.step.new.self c.loop-posting.invariant
    (stepped (goal.at.loop-posting-preserved c).After-step)
