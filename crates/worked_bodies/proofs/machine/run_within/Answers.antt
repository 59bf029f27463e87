use Rattle.std.proofs.Common.{◌≡◌, ◌≤◌, ◌+◌, ℕ, List, [], length, sym, subst, arith}
use Rattle.coati_word.specs.declared.reading.Reading.{Reading}
use Rattle.task_syntax.specs.declared.body.BodyId.{BodyId}
use Rattle.word_code.specs.Code.{HasBody}
use Rattle.std.specs.Prelude.{IfNone, IfSome, Option}
use Rattle.coati_word.specs.declared.ending.Ending.{Ending}
use Rattle.word_cpu.specs.declared.turn.Turn.{Turn}
use Rattle.word_cpu.specs.declared.turn.Turn.TheVariants.{Ended}
use Rattle.word_cpu.specs.Turning.{IsStep}
use Rattle.word_cpu.specs.Reached.{Comes, HasNotEnded}
use Rattle.worked_bodies.proofs.Told.{comes_on, nothing_read, tells_at_its_end}
use Rattle.worked_bodies.proofs.machine.run_within.Goals as goal

pub loop-spent-init : goal.loop-spent-init
loop-spent-init g c = (
  [],
  subst (λ (read : List Reading). Comes g.V.View.meaning c.args.code.now c.args.body c.args.params.now c.args.view.now 0 [] read c.start-cpu.result c.args.view.now)
      (sym c.new-readings.ensures.items) (Comes.starts c.start-cpu.result c.start-cpu.ensures),
)

pub step-turn-requires-clause-exists : goal.step-turn-requires-clause-exists
step-turn-requires-clause-exists g c =
    let come = c.loop-spent.invariant in
    let here = c.machines_keep_to_the_course.ensures c.args.code.now c.args.cost c.requires.computes.0 c.args.body c.args.params.now c.args.view.now c.requires.computes.1 c.loop-spent.spent come.0 c.loop-spent.readings.items c.loop-spent.cpu c.loop-spent.view come.1 in
    subst (λ (b : BodyId). HasBody c.args.code.now b) (sym here.body_is) c.requires.exists

pub step-turn-requires-clause-few : goal.step-turn-requires-clause-few
step-turn-requires-clause-few g c =
    let come = c.loop-spent.invariant in
    let here = c.machines_keep_to_the_course.ensures c.args.code.now c.args.cost c.requires.computes.0 c.args.body c.args.params.now c.args.view.now c.requires.computes.1 c.loop-spent.spent come.0 c.loop-spent.readings.items c.loop-spent.cpu c.loop-spent.view come.1 in
    let most : length (g.V.View.meaning.words c.loop-spent.view) ≤ 256 = subst (λ (n : ℕ). n ≤ 256) (sym here.count) c.requires.words in
    omega (arith, most)

pub step-turn-requires-clause-runs : goal.step-turn-requires-clause-runs
step-turn-requires-clause-runs g c =
    let come = c.loop-spent.invariant in
    (c.machines_keep_to_the_course.ensures c.args.code.now c.args.cost c.requires.computes.0 c.args.body c.args.params.now c.args.view.now c.requires.computes.1 c.loop-spent.spent come.0 c.loop-spent.readings.items c.loop-spent.cpu c.loop-spent.view come.1).can_step

pub step-turn-requires-clause-begun : goal.step-turn-requires-clause-begun
step-turn-requires-clause-begun g c =
    let come = c.loop-spent.invariant in
    (c.machines_keep_to_the_course.ensures c.args.code.now c.args.cost c.requires.computes.0 c.args.body c.args.params.now c.args.view.now c.requires.computes.1 c.loop-spent.spent come.0 c.loop-spent.readings.items c.loop-spent.cpu c.loop-spent.view come.1).is_begun

pub returns-in-Some-clause-ends : goal.returns-in-Some-clause-ends
returns-in-Some-clause-ends g c =
    let come = c.loop-spent.invariant in
    let ended : c.step-turn.result ≡ Ended c.in-Some.ending = subst (λ (end : Option Ending). IfSome end (λ ending. c.step-turn.result ≡ Ended ending)) c.in-Some.is c.in_ok-ending.ensures.ended in
    let no_more : c.keep.new.readings.items ≡ c.loop-spent.readings.items =
    nothing_read c.loop-spent.readings.items c.keep.new.readings.items c.step-turn.result c.in-Some.ending ended c.in_ok-ending.ensures.read in
    record {
      spent = c.loop-spent.spent;
      done = come.0;
      before = c.loop-spent.cpu;
      last = c.step-turn.new.self;
      now = c.loop-spent.view;
      comes = subst (λ (read : List Reading). Comes g.V.View.meaning c.args.code.now c.args.body c.args.params.now c.args.view.now c.loop-spent.spent come.0 read c.loop-spent.cpu c.loop-spent.view) (sym no_more) come.1;
      ends = subst (λ (turn : Turn). IsStep g.V.View.meaning c.args.code.now c.loop-spent.cpu c.step-turn.new.self c.loop-spent.view c.step-turn.new.view turn) ended c.step-turn.ensures.step;
      steps_are = omega arith;
    }

pub returns-in-Some-clause-told : goal.returns-in-Some-clause-told
returns-in-Some-clause-told g c course computes =
    tells_at_its_end g.V.View.meaning c.args.code.now c.args.cost course c.args.body c.args.params.now c.args.view.now
    (c.loop-spent.spent + 1) c.keep.new.readings.items c.in-Some.ending c.step-turn.new.view c.machines_keep_to_the_course.ensures computes (returns-in-Some-clause-ends g c)

pub returns-in-Some-clause-words : goal.returns-in-Some-clause-words
returns-in-Some-clause-words g c = (returns-in-Some-clause-told g c c.requires.computes.0 c.requires.computes.1).words

pub loop-spent-preserved : goal.loop-spent-preserved
loop-spent-preserved g c =
    let come = c.loop-spent.invariant in
    let here = c.machines_keep_to_the_course.ensures c.args.code.now c.args.cost c.requires.computes.0 c.args.body c.args.params.now c.args.view.now c.requires.computes.1 c.loop-spent.spent come.0 c.loop-spent.readings.items c.loop-spent.cpu c.loop-spent.view come.1 in
    let goes_on : HasNotEnded c.step-turn.result = subst (λ (end : Option Ending). IfNone end (HasNotEnded c.step-turn.result)) c.in_default.is c.in_ok-ending.ensures.goes_on in
    comes_on g.V.View.meaning c.args.code.now c.args.body c.args.params.now c.args.view.now c.loop-spent.spent
    c.loop-spent.readings.items c.keep.new.readings.items c.loop-spent.cpu c.step-turn.new.self c.loop-spent.view c.step-turn.new.view c.step-turn.result
    come here.can_step c.step-turn.ensures.step goes_on c.in_ok-ending.ensures.read

pub unreachable-requires : goal.unreachable-requires
unreachable-requires g c =
    let come = c.loop-spent.invariant in
    let here = c.machines_keep_to_the_course.ensures c.args.code.now c.args.cost c.requires.computes.0 c.args.body c.args.params.now c.args.view.now c.requires.computes.1 c.loop-spent.spent come.0 c.loop-spent.readings.items c.loop-spent.cpu c.loop-spent.view come.1 in
    omega (arith, here.in_time, c.loop-spent-test.false)
