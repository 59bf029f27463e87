use Rattle.std.proofs.Common.{◌≡◌, [], drop, length, sym, ◌∙◌, arith, append-nil}
use Rattle.std.proofs.lemmas.List.{drop_all, length-set}
use Rattle.serial_run.specs.Locals.{locals_of}
use Rattle.serial_run.specs.Runs.{moment_of}
use Rattle.serial_run.proofs.Gifts.{gifts-more, gifts-behind}
use Rattle.serial_run.proofs.Rests.{stored-then}
use Rattle.serial_run.proofs.Steps.{behind-ends, end_of-ends}
use Rattle.serial_run.proofs.statement.give.Goals as goal

pub loop-at-preserved : goal.loop-at-preserved
loop-at-preserved c =
    let more = gifts-more c.args.checked.now c.args.values.now c.loop-at.at c.index-values-at.result (locals_of c.args.locals.now) (moment_of c.loop-at.run) (moment_of c.evaluate.new.run) (omega arith) c.index-values-at.is c.in_ok-words.ensures.moment in
    let behind_it = gifts-behind c.args.checked.now c.args.values.now c.loop-at.at c.index-values-at.result (locals_of c.args.locals.now) (moment_of c.loop-at.run) (moment_of c.evaluate.new.run) (omega arith) c.index-values-at.is c.in_ok-words.ensures.moment in
    record {
      still = c.in_ok-words.ensures.still;
      long = length-set c.loop-at.words c.loop-at.at c.in_ok-words.field-0 ∙ c.loop-at.invariant.long;
      words = stored-then c.loop-at.words c.loop-at.at c.in_ok-words.field-0 _ (omega (arith, c.loop-at.invariant.long, c.requires.few)) ∙ rw (c.in_ok-words.ensures.value, ← more) c.loop-at.invariant.words;
      moment = sym behind_it ∙ c.loop-at.invariant.moment;
    }

pub returns-clause-words : goal.returns-clause-words
returns-clause-words c =
    let nothing : drop c.loop-at.at c.args.values.now ≡ [] = drop_all c.loop-at.at c.args.values.now c.loop-at-test.false in
    let all : c.loop-at.at ≡ length c.args.values.now = omega arith in
    rw (c.new.ensures, ← all) (rw (nothing, end_of-ends, append-nil) at c.loop-at.invariant.words)

pub returns-clause-moment : goal.returns-clause-moment
returns-clause-moment c =
    let nothing : drop c.loop-at.at c.args.values.now ≡ [] = drop_all c.loop-at.at c.args.values.now c.loop-at-test.false in
    rw (nothing, behind-ends) at c.loop-at.invariant.moment
