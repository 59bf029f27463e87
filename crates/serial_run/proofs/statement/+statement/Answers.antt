use Rattle.std.proofs.Common.{◌≡◌, ◌-◌, [], drop, sym, ◌∙◌, arith}
use Rattle.std.proofs.lemmas.List.{drop_all}
use Rattle.task_syntax.specs.Expressions.{expression}
use Rattle.task_syntax.specs.Statements.{Way, statement, statements}
use Rattle.serial_run.specs.Locals.{locals_of}
use Rattle.serial_run.specs.Moments.{end_of}
use Rattle.serial_run.specs.Runs.{moment_of}
use Rattle.serial_run.proofs.Layers.{statement-let, statement-assign, statement-next, statement-halt, statement-give}
use Rattle.serial_run.proofs.Steps.{behind-ends, behind-chain, end_of-ends, end_of-chain}
use Rattle.serial_run.proofs.Giving.{gives-rest}
use Rattle.serial_run.proofs.Ways.{if-holds, if-not, if-else, statements-more, statements-end, turns-more, turns-end}
use Rattle.serial_run.proofs.statement.+statement.Goals as goal

pub statement-returns-in_ok-set-in-Let-clause-way : goal.statement-returns-in_ok-set-in-Let-clause-way
statement-returns-in_ok-set-in-Let-clause-way t c =
    rw (c.in-Let.is, statement-let, end_of-chain, end_of-ends, ← c.in_ok-value-in-Let.ensures.value, c.in_ok-set-in-Let.ensures)

pub statement-returns-in_ok-set-in-Let-clause-moment : goal.statement-returns-in_ok-set-in-Let-clause-moment
statement-returns-in_ok-set-in-Let-clause-moment t c = rw (c.in-Let.is, statement-let, behind-chain, behind-ends) c.in_ok-value-in-Let.ensures.moment

pub statement-returns-in_ok-assign-in-Assign-clause-way : goal.statement-returns-in_ok-assign-in-Assign-clause-way
statement-returns-in_ok-assign-in-Assign-clause-way t c =
    rw (c.in-Assign.is, statement-assign, end_of-chain, end_of-chain, ← c.in_ok-target-in-Assign.ensures.aim, ← c.in_ok-target-in-Assign.ensures.moment, ← c.in_ok-value-in-Assign.ensures.value, ← c.in_ok-value-in-Assign.ensures.moment)
    c.in_ok-assign-in-Assign.ensures.way

pub statement-returns-in_ok-assign-in-Assign-clause-moment : goal.statement-returns-in_ok-assign-in-Assign-clause-moment
statement-returns-in_ok-assign-in-Assign-clause-moment t c =
    rw (c.in-Assign.is, statement-assign, behind-chain, behind-chain, ← c.in_ok-target-in-Assign.ensures.aim, ← c.in_ok-target-in-Assign.ensures.moment, ← c.in_ok-value-in-Assign.ensures.value, ← c.in_ok-value-in-Assign.ensures.moment)
    c.in_ok-assign-in-Assign.ensures.moment

pub statement-returns-in-Next-clause-way : goal.statement-returns-in-Next-clause-way
statement-returns-in-Next-clause-way t c = rw (c.in-Next.is, statement-next, end_of-ends, c.next.ensures)

pub statement-returns-in-Next-clause-moment : goal.statement-returns-in-Next-clause-moment
statement-returns-in-Next-clause-moment t c = rw (c.in-Next.is, statement-next, behind-ends)

pub statement-returns-in-Halt-clause-way : goal.statement-returns-in-Halt-clause-way
statement-returns-in-Halt-clause-way t c = rw (c.in-Halt.is, statement-halt, end_of-ends)

pub statement-returns-in-Halt-clause-moment : goal.statement-returns-in-Halt-clause-moment
statement-returns-in-Halt-clause-moment t c = rw (c.in-Halt.is, statement-halt, behind-ends)

pub statement-returns-in_ok-message-in-Give-clause-way : goal.statement-returns-in_ok-message-in-Give-clause-way
statement-returns-in_ok-message-in-Give-clause-way t c =
    rw (c.in-Give.is, statement-give, end_of-chain, end_of-ends, ← c.as_slice-in-Give.ensures, ← c.in_ok-message-in-Give.ensures.words)

pub statement-returns-in_ok-message-in-Give-clause-moment : goal.statement-returns-in_ok-message-in-Give-clause-moment
statement-returns-in_ok-message-in-Give-clause-moment t c =
    rw (c.in-Give.is, statement-give, behind-chain, behind-ends, ← c.as_slice-in-Give.ensures) c.in_ok-message-in-Give.ensures.moment

pub statements-loop-source-preserved : goal.statements-loop-source-preserved
statements-loop-source-preserved t c =
    let goes : Way.on (locals_of c.statement.new.locals) ≡ end_of (statement c.args.checked.now c.source-item.result (locals_of c.loop-source.locals)) (moment_of c.loop-source.run) = rw c.in_default.is at c.in_ok-ending.ensures.way in
    let leads = statements-more c.args.checked.now c.args.block.now c.loop-source.source-index c.source-item.result (locals_of c.loop-source.locals) (moment_of c.loop-source.run) (moment_of c.statement.new.run)
    (omega arith) c.source-item.is c.in_ok-ending.ensures.moment (locals_of c.statement.new.locals) goes in
    record {
      still = c.in_ok-ending.ensures.still;
      gives = gives-rest c.args.block.now c.loop-source.source-index c.source-item.result (omega arith) c.source-item.is c.loop-source.invariant.gives;
      way = sym leads.way ∙ c.loop-source.invariant.way;
      moment = sym leads.moment ∙ c.loop-source.invariant.moment;
    }

pub statements-returns-in-Some-clause-way : goal.statements-returns-in-Some-clause-way
statements-returns-in-Some-clause-way t c =
    let ends : Way.out c.in-Some.ending ≡ end_of (statement c.args.checked.now c.source-item.result (locals_of c.loop-source.locals)) (moment_of c.loop-source.run) = rw c.in-Some.is at c.in_ok-ending.ensures.way in
    let leads = statements-end c.args.checked.now c.args.block.now c.loop-source.source-index c.source-item.result (locals_of c.loop-source.locals) (moment_of c.loop-source.run) (moment_of c.statement.new.run)
    (omega arith) c.source-item.is c.in_ok-ending.ensures.moment c.in-Some.ending ends in
    (rw end_of-ends at (sym leads.way)) ∙ c.loop-source.invariant.way

pub statements-returns-in-Some-clause-moment : goal.statements-returns-in-Some-clause-moment
statements-returns-in-Some-clause-moment t c =
    let ends : Way.out c.in-Some.ending ≡ end_of (statement c.args.checked.now c.source-item.result (locals_of c.loop-source.locals)) (moment_of c.loop-source.run) = rw c.in-Some.is at c.in_ok-ending.ensures.way in
    let leads = statements-end c.args.checked.now c.args.block.now c.loop-source.source-index c.source-item.result (locals_of c.loop-source.locals) (moment_of c.loop-source.run) (moment_of c.statement.new.run)
    (omega arith) c.source-item.is c.in_ok-ending.ensures.moment c.in-Some.ending ends in
    (rw behind-ends at (sym leads.moment)) ∙ c.loop-source.invariant.moment

pub statements-returns-clause-way : goal.statements-returns-clause-way
statements-returns-clause-way t c =
    let nothing : drop c.loop-source.source-index c.args.block.now ≡ [] = drop_all c.loop-source.source-index c.args.block.now c.loop-source-test.false in
    rw (nothing, end_of-ends) at c.loop-source.invariant.way

pub statements-returns-clause-moment : goal.statements-returns-clause-moment
statements-returns-clause-moment t c =
    let nothing : drop c.loop-source.source-index c.args.block.now ≡ [] = drop_all c.loop-source.source-index c.args.block.now c.loop-source-test.false in
    rw (nothing, behind-ends) at c.loop-source.invariant.moment

pub repeat-loop-turn-preserved : goal.repeat-loop-turn-preserved
repeat-loop-turn-preserved t c =
    let goes : Way.on (locals_of c.statements.new.locals) ≡ end_of (statements c.args.checked.now c.args.block.now (locals_of c.set.new.self)) (moment_of c.loop-turn.run) = rw c.in_default.is at c.in_ok-ending.ensures.way in
    let leads = turns-more (statements c.args.checked.now c.args.block.now) c.args.name.now.text c.args.count c.loop-turn.turn (locals_of c.loop-turn.locals) (locals_of c.set.new.self) (moment_of c.loop-turn.run) (moment_of c.statements.new.run)
    (omega arith) c.in_ok-set.ensures c.in_ok-ending.ensures.moment (locals_of c.statements.new.locals) goes in
    record {
      still = c.in_ok-ending.ensures.still;
      way = sym leads.way ∙ c.loop-turn.invariant.way;
      moment = sym leads.moment ∙ c.loop-turn.invariant.moment;
    }

pub repeat-returns-in-Some-clause-way : goal.repeat-returns-in-Some-clause-way
repeat-returns-in-Some-clause-way t c =
    let ends : Way.out c.in-Some.ending ≡ end_of (statements c.args.checked.now c.args.block.now (locals_of c.set.new.self)) (moment_of c.loop-turn.run) = rw c.in-Some.is at c.in_ok-ending.ensures.way in
    let leads = turns-end (statements c.args.checked.now c.args.block.now) c.args.name.now.text c.args.count c.loop-turn.turn (locals_of c.loop-turn.locals) (locals_of c.set.new.self) (moment_of c.loop-turn.run) (moment_of c.statements.new.run)
    (omega arith) c.in_ok-set.ensures c.in_ok-ending.ensures.moment c.in-Some.ending ends in
    (rw end_of-ends at (sym leads.way)) ∙ c.loop-turn.invariant.way

pub repeat-returns-in-Some-clause-moment : goal.repeat-returns-in-Some-clause-moment
repeat-returns-in-Some-clause-moment t c =
    let ends : Way.out c.in-Some.ending ≡ end_of (statements c.args.checked.now c.args.block.now (locals_of c.set.new.self)) (moment_of c.loop-turn.run) = rw c.in-Some.is at c.in_ok-ending.ensures.way in
    let leads = turns-end (statements c.args.checked.now c.args.block.now) c.args.name.now.text c.args.count c.loop-turn.turn (locals_of c.loop-turn.locals) (locals_of c.set.new.self) (moment_of c.loop-turn.run) (moment_of c.statements.new.run)
    (omega arith) c.in_ok-set.ensures c.in_ok-ending.ensures.moment c.in-Some.ending ends in
    (rw behind-ends at (sym leads.moment)) ∙ c.loop-turn.invariant.moment

pub repeat-returns-clause-way : goal.repeat-returns-clause-way
repeat-returns-clause-way t c =
    let none_left : c.args.count - c.loop-turn.turn ≡ 0 = omega arith in
    rw (none_left, end_of-ends) at c.loop-turn.invariant.way

pub repeat-returns-clause-moment : goal.repeat-returns-clause-moment
repeat-returns-clause-moment t c =
    let none_left : c.args.count - c.loop-turn.turn ≡ 0 = omega arith in
    rw (none_left, behind-ends) at c.loop-turn.invariant.moment

pub statement-returns-then-value-ne0-clause-way : goal.statement-returns-then-value-ne0-clause-way
statement-returns-then-value-ne0-clause-way t c =
    let some : end_of (expression c.args.checked.now c.in-If.condition (locals_of c.args.locals.now)) (moment_of c.args.run.now) ≡ 0 → ⊥ = rw c.in_ok-value-in-If.ensures.value at c.if-value-ne0.true in
    let leads = if-holds c.args.checked.now c.in-If.condition c.in-If.block (locals_of c.args.locals.now) (moment_of c.args.run.now) c.in-If.other some in
    rw (c.in-If.is, leads.way, ← c.in_ok-value-in-If.ensures.moment, ← c.as_slice.ensures) c.statements.ensures.way

pub statement-returns-then-value-ne0-clause-moment : goal.statement-returns-then-value-ne0-clause-moment
statement-returns-then-value-ne0-clause-moment t c =
    let some : end_of (expression c.args.checked.now c.in-If.condition (locals_of c.args.locals.now)) (moment_of c.args.run.now) ≡ 0 → ⊥ = rw c.in_ok-value-in-If.ensures.value at c.if-value-ne0.true in
    let leads = if-holds c.args.checked.now c.in-If.condition c.in-If.block (locals_of c.args.locals.now) (moment_of c.args.run.now) c.in-If.other some in
    rw (c.in-If.is, leads.moment, ← c.in_ok-value-in-If.ensures.moment, ← c.as_slice.ensures) c.statements.ensures.moment

pub statement-returns-in-Some-clause-way : goal.statement-returns-in-Some-clause-way
statement-returns-in-Some-clause-way t c =
    let none : end_of (expression c.args.checked.now c.in-If.condition (locals_of c.args.locals.now)) (moment_of c.args.run.now) ≡ 0 = sym c.in_ok-value-in-If.ensures.value ∙ c.if-value-ne0.false in
    let leads = if-else c.args.checked.now c.in-If.condition c.in-If.block (locals_of c.args.locals.now) (moment_of c.args.run.now) c.in-Some.other none in
    rw (c.in-If.is, c.in-Some.is, leads.way, ← c.in_ok-value-in-If.ensures.moment, ← c.as_slice-in-Some.ensures) c.statements-in-Some.ensures.way

pub statement-returns-in-Some-clause-moment : goal.statement-returns-in-Some-clause-moment
statement-returns-in-Some-clause-moment t c =
    let none : end_of (expression c.args.checked.now c.in-If.condition (locals_of c.args.locals.now)) (moment_of c.args.run.now) ≡ 0 = sym c.in_ok-value-in-If.ensures.value ∙ c.if-value-ne0.false in
    let leads = if-else c.args.checked.now c.in-If.condition c.in-If.block (locals_of c.args.locals.now) (moment_of c.args.run.now) c.in-Some.other none in
    rw (c.in-If.is, c.in-Some.is, leads.moment, ← c.in_ok-value-in-If.ensures.moment, ← c.as_slice-in-Some.ensures) c.statements-in-Some.ensures.moment

pub statement-returns-in-None-clause-way : goal.statement-returns-in-None-clause-way
statement-returns-in-None-clause-way t c =
    let none : end_of (expression c.args.checked.now c.in-If.condition (locals_of c.args.locals.now)) (moment_of c.args.run.now) ≡ 0 = sym c.in_ok-value-in-If.ensures.value ∙ c.if-value-ne0.false in
    let leads = if-not c.args.checked.now c.in-If.condition c.in-If.block (locals_of c.args.locals.now) (moment_of c.args.run.now) none in
    rw (c.in-If.is, c.in-None.is, leads.way, end_of-ends)

pub statement-returns-in-None-clause-moment : goal.statement-returns-in-None-clause-moment
statement-returns-in-None-clause-moment t c =
    let none : end_of (expression c.args.checked.now c.in-If.condition (locals_of c.args.locals.now)) (moment_of c.args.run.now) ≡ 0 = sym c.in_ok-value-in-If.ensures.value ∙ c.if-value-ne0.false in
    let leads = if-not c.args.checked.now c.in-If.condition c.in-If.block (locals_of c.args.locals.now) (moment_of c.args.run.now) none in
    rw (c.in-If.is, c.in-None.is, leads.moment, behind-ends) c.in_ok-value-in-If.ensures.moment
