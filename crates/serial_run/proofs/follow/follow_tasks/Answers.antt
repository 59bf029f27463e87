use Rattle.std.proofs.Common.{arith, sym, ◌∙◌}
use Rattle.std.specs.Prelude.{slice_index}
use Rattle.serial_run.proofs.Following.{comes-further, comes-round, ends-before, round-on, strays-at-first, strays-further}
use Rattle.serial_run.proofs.follow.follow_tasks.Goals as goal

pub returns-in_default : goal.returns-in_default
returns-in_default c = λ whole found all.
    let other = rw c.in_default.is at c.in_ok-followed.ensures in
    strays-at-first c.args.checked.now c.args.task (slice_index c.args.store) c.args.count whole c.args.reads.now (omega arith) other found all

pub returns-then-not-is_inside : goal.returns-then-not-is_inside
returns-then-not-is_inside c = λ whole found all.
    ends-before c.args.checked.now c.args.task c.args.store c.args.reads.now c.loop-done.done c.args.count c.loop-done.followed c.loop-done.invariant.come whole
    c.loop-done-test.true (sym c.is_inside.ensures ∙ c.if-not-is_inside.true) found

pub returns-in_default-on : goal.returns-in_default-on
returns-in_default-on c = λ whole found all.
    let again = rw c.in_default-on.is at c.on.ensures.round in
    comes-round c.args.checked.now c.args.task c.args.store c.args.reads.now c.loop-done.done c.args.count c.loop-done.followed c.loop-done.invariant.come whole
    c.loop-done.round c.loop-done-test.true c.loop-done.invariant.round again found

pub returns-in_default-2 : goal.returns-in_default-2
returns-in_default-2 c = λ whole found all.
    let other = rw c.in_default-2.is at c.in_ok-next.ensures in
    strays-further c.args.checked.now c.args.task c.args.store c.args.reads.now c.loop-done.followed c.loop-done.done c.args.count whole c.loop-done.invariant.come
    c.loop-done-test.true (sym c.is_inside.ensures ∙ c.if-not-is_inside.false) other found all

pub loop-done-preserved : goal.loop-done-preserved
loop-done-preserved c =
    let inside = sym c.is_inside.ensures ∙ c.if-not-is_inside.false in
    let followed = rw c.in-Some-2.is at c.in_ok-next.ensures in
    let on = rw c.in-Some-on.is at c.on.ensures.on in
    record {
      come = comes-further c.args.checked.now c.args.task c.args.store c.args.reads.now c.loop-done.followed c.loop-done.done c.in-Some-2.next c.loop-done.invariant.come inside followed;
      round = round-on c.args.checked.now c.args.task c.args.reads.now c.loop-done.round c.in-Some-on.on c.loop-done.followed c.in-Some-2.next c.loop-done.invariant.round inside followed on;
    }
