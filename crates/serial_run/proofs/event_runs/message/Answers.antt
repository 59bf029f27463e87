use Rattle.std.proofs.Common.{◌≡◌, ap, ◌∙◌, rules}
use Rattle.std.specs.Prelude.{replicate}
use Rattle.task_syntax.specs.Course.{answer}
use Rattle.task_syntax.specs.Events.{message_of}
use Rattle.task_syntax.specs.Expressions.{no_locals, with_local}
use Rattle.task_syntax.specs.Statements.{body}
use Rattle.serial_run.specs.Locals.{locals_of}
use Rattle.serial_run.specs.Moments.{reading_from}
use Rattle.serial_run.specs.Runs.{moment_of}
use Rattle.serial_run.proofs.Telling.{ended-from}
use Rattle.serial_run.proofs.Zeros.{zeros-blank}
use Rattle.serial_run.proofs.event_runs.message.Goals as goal

pub returns : goal.returns
returns c =
    let blank : c.in_ok-blank.blank.items ≡ replicate c.from-words.result 0 = search rules in
    let set : locals_of c.set.new.self ≡ with_local c.args.event.now.argument.text c.args.argument no_locals = rw c.new-locals.ensures at c.in_ok-set.ensures in
    let course = body c.args.checked.now c.args.event.now.top (with_local c.args.event.now.argument.text c.args.argument no_locals) in
    let begun : moment_of c.reading-run.result ≡ reading_from (replicate c.from-words.result 0) = rw blank at c.reading-run.ensures in
    let ends = ended-from course (replicate c.from-words.result 0) (moment_of c.reading-run.result) c.in_ok-ending.ending begun (rw (c.as_slice.ensures, set) at c.in_ok-ending.ensures.ending) in
    c.message_of.ensures ∙ ap message_of (ends ∙ ap (answer course) (zeros-blank c.from-words.result))
