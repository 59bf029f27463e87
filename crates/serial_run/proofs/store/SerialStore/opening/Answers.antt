use Rattle.std.proofs.Common.{◌≡◌, [], drop, length, ap, ◌∙◌, append-nil}
use Rattle.std.proofs.lemmas.List.{drop_all}
use Rattle.task_syntax.specs.Names.{opening_values}
use Rattle.serial_run.proofs.Opening.{opening-count}
use Rattle.serial_run.proofs.store.SerialStore.opening.Goals as goal

pub returns-clause-words : goal.returns-clause-words
returns-clause-words c =
    let nothing : drop c.loop-var.var-index c.as_slice-var-items.result.now ≡ [] = drop_all c.loop-var.var-index c.as_slice-var-items.result.now c.loop-var-test.false in
    let all : c.loop-var.words.items ≡ opening_values c.args.checked.now = rw (nothing, append-nil) at c.loop-var.invariant in
    ap length all ∙ opening-count c.args.checked.now.vars (rw c.program.ensures.program at c.program.ensures.sizes).given
