use Rattle.std.proofs.Common.{sym, ◌∙◌, arith}
use Rattle.serial_run.specs.Locals.{locals_of}
use Rattle.serial_run.proofs.Params.{params-more, params-end}
use Rattle.serial_run.proofs.event_runs.set_all.Goals as goal

pub loop-at-preserved : goal.loop-at-preserved
loop-at-preserved c =
    rw (c.in_ok-set.ensures, ← c.index-names-at.is)
    (sym (params-more c.args.names.now c.args.words.now c.loop-at.at (locals_of c.loop-at.locals) c.index-names-at.result (omega arith) (omega arith) c.index-names-at.is) ∙ c.loop-at.invariant)

pub returns : goal.returns
returns c =
    sym (params-end c.args.names.now c.args.words.now c.loop-at.at (locals_of c.loop-at.locals) (omega arith)) ∙ c.loop-at.invariant
