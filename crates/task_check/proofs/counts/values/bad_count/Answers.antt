use Rattle.std.proofs.Common.{arith}
use Rattle.std.specs.Prelude.{flat_map}
use Rattle.task_check.specs.Bodies.{bodies}
use Rattle.task_check.specs.Counts.{bad_turns, bad_var}
use Rattle.task_check.proofs.Places.{is_least-two}
use Rattle.task_check.proofs.counts.values.bad_count.Goals as goal

pub returns : goal.returns
returns c =
    let program = c.args.program.now in
    is_least-two (flat_map bad_var program.vars) (flat_map bad_turns (bodies program)) c.lesser.result (grind arith)
