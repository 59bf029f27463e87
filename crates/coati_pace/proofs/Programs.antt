-- The device of an accepted program is within the limits.
use Rattle.std.proofs.Common.{◌≤◌, arith}
use Rattle.task_syntax.specs.declared.program.Program.{Program}
use Rattle.task_check.specs.Accepted.{IsAccepted}
use Rattle.task_check.specs.Sizes.{HasSizes}
use Rattle.task_cost.specs.Limits.{attempt_bound}
use Rattle.task_cost.proofs.Measured.{events_within, tasks_within}
use Rattle.coati_pace.specs.Effort.{IsShape, shape_of}

pub attempt_within : (program : Program) → IsAccepted program → attempt_bound program ≤ 100001
attempt_within program accepted =
    omega (arith, tasks_within program accepted, events_within program accepted)

pub shapes_within : (program : Program) → IsAccepted program → HasSizes program →
    IsShape (shape_of program)
shapes_within program accepted sizes = record {
  words = sizes.words_most;
  slots = sizes.buffer_most;
  attempt = attempt_within program accepted;
}
