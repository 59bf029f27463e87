use Rattle.std.proofs.Common.{arith}
use Rattle.std.specs.Prelude.{None, Some}
use Rattle.task_check.specs.Accepted.{IsFound}
use Rattle.task_check.proofs.Reading.{found-later, broken-sooner}
use Rattle.task_check.proofs.checking.first_broken.Goals as goal

pub returns-in-Some-endings_and_shapes : goal.returns-in-Some-endings_and_shapes
returns-in-Some-endings_and_shapes c =
    let program = c.args.program.now in
    let broken = c.in-Some-endings_and_shapes.broken in
    let names : IsFound program 1 8 None = rw c.in_default.is at c.in_ok-broken.ensures in
    found-later program 1 8 17 (omega arith) names (Some broken) (broken-sooner program 8 14 17 (omega arith) broken.0 broken.1 c.in-Some-endings_and_shapes.ensures)

pub returns : goal.returns
returns c =
    let program = c.args.program.now in
    let names : IsFound program 1 8 None = rw c.in_default.is at c.in_ok-broken.ensures in
    let shapes : IsFound program 8 14 None = rw c.in_default-endings_and_shapes.is at c.endings_and_shapes.ensures in
    found-later program 1 8 17 (omega arith) names c.measures.result (found-later program 8 14 17 (omega arith) shapes c.measures.result c.measures.ensures)
