use Rattle.std.proofs.Common.{◌≡◌, ◌-◌}
use Rattle.trace_out.specs.LineReading.{values_at}
use Rattle.trace_out.proofs.readings.values_at.Given as goal
use Rattle.trace_out.proofs.Lists.{prepended}

abbrev pub invariant-loop : goal.invariant-loop
invariant-loop l = prepended l.values (values_at (l.count - l.counter) l.left)
    ≡ values_at l.count l.text
