use Rattle.std.proofs.Common.{◌≡◌, ◌++◌, replicate}
use Rattle.trace_text.proofs.script.add_periods.Given as goal

abbrev pub invariant-loop : goal.invariant-loop
invariant-loop l = l.power ≡ l.initial.power ++ replicate l.counter l.period
