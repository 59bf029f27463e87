use Rattle.std.proofs.Common.{◌≡◌, ◌++◌, ◌-◌}
use Rattle.std.specs.Prelude.{replicate}
use Rattle.serial_run.proofs.store.append_first.Given as goal

abbrev pub invariant-loop : goal.invariant-loop
invariant-loop l = l.words.items ++ replicate (l.end - l.counter) 0 ≡ l.initial.words.items ++ replicate (l.initial.end - l.initial.counter) 0
