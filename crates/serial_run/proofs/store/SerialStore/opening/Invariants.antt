use Rattle.std.proofs.Common.{◌≡◌, ◌++◌, drop}
use Rattle.std.specs.List.{flat_map}
use Rattle.task_syntax.specs.Names.{first_values, opening_values}
use Rattle.serial_run.proofs.store.SerialStore.opening.Given as goal

abbrev pub invariant-loop-var : goal.invariant-loop-var
invariant-loop-var l = l.words.items ++ flat_map first_values (drop l.var-index l.var-items) ≡ opening_values l.checked
