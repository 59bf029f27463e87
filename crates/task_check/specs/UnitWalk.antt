-- The transactions among units, counted unit by unit.
use Rattle.std.specs.Prelude.{ℕ, ◌+◌, Option, Some, None}
use Rattle.task_syntax.specs.declared.program.UnitDecl.{UnitDecl}
use Rattle.task_syntax.specs.declared.program.UnitDecl.TheVariants.{Lone, Tx}

-- the transaction that the unit is, where `tx` stand before it
abbrev pub own_number : UnitDecl → ℕ → Option ℕ
own_number (Lone task) tx = None
own_number (Tx members) tx = Some tx

-- how many transactions there are with the unit, where `tx` stand before it
abbrev pub count_with : UnitDecl → ℕ → ℕ
count_with (Lone task) tx = tx
count_with (Tx members) tx = tx + 1
