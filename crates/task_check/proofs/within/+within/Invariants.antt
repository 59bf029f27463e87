use Rattle.std.proofs.Common.{◌≡◌, ℕ, List, drop}
use Rattle.std.specs.Prelude.{Option, flat_map}
use Rattle.std.specs.Fn.{FnReturnsAt}
use Rattle.task_syntax.specs.declared.statement.Stmt.{Stmt}
use Rattle.task_check.specs.Within.{nested}
use Rattle.task_check.specs.Least.{least, lesser}
use Rattle.task_check.proofs.within.+within.Given as goal

abbrev pub invariant-least_within-loop-statement : goal.invariant-least_within-loop-statement
invariant-least_within-loop-statement g l =
    (places : Stmt → List ℕ) → ((s : Stmt) (at : Option ℕ) → FnReturnsAt g.F.Fn l.place s at → least (places s) ≡ lesser at (least (flat_map places (nested s))))
    → lesser l.found (least (flat_map places (drop l.statement-index l.block))) ≡ least (flat_map places l.block)
