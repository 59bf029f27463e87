use Rattle.std.proofs.Common.{◌≡◌, ℕ, List, drop}
use Rattle.std.specs.Prelude.{Option, flat_map}
use Rattle.std.specs.Fn.{FnReturnsAt}
use Rattle.task_check.specs.Least.{least, lesser}
use Rattle.task_check.proofs.least.least_among.Given as goal

abbrev pub invariant-loop-element : goal.invariant-loop-element
invariant-loop-element g l =
    (places : g.row.T.Denot → List ℕ) → ((x : g.row.T.Denot) (at : Option ℕ) → FnReturnsAt g.F.Fn l.place x at → at ≡ least (places x))
    → lesser l.found (least (flat_map places (drop l.element-index l.elements))) ≡ least (flat_map places l.elements)
