-- The steps that a body has left stay within an attempt.
use Rattle.std.proofs.Common.{◌≡◌, ℕ, zero, suc, ◌+◌, ◌-◌, ◌≤◌, List, [], ◌∷◌, map, arith}
use Rattle.std.specs.Prelude.{Some, slice_get}
use Rattle.task_syntax.specs.declared.program.Event.{Event}
use Rattle.task_syntax.specs.declared.program.Program.{Program}
use Rattle.task_syntax.specs.declared.program.TaskDecl.{TaskDecl}
use Rattle.task_syntax.specs.Depth.{greatest}
use Rattle.task_syntax.specs.Names.{tasks}
use Rattle.task_cost.specs.Bodies.{bottom_cost, event_cost, task_cost}
use Rattle.task_cost.specs.Limits.{greatest_cost}
use Rattle.coati_device.specs.Attempt.{IsInTime}
use Rattle.coati_device.specs.Rows.{steps_before_end}

-- no item costs more than the greatest cost
pub below_greatest : {X : Type 0} (cost : X → ℕ) (items : List X) (number : ℕ) (item : X)
    → slice_get items number ≡ Some item → cost item ≤ greatest (map cost items)
below_greatest cost [] number item there = absurd cc
below_greatest cost (first ∷ more) zero item there =
    let same : first ≡ item = cc in rw same (omega arith)
below_greatest cost (first ∷ more) (suc number) item there =
    omega (arith, below_greatest cost more number item there)

-- so neither does a task, nor a bottom half
pub task_in_bound : (program : Program) (number : ℕ) (task : TaskDecl)
    → slice_get (tasks program) number ≡ Some task
    → task_cost program task ≤ greatest_cost program
task_in_bound program number task there =
    let low = below_greatest (task_cost program) (tasks program) number task there in
    omega (arith, low)

pub bottom_in_bound : (program : Program) (number : ℕ) (event : Event)
    → slice_get program.events number ≡ Some event
    → bottom_cost program event ≤ greatest_cost program
bottom_in_bound program number event there =
    let low = below_greatest (event_cost program) program.events number event there in
    omega (arith, low)

-- a body that starts has all its steps left but the one that ends it
pub in_time_at_start : (program : Program) (cost : ℕ) → 1 ≤ cost → cost ≤ greatest_cost program
    → IsInTime program (cost - 1) (steps_before_end program)
in_time_at_start program cost some low = record {
  told = omega (arith, some, low);
  within = omega (arith, some, low);
}

-- a step lowers what is left and what is told
pub in_time_after : (program : Program) (left most remaining : ℕ) → remaining + 1 ≤ left
    → IsInTime program left most → IsInTime program remaining (most - 1)
in_time_after program left most remaining fewer is = record {
  told = let told = is.told in omega (arith, fewer, told);
  within = let within = is.within in omega (arith, within);
}
