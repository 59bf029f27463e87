use Rattle.std.proofs.Common.{◌∙◌, ◌+◌, ◌++◌, List, ℕ, drop, get_or, ap, sym, arith}
use Rattle.std.specs.Prelude.{Option, flat_map}
use Rattle.std.proofs.lemmas.List.{at_drop_more}
use Rattle.task_syntax.specs.declared.program.TaskDecl.{TaskDecl}
use Rattle.task_syntax.specs.declared.program.UnitDecl.{UnitDecl}
use Rattle.task_syntax.specs.Names.{tasks_of_unit}
use Rattle.task_check.specs.Least.{lesser, least}
use Rattle.task_check.specs.Transitions.{enters_in_member, members}
use Rattle.task_check.specs.UnitWalk.{own_number, count_with}
use Rattle.task_check.proofs.TransitionParts.{members-cons, count_with-few}
use Rattle.task_check.proofs.LeastParts.{least_joins}
use Rattle.task_check.proofs.Turns.{step}
use Rattle.task_check.proofs.rules.transitions.least_in_units.Goals as goal

pub loop-unit-preserved : goal.loop-unit-preserved
loop-unit-preserved c =
    let program = c.args.program.now in
    let units = c.args.units.now in
    let index = c.loop-unit.unit-index in
    let unit = c.unit-item.result in
    let tx = c.loop-unit.tx in
    let behind : List UnitDecl = drop (index + 1) units in
    let few_before = c.loop-unit.invariant.few in
    let few_with = count_with-few unit tx in
    record {
      left = rw c.count_with-tx.ensures (step lesser least least_joins
          (flat_map (enters_in_member program) (members tx (drop index units)))
          (flat_map (λ (task : TaskDecl). enters_in_member program (own_number unit tx, task)) (tasks_of_unit unit))
          (flat_map (enters_in_member program) (members (count_with unit tx) behind))
          c.loop-unit.found c.enters_in_tasks.result c.lesser-found.result (least (flat_map (enters_in_member program) (members 0 units)))
          (at_drop_more (λ (us : List UnitDecl). flat_map (enters_in_member program) (members tx us)) units index unit (omega arith)
          ∙ members-cons program tx (get_or units index unit) behind
          ∙ ap (λ (u : UnitDecl). flat_map (λ (task : TaskDecl). enters_in_member program (own_number u tx, task)) (tasks_of_unit u) ++ flat_map (enters_in_member program) (members (count_with u tx) behind)) (sym c.unit-item.is))
          (c.enters_in_tasks.ensures
          ∙ ap (λ (own : Option ℕ). least (flat_map (λ (task : TaskDecl). enters_in_member program (own, task)) c.tasks.result.now)) c.own_number-own.ensures
          ∙ ap (λ (tasks : List TaskDecl). least (flat_map (λ (task : TaskDecl). enters_in_member program (own_number unit tx, task)) tasks)) c.tasks.ensures)
          c.lesser-found.ensures c.loop-unit.invariant.left);
      few = rw c.count_with-tx.ensures (omega arith);
    }
