use Rattle.std.proofs.Common.{◌≡◌, drop}
use Rattle.std.specs.Str.{bytes_eq}
use Rattle.std.specs.List.{list_any}
use Rattle.task_syntax.specs.declared.program.Var.{Var}
use Rattle.task_syntax.proofs.measure.machine_steps.is_variable.Given as goal

abbrev pub invariant-loop-var : goal.invariant-loop-var
invariant-loop-var l =
    list_any (λ (var : Var). bytes_eq var.name.text l.name) (drop l.var-index l.program.vars)
    ≡ list_any (λ (var : Var). bytes_eq var.name.text l.name) l.program.vars
