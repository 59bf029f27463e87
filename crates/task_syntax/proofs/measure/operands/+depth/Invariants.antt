use Rattle.std.proofs.Common.{◌≡◌, ◌≤◌, drop}
use Rattle.std.specs.Prelude.{max}
use Rattle.task_syntax.specs.Saturated.{saturated}
use Rattle.task_syntax.specs.Depth.{body_depth}
use Rattle.task_syntax.proofs.measure.operands.+depth.Given as goal

abbrev pub invariant-depth-loop-statement : goal.invariant-depth-loop-statement
invariant-depth-loop-statement l = record {
  left : saturated (max l.greatest (body_depth (drop l.statement-index l.body))) ≡ saturated (body_depth l.body);
  fits : l.greatest ≤ 4294967295;
}
