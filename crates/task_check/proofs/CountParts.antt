-- The loops of a statement, of itself and in its blocks.
use Rattle.std.proofs.Common.{◌∙◌, ℕ, List, ap, sym, refl, append-nil}
use Rattle.std.specs.List.{concat}
use Rattle.task_check.specs.Counts.{bad_loops_step, is_between}
use Rattle.task_check.specs.Least.{least, lesser, unless}
use Rattle.task_check.proofs.LeastParts.{least-append}
use Rattle.task_check.proofs.WithinParts.{Divides}

pub of_loops : Divides bad_loops_step
of_loops = record {
  chosen = λ condition block other. refl;
  repeated = λ name count block.
      least-append (unless (is_between 1 50000 count) name.at) (concat block)
      ∙ ap (λ (own : List ℕ). lesser (least own) (least (concat block))) (sym (append-nil (unless (is_between 1 50000 count) name.at)));
}
