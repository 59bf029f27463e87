-- The values that are given, one after another.
use Rattle.std.proofs.Common.{◌≡◌, ℕ, ◌+◌, ◌<◌, List, ◌∷◌, drop, length, get_or, refl}
use Rattle.task_syntax.specs.declared.program.Program.{Program}
use Rattle.task_syntax.specs.declared.expression.Expr.{Expr}
use Rattle.task_syntax.specs.Expressions.{Locals, expression, expressions}
use Rattle.serial_run.specs.Moments.{Moment, behind, end_of}
use Rattle.serial_run.proofs.Rests.{rest-is}
use Rattle.serial_run.proofs.Steps.{behind-ends, behind-chain, end_of-ends, end_of-chain}

module _ (program : Program) (values : List Expr) (at : ℕ) (value : Expr) (locals : Locals) (m n : Moment)
    (below : at < length values) (is : value ≡ get_or values at value) (behind_it : n ≡ behind (expression program value locals) m) where
  pub gifts-more : end_of (expressions program (drop at values) locals) m ≡ end_of (expression program value locals) m ∷ end_of (expressions program (drop (at + 1) values) locals) n
  gifts-more = rw (rest-is values at value below is, behind_it, end_of-chain, end_of-chain, end_of-ends) refl

  pub gifts-behind : behind (expressions program (drop at values) locals) m ≡ behind (expressions program (drop (at + 1) values) locals) n
  gifts-behind = rw (rest-is values at value below is, behind_it, behind-chain, behind-chain, behind-ends) refl
