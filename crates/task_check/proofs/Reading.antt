-- Rules that are read one after another.
use Rattle.std.proofs.Common.{ℕ, ◌≤◌, arith, inl, inr}
use Rattle.std.specs.Prelude.{Option, Some, None}
use Rattle.std.proofs.lemmas.Bool.{cases_lt}
use Rattle.task_syntax.specs.declared.program.Program.{Program}
use Rattle.task_check.specs.declared.rule.Rule.{Rule}
use Rattle.task_check.specs.Accepted.{IsFirstBroken, IsFound, Keeps, number_of}

module _ (program : Program) (first between behind : ℕ) where
  keeps-on : Keeps program first between → (last : ℕ) → Keeps program between last → Keeps program first last
  keeps-on one last other number from before =
      elim (cases_lt number between) [
        | inl early ↦ one number from early
        | inr late ↦ other number late before
      ]

  -- the rules before hold, and what is found behind them is found
  pub found-later : first ≤ between → Keeps program first between → (found : Option (Rule × ℕ)) → IsFound program between behind found → IsFound program first behind found
  found-later up one None other = keeps-on one behind other
  found-later up one (Some broken) is = record {
    from = omega (arith, is.from);
    before = is.before;
    earlier = keeps-on one (number_of broken.0) is.earlier;
    here = is.here;
    number = is.number;
  }

  -- a rule that is broken before is broken
  pub broken-sooner : between ≤ behind → (rule : Rule) (at : ℕ) → IsFirstBroken program first between rule at → IsFirstBroken program first behind rule at
  broken-sooner up rule at is = record { from = is.from; before = omega (arith, is.before); earlier = is.earlier; here = is.here; number = is.number }
