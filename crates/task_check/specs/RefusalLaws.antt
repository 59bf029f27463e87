-- Laws of acceptance and refusal.
use Rattle.std.specs.Prelude.{ℕ, ◌≡◌}
use Rattle.task_syntax.specs.declared.program.Program.{Program}
use Rattle.task_check.specs.declared.rule.Rule.{Rule}
use Rattle.task_check.specs.declared.fault.CheckFault.TheVariants as fault
use Rattle.task_check.specs.Accepted.{IsAccepted, IsRefusal}

-- what is refused at a rule isn't accepted
abbrev pub RefusedIsNotAccepted : Type 0
RefusedIsNotAccepted = (program : Program) (rule : Rule) (at : ℕ) →
    IsRefusal program (fault.Rule rule at) → IsAccepted program → ⊥

-- two refusals are one
pub record AreSame (rule other : Rule) (at place : ℕ) : Type 0 where
  pub rules : rule ≡ other
  pub places : at ≡ place

-- a program is refused at one rule and one place
abbrev pub RefusalIsOne : Type 0
RefusalIsOne =
    (program : Program) (rule other : Rule) (at place : ℕ) →
    IsRefusal program (fault.Rule rule at) → IsRefusal program (fault.Rule other place) →
    AreSame rule other at place
