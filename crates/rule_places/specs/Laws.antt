-- Laws of the places at which rules are broken.
use Rattle.std.specs.Prelude.{ℕ, ◌≡◌, ◌<◌, List, Contains, length}
use Rattle.task_check.specs.Accepted.{IsRefusal}
use Rattle.task_check.specs.declared.fault.CheckFault.TheVariants as fault
use Rattle.task_check.specs.declared.rule.Rule.{Rule}
use Rattle.task_lex.specs.Reading.{Tokens}
use Rattle.task_lex.specs.declared.token.Token.{Token}
use Rattle.task_parse.specs.Faults.{Spells}
use Rattle.task_syntax.specs.declared.program.Program.{Program}

-- one of the tokens begins at the place
pub record BeginsToken (tokens : List Token) (at : ℕ) : Type 0 where
  pub token : Token
  pub stands : Contains tokens token
  pub starts : token.start ≡ at

-- the tokens of the source spell a program that is refused for the rule at the place
pub record IsBroken (source : List ℕ) (tokens : List Token) (rule : Rule) (at : ℕ) : Type 0 where
  pub program : Program
  pub read : Tokens source tokens
  pub spelled : Spells source tokens program
  pub refused : IsRefusal program (fault.Rule rule at)

abbrev pub BrokenRulesBeginTokens : Type 0
BrokenRulesBeginTokens = (source : List ℕ) (tokens : List Token) (rule : Rule) (at : ℕ) →
    IsBroken source tokens rule at → BeginsToken tokens at

abbrev pub BrokenRulesLieWithin : Type 0
BrokenRulesLieWithin = (source : List ℕ) (tokens : List Token) (rule : Rule) (at : ℕ) →
    IsBroken source tokens rule at → at < length source
