-- What the source of an input is: an accepted program, or what is wrong with it. Faults of its
-- bytes come before those of its tokens, and these before broken rules.
use Rattle.std.specs.Prelude.{ℕ, List}
use Rattle.task_syntax.specs.declared.program.Program.{Program}
use Rattle.task_lex.specs.Reading.{Tokens, FaultsAt}
use Rattle.task_lex.specs.declared.fault.LexFault.TheVariants.{BadByte, BadNumber}
use Rattle.task_lex.specs.declared.token.Token.{Token}
use Rattle.task_parse.specs.Faults.{DeepAt, FaultAt, Spells}
use Rattle.task_parse.specs.Lexeme.{Lexeme, lexemes}
use Rattle.task_check.specs.Accepted.{IsAccepted, IsRefusal}
use Rattle.task_check.specs.declared.fault.CheckFault.TheVariants as check_fault
use Rattle.coati_top.specs.declared.source_fault.SourceFault.{SourceFault}
use Rattle.coati_top.specs.declared.source_fault.SourceFault.TheVariants as fault
use Rattle.coati_top.specs.Divided.{source_part}

-- the source spells this program
pub record HasProgram (input : List ℕ) (program : Program) : Type 0 where
  pub tokens : List Token
  pub read : Tokens (source_part input) tokens
  pub spelled : Spells (source_part input) tokens program

-- the source spells this program, which is accepted
pub record HasAccepted (input : List ℕ) (program : Program) : Type 0 where
  pub source : HasProgram input program
  pub accepted : IsAccepted program

-- the source has tokens, which have a fault
pub record HasFaultyTokens (input : List ℕ) (HasFault : List Lexeme → Type 0) : Type 0 where
  pub tokens : List Token
  pub read : Tokens (source_part input) tokens
  pub fault : HasFault (lexemes (source_part input) tokens)

-- the source spells a program, which is refused
pub record HasRefused (input : List ℕ) (IsRefused : Program → Type 0) : Type 0 where
  pub program : Program
  pub source : HasProgram input program
  pub refused : IsRefused program

-- what is wrong with the source
abbrev pub IsSourceFault : List ℕ → SourceFault → Type 0
IsSourceFault input (fault.Lexical at) = FaultsAt (source_part input) (BadByte at)
IsSourceFault input (fault.Number at) = FaultsAt (source_part input) (BadNumber at)
IsSourceFault input (fault.Syntax token) = HasFaultyTokens input (λ list. FaultAt list token)
IsSourceFault input (fault.Deep token) = HasFaultyTokens input (λ list. DeepAt list token)
IsSourceFault input (fault.Rule rule at) = HasRefused input
    (λ program. IsRefusal program (check_fault.Rule rule at))
