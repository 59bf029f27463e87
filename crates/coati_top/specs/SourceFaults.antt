-- Why a source is no accepted program, step by step. Memory may run out at any time.
use Rattle.std.specs.Prelude.{ℕ, List}
use Rattle.task_syntax.specs.declared.program.Program.{Program}
use Rattle.task_lex.specs.Reading.{FaultsAt}
use Rattle.task_lex.specs.declared.fault.LexFault.TheVariants.{BadByte, BadNumber}
use Rattle.task_lex.specs.declared.token.Token.{Token}
use Rattle.task_parse.specs.Faults.{DeepAt, FaultAt}
use Rattle.task_parse.specs.Lexeme.{lexemes}
use Rattle.task_check.specs.Accepted.{IsRefusal}
use Rattle.task_check.specs.declared.fault.CheckFault.TheVariants as check_fault
use Rattle.coati_top.specs.declared.source_fault.SourceFault.TheVariants as fault
use Rattle.coati_top.specs.declared.source_fault.NoProgram.{NoProgram}
use Rattle.coati_top.specs.declared.source_fault.NoProgram.TheVariants as no_program
use Rattle.coati_top.specs.Source.{IsSourceFault}

-- the input's fault, or want of memory
abbrev pub LacksProgram : List ℕ → NoProgram → Type 0
LacksProgram input (no_program.Fault source_fault) = IsSourceFault input source_fault
LacksProgram input no_program.OutOfMemory = Unit {0}

-- of a source that has no tokens
abbrev pub LacksTokens : List ℕ → NoProgram → Type 0
LacksTokens source (no_program.Fault (fault.Lexical at)) = FaultsAt source (BadByte at)
LacksTokens source (no_program.Fault (fault.Number at)) = FaultsAt source (BadNumber at)
LacksTokens source (no_program.Fault _) = ⊥
LacksTokens source no_program.OutOfMemory = Unit {0}

-- of tokens that spell no program
abbrev pub LacksSpelling : List ℕ → List Token → NoProgram → Type 0
LacksSpelling source tokens (no_program.Fault (fault.Syntax token)) =
    FaultAt (lexemes source tokens) token
LacksSpelling source tokens (no_program.Fault (fault.Deep token)) =
    DeepAt (lexemes source tokens) token
LacksSpelling source tokens (no_program.Fault _) = ⊥
LacksSpelling source tokens no_program.OutOfMemory = Unit {0}

-- of a program that is not accepted
abbrev pub LacksAcceptance : Program → NoProgram → Type 0
LacksAcceptance program (no_program.Fault (fault.Rule rule at)) =
    IsRefusal program (check_fault.Rule rule at)
LacksAcceptance program (no_program.Fault _) = ⊥
LacksAcceptance program no_program.OutOfMemory = Unit {0}
