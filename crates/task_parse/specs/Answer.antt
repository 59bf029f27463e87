-- What may be answered about a list of tokens. Memory may be refused at any time.
use Rattle.std.specs.Prelude.{ℕ, ◌≡◌, List, Result, Err}
use Rattle.task_parse.specs.Bars.{AreFree, start}
use Rattle.task_parse.specs.Faults.{FaultAt, DeepAt}
use Rattle.task_parse.specs.Grammar.{Derives}
use Rattle.task_parse.specs.Lexeme.{Lexeme}
use Rattle.task_parse.specs.declared.fault.ParseFault.{ParseFault}
use Rattle.task_parse.specs.declared.fault.ParseFault.TheVariants as fault
use Rattle.task_syntax.specs.declared.program.Program.{Program}

-- the fault is the first of the list, or memory was refused
abbrev pub Explains : List Lexeme → ParseFault → Type 0
Explains list (fault.Syntax n) = FaultAt list n
Explains list (fault.TooDeep n) = DeepAt list n
Explains list fault.OutOfMemory = Unit {0}

-- What may be said of a list of tokens: it is a program and none of them is barred, a token stands
-- where no program goes on with it or the tokens end too early, or a token is barred.
pub data HasAnswer : List Lexeme → Type 0 where
  spelled : {list : List Lexeme} (p : Program) → Derives list p → AreFree start list →
      HasAnswer list
  broken : {list : List Lexeme} (n : ℕ) → FaultAt list n → HasAnswer list
  barred : {list : List Lexeme} (n : ℕ) → DeepAt list n → HasAnswer list

-- the answer is this one, unless memory was refused
abbrev pub IsAnswer : Result Program ParseFault → Result Program ParseFault → Type 0
IsAnswer (Err fault.OutOfMemory) answer = Unit {0}
IsAnswer result answer = answer ≡ result
