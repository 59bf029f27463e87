-- What may be answered about a source. Memory may run out at any time.
use Rattle.std.specs.Prelude.{ℕ, ◌≡◌, List, Result, Ok, Err, Vec}
use Rattle.std.specs.declared.alloc.Global.{Global}
use Rattle.task_lex.specs.Reading.{FaultsAt}
use Rattle.task_lex.specs.declared.fault.LexFault.{LexFault}
use Rattle.task_lex.specs.declared.fault.LexFault.TheVariants.{OutOfMemory}
use Rattle.task_lex.specs.declared.token.Token.{Token}

-- the fault is the first of the source, or memory ran out
abbrev pub Explains : List ℕ → LexFault → Type 0
Explains source OutOfMemory = Unit {0}
Explains source fault = FaultsAt source fault

-- the answer is this one, unless memory ran out
abbrev pub IsAnswer : Result (Vec Token Global) LexFault → Result (List Token) LexFault → Type 0
IsAnswer (Ok tokens) answer = answer ≡ Ok tokens.items
IsAnswer (Err OutOfMemory) answer = Unit {0}
IsAnswer (Err fault) answer = answer ≡ Err fault
