use Rattle.std.proofs.Common.{◌≤◌, ◌-◌, length}
use Rattle.task_lex.proofs.Places.{ReadsTo}
use Rattle.task_lex.proofs.scanner.lex.Given as goal

abbrev pub invariant-loop-place : goal.invariant-loop-place
invariant-loop-place l = record { within : l.place ≤ length l.source; read : ReadsTo l.source l.tokens.items l.place }

abbrev pub decreases-loop-place : goal.decreases-loop-place
decreases-loop-place l = length l.source - l.place
