-- Statements whose messages have four words at most.
use Rattle.std.proofs.Common.{◌≡◌, ℕ, ◌+◌, ◌<◌, List, drop, length, get_or, Bool, true, false}
use Rattle.std.specs.Prelude.{IsTrue, ◌&&◌}
use Rattle.task_syntax.specs.declared.statement.Stmt.{Stmt}
use Rattle.task_check.specs.Messages.{statement_gives, statements_give}
use Rattle.serial_run.proofs.Rests.{rest-is}

also : (first more : Bool) → IsTrue (first && more) → IsTrue more
also true more holds = holds
also false more holds = absurd cc

-- so it is in the rest
pub gives-rest : (block : List Stmt) (at : ℕ) (source : Stmt) → at < length block → source ≡ get_or block at source →
    IsTrue (statements_give (drop at block)) → IsTrue (statements_give (drop (at + 1) block))
gives-rest block at source below is fits = also (statement_gives source) (statements_give (drop (at + 1) block)) (rw (rest-is block at source below is) at fits)
