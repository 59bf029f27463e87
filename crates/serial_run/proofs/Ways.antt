-- Statements one after another: where one goes on the rest follows, and where one ends the body nothing does.
use Rattle.std.proofs.Common.{◌≡◌, ℕ, suc, ◌+◌, ◌-◌, ◌<◌, List, drop, length, get_or, refl, ap, arith, false}
use Rattle.std.specs.Prelude.{Option, Some, None, ◌==◌}
use Rattle.std.proofs.lemmas.Bool.Decides.{nat_tests}
use Rattle.coati_word.specs.declared.ending.Ending.{Ending}
use Rattle.task_syntax.specs.declared.program.Program.{Program}
use Rattle.task_syntax.specs.declared.expression.Expr.{Expr}
use Rattle.task_syntax.specs.declared.statement.Stmt.{Stmt}
use Rattle.task_syntax.specs.declared.statement.Stmt.TheVariants.{If}
use Rattle.task_syntax.specs.Course.{Course, chain}
use Rattle.task_syntax.specs.Expressions.{Locals, with_local, expression}
use Rattle.task_syntax.specs.Statements.{Way, Conduct, unless_out, turns, statement, statements}
use Rattle.serial_run.specs.Moments.{Moment, behind, end_of}
use Rattle.serial_run.proofs.Layers.{statement-if, statement-if_else}
use Rattle.serial_run.proofs.Rests.{rest-is}
use Rattle.serial_run.proofs.Steps.{behind-chain, end_of-chain}

-- what a whole does from one moment on is what a part of it does from another
pub record Leads {A : Type 0} (whole part : Course A) (m n : Moment) : Type 0 where
  pub way : end_of whole m ≡ end_of part n
  pub moment : behind whole m ≡ behind part n

pub goes_on : (first : Course Way) (rest : Conduct) (m : Moment) (locals : Locals) → Way.on locals ≡ end_of first m →
    Leads (chain first (unless_out rest)) (rest locals) m (behind first m)
goes_on first rest m locals is = record { way = rw (end_of-chain, ← is) refl; moment = rw (behind-chain, ← is) refl }

pub stops : (first : Course Way) (rest : Conduct) (m : Moment) (ending : Ending) → Way.out ending ≡ end_of first m →
    Leads (chain first (unless_out rest)) (Course.ends (Way.out ending)) m (behind first m)
stops first rest m ending is = record { way = rw (end_of-chain, ← is) refl; moment = rw (behind-chain, ← is) refl }

not_zero : (value : ℕ) → (value ≡ 0 → ⊥) → (value == 0) ≡ false
not_zero value some = grind (arith, nat_tests)

module _ (program : Program) (condition : Expr) (block : List Stmt) (locals : Locals) (m : Moment) where
  pub if-holds : (other : Option (List Stmt)) → (end_of (expression program condition locals) m ≡ 0 → ⊥) →
      Leads (statement program (If condition block other) locals) (statements program block locals) m (behind (expression program condition locals) m)
  if-holds None some = record {
    way = rw (statement-if, end_of-chain, not_zero (end_of (expression program condition locals) m) some) refl;
    moment = rw (statement-if, behind-chain, not_zero (end_of (expression program condition locals) m) some) refl;
  }
  if-holds (Some other) some = record {
    way = rw (statement-if_else, end_of-chain, not_zero (end_of (expression program condition locals) m) some) refl;
    moment = rw (statement-if_else, behind-chain, not_zero (end_of (expression program condition locals) m) some) refl;
  }

  pub if-not : end_of (expression program condition locals) m ≡ 0 →
      Leads (statement program (If condition block None) locals) (Course.ends (Way.on locals)) m (behind (expression program condition locals) m)
  if-not none = record { way = rw (statement-if, end_of-chain, none) refl; moment = rw (statement-if, behind-chain, none) refl }

  pub if-else : (other : List Stmt) → end_of (expression program condition locals) m ≡ 0 →
      Leads (statement program (If condition block (Some other)) locals) (statements program other locals) m (behind (expression program condition locals) m)
  if-else other none = record { way = rw (statement-if_else, end_of-chain, none) refl; moment = rw (statement-if_else, behind-chain, none) refl }

module _ (program : Program) (block : List Stmt) (at : ℕ) (source : Stmt) (locals : Locals) (m n : Moment)
    (below : at < length block) (is : source ≡ get_or block at source) (behind_it : n ≡ behind (statement program source locals) m) where
  pub statements-more : (on : Locals) → Way.on on ≡ end_of (statement program source locals) m →
      Leads (statements program (drop at block) locals) (statements program (drop (at + 1) block) on) m n
  statements-more on goes = rw (rest-is block at source below is, behind_it) (goes_on (statement program source locals) (statements program (drop (at + 1) block)) m on goes)

  pub statements-end : (ending : Ending) → Way.out ending ≡ end_of (statement program source locals) m →
      Leads (statements program (drop at block) locals) (Course.ends (Way.out ending)) m n
  statements-end ending ends = rw (rest-is block at source below is, behind_it) (stops (statement program source locals) (statements program (drop (at + 1) block)) m ending ends)

module _ (block : Conduct) (name : List ℕ) (count turn : ℕ) (locals set : Locals) (m n : Moment)
    (below : turn < count) (is : set ≡ with_local name turn locals) (behind_it : n ≡ behind (block set) m) where
  one-turn : turns (count - turn) turn name block locals ≡ chain (block (with_local name turn locals)) (unless_out (turns (count - (turn + 1)) (turn + 1) name block))
  one-turn = let left : count - turn ≡ suc (count - (turn + 1)) = omega arith in ap (λ k. turns k turn name block locals) left

  pub turns-more : (on : Locals) → Way.on on ≡ end_of (block set) m →
      Leads (turns (count - turn) turn name block locals) (turns (count - (turn + 1)) (turn + 1) name block on) m n
  turns-more on goes = rw (one-turn, ← is, behind_it) (goes_on (block set) (turns (count - (turn + 1)) (turn + 1) name block) m on goes)

  pub turns-end : (ending : Ending) → Way.out ending ≡ end_of (block set) m →
      Leads (turns (count - turn) turn name block locals) (Course.ends (Way.out ending)) m n
  turns-end ending ends = rw (one-turn, ← is, behind_it) (stops (block set) (turns (count - (turn + 1)) (turn + 1) name block) m ending ends)
