-- The postings that wait.
use Rattle.std.proofs.Common.{◌≡◌, ◌<◌, ◌≤◌, ◌==◌, ℕ, Bool, true, false, List, [], ◌∷◌, length, subst, arith, if◌then◌else◌}
use Rattle.std.specs.Prelude.{Some}
use Rattle.std.specs.List.{AllByRecursion}
use Rattle.coati_word.specs.OperatorLaws.{IsWord}
use Rattle.task_syntax.specs.declared.program.Program.{Program}
use Rattle.serial_log.specs.declared.held.Held.{Held}
use Rattle.serial_log.specs.declared.unit.Unit.{Unit as Committed}
use Rattle.serial_log.specs.declared.unit.Unit.TheVariants as unit
use Rattle.serial_log.specs.Postings.{due_posting}
use Rattle.serial_log.specs.SerialRun.{posting_numbered}
use Rattle.serial_log.specs.Standing.{left_by, without}
use Rattle.shown_runs.proofs.Alls.{all-each}

-- a posting that waits, where so many were accepted
pub record IsWaiting (program : Program) (accepted : ℕ) (held : Held) : Type 0 where
  pub number : held.number ≤ accepted
  pub event : held.event < length program.events
  pub argument : IsWord held.argument

module _ (program : Program) (accepted : ℕ) where
  pub found-waits : (number : ℕ) (rest : List Held) (held : Held) → AllByRecursion (IsWaiting program accepted) rest
      → posting_numbered number rest ≡ Some held → IsWaiting program accepted held
  found-waits number [] held all is = absurd cc
  found-waits number (first ∷ more) held all is = by (first.number == number) is (found-waits number more held all.1)
    where
      by : (same : Bool) → (if same then Some first else posting_numbered number more) ≡ Some held
          → (posting_numbered number more ≡ Some held → IsWaiting program accepted held) → IsWaiting program accepted held
      by true is later = let e : first ≡ held = cc in subst (IsWaiting program accepted) e all.0
      by false is later = later is

  pub due-waits : (rest : List Held) (held : Held) → AllByRecursion (IsWaiting program accepted) rest → due_posting rest ≡ Some held
      → IsWaiting program accepted held
  due-waits [] held all is = absurd cc
  due-waits (first ∷ more) held all is = let e : first ≡ held = cc in subst (IsWaiting program accepted) e all.0

  without-waits : (number : ℕ) (rest : List Held) → AllByRecursion (IsWaiting program accepted) rest
      → AllByRecursion (IsWaiting program accepted) (without number rest)
  without-waits number [] all = tt
  without-waits number (first ∷ more) all = by (first.number == number) (without-waits number more all.1)
    where
      by : (same : Bool) → AllByRecursion (IsWaiting program accepted) (without number more)
          → AllByRecursion (IsWaiting program accepted) (if same then more else first ∷ without number more)
      by true rest = all.1
      by false rest = (all.0, rest)

  pub left-waits : (own : Committed) (posting : ℕ) (rest : List Held) → AllByRecursion (IsWaiting program accepted) rest
      → AllByRecursion (IsWaiting program accepted) (left_by own posting rest)
  left-waits (unit.Task task) posting rest all = all
  left-waits (unit.Transaction tx) posting rest all = all
  left-waits (unit.Event event) posting rest all = without-waits posting rest all

  pub more-wait : {few : ℕ} (rest : List Held) → few ≤ accepted → AllByRecursion (IsWaiting program few) rest
      → AllByRecursion (IsWaiting program accepted) rest
  more-wait {few = few} rest less all =
      all-each (IsWaiting program few) (IsWaiting program accepted) rest
      (λ held is. let number = is.number in
      record { number = omega (arith, number, less); event = is.event; argument = is.argument }) all

-- no more wait than before
without-fewer : (number : ℕ) (rest : List Held) → length (without number rest) ≤ length rest
without-fewer number [] = omega arith
without-fewer number (first ∷ more) = by (first.number == number) (without-fewer number more)
  where
    by : (same : Bool) → length (without number more) ≤ length more → length (if same then more else first ∷ without number more) ≤ length (first ∷ more)
    by true fewer = omega arith
    by false fewer = omega (arith, fewer)

pub left-fewer : (own : Committed) (posting : ℕ) (rest : List Held) → length (left_by own posting rest) ≤ length rest
left-fewer (unit.Task task) posting rest = omega arith
left-fewer (unit.Transaction tx) posting rest = omega arith
left-fewer (unit.Event event) posting rest = without-fewer posting rest
