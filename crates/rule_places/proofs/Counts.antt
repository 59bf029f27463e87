-- The places of the rules of counts are places of a program.
use Rattle.std.proofs.Common.{◌+◌, ℕ, List, [], ◌∷◌, ◌++◌}
use Rattle.std.specs.Prelude.{Option, Some, None, ◌&&◌, flat_map, nat_le, slice_get}
use Rattle.std.specs.List.{AllByRecursion}
use Rattle.task_syntax.specs.declared.name.Name.{Name}
use Rattle.task_syntax.specs.declared.name.Number.{Number}
use Rattle.task_syntax.specs.declared.program.Event.{Event}
use Rattle.task_syntax.specs.declared.program.Program.{Program}
use Rattle.task_syntax.specs.declared.program.TaskDecl.{TaskDecl}
use Rattle.task_syntax.specs.declared.program.TxDecl.{TxDecl}
use Rattle.task_syntax.specs.declared.program.UnitDecl.{UnitDecl}
use Rattle.task_syntax.specs.declared.program.UnitDecl.TheVariants.{Lone, Tx}
use Rattle.task_syntax.specs.declared.program.Var.{Var}
use Rattle.task_syntax.specs.declared.statement.Stmt.{Stmt}
use Rattle.task_syntax.specs.Names.{count_of, tasks}
use Rattle.task_check.specs.Bodies.{bodies}
use Rattle.task_check.specs.Counts.{bad_buffer, bad_buffer_places, bad_count_places, bad_turns, bad_var, init_fits, is_between, length_fits, place_of, too_many_tasks_places, too_many_words_places, transactions, transactions_of_unit, words_above}
use Rattle.rule_places.proofs.Bodies.{ArePlaces, of-tasks}
use Rattle.rule_places.proofs.Lists.{IsSo, all-flat_map, all-got, all-joined, all-unless, all-weaker}
use Rattle.rule_places.proofs.Loops.{LoopsFit, bad_turns-at}
use Rattle.rule_places.proofs.Parts.{IsNameAt, OfBuffer, OfEvent, OfProgram, OfTask, OfUnit, OfVar}

module _ (IsPlace : ℕ → Type 0) where
  vars-at : (vars : List Var) → AllByRecursion (OfVar IsPlace) vars
      → ArePlaces IsPlace (flat_map bad_var vars)
  vars-at vars all =
      all-flat_map (λ var. var) (λ asked. OfVar IsPlace) IsPlace bad_var
      (λ var is. all-unless IsPlace
      (length_fits var.length && init_fits var.length var.init) var.name.at is)
      vars (λ asked. all)

  pub bad_count-at : (program : Program) → OfProgram IsPlace (LoopsFit IsPlace) program
      → ArePlaces IsPlace (bad_count_places program)
  bad_count-at program of =
      all-joined IsPlace (flat_map bad_var program.vars) (flat_map bad_turns (bodies program))
      (vars-at program.vars of.vars) (bad_turns-at IsPlace program of)

  buffer-at : (buffer : Option Number) → OfBuffer IsPlace buffer
      → ArePlaces IsPlace (bad_buffer buffer)
  buffer-at None of = tt
  buffer-at (Some number) of = all-unless IsPlace (is_between 1 32 number.value) number.at of

  words-at : (before : ℕ) (vars : List Var) → AllByRecursion (OfVar IsPlace) vars
      → ArePlaces IsPlace (words_above before vars)
  words-at before [] all = tt
  words-at before (var ∷ vars) all =
      all-joined IsPlace _ (words_above (before + count_of var.length) vars)
      (all-unless IsPlace (nat_le (before + count_of var.length) 256) var.name.at all.0)
      (words-at (before + count_of var.length) vars all.1)

  -- the place of what is there
  found-at : {X : Type 0} (name : X → Name) (found : Option X)
      → IsSo (λ x. IsNameAt IsPlace (name x)) found → ArePlaces IsPlace (place_of name found)
  found-at name None so = tt
  found-at name (Some x) so = (so, tt)

  counted-at : {X : Type 0} (name : X → Name) (P : X → Type 0)
      → ((x : X) → P x → IsNameAt IsPlace (name x)) → (xs : List X) (at : ℕ)
      → AllByRecursion P xs → ArePlaces IsPlace (place_of name (slice_get xs at))
  counted-at name P so xs at all =
      found-at name (slice_get xs at)
      (all-got (λ x. IsNameAt IsPlace (name x)) xs at
      (all-weaker P (λ x. IsNameAt IsPlace (name x)) so xs all))

  module _ (OfStmt : Stmt → Type 0) where
    transactions-of : (units : List UnitDecl) → AllByRecursion (OfUnit IsPlace OfStmt) units
        → AllByRecursion (λ (tx : TxDecl). IsNameAt IsPlace tx.name)
        (flat_map transactions_of_unit units)
    transactions-of [] all = tt
    transactions-of (Lone task ∷ more) all = transactions-of more all.1
    transactions-of (Tx tx ∷ more) all = (all.0.0, transactions-of more all.1)

    module _ (program : Program) (of : OfProgram IsPlace OfStmt program) where
      pub bad_buffer-at : ArePlaces IsPlace (bad_buffer_places program)
      bad_buffer-at = buffer-at program.buffer of.buffer

      pub too_many_words-at : ArePlaces IsPlace (too_many_words_places program)
      too_many_words-at = words-at 0 program.vars of.vars

      pub too_many_tasks-at : ArePlaces IsPlace (too_many_tasks_places program)
      too_many_tasks-at =
          let tasks-at = counted-at (λ (task : TaskDecl). task.name) (OfTask IsPlace OfStmt)
          (λ task is. is.name) (tasks program) 64
          (of-tasks IsPlace OfStmt program.units of.units) in
          let events-at = counted-at (λ (event : Event). event.name) (OfEvent IsPlace OfStmt)
          (λ event is. is.name) program.events 16 of.events in
          let transactions-at = counted-at (λ (tx : TxDecl). tx.name)
          (λ (tx : TxDecl). IsNameAt IsPlace tx.name) (λ tx is. is) (transactions program) 16
          (transactions-of program.units of.units) in
          let first = place_of (λ (task : TaskDecl). task.name) (slice_get (tasks program) 64) in
          let second = place_of (λ (event : Event). event.name) (slice_get program.events 16) in
          let third = place_of (λ (tx : TxDecl). tx.name)
          (slice_get (transactions program) 16) in
          all-joined IsPlace (first ++ second) third
          (all-joined IsPlace first second tasks-at events-at) transactions-at
