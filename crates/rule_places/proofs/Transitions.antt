-- Transitions into transactions are places of a program.
use Rattle.std.proofs.Common.{ℕ}
use Rattle.std.specs.Prelude.{Option, Some, None, flat_map}
use Rattle.task_syntax.specs.declared.program.Program.{Program}
use Rattle.task_syntax.specs.declared.program.TaskDecl.{TaskDecl}
use Rattle.task_syntax.specs.declared.statement.Stmt.{Stmt}
use Rattle.task_syntax.specs.Names.{tasks_of_unit}
use Rattle.task_syntax.specs.Units.{is_same, memberships}
use Rattle.task_check.specs.Transitions.{enters_in, enters_in_member, into, into_step, into_tx_places, members, midst_of}
use Rattle.rule_places.proofs.Bodies.{Anything, ArePlaces, block-places, both-places, of-tasks}
use Rattle.rule_places.proofs.Folds.{StatementLayers, statement-facts}
use Rattle.rule_places.proofs.Lists.{all-concat, all-flat_map, all-unless, all-zip}
use Rattle.rule_places.proofs.Parts.{OfProgram, OfTask, StatementFacts}

module _ (IsPlace : ℕ → Type 0) where
  one-into : (own tx : Option ℕ) (at : ℕ) → IsPlace at → ArePlaces IsPlace (into own tx at)
  one-into own None at is = tt
  one-into own (Some tx) at is = all-unless IsPlace (is_same own (Some tx)) at is

  module _ (program : Program) where
    -- in a task of this transaction, or in a lone task
    abbrev pub EntersAt : Option ℕ → Stmt → Type 0
    EntersAt own s = ArePlaces IsPlace (enters_in program own s)

    enters-layers : (own : Option ℕ)
        → StatementLayers IsPlace Anything Anything (into_step program own) (ArePlaces IsPlace)
    enters-layers own = record {
      declared = λ name e at so. tt;
      assigned = λ place e at so. tt;
      chosen = λ condition block other so one more. both-places IsPlace block other one more;
      repeated = λ name count block at all. all-concat IsPlace block all;
      next = λ name at. one-into own (midst_of program name.text) name.at at;
      halt = λ place at. tt;
      give = λ es place so at. tt;
    }

    pub enters-facts : (own : Option ℕ)
        → StatementFacts IsPlace Anything Anything (EntersAt own)
    enters-facts own =
        statement-facts IsPlace Anything Anything (into_step program own) (ArePlaces IsPlace)
        (enters-layers own)

    pub into_tx-at : ((own : Option ℕ) → OfProgram IsPlace (EntersAt own) program)
        → ArePlaces IsPlace (into_tx_places program)
    into_tx-at of =
        let all = all-zip (λ own. OfTask IsPlace (EntersAt own)) (memberships 0 program.units)
        (flat_map tasks_of_unit program.units)
        (λ own. of-tasks IsPlace (EntersAt own) program.units (of own).units) in
        all-flat_map (λ member. member)
        (λ asked (member : Option ℕ × TaskDecl). OfTask IsPlace (EntersAt member.0) member.1)
        IsPlace (enters_in_member program)
        (λ member is. block-places IsPlace (enters_in program member.0) member.1.body is.body)
        (members 0 program.units) (λ member. all)
