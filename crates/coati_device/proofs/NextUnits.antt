-- A unit that is whole is the next one of the serial run.
use Rattle.std.proofs.Common.{◌≡◌, ℕ, ◌+◌, refl, ap, sym, ◌∙◌, arith, inl, inr, List, ◌++◌, length, Bool, false, Option, Some, None, if◌then◌else◌}
use Rattle.std.specs.Prelude.{option_and_then}
use Rattle.coati_word.specs.declared.reading.Reading.{Reading}
use Rattle.task_syntax.specs.declared.program.Program.{Program}
use Rattle.task_syntax.specs.Course.{readings}
use Rattle.task_syntax.specs.Units.{Reached, is_inside, is_same, task_effect, tasks_effect, transaction_of, unless_inside}
use Rattle.task_check.specs.Accepted.{IsAccepted}
use Rattle.nv_memory.specs.Seats.{Memory}
use Rattle.nv_memory.specs.State.{state}
use Rattle.nv_memory.specs.Words.{current}
use Rattle.serial_log.specs.declared.unit.Unit.{Unit as Committed}
use Rattle.serial_log.specs.Marks.{Entry}
use Rattle.serial_log.specs.SerialRun.{IsUnitNext, Stand}
use Rattle.serial_log.specs.Standing.{Standing}
use Rattle.codegen.specs.Bodies.{program_code}
use Rattle.coati_device.specs.declared.device.Phase.TheVariants.{End}
use Rattle.coati_device.specs.Kept.{record_of_unit, unit_of}
use Rattle.coati_device.specs.Points.{IsFit, Reads}
use Rattle.coati_device.specs.Rows.{IsClear}
use Rattle.coati_device.proofs.Grown.{HasGrown}
use Rattle.coati_device.proofs.Members.{first_of_own, none_behind}
use Rattle.coati_device.proofs.TaskCommits.{IsOfUnit, unit_of_task}

-- the record of a unit of so many tasks, with these readings in the place of its own
abbrev pub entry_of : (of_tasks : Committed) (count : ℕ) (all read reads : List Reading) → Entry
entry_of of_tasks count all read reads = record {
  committed = record_of_unit of_tasks count (length all) (length read);
  reads = reads;
}

-- it is the next one
abbrev pub IsNextUnit : Program → Standing → (of_tasks : Committed) (count : ℕ)
    (all read reads : List Reading) → Type 0
IsNextUnit program standing of_tasks count all read reads =
    IsUnitNext program standing.rest standing.run (entry_of of_tasks count all read reads) of_tasks

-- where a task has ended, and its unit with it
module _ (program : Program) (m : Memory) (reads : Reads) (place : ℕ) (standing : Standing)
    (all : List Reading) (fit : IsFit program (program_code program) m reads (End place) standing)
    (rules : IsAccepted program)
    (grown : HasGrown program (state m) standing.run (reads.unit ++ reads.attempt)
    (reads.finished + 1) place) (outside : is_inside program (current (state m)) place ≡ false)
    (clear : IsClear (state m)) where
  abbrev task : ℕ
  task = current (state m)

  abbrev stand : Stand
  stand = standing.run

  abbrev read : List Reading
  read = reads.unit ++ reads.attempt

  next_by : (own : Option ℕ) → transaction_of program task ≡ own
      → IsOfUnit program (state m) stand reads.finished
      → IsNextUnit program standing (unit_of own task) (reads.finished + 1) all read read
  next_by None own of =
      let one = of.first own in
      let count : reads.finished + 1 ≡ 1 = omega (arith, one.0) in
      let only : Some (task_effect program stand.place stand.store) ≡ Some grown.whole =
      sym (ap (tasks_effect program stand.place stand.store) count) ∙ grown.tasks in
      let whole : grown.whole ≡ task_effect program stand.place stand.store = cc in
      record {
        place = sym one.1;
        lone = record { there = fit.attempt.at.task; alone = own };
        one_task = count;
        no_posting = refl;
        reads =
            grown.reads
            ∙ ap (λ (reached : Reached). readings reached.done) whole
            ∙ ap (λ (t : ℕ). readings (task_effect program t stand.store).done) (sym one.1);
      }
  next_by (Some tx) own of =
      let member : transaction_of program stand.place ≡ Some tx = of.own ∙ own in
      let ended : is_inside program stand.place grown.whole.place ≡ false =
      ap (is_inside program stand.place) grown.leads
      ∙ ap (λ (o : Option ℕ). is_same o (transaction_of program place)) of.own ∙ outside in
      record {
        place = elim fit.place [
          | inl halted ↦
              let none : transaction_of program stand.place ≡ None =
              ap (transaction_of program) halted ∙ none_behind program rules in
              absurd (let other : Some tx ≡ None = sym member ∙ none in cc)
          | inr first ↦ first_of_own program tx stand.place member first.1
        ];
        no_posting = refl;
        reached = grown.whole;
        whole =
            ap (option_and_then (unless_inside program stand.place)) grown.tasks
            ∙ ap (λ (b : Bool). if b then None else Some grown.whole) ended;
        reads = grown.reads;
      }

  -- it is the next one
  pub whole_is_next : IsNextUnit program standing (unit_of (transaction_of program task) task)
      (reads.finished + 1) all read read
  whole_is_next =
      next_by (transaction_of program task) refl
      (unit_of_task program m reads (End place) standing fit clear)
