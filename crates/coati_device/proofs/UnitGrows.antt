-- Where a task has ended, the unit has grown by it.
use Rattle.std.proofs.Common.{◌≡◌, ◌≢◌, ℕ, ◌==◌, ◌+◌, ◌<◌, Option, refl, sym, ap, subst, ◌∙◌, arith, inl, inr, List, ◌++◌, Bool, true, false, None}
use Rattle.std.specs.Option.{unwrap_or}
use Rattle.std.proofs.lemmas.Bool.{cases_eq}
use Rattle.coati_word.specs.declared.reading.Reading.{Reading}
use Rattle.task_syntax.specs.declared.program.Program.{Program}
use Rattle.task_syntax.specs.Course.{Store, after}
use Rattle.task_syntax.specs.CourseLaws.{AccessesJoinUp, LastWritesTellTheStore}
use Rattle.task_syntax.specs.Written.{last_written}
use Rattle.nv_memory.proofs.Looks.{test_same}
use Rattle.nv_memory.specs.declared.log.Log.TheVariants as log
use Rattle.nv_memory.specs.Logs.{log_value}
use Rattle.nv_memory.specs.Seats.{Memory}
use Rattle.nv_memory.specs.StandsFor.{committed_word, place_of}
use Rattle.nv_memory.specs.State.{State, state}
use Rattle.nv_memory.specs.Words.{current, first, mark, opened}
use Rattle.serial_log.specs.Standing.{Standing}
use Rattle.commit_log.specs.OpenUnit.{unit_log, unit_next}
use Rattle.word_code.specs.Code.{Bodies}
use Rattle.coati_device.specs.declared.device.Phase.TheVariants.{End}
use Rattle.coati_device.specs.Attempt.{HasEnded, base_word}
use Rattle.coati_device.specs.OpenUnit.{HasFinished, UnitFits, has_unit}
use Rattle.coati_device.specs.Points.{IsFit, Reads, StandsFor}
use Rattle.coati_device.specs.Rows.{IsClear}
use Rattle.coati_device.proofs.Grown.{HasGrown, IsLast, first_task_alone, one_task_more}

-- stores that hold the same are the same
pub pointwise : (one other : Store) → ((word : ℕ) → one word ≡ other word) → one ≡ other
pointwise one other same = λ i. λ word. same word i

-- where no commit and no undo is under way, a unit is open exactly where a transaction is
pub open_at_clear : (s : State) (is : Bool) → IsClear s → (opened s == 1) ≡ is → has_unit s ≡ is
open_at_clear s is clear e = rw (clear.mark, clear.doomed) e

-- and the place is its first task, or else the task to run
pub place_open : (s : State) → mark s ≡ 0 → (opened s == 1) ≡ true → place_of s ≡ first s
place_open s clear e = rw (clear, e) refl

pub place_closed : (s : State) → mark s ≡ 0 → (opened s == 1) ≡ false → place_of s ≡ current s
place_closed s clear e = rw (clear, e) refl

pub tx_at_clear : (s : State) (word : ℕ) → mark s ≡ 0 → log_value s log.Tx word ≡ unit_log s word
tx_at_clear s word clear = rw clear refl

pub next_at_clear : (s : State) → mark s ≡ 0 → current s ≡ unit_next s
next_at_clear s clear = rw clear refl

-- the task to run runs on what the tasks before it left
pub base_of_unit : (program : Program) (s : State) (standing : Standing) (read : List Reading)
    (finished : ℕ) → LastWritesTellTheStore → mark s ≡ 0 → StandsFor program s standing →
    (fits : HasFinished program s standing.run read finished) →
    base_word s ≡ after fits.reached.done standing.run.store
base_of_unit program s standing read finished lasts clear stands fits = pointwise _ _ (λ word.
    ap (λ (o : Option ℕ). unwrap_or o (committed_word s word))
    (tx_at_clear s word clear ∙ fits.log word)
    ∙ ap (unwrap_or (last_written fits.reached.done word)) (stands.words word)
    ∙ sym (lasts fits.reached.done standing.run.store word))

pub base_alone : (program : Program) (s : State) (standing : Standing) →
    ((word : ℕ) → log_value s log.Tx word ≡ None) → StandsFor program s standing →
    base_word s ≡ standing.run.store
base_alone program s standing empty stands = pointwise _ _ (λ word.
    ap (λ (o : Option ℕ). unwrap_or o (committed_word s word)) (empty word) ∙ stands.words word)

last_on : (program : Program) (m : Memory) (base : Store) (read : List Reading) (place : ℕ) →
    base_word (state m) ≡ base → HasEnded program m read place →
    IsLast program (state m) base read place
last_on program m base read place is ended =
    subst (λ (b : Store). IsLast program (state m) b read place) is
    (record { log = ended.made.log; reads = ended.made.reads; leads = ended.leads })

closed_word : (o : ℕ) → o < 2 → (o == 1) ≡ false → o ≡ 0
closed_word o low n = elim (cases_eq o 1) [
  | inl q ↦ absurd (let z : true ≡ false = sym (test_same o 1 q) ∙ n in cc)
  | inr d ↦ omega (arith, low, d)
]

module _ (program : Program) (code : Bodies) (m : Memory) (reads : Reads) (standing : Standing)
    (place : ℕ) (fit : IsFit program code m reads (End place) standing)
    (clear : IsClear (state m)) where
  -- a transaction that isn't open has an empty log, and no flag
  pub shut : (opened (state m) == 1) ≡ false → opened (state m) ≡ 0
  shut = closed_word (opened (state m)) fit.memory.range.opened

  pub no_merge : mark (state m) ≢ 1
  no_merge one = omega (arith, one, clear.mark)

  pub empty_alone : (opened (state m) == 1) ≡ false → (word : ℕ)
      → log_value (state m) log.Tx word ≡ None
  empty_alone e = fit.memory.closed.empty (shut e) no_merge

  -- the open unit, by whether a transaction is open
  pub unit_there : UnitFits program (state m) standing.run reads.unit reads.finished
      (opened (state m) == 1)
  unit_there =
      subst (UnitFits program (state m) standing.run reads.unit reads.finished)
      (open_at_clear (state m) (opened (state m) == 1) clear refl) fit.unit

  module _ (joins : AccessesJoinUp) (lasts : LastWritesTellTheStore) where
    grown_by : (is : Bool) → (opened (state m) == 1) ≡ is
        → UnitFits program (state m) standing.run reads.unit reads.finished is
        → HasGrown program (state m) standing.run (reads.unit ++ reads.attempt)
        (reads.finished + 1) place
    grown_by true e unit =
        one_task_more program (state m) standing.run reads.unit reads.attempt reads.finished
        place joins (λ word. tx_at_clear (state m) word clear.mark)
        (next_at_clear (state m) clear.mark) unit
        (last_on program m (after unit.reached.done standing.run.store) reads.attempt place
        (base_of_unit program (state m) standing reads.unit reads.finished lasts clear.mark
        fit.stands unit) fit.attempt)
    grown_by false e unit =
        first_task_alone program (state m) standing.run reads.unit reads.attempt reads.finished
        place (sym (place_closed (state m) clear.mark e) ∙ fit.stands.place) (empty_alone e) unit
        (last_on program m standing.run.store reads.attempt place
        (base_alone program (state m) standing (empty_alone e) fit.stands) fit.attempt)

    pub unit_grown : HasGrown program (state m) standing.run (reads.unit ++ reads.attempt)
        (reads.finished + 1) place
    unit_grown = grown_by (opened (state m) == 1) refl unit_there
