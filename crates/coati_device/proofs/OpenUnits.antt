-- What is known of an open unit is known of it after a write that leaves it.
use Rattle.std.proofs.Common.{◌≡◌, ◌<◌, ℕ, sym, subst, ◌∙◌, List, Bool, true, false}
use Rattle.coati_word.specs.declared.reading.Reading.{Reading}
use Rattle.task_syntax.specs.declared.program.Program.{Program}
use Rattle.serial_log.specs.SerialRun.{Stand}
use Rattle.nv_memory.specs.State.{State}
use Rattle.nv_memory.specs.Words.{mode}
use Rattle.commit_log.specs.OpenUnit.{KeepsUnit}
use Rattle.coati_device.specs.OpenUnit.{OpenUnitFits, UnitFits, has_unit}

-- the open unit stays, and so do the mode and the count of words
pub record LeavesUnit (s t : State) : Type 0 where
  pub unit : KeepsUnit s t
  pub open_same : has_unit t ≡ has_unit s
  pub mode_same : mode t ≡ mode s
  pub words_same : t.n ≡ s.n

unit_kept : (program : Program) (s t : State) (stand : Stand) (read : List Reading)
    (finished : ℕ) (is : Bool) → LeavesUnit s t →
    UnitFits program s stand read finished is → UnitFits program t stand read finished is
unit_kept program s t stand read finished true leaves fits = record {
  reached = fits.reached;
  tasks = fits.tasks;
  log = λ word. leaves.unit.log word ∙ fits.log word;
  flags = λ buffi word low.
      let within : word < s.n = subst (λ (n : ℕ). word < n) leaves.words_same low in
      leaves.unit.flags word within ∙ fits.flags (sym leaves.mode_same ∙ buffi) word within;
  next = leaves.unit.next ∙ fits.next;
  inside = fits.inside;
  reads = fits.reads;
}
unit_kept program s t stand read finished false leaves fits = fits

pub open_unit_kept : (program : Program) (s t : State) (stand : Stand) (read : List Reading)
    (finished : ℕ) → LeavesUnit s t →
    OpenUnitFits program s stand read finished → OpenUnitFits program t stand read finished
open_unit_kept program s t stand read finished leaves fits =
    subst (UnitFits program t stand read finished) (sym leaves.open_same)
    (unit_kept program s t stand read finished (has_unit s) leaves fits)

-- where none is open before and after
pub no_unit_kept : (program : Program) (s t : State) (stand : Stand) (read : List Reading)
    (finished : ℕ) → has_unit s ≡ false → has_unit t ≡ false →
    OpenUnitFits program s stand read finished → OpenUnitFits program t stand read finished
no_unit_kept program s t stand read finished none still fits =
    subst (UnitFits program t stand read finished) (sym still)
    (subst (UnitFits program s stand read finished) none fits)
