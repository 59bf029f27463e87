-- Each act leaves a device paced, where it fits behind it.
use Rattle.std.proofs.Common.{◌==◌, ℕ, ◌+◌, refl, sym, subst, List, [], ◌∷◌, ◌++◌, Bool, true, false, if◌then◌else◌}
use Rattle.task_syntax.specs.declared.program.Program.{Program}
use Rattle.task_check.specs.Accepted.{IsAccepted}
use Rattle.task_check.specs.Sizes.{HasSizes}
use Rattle.nv_memory.specs.Seats.{Memory}
use Rattle.nv_memory.specs.State.{state}
use Rattle.serial_log.specs.declared.end.End.{End as Ending}
use Rattle.serial_log.specs.declared.mark.Mark.{Mark}
use Rattle.serial_log.specs.declared.mark.MarkKind.TheVariants.{Boot, End}
use Rattle.serial_log.specs.Postings.{Terms}
use Rattle.serial_log.specs.Standing.{Standing, after_mark, opening, standing_of}
use Rattle.serial_log.proofs.Walks.{walk_push}
use Rattle.codegen.specs.Bodies.{program_code}
use Rattle.coati_device.specs.declared.device.Device.{Device}
use Rattle.coati_device.specs.declared.device.Phase.{Phase}
use Rattle.coati_device.specs.declared.device.Phase.TheVariants.{Choose}
use Rattle.coati_device.specs.Laws.{Fits, RowsKeepFit}
use Rattle.coati_device.specs.Points.{IsFit, IsSound, Reads, reads_of}
use Rattle.coati_device.specs.Rows.{IsStepOf}
use Rattle.coati_device.specs.Ticks.{cut, passed}
use Rattle.coati_pace.specs.Acts.IsRestart.{boots as restarts}
use Rattle.coati_pace.specs.Effort.{shape_of}
use Rattle.coati_pace.specs.Running.{IsAct}
use Rattle.coati_pace.specs.Running.IsAct.{boots, closes}
use Rattle.coati_pace.proofs.Runs.{acts_keep_pace}
use Rattle.device_pace.specs.Effort.{cleaning_of, is_begun}
use Rattle.device_pace.specs.Laws.{RowsAreActs}
use Rattle.device_pace.specs.Running.{IsPaced, closed_by, running_of}
use Rattle.device_pace.proofs.Cleaning.{cleaning_within}
use Rattle.device_pace.proofs.Standing.{stands_for}

pub paced_on : (terms : Terms) (old new : Device) → IsPaced terms old →
    IsAct (shape_of terms.program) terms.mode (running_of old) (running_of new) →
    Fits terms.program new → IsPaced terms new
paced_on terms old new paced act fits =
    acts_keep_pace terms.program (shape_of terms.program) terms.mode (running_of old)
    (running_of new) paced act (stands_for terms.program new fits)

-- a cut is a boot
pub cut_acts : (terms : Terms) (periods : List ℕ) (d : Device) → Fits terms.program d →
    IsAct (shape_of terms.program) terms.mode (running_of (passed d)) (running_of (cut periods d))
cut_acts terms periods d fits =
    boots (d.boots + 1)
    (restarts (cleaning_of (state d.image)) (is_begun (state d.image))
    (cleaning_within terms.program (state d.image) fits.memory.words) refl) refl refl

-- behind one more mark that leads nowhere memory fits as before
module _ (program : Program) (m : Memory) (reads : Reads) (marks : List Mark) (mark : Mark) where
  abbrev before : Standing
  before = standing_of program marks

  abbrev FitsTo : Phase → Standing → Type 0
  FitsTo = IsFit program (program_code program) m reads

  fits_marked : (phase : Phase) → FitsTo phase (after_mark program before mark) →
      FitsTo phase (standing_of program (marks ++ mark ∷ []))
  fits_marked phase fits =
      subst (FitsTo phase) (sym (walk_push (after_mark program) (opening program) marks mark)) fits

pub cut_fits : (program : Program) (periods : List ℕ) (d : Device) → Fits program d →
    Fits program (cut periods d)
cut_fits program periods d fits =
    fits_marked program d.image (reads_of d) d.history.marks
    (record { at = d.clock + 1; kind = Boot (d.boots + 1) }) Choose
    (record {
      memory = fits.memory;
      stands = record {
        words = fits.stands.words;
        place = fits.stands.place;
        held = fits.stands.held;
      };
      waiting = record { few = fits.waiting.few; numbered = fits.waiting.numbered };
      place = fits.place;
      unit = fits.unit;
      attempt = tt;
    })

pub closed_fits : (program : Program) (end : Ending) (d : Device) → Fits program d →
    Fits program (closed_by end d)
closed_fits program end d fits =
    fits_marked program d.image (reads_of d) d.history.marks
    (record { at = d.clock; kind = End end }) d.phase
    (record {
      memory = fits.memory;
      stands = record {
        words = fits.stands.words;
        place = fits.stands.place;
        held = fits.stands.held;
      };
      waiting = record { few = fits.waiting.few; numbered = fits.waiting.numbered };
      place = fits.place;
      unit = fits.unit;
      attempt = fits.attempt;
    })

pub closing_paces : (terms : Terms) (end : Ending) (d : Device) → Fits terms.program d →
    IsPaced terms d → IsPaced terms (closed_by end d)
closing_paces terms end d fits paced =
    paced_on terms d (closed_by end d) paced (closes end refl refl refl)
    (closed_fits terms.program end d fits)

pub steps_pace : RowsAreActs → RowsKeepFit → (terms : Terms) (periods : List ℕ)
    (old new : Device) → IsAccepted terms.program → HasSizes terms.program →
    IsSound terms (program_code terms.program) periods old → IsPaced terms old →
    IsStepOf terms.program (program_code terms.program) periods old new → IsPaced terms new
steps_pace acts keep terms periods old new rules sizes sound paced step =
    let acted = step.acted in
    let fits = keep terms.program old acted rules sound.fit sound.events sound.accepted step.row in
    let mid : IsPaced terms (passed acted) =
    paced_on terms old (passed acted) paced
    (acts terms periods old acted rules sizes sound step.row) fits in
    subst (IsPaced terms) (sym step.time) (by (acted.until == 1) fits mid)
  where
    by : (b : Bool) → Fits terms.program step.acted → IsPaced terms (passed step.acted) →
        IsPaced terms (if b then cut periods (record step.acted { steps = step.acted.steps + 1 })
        else passed (record step.acted { steps = step.acted.steps + 1 }))
    by true fits mid =
        paced_on terms (passed step.acted) (cut periods step.acted) mid
        (cut_acts terms periods step.acted fits)
        (cut_fits terms.program periods step.acted fits)
    by false fits mid = mid
