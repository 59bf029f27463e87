-- Each act of a device at work keeps its pace.
use Rattle.std.proofs.Common.{◌≡◌, ◌-◌, ◌≤◌, ap, arith}
use Rattle.coati_word.specs.declared.mode.Mode.{Mode}
use Rattle.task_syntax.specs.declared.program.Program.{Program}
use Rattle.serial_log.specs.Legal.{IsDoneWith}
use Rattle.serial_log.specs.Standing.{Standing, standing_of}
use Rattle.coati_pace.specs.declared.effort.Shape.{Shape}
use Rattle.coati_pace.specs.declared.effort.Effort.{Effort}
use Rattle.coati_pace.specs.Effort.{IsEffort, bound}
use Rattle.coati_pace.specs.Need.{need}
use Rattle.coati_pace.specs.Acts.{IsIdle, IsStep}
use Rattle.coati_pace.specs.Pace.{GoesOn}
use Rattle.coati_pace.specs.Pace.GoesOn.{steps as by_step, serves as by_event, ends as by_task, boots as by_boot, answers as by_answer, refuses as by_refusal, closes as by_closing}
use Rattle.coati_pace.specs.Running.{IsAct, KeepsPace, Running, StandsFor, pace_of}
use Rattle.coati_pace.specs.Running.IsAct.{steps, sleeps, serves, progresses, boots, answers, refuses, closes}
use Rattle.coati_pace.proofs.Bounds.{bounded}
use Rattle.coati_pace.proofs.Falls.{steps_fall}
use Rattle.coati_pace.proofs.Paces.{paces_go_on}
use Rattle.coati_pace.proofs.Ranges.{acts_keep, restarts_within}

-- where nothing is needed, the history shows that nothing is left to do
done_with : (s : Shape) (mode : Mode) (e : Effort) (standing : Standing) → IsEffort s e →
    StandsFor e standing → need s mode e ≡ 0 → IsDoneWith standing
done_with s mode e standing ok stands none =
    let idle : IsIdle e = (bounded s mode e ok).idle.0 none in
    record { place = stands.place idle.place; rest = stands.held idle.held }

kept : (program : Program) (s : Shape) (mode : Mode) (old new : Running) →
    KeepsPace program s mode old → IsEffort s new.effort →
    GoesOn (bound s) (pace_of s mode old) (pace_of s mode new) →
    StandsFor new.effort (standing_of program new.marks) → KeepsPace program s mode new
kept program s mode old new ok ranges act stands = record {
  ranges = ranges;
  pace = paces_go_on program (bound s) (pace_of s mode old) (pace_of s mode new) (omega arith)
      ok.pace act
      (done_with s mode new.effort (standing_of program new.marks) ranges stands);
}

falls : (s : Shape) (mode : Mode) (old new : Effort) → IsStep s mode old new →
    need s mode new ≤ need s mode old - 1
falls s mode old new step = omega (arith, steps_fall s mode old new step)

sleeps_on : (s : Shape) (mode : Mode) (old new : Effort) → IsEffort s old → IsIdle old →
    new ≡ old → need s mode new ≤ need s mode old - 1
sleeps_on s mode old new ok idle same =
    let none : need s mode old ≡ 0 = (bounded s mode old ok).idle.1 idle in
    rw same (omega (arith, none))

pub acts_keep_pace : (program : Program) (s : Shape) (mode : Mode) (old new : Running) →
    KeepsPace program s mode old → IsAct s mode old new →
    StandsFor new.effort (standing_of program new.marks) → KeepsPace program s mode new
acts_keep_pace program s mode old new ok (steps step at are) stands =
    kept program s mode old new ok
    ((acts_keep s mode old.effort new.effort ok.ranges).step step)
    (by_step at (falls s mode old.effort new.effort step) are) stands
acts_keep_pace program s mode old new ok (sleeps idle same at are) stands =
    kept program s mode old new ok (rw same ok.ranges)
    (by_step at (sleeps_on s mode old.effort new.effort ok.ranges idle same) are) stands
acts_keep_pace program s mode old new ok (serves kind is step at are) stands =
    kept program s mode old new ok
    ((acts_keep s mode old.effort new.effort ok.ranges).step step)
    (by_event kind is at (falls s mode old.effort new.effort step) are) stands
acts_keep_pace program s mode old new ok (progresses kind is act at are) stands =
    kept program s mode old new ok
    ((acts_keep s mode old.effort new.effort ok.ranges).restart act)
    (by_task kind is at (restarts_within s mode old.effort new.effort ok.ranges act) are) stands
acts_keep_pace program s mode old new ok (boots number act at are) stands =
    kept program s mode old new ok
    ((acts_keep s mode old.effort new.effort ok.ranges).restart act)
    (by_boot number at (restarts_within s mode old.effort new.effort ok.ranges act) are) stands
acts_keep_pace program s mode old new ok (answers posted raised later act are) stands =
    kept program s mode old new ok
    ((acts_keep s mode old.effort new.effort ok.ranges).restart act)
    (by_answer posted raised later
    (restarts_within s mode old.effort new.effort ok.ranges act) are) stands
acts_keep_pace program s mode old new ok (refuses posted raised full same at are) stands =
    kept program s mode old new ok (rw same ok.ranges)
    (by_refusal posted raised full at (ap (need s mode) same) are) stands
acts_keep_pace program s mode old new ok (closes ended same at are) stands =
    kept program s mode old new ok (rw same ok.ranges)
    (by_closing ended at (ap (need s mode) same) are) stands
