-- A run from the opening of a board on is counted.
use Rattle.std.proofs.Common.{◌≡◌, ◌+◌, [], ◌∷◌, ◌++◌, length, ap, sym, subst, arith}
use Rattle.serial_log.specs.declared.end.End.{End}
use Rattle.serial_log.specs.declared.mark.Mark.{Mark}
use Rattle.serial_log.specs.declared.mark.MarkKind.TheVariants as kind
use Rattle.serial_log.specs.History.{AreRecordsIn}
use Rattle.serial_log.proofs.Records.{records_push}
use Rattle.coati_board.specs.Board.{Whole}
use Rattle.coati_device.specs.declared.device.Device.{Device}
use Rattle.executor.specs.Run.{Goes, HasRun}
use Rattle.executor.specs.Run.Goes.{begins, raises, steps}
use Rattle.shown_runs.specs.Counts.{HaveTasksWithin, IsCounted, handlers_time}
use Rattle.shown_runs.proofs.Marks.{time_pushed, within_pushed}
use Rattle.shown_runs.proofs.TaskSteps.{CountsSteps, raise_counts, step_counts}

goes_counts : (start now : Whole) → CountsSteps start.device → Goes start now → CountsSteps now.device
goes_counts start now first begins = first
goes_counts start now first (raises old next posting answer came due raise) =
    raise_counts _ _ old.device _ _ _ now.device answer raise.raised (goes_counts start old first came)
goes_counts start now first (steps old next came none more left step) =
    step_counts _ _ _ old.device now.device step (goes_counts start old first came)

-- before its first step
pub record IsFirst (d : Device) : Type 0 where
  pub finished : d.finished ≡ 0
  pub clock : d.clock ≡ 0
  pub steps : d.steps ≡ 0
  pub marks : d.history.marks ≡ []

first_counts : (d : Device) → IsFirst d → CountsSteps d
first_counts d first =
    let finished = first.finished in
    let clock = first.clock in
    let steps = first.steps in
    let time : handlers_time d.history.marks ≡ 0 = ap handlers_time first.marks in
    record {
      counts = record {
        finished = omega (arith, finished);
        told = subst (HaveTasksWithin d.steps) (sym first.marks) tt;
        records = subst (AreRecordsIn (length d.history.readings)) (sym first.marks) tt;
      };
      clock = omega (arith, clock, steps, time);
    }

pub run_counted : (start run : Whole) (end : End) → IsFirst start.device → HasRun start end run → IsCounted run.device
run_counted start run end first ran =
    let last = goes_counts start ran.last (first_counts start.device first) ran.goes in
    let past = ran.last.device.history in
    let clock = last.clock in
    let ending : Mark = record { at = ran.last.device.clock; kind = kind.End end } in
    let pushed : handlers_time (past.marks ++ ending ∷ []) ≡ handlers_time past.marks + 0 = time_pushed past.marks ending in
    subst (λ (board : Whole). IsCounted board.device) (sym ran.closed)
    (record {
      tasks = within_pushed ran.last.device.steps past.marks _ last.counts.told (omega arith);
      records = records_push past.marks _ (length past.readings) last.counts.records tt;
      clock = omega (arith, clock, pushed);
    })
