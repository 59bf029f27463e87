-- What the steps, the clock and the readings of a run count.
use Rattle.std.specs.Prelude.{ℕ, ◌≡◌, ◌≤◌, ◌+◌, ◌-◌, List, [], ◌∷◌, length}
use Rattle.std.specs.List.{AllByRecursion}
use Rattle.serial_log.specs.declared.mark.Mark.{Mark}
use Rattle.serial_log.specs.declared.mark.MarkKind.{MarkKind}
use Rattle.serial_log.specs.declared.mark.MarkKind.TheVariants.{Abort, Commit, Posted}
use Rattle.serial_log.specs.History.{AreRecordsIn}
use Rattle.coati_device.specs.declared.device.Device.{Device}

-- how many tasks had the unit that a mark tells of; another mark tells of none
abbrev pub tasks_in : MarkKind → ℕ
tasks_in (Commit committed) = committed.tasks
tasks_in (Abort aborted) = aborted.tasks
tasks_in _ = 0

-- no unit had more tasks than this
abbrev pub HaveTasksWithin : ℕ → List Mark → Type 0
HaveTasksWithin most marks = AllByRecursion (λ mark. tasks_in mark.kind ≤ most) marks

-- how long the handler ran whose answer a mark tells; another mark tells of none
abbrev pub time_in : ℕ → MarkKind → ℕ
time_in at (Posted posted) = at - posted.from
time_in at _ = 0

-- how long handlers ran
abbrev pub handlers_time : List Mark → ℕ
handlers_time [] = 0
handlers_time (mark ∷ more) = time_in mark.at mark.kind + handlers_time more

-- no unit has more tasks than the executor has made steps, all readings of records are there, and
-- the clock counts the executor's steps and those of the handlers
pub record IsCounted (d : Device) : Type 0 where
  pub tasks : HaveTasksWithin d.steps d.history.marks
  pub records : AreRecordsIn (length d.history.readings) d.history.marks
  pub clock : d.clock ≡ d.steps + handlers_time d.history.marks
