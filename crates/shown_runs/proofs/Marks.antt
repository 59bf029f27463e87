-- What marks count, with a mark more.
use Rattle.std.proofs.Common.{◌≡◌, ℕ, ◌≤◌, ◌+◌, List, [], ◌∷◌, ◌++◌, arith}
use Rattle.serial_log.specs.declared.mark.Mark.{Mark}
use Rattle.shown_runs.specs.Counts.{HaveTasksWithin, handlers_time, tasks_in, time_in}

pub within_more : (few most : ℕ) (marks : List Mark) → few ≤ most → HaveTasksWithin few marks → HaveTasksWithin most marks
within_more few most [] less within = tt
within_more few most (mark ∷ more) less within =
    let here = within.0 in
    (omega (arith, here, less), within_more few most more less within.1)

pub within_pushed : (most : ℕ) (marks : List Mark) (mark : Mark) → HaveTasksWithin most marks → tasks_in mark.kind ≤ most
    → HaveTasksWithin most (marks ++ mark ∷ [])
within_pushed most [] mark within last = (last, tt)
within_pushed most (first ∷ more) mark within last = (within.0, within_pushed most more mark within.1 last)

pub time_pushed : (marks : List Mark) (mark : Mark) → handlers_time (marks ++ mark ∷ []) ≡ handlers_time marks + time_in mark.at mark.kind
time_pushed [] mark = omega arith
time_pushed (first ∷ more) mark = let rest = time_pushed more mark in omega (arith, rest)
