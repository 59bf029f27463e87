use Rattle.shown_runs.proofs.Runs.{run_counted}
use Rattle.shown_runs.proofs.laws.runs_are_counted.Goals as goal

pub returns : goal.returns
returns c program mode script start run end opened ran =
    run_counted start run end
    (record { finished = opened.fresh.finished; clock = opened.fresh.clock; steps = opened.fresh.steps; marks = opened.fresh.marks }) ran
