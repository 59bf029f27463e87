use Rattle.shown_runs.proofs.RunRanges.{run-ranged}
use Rattle.shown_runs.proofs.laws.runs_tell_numbers_in_range.Goals as goal

pub returns : goal.returns
returns c =
    run-ranged (record {
      touch_units = c.variables_alone_are_touched.ensures.units;
      touch_events = c.variables_alone_are_touched.ensures.events;
      opening = c.programs_stay_in_words.ensures.opening;
      stay_units = c.programs_stay_in_words.ensures.units;
      stay_events = c.programs_stay_in_words.ensures.events;
      facts = c.legal_histories_keep_each_fact.ensures;
    })
