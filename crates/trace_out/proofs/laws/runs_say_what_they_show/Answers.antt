use Rattle.trace_out.proofs.RunTexts.{run-printed}
use Rattle.trace_out.proofs.laws.runs_say_what_they_show.Goals as goal

pub returns : goal.returns
returns c = run-printed
