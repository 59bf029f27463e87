use Rattle.task_check.proofs.Refusals.{refusal-is_one}
use Rattle.task_check.proofs.laws.refusal_is_one.Goals as goal

pub returns : goal.returns
returns c = refusal-is_one
