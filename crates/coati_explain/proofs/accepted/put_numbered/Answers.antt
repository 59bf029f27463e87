use Rattle.std.proofs.Common.{arith}
use Rattle.std.proofs.lemmas.Grind.{common_steps}
use Rattle.coati_explain.specs.Accepted.{numbered}
use Rattle.coati_explain.proofs.accepted.put_numbered.Goals as goal

pub returns : goal.returns
unfolding numbered
returns c = grind (arith, common_steps)
