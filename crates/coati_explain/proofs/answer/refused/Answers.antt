use Rattle.std.proofs.Common.{refl}
use Rattle.coati_explain.specs.Answer.IsExplanation.{refused}
use Rattle.coati_explain.proofs.answer.refused.Goals as goal

pub returns : goal.returns
returns c = refused c.args.fault c.requires.fault refl c.in_ok-text.ensures
