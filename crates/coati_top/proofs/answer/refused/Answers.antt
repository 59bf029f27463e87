use Rattle.std.proofs.Common.{refl}
use Rattle.coati_top.specs.Answer.Answers.{refused}
use Rattle.coati_top.proofs.answer.refused.Goals as goal

pub returns : goal.returns
returns c = refused c.args.refusal c.requires c.status.ensures c.in_ok-text.ensures refl
