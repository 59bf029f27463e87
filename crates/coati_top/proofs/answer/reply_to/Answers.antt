use Rattle.std.proofs.Common.{refl}
use Rattle.coati_top.specs.Answer.Answers.{served}
use Rattle.coati_top.proofs.answer.reply_to.Goals as goal

pub returns-in-Ok : goal.returns-in-Ok
returns-in-Ok c = served c.in-Ok.ensures.served refl
