use Rattle.coati_top.proofs.Explaining.{tells_answer}
use Rattle.coati_top.proofs.still.answer.Goals as goal

pub returns-in-Ok : goal.returns-in-Ok
returns-in-Ok g c =
    tells_answer c.args.command c.args.bytes.now _ _ c.in-Ok.field-0.status c.tell.result.status c.in-Ok.field-0.told c.in-Ok.ensures c.tell.ensures
