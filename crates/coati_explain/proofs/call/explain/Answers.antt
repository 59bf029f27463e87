use Rattle.coati_explain.proofs.Explaining.{ended_answer}
use Rattle.coati_explain.proofs.call.explain.Goals as goal

pub returns-in-Ok : goal.returns-in-Ok
returns-in-Ok g c = ended_answer _ _ _ c.in-Ok.ensures.whole _ (rw c.deref.ensures.value at c.answer.ensures)
