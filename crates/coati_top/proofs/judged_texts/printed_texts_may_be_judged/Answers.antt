use Rattle.coati_top.proofs.TextsOfPrograms.{may-be-judged}
use Rattle.coati_top.proofs.judged_texts.printed_texts_may_be_judged.Goals as goal

pub returns : goal.returns
returns c = may-be-judged
