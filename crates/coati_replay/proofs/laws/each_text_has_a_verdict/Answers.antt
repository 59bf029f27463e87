use Rattle.coati_replay.proofs.Decided.{has-verdict}
use Rattle.coati_replay.proofs.laws.each_text_has_a_verdict.Goals as goal

pub returns : goal.returns
returns c = has-verdict c.written_words_are_told.ensures
