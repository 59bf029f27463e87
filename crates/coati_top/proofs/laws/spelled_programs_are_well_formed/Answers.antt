use Rattle.coati_top.proofs.WellFormed.{spelled_is_well_formed}
use Rattle.coati_top.proofs.laws.spelled_programs_are_well_formed.Goals as goal

pub returns : goal.returns
returns c = λ source tokens program read spells. spelled_is_well_formed source tokens program (c.tokens_stand_in_their_source.ensures.texts source tokens read) spells
