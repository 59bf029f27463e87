use Rattle.word_code.proofs.Following.{goes_on_from}
use Rattle.word_code.proofs.laws.following_goes_on.Goals as goal

pub returns : goal.returns
returns c = goes_on_from
