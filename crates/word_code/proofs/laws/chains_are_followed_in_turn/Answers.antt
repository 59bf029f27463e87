use Rattle.word_code.proofs.Following.{chained}
use Rattle.word_code.proofs.laws.chains_are_followed_in_turn.Goals as goal

pub returns-clause-operands : goal.returns-clause-operands
returns-clause-operands c = chained

pub returns-clause-body : goal.returns-clause-body
returns-clause-body c = chained
