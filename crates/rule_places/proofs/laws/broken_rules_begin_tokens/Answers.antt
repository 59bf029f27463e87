use Rattle.rule_places.proofs.Broken.{begins-token, lies-within}
use Rattle.rule_places.proofs.laws.broken_rules_begin_tokens.Goals as goal

pub returns-clause-token : goal.returns-clause-token
returns-clause-token c = begins-token

pub returns-clause-within : goal.returns-clause-within
returns-clause-within c source tokens rule at is =
    lies-within source tokens (c.tokens_stand_in_their_source.ensures.texts source tokens is.read)
    at (begins-token source tokens rule at is)
