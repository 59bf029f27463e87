use Rattle.coati_top.proofs.TokenCounts.{few_tokens}
use Rattle.std.proofs.Common.{length}
use Rattle.coati_top.proofs.source.tokens_of.Goals as goal

pub returns-in-Ok-clause-few : goal.returns-in-Ok-clause-few
returns-in-Ok-clause-few c = few_tokens c.in-Ok.tokens.items (length c.args.source.now) c.in-Ok.ensures.order
