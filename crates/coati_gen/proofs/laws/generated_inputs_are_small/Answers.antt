use Rattle.coati_gen.proofs.Sizes.{generated-small}
use Rattle.coati_gen.proofs.laws.generated_inputs_are_small.Goals as goal

pub returns : goal.returns
returns c = generated-small
