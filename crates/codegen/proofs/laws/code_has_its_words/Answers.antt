use Rattle.codegen.proofs.Sizes.{has_its_words}
use Rattle.codegen.proofs.laws.code_has_its_words.Goals as goal

pub returns : goal.returns
returns c = has_its_words
