use Rattle.coati_word.proofs.Words.{operator_value-word, unary_value-word}
use Rattle.coati_word.proofs.laws.values_are_words.Goals as goal

pub returns-clause-binary : goal.returns-clause-binary
returns-clause-binary c = operator_value-word

pub returns-clause-unary : goal.returns-clause-unary
returns-clause-unary c = unary_value-word
