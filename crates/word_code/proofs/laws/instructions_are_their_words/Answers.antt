use Rattle.word_code.proofs.Words.{decoded-encoded, encoded-decoded}
use Rattle.word_code.proofs.laws.instructions_are_their_words.Goals as goal

pub returns-clause-round_trip : goal.returns-clause-round_trip
returns-clause-round_trip c = decoded-encoded

pub returns-clause-nothing_else : goal.returns-clause-nothing_else
returns-clause-nothing_else c = encoded-decoded
