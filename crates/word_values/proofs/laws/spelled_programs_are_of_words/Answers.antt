use Rattle.word_values.proofs.Programs.{spelled-of-words}
use Rattle.word_values.proofs.laws.spelled_programs_are_of_words.Goals as goal

pub returns : goal.returns
returns c source tokens program read spells =
    spelled-of-words c.values_are_words.ensures.binary c.values_are_words.ensures.unary source tokens program
    (c.tokens_stand_in_their_source.ensures.texts source tokens read) spells
