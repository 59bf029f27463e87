use Rattle.std.proofs.Common.{ap, ◌∙◌}
use Rattle.std.proofs.lemmas.List.{take_rest}
use Rattle.word_code.specs.Instruction.{decoded}
use Rattle.word_code.proofs.Words.{found_stands}
use Rattle.word_code.proofs.decoding.decode.Goals as goal

pub returns-clause-found : goal.returns-clause-found
returns-clause-found c = found_stands c.args.words.now c.args.at c.first_of.result (c.first_of.ensures ∙ ap decoded (take_rest c.args.words.now c.args.at))
