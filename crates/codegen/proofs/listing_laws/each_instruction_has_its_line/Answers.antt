use Rattle.codegen.proofs.InstructionLines.{each_line}
use Rattle.codegen.proofs.listing_laws.each_instruction_has_its_line.Goals as goal

pub returns : goal.returns
returns c = each_line c.instructions_are_their_words.ensures.round_trip
