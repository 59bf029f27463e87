use Rattle.coati_text.proofs.LineEnds.{IsTextOf-lines_of, lines_of-is}
use Rattle.coati_text.proofs.laws.lines_are_the_text.Goals as goal

pub returns-clause-lines : goal.returns-clause-lines
returns-clause-lines c = IsTextOf-lines_of

pub returns-clause-only : goal.returns-clause-only
returns-clause-only c = lines_of-is
