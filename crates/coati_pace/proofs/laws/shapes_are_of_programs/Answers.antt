use Rattle.coati_pace.proofs.Programs.{shapes_within}
use Rattle.coati_pace.proofs.laws.shapes_are_of_programs.Goals as goal

pub returns-clause-limits : goal.returns-clause-limits
returns-clause-limits c = shapes_within
