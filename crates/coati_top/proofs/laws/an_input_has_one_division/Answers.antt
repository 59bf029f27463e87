use Rattle.coati_top.proofs.Dividers.{IsDivided-parts, IsDivided-only}
use Rattle.coati_top.proofs.laws.an_input_has_one_division.Goals as goal

pub returns-clause-parts : goal.returns-clause-parts
returns-clause-parts c = IsDivided-parts

pub returns-clause-only : goal.returns-clause-only
returns-clause-only c = IsDivided-only
