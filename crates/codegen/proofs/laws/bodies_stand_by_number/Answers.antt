use Rattle.codegen.proofs.Numbers.{stands_by_number}
use Rattle.codegen.proofs.laws.bodies_stand_by_number.Goals as goal

pub returns : goal.returns
returns c = stands_by_number
