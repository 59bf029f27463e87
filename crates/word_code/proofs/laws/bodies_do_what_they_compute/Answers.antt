use Rattle.word_code.proofs.Running.{has_effect, never_stuck}
use Rattle.word_code.proofs.laws.bodies_do_what_they_compute.Goals as goal

pub returns-clause-effect : goal.returns-clause-effect
returns-clause-effect c = has_effect

pub returns-clause-never_stuck : goal.returns-clause-never_stuck
returns-clause-never_stuck c = never_stuck
