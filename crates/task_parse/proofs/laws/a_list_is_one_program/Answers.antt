use Rattle.task_parse.proofs.OneTree as O
use Rattle.task_parse.proofs.laws.a_list_is_one_program.Goals as goal

pub returns : goal.returns
returns c = λ list p q d f. O.program d f
