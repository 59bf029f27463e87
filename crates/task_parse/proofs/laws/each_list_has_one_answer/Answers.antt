use Rattle.task_parse.proofs.OneAnswer as O
use Rattle.task_parse.proofs.Places as P
use Rattle.task_parse.proofs.laws.each_list_has_one_answer.Goals as goal

pub returns : goal.returns
returns c =
    record { some = P.answer; faults = O.faults_agree; deeps = O.deeps_agree; apart = O.fault_or_deep; program = (λ list p n d f. O.no_program list n p f d); free = O.no_deep }
