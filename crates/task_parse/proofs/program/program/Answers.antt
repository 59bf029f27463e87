use Rattle.task_parse.proofs.Answering as A
use Rattle.task_parse.proofs.program.program.Goals as goal

pub returns-clause-reads : goal.returns-clause-reads
returns-clause-reads c =
    A.whole_of _ _ _ _ _ _ _ _ c.in_ok-vars.ensures.some c.in_ok-units.ensures.some c.in_ok-vars.ensures.read.reads
    c.in_ok-buffer.ensures.reads c.in_ok-events.ensures.reads c.in_ok-units.ensures.reads
