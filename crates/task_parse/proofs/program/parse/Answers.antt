use Rattle.task_parse.proofs.Answering as A
use Rattle.task_parse.proofs.program.parse.Goals as goal

pub new-cursor-requires-clause-texts : goal.new-cursor-requires-clause-texts
new-cursor-requires-clause-texts c =
    c.tokens_stand_in_their_source.ensures.texts c.args.source.now c.args.tokens.now c.requires.tokens

pub returns-clause-spelled : goal.returns-clause-spelled
returns-clause-spelled c =
    let a = A.answered _ _ _ c.new-cursor.ensures c.program.ensures.reads c.program.ensures.ends in
    A.spelled c.args.source.now c.args.tokens.now c.program.result a

pub returns-clause-alone : goal.returns-clause-alone
returns-clause-alone c =
    let a = A.answered _ _ _ c.new-cursor.ensures c.program.ensures.reads c.program.ensures.ends in
    A.alone _ c.program.result a

pub returns-clause-fault : goal.returns-clause-fault
returns-clause-fault c =
    let a = A.answered _ _ _ c.new-cursor.ensures c.program.ensures.reads c.program.ensures.ends in
    A.explained _ c.program.result a

pub returns-clause-accepts : goal.returns-clause-accepts
returns-clause-accepts c =
    let a = A.answered _ _ _ c.new-cursor.ensures c.program.ensures.reads c.program.ensures.ends in
    λ p s. A.accepts c.args.source.now c.args.tokens.now c.program.result p a s

pub returns-clause-refuses : goal.returns-clause-refuses
returns-clause-refuses c =
    let a = A.answered _ _ _ c.new-cursor.ensures c.program.ensures.reads c.program.ensures.ends in
    λ n f. A.refuses _ c.program.result n a f

pub returns-clause-bars : goal.returns-clause-bars
returns-clause-bars c =
    let a = A.answered _ _ _ c.new-cursor.ensures c.program.ensures.reads c.program.ensures.ends in
    λ n f. A.bars _ c.program.result n a f
