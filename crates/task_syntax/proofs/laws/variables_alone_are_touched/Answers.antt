use Rattle.task_syntax.proofs.VariableWords.{expression_touches, statement_touches, body_touches, event_touches, unit_touches}
use Rattle.task_syntax.proofs.laws.variables_alone_are_touched.Goals as goal

pub returns-clause-expressions : goal.returns-clause-expressions
returns-clause-expressions c = λ program e locals full. expression_touches program full e locals

pub returns-clause-statements : goal.returns-clause-statements
returns-clause-statements c = λ program s locals full. statement_touches program full s locals

pub returns-clause-bodies : goal.returns-clause-bodies
returns-clause-bodies c = λ program stmts locals full. body_touches program full stmts locals

pub returns-clause-events : goal.returns-clause-events
returns-clause-events c = λ program event argument full. event_touches program full event argument

pub returns-clause-units : goal.returns-clause-units
returns-clause-units c = λ program task count store reached full is. unit_touches program full task count store reached is
