use Rattle.task_syntax.proofs.UnderWay.{chains-on}
use Rattle.task_syntax.proofs.laws.chains_under_way_go_on.Goals as goal

pub returns-clause-operands : goal.returns-clause-operands
returns-clause-operands c = λ first next base. chains-on first next base

pub returns-clause-expression_first : goal.returns-clause-expression_first
returns-clause-expression_first c = λ first next base. chains-on first next base

pub returns-clause-statements : goal.returns-clause-statements
returns-clause-statements c = λ first next base. chains-on first next base

pub returns-clause-bodies : goal.returns-clause-bodies
returns-clause-bodies c = λ first next base. chains-on first next base

pub returns-clause-expression_in_body : goal.returns-clause-expression_in_body
returns-clause-expression_in_body c = λ first next base. chains-on first next base
