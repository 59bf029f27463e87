use Rattle.task_syntax.proofs.Joined.{runs_in_turn}
use Rattle.task_syntax.proofs.laws.chains_run_in_turn.Goals as goal

pub returns-clause-operands : goal.returns-clause-operands
returns-clause-operands c = λ first next store. runs_in_turn first next store

pub returns-clause-expression_first : goal.returns-clause-expression_first
returns-clause-expression_first c = λ first next store. runs_in_turn first next store

pub returns-clause-statements : goal.returns-clause-statements
returns-clause-statements c = λ first next store. runs_in_turn first next store

pub returns-clause-body : goal.returns-clause-body
returns-clause-body c = λ first next store. runs_in_turn first next store
