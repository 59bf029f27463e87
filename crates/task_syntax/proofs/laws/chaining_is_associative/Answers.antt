use Rattle.task_syntax.proofs.Chains.{chain-chain}
use Rattle.task_syntax.proofs.laws.chaining_is_associative.Goals as goal

pub returns-clause-operands : goal.returns-clause-operands
returns-clause-operands c = λ first next last. chain-chain first next last

pub returns-clause-expressions_first : goal.returns-clause-expressions_first
returns-clause-expressions_first c = λ first next last. chain-chain first next last

pub returns-clause-expression_first : goal.returns-clause-expression_first
returns-clause-expression_first c = λ first next last. chain-chain first next last

pub returns-clause-statements : goal.returns-clause-statements
returns-clause-statements c = λ first next last. chain-chain first next last

pub returns-clause-body : goal.returns-clause-body
returns-clause-body c = λ first next last. chain-chain first next last
