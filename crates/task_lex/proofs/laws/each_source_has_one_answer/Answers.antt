use Rattle.task_lex.proofs.OneReading.{one_fault, one_token_list, tokens_or_fault}
use Rattle.task_lex.proofs.laws.each_source_has_one_answer.Goals as goal

pub returns-clause-tokens : goal.returns-clause-tokens
returns-clause-tokens c = one_token_list

pub returns-clause-fault : goal.returns-clause-fault
returns-clause-fault c = one_fault

pub returns-clause-apart : goal.returns-clause-apart
returns-clause-apart c = tokens_or_fault
