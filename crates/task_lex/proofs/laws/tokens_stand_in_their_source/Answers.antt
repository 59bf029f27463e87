use Rattle.std.proofs.Common.{[], length}
use Rattle.task_lex.proofs.Spans.{All-IsTokenOf, AreInOrder-Reads}
use Rattle.task_lex.proofs.laws.tokens_stand_in_their_source.Goals as goal

pub returns-clause-order : goal.returns-clause-order
returns-clause-order c source tokens read = AreInOrder-Reads 0 source tokens (length source) [] read

pub returns-clause-texts : goal.returns-clause-texts
returns-clause-texts c = All-IsTokenOf
