use Rattle.std.proofs.Common.{rules}
use Rattle.task_parse.specs.Grammar as G
use Rattle.task_parse.specs.Grammar.{Form, Reads}
use Rattle.task_parse.proofs.Steps as S
use Rattle.task_parse.proofs.statement.give.Goals as goal

pub returns : goal.returns
returns c =
    record { reads = S.from c.in_ok-at.ensures.reads (G.give c.in_ok-values.ensures.reads); gives = search rules; shrinks = search rules }
