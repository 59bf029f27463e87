use Rattle.std.proofs.Common.{rules}
use Rattle.task_parse.specs.Grammar as G
use Rattle.task_parse.specs.Grammar.{Form, Reads}
use Rattle.task_parse.proofs.Steps as S
use Rattle.task_parse.proofs.statement.assignment.Goals as goal

pub returns : goal.returns
returns c =
    record {
      reads = G.assign (S.upto c.in_ok-sign.ensures.reads c.in_ok-place.ensures.reads)
          (S.upto c.in_ok-sign-2.ensures.reads c.in_ok-value.ensures.reads);
      gives = search rules;
      shrinks = search rules;
    }
