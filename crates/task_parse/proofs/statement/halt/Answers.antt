use Rattle.std.proofs.Common.{rules, ◌∷◌, ap, ◌∙◌}
use Rattle.task_lex.specs.declared.keyword.Keyword.TheVariants as keyword
use Rattle.task_parse.specs.Grammar as G
use Rattle.task_parse.specs.Grammar.{Form, Reads}
use Rattle.task_parse.specs.Lexeme.{Lexeme}
use Rattle.task_parse.proofs.Steps as S
use Rattle.task_parse.proofs.statement.halt.Goals as goal

pub returns : goal.returns
returns c =
    record {
      reads = S.from (c.in_ok-at.ensures.reads
          ∙ ap (λ w. Lexeme.word keyword.Halt c.in_ok-at.at ∷ w) c.in_ok-sign.ensures.reads) G.halt;
      gives = search rules;
      shrinks = search rules;
    }
