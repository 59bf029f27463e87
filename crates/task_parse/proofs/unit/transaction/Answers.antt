use Rattle.std.proofs.Common.{rules, ◌∷◌, ap, ◌∙◌}
use Rattle.task_lex.specs.declared.keyword.Keyword.TheVariants as keyword
use Rattle.task_parse.specs.Lexeme.{Lexeme}
use Rattle.task_parse.proofs.Steps as S
use Rattle.task_parse.proofs.Lists as L
use Rattle.task_parse.proofs.unit.transaction.Goals as goal

pub returns : goal.returns
returns c =
    record {
      reads = S.from (c.in_ok-word.ensures.reads
          ∙ ap (λ w. Lexeme.word keyword.Transaction c.in_ok-word.field-0 ∷ w) (c.in_ok-name.ensures.reads
          ∙ ap (λ w. Lexeme.name c.in_ok-name.name ∷ w) c.in_ok-open.ensures.reads))
          (L.transaction_of _ _ _ _ _ _ c.in_ok-tasks.ensures.some c.in_ok-tasks.ensures.read.reads c.in_ok-close.ensures.reads);
      gives = search rules;
      shrinks = search rules;
    }
