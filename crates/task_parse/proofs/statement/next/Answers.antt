use Rattle.std.proofs.Common.{rules, ◌∷◌, ap, ◌∙◌}
use Rattle.task_lex.specs.declared.keyword.Keyword.TheVariants as keyword
use Rattle.task_parse.specs.Grammar as G
use Rattle.task_parse.specs.Grammar.{Form, Reads}
use Rattle.task_parse.specs.Lexeme.{Lexeme}
use Rattle.task_parse.proofs.Steps as S
use Rattle.task_parse.proofs.statement.next.Goals as goal

pub returns : goal.returns
returns c =
    record {
      reads = S.from (c.in_ok-word.ensures.reads
          ∙ ap (λ w. Lexeme.word keyword.Next c.in_ok-word.field-0 ∷ w) (c.in_ok-name.ensures.reads
          ∙ ap (λ w. Lexeme.name c.in_ok-name.name ∷ w) c.in_ok-sign.ensures.reads)) G.next;
      gives = search rules;
      shrinks = search rules;
    }
