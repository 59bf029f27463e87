use Rattle.std.proofs.Common.{rules, ◌∷◌, ap, ◌∙◌}
use Rattle.task_lex.specs.declared.keyword.Keyword.TheVariants as keyword
use Rattle.task_parse.specs.Grammar as G
use Rattle.task_parse.specs.Grammar.{Form, Reads}
use Rattle.task_parse.specs.Lexeme.{Lexeme}
use Rattle.task_parse.proofs.Steps as S
use Rattle.task_parse.proofs.unit.task.Goals as goal

pub returns : goal.returns
returns c =
    record {
      reads = S.from (c.in_ok-word.ensures.reads
          ∙ ap (λ w. Lexeme.word keyword.Task c.in_ok-word.field-0 ∷ w) c.in_ok-name.ensures.reads)
          (G.task c.in_ok-body.ensures.reads);
      gives = search rules;
      shrinks = search rules;
    }
