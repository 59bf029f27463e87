use Rattle.std.proofs.Common.{rules, ◌∷◌, ap, ◌∙◌}
use Rattle.task_lex.specs.declared.keyword.Keyword.TheVariants as keyword
use Rattle.task_parse.specs.Grammar as G
use Rattle.task_parse.specs.Grammar.{Form, Reads}
use Rattle.task_parse.specs.Lexeme.{Lexeme}
use Rattle.task_parse.proofs.Steps as S
use Rattle.task_parse.proofs.declaration.variable.Goals as goal

pub returns : goal.returns
returns c =
    record {
      reads = S.from (c.in_ok-word.ensures.reads
          ∙ ap (λ w. Lexeme.word keyword.Nv c.in_ok-word.field-0 ∷ w) c.in_ok-name.ensures.reads)
          (G.variable c.in_ok-length.ensures.reads (S.upto c.in_ok-sign.ensures.reads c.in_ok-init.ensures.reads));
      gives = search rules;
      shrinks = search rules;
    }
