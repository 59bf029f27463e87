use Rattle.std.proofs.Common.{rules, ◌∷◌, ap, ◌∙◌}
use Rattle.std.proofs.lemmas.Result.{err_from_is_err_and}
use Rattle.task_lex.specs.declared.keyword.Keyword.TheVariants as keyword
use Rattle.task_lex.specs.declared.symbol.Symbol.TheVariants as sign
use Rattle.task_parse.specs.Grammar as G
use Rattle.task_parse.specs.Grammar.{Form, Reads}
use Rattle.task_parse.specs.Lexeme.{Lexeme}
use Rattle.task_parse.specs.Machine.{seen}
use Rattle.task_parse.proofs.Steps as S
use Rattle.task_parse.proofs.event.event.Goals as goal

pub returns-in_err-params : goal.returns-in_err-params
returns-in_err-params c =
    let p = err_from_is_err_and c.from_residual-in_err-params.result c.from_residual-in_err-params.ensures.1 in
    rw (p.1, p.2) (S.refused (λ k.
    ap (seen c.in_err-params.field-0.0)
    (c.in_ok-word.ensures.gives _ ∙ c.in_ok-name.ensures.gives _ ∙ c.in_ok-open.ensures.gives _
    ∙ c.in_ok-argument.ensures.gives _ ∙ c.in_ok-close.ensures.gives _ ∙ c.in_ok-open-2.ensures.gives _
    ∙ c.in_ok-word-2.ensures.gives _ ∙ c.in_ok-top.ensures.gives _ ∙ c.in_ok-word-3.ensures.gives _
    ∙ c.in_ok-open-3.ensures.gives _)
    ∙ c.in_err-params.ensures.gives _))

pub returns-in_err-close-2 : goal.returns-in_err-close-2
returns-in_err-close-2 c =
    let p = err_from_is_err_and c.from_residual-in_err-close-2.result c.from_residual-in_err-close-2.ensures.1 in
    rw (p.1, p.2) (S.refused (λ k.
    ap (seen c.in_err-close-2.field-0.0)
    (c.in_ok-word.ensures.gives _ ∙ c.in_ok-name.ensures.gives _ ∙ c.in_ok-open.ensures.gives _
    ∙ c.in_ok-argument.ensures.gives _ ∙ c.in_ok-close.ensures.gives _ ∙ c.in_ok-open-2.ensures.gives _
    ∙ c.in_ok-word-2.ensures.gives _ ∙ c.in_ok-top.ensures.gives _ ∙ c.in_ok-word-3.ensures.gives _
    ∙ c.in_ok-open-3.ensures.gives _ ∙ c.in_ok-params.ensures.gives _)
    ∙ c.in_err-close-2.ensures.gives _))

pub returns-in_err-bottom : goal.returns-in_err-bottom
returns-in_err-bottom c =
    let p = err_from_is_err_and c.from_residual-in_err-bottom.result c.from_residual-in_err-bottom.ensures.1 in
    rw (p.1, p.2) (S.refused (λ k.
    ap (seen c.in_err-bottom.field-0.0)
    (c.in_ok-word.ensures.gives _ ∙ c.in_ok-name.ensures.gives _ ∙ c.in_ok-open.ensures.gives _
    ∙ c.in_ok-argument.ensures.gives _ ∙ c.in_ok-close.ensures.gives _ ∙ c.in_ok-open-2.ensures.gives _
    ∙ c.in_ok-word-2.ensures.gives _ ∙ c.in_ok-top.ensures.gives _ ∙ c.in_ok-word-3.ensures.gives _
    ∙ c.in_ok-open-3.ensures.gives _ ∙ c.in_ok-params.ensures.gives _ ∙ c.in_ok-close-2.ensures.gives _)
    ∙ c.in_err-bottom.ensures.gives _))

pub returns-in_err-close-3 : goal.returns-in_err-close-3
returns-in_err-close-3 c =
    let p = err_from_is_err_and c.from_residual-in_err-close-3.result c.from_residual-in_err-close-3.ensures.1 in
    rw (p.1, p.2) (S.refused (λ k.
    ap (seen c.in_err-close-3.field-0.0)
    (c.in_ok-word.ensures.gives _ ∙ c.in_ok-name.ensures.gives _ ∙ c.in_ok-open.ensures.gives _
    ∙ c.in_ok-argument.ensures.gives _ ∙ c.in_ok-close.ensures.gives _ ∙ c.in_ok-open-2.ensures.gives _
    ∙ c.in_ok-word-2.ensures.gives _ ∙ c.in_ok-top.ensures.gives _ ∙ c.in_ok-word-3.ensures.gives _
    ∙ c.in_ok-open-3.ensures.gives _ ∙ c.in_ok-params.ensures.gives _ ∙ c.in_ok-close-2.ensures.gives _
    ∙ c.in_ok-bottom.ensures.gives _)
    ∙ c.in_err-close-3.ensures.gives _))

-- the tokens up to `top`, and those between the two halves
pub returns : goal.returns
returns c =
    record {
      reads = (let heading = c.in_ok-word.ensures.reads
          ∙ ap (λ w. Lexeme.word keyword.Event c.in_ok-word.field-0 ∷ w) (c.in_ok-name.ensures.reads
          ∙ ap (λ w. Lexeme.name c.in_ok-name.name ∷ w) (c.in_ok-open.ensures.reads
          ∙ ap (λ w. Lexeme.sign sign.OpenParen ∷ w) (c.in_ok-argument.ensures.reads
          ∙ ap (λ w. Lexeme.name c.in_ok-argument.argument ∷ w) (c.in_ok-close.ensures.reads
          ∙ ap (λ w. Lexeme.sign sign.CloseParen ∷ w) (c.in_ok-open-2.ensures.reads
          ∙ ap (λ w. Lexeme.sign sign.OpenBrace ∷ w) c.in_ok-word-2.ensures.reads))))) in
          let between = c.in_ok-word-3.ensures.reads
          ∙ ap (λ w. Lexeme.word keyword.Bottom c.in_ok-word-3.field-0 ∷ w) c.in_ok-open-3.ensures.reads in
          S.from heading (G.event (S.upto between c.in_ok-top.ensures.reads)
          (S.upto c.in_ok-close-2.ensures.reads c.in_ok-params.ensures.reads)
          (S.upto c.in_ok-close-3.ensures.reads c.in_ok-bottom.ensures.reads)));
      gives = λ k.
          c.in_ok-word.ensures.gives _ ∙ c.in_ok-name.ensures.gives _ ∙ c.in_ok-open.ensures.gives _
          ∙ c.in_ok-argument.ensures.gives _ ∙ c.in_ok-close.ensures.gives _ ∙ c.in_ok-open-2.ensures.gives _
          ∙ c.in_ok-word-2.ensures.gives _ ∙ c.in_ok-top.ensures.gives _ ∙ c.in_ok-word-3.ensures.gives _
          ∙ c.in_ok-open-3.ensures.gives _ ∙ c.in_ok-params.ensures.gives _ ∙ c.in_ok-close-2.ensures.gives _
          ∙ c.in_ok-bottom.ensures.gives _ ∙ c.in_ok-close-3.ensures.gives _;
      shrinks = search rules;
    }
