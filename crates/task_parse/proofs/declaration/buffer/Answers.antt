use Rattle.std.proofs.Common.{rules, ◌∷◌, ap, ◌∙◌}
use Rattle.std.proofs.lemmas.Result.{err_from_is_err_and}
use Rattle.task_lex.specs.declared.keyword.Keyword.TheVariants as keyword
use Rattle.task_parse.specs.Grammar as G
use Rattle.task_parse.specs.Grammar.{Form, Reads}
use Rattle.task_parse.specs.Lexeme.{Lexeme}
use Rattle.task_parse.specs.Machine.{seen}
use Rattle.task_parse.proofs.Steps as S
use Rattle.task_parse.proofs.Parts as P
use Rattle.task_parse.proofs.declaration.buffer.Goals as goal

pub returns-then-not-is_at_word : goal.returns-then-not-is_at_word
returns-then-not-is_at_word c =
    record { reads = G.no_buffer; gives = search rules; shrinks = search rules }

pub returns-in_err-word : goal.returns-in_err-word
returns-in_err-word c =
    let p = err_from_is_err_and c.from_residual.result c.from_residual.ensures.1 in
    rw (p.1, p.2) (S.may_refused (λ k. ap (seen c.in_err-word.field-0.0) (P.buffer_on c.args.cursor.now k (search rules))
    ∙ c.in_err-word.ensures.gives _))

pub returns-in_err-size : goal.returns-in_err-size
returns-in_err-size c =
    let p = err_from_is_err_and c.from_residual-in_err-size.result c.from_residual-in_err-size.ensures.1 in
    rw (p.1, p.2) (S.may_refused (λ k. ap (seen c.in_err-size.field-0.0) (P.buffer_on c.args.cursor.now k (search rules)
    ∙ c.in_ok-word.ensures.gives _)
    ∙ c.in_err-size.ensures.gives _))

pub returns-in_err-sign : goal.returns-in_err-sign
returns-in_err-sign c =
    let p = err_from_is_err_and c.from_residual-in_err-sign.result c.from_residual-in_err-sign.ensures.1 in
    rw (p.1, p.2) (S.may_refused (λ k. ap (seen c.in_err-sign.field-0.0) (P.buffer_on c.args.cursor.now k (search rules)
    ∙ c.in_ok-word.ensures.gives _
    ∙ c.in_ok-size.ensures.gives _) ∙ c.in_err-sign.ensures.gives k))

pub returns : goal.returns
returns c =
    record {
      reads = S.from (c.in_ok-word.ensures.reads
          ∙ ap (λ w. Lexeme.word keyword.Buffer c.in_ok-word.field-0 ∷ w) (c.in_ok-size.ensures.reads
          ∙ ap (λ w. Lexeme.number c.in_ok-size.size.value c.in_ok-size.size.at ∷ w) c.in_ok-sign.ensures.reads)) G.buffer;
      gives = search rules;
      shrinks = search rules;
    }
