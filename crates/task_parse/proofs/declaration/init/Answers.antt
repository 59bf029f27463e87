use Rattle.std.proofs.Common.{rules, ◌∷◌, ap, ◌∙◌}
use Rattle.std.proofs.lemmas.Result.{err_from_is_err_and}
use Rattle.task_lex.specs.declared.symbol.Symbol.TheVariants as sign
use Rattle.task_parse.specs.Grammar as G
use Rattle.task_parse.specs.Grammar.{Form, Reads}
use Rattle.task_parse.specs.Lexeme.{Lexeme}
use Rattle.task_parse.specs.Machine.{seen}
use Rattle.task_parse.proofs.Steps as S
use Rattle.task_parse.proofs.Parts as P
use Rattle.task_parse.proofs.declaration.init.Goals as goal

pub returns-then-not-is_at : goal.returns-then-not-is_at
returns-then-not-is_at c =
    record { reads = G.none_given; gives = search rules; shrinks = search rules }

pub returns-in_err-sign : goal.returns-in_err-sign
returns-in_err-sign c =
    let p = err_from_is_err_and c.from_residual.result c.from_residual.ensures.1 in
    rw (p.1, p.2) (S.may_refused (λ k. ap (seen c.in_err-sign.field-0.0) (P.given_on c.args.cursor.now k (search rules))
    ∙ c.in_err-sign.ensures.gives _))

pub returns-in_err-values : goal.returns-in_err-values
returns-in_err-values c =
    let p = err_from_is_err_and c.from_residual-in_err-values.result c.from_residual-in_err-values.ensures.1 in
    rw (p.1, p.2) (S.may_refused (λ k. ap (seen c.in_err-values.field-0.0) (P.given_on c.args.cursor.now k (search rules)
    ∙ c.in_ok-sign.ensures.gives _ ∙ P.many_on c.sign.new.self k (search rules))
    ∙ c.in_err-values.ensures.gives k))

pub returns-in_err-value : goal.returns-in_err-value
returns-in_err-value c =
    let p = err_from_is_err_and c.from_residual-in_err-value.result c.from_residual-in_err-value.ensures.1 in
    rw (p.1, p.2) (S.may_refused (λ k. ap (seen c.in_err-value.field-0.0) (P.given_on c.args.cursor.now k (search rules)
    ∙ c.in_ok-sign.ensures.gives _ ∙ P.one_on c.sign.new.self k (search rules))
    ∙ c.in_err-value.ensures.gives k))

pub returns : goal.returns
returns c =
    record {
      reads = S.from (c.in_ok-sign.ensures.reads
          ∙ ap (λ w. Lexeme.sign sign.Assign ∷ w) c.in_ok-value.ensures.reads) G.one_given;
      gives = search rules;
      shrinks = search rules;
    }
