use Rattle.std.proofs.Common.{rules, ◌∷◌, ap, ◌∙◌}
use Rattle.std.proofs.lemmas.Result.{err_from_is_err_and}
use Rattle.task_lex.specs.declared.symbol.Symbol.TheVariants as sign
use Rattle.task_parse.specs.Grammar as G
use Rattle.task_parse.specs.Grammar.{Form, Reads}
use Rattle.task_parse.specs.Lexeme.{Lexeme}
use Rattle.task_parse.specs.Machine.{seen}
use Rattle.task_parse.proofs.Steps as S
use Rattle.task_parse.proofs.Parts as P
use Rattle.task_parse.proofs.declaration.array_length.Goals as goal

pub returns-then-not-is_at : goal.returns-then-not-is_at
returns-then-not-is_at c =
    record { reads = G.no_length; gives = search rules; shrinks = search rules }

pub returns-in_err-open : goal.returns-in_err-open
returns-in_err-open c =
    let p = err_from_is_err_and c.from_residual.result c.from_residual.ensures.1 in
    rw (p.1, p.2) (S.may_refused (λ k. ap (seen c.in_err-open.field-0.0) (P.length_on c.args.cursor.now k (search rules))
    ∙ c.in_err-open.ensures.gives _))

pub returns-in_err-length : goal.returns-in_err-length
returns-in_err-length c =
    let p = err_from_is_err_and c.from_residual-in_err-length.result c.from_residual-in_err-length.ensures.1 in
    rw (p.1, p.2) (S.may_refused (λ k. ap (seen c.in_err-length.field-0.0) (P.length_on c.args.cursor.now k (search rules)
    ∙ c.in_ok-open.ensures.gives _)
    ∙ c.in_err-length.ensures.gives _))

pub returns-in_err-close : goal.returns-in_err-close
returns-in_err-close c =
    let p = err_from_is_err_and c.from_residual-in_err-close.result c.from_residual-in_err-close.ensures.1 in
    rw (p.1, p.2) (S.may_refused (λ k. ap (seen c.in_err-close.field-0.0) (P.length_on c.args.cursor.now k (search rules)
    ∙ c.in_ok-open.ensures.gives _
    ∙ c.in_ok-length.ensures.gives _) ∙ c.in_err-close.ensures.gives k))

pub returns : goal.returns
returns c =
    record {
      reads = S.from (c.in_ok-open.ensures.reads
          ∙ ap (λ w. Lexeme.sign sign.OpenBracket ∷ w) (c.in_ok-length.ensures.reads
          ∙ ap (λ w. Lexeme.number c.in_ok-length.length.value c.in_ok-length.length.at ∷ w) c.in_ok-close.ensures.reads)) G.length;
      gives = search rules;
      shrinks = search rules;
    }
