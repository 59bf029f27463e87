use Rattle.std.proofs.Common.{rules, ap, ◌∙◌}
use Rattle.std.proofs.lemmas.Result.{err_from_is_err_and}
use Rattle.task_parse.specs.Grammar as G
use Rattle.task_parse.specs.Grammar.{Form, Reads}
use Rattle.task_parse.specs.Machine.{seen}
use Rattle.task_parse.proofs.Steps as S
use Rattle.task_parse.proofs.Parts as P
use Rattle.task_parse.proofs.unit.unit.Goals as goal

pub returns-in_err-tx : goal.returns-in_err-tx
returns-in_err-tx c =
    let p = err_from_is_err_and c.from_residual.result c.from_residual.ensures.1 in
    rw (p.1, p.2) (S.refused (λ k. ap (seen c.in_err-tx.field-0.0) (P.transaction_on c.args.cursor.now k (search rules))
    ∙ c.in_err-tx.ensures.gives k))

pub returns-in_err-lone : goal.returns-in_err-lone
returns-in_err-lone c =
    let p = err_from_is_err_and c.from_residual-in_err-lone.result c.from_residual-in_err-lone.ensures.1 in
    rw (p.1, p.2) (S.refused (λ k. ap (seen c.in_err-lone.field-0.0) (P.task_on c.args.cursor.now k (search rules))
    ∙ c.in_err-lone.ensures.gives k))

pub returns-in_ok-lone : goal.returns-in_ok-lone
returns-in_ok-lone c =
    record { reads = G.lone c.in_ok-lone.ensures.reads; gives = search rules; shrinks = search rules }
