use Rattle.std.proofs.Common.{rules, ◌∷◌, [], ap, ◌∙◌, subst, arith, append_assoc, append-nil}
use Rattle.std.proofs.lemmas.Result.{err_from_is_err_and}
use Rattle.task_lex.specs.declared.symbol.Symbol.TheVariants as sign
use Rattle.task_parse.specs.Grammar as G
use Rattle.task_parse.specs.Grammar.{Form, Reads}
use Rattle.task_parse.specs.Lexeme.{Lexeme}
use Rattle.task_parse.specs.Machine.{seen}
use Rattle.task_parse.proofs.Steps as S
use Rattle.task_parse.proofs.Parts as P
use Rattle.task_parse.proofs.event.parameters.Goals as goal

pub returns-then-not-is_at_name : goal.returns-then-not-is_at_name
returns-then-not-is_at_name c =
    record { reads = rw c.new-params.ensures G.no_params; gives = search rules; shrinks = search rules }

pub returns-in_err-first : goal.returns-in_err-first
returns-in_err-first c =
    let p = err_from_is_err_and c.from_residual.result c.from_residual.ensures.1 in
    rw (p.1, p.2) (S.may_refused (λ k. ap (seen c.in_err-first.field-0.0) (P.params_on c.args.cursor.now k (search rules))
    ∙ c.in_err-first.ensures.gives _))

pub loop-alloc-init : goal.loop-alloc-init
loop-alloc-init c = record {
  reads = λ more rest d. rw (c.in_ok-push.ensures.ok, c.new-params.ensures) (S.from c.in_ok-first.ensures.reads
      (G.params d));
  gives = λ k. P.params_on c.args.cursor.now k (search rules) ∙ c.in_ok-first.ensures.gives _;
  shrinks = (let a = c.in_ok-first.ensures.shrinks in omega arith);
}

pub returns-in_err-sign : goal.returns-in_err-sign
returns-in_err-sign c =
    let p = err_from_is_err_and c.from_residual-in_err-sign.result c.from_residual-in_err-sign.ensures.1 in
    rw (p.1, p.2) (S.may_refused (λ k. ap (seen c.in_err-sign.field-0.0) (c.loop-alloc.invariant.gives k
    ∙ P.names_on c.loop-alloc.cursor k (search rules)) ∙ c.in_err-sign.ensures.gives _))

pub returns-in_err-param : goal.returns-in_err-param
returns-in_err-param c =
    let p = err_from_is_err_and c.from_residual-in_err-param.result c.from_residual-in_err-param.ensures.1 in
    rw (p.1, p.2) (S.may_refused (λ k. ap (seen c.in_err-param.field-0.0) (c.loop-alloc.invariant.gives k
    ∙ P.names_on c.loop-alloc.cursor k (search rules) ∙ c.in_ok-sign.ensures.gives _)
    ∙ c.in_err-param.ensures.gives _))

pub loop-alloc-preserved : goal.loop-alloc-preserved
loop-alloc-preserved c = record {
  reads = λ more rest d. rw (c.in_ok-push-2.ensures.ok, append_assoc) (c.loop-alloc.invariant.reads
      (c.in_ok-param.param ∷ more) rest (S.from (c.in_ok-sign.ensures.reads
      ∙ ap (λ w. Lexeme.sign sign.Comma ∷ w) c.in_ok-param.ensures.reads) (G.names d)));
  gives = λ k. c.loop-alloc.invariant.gives k ∙ P.names_on c.loop-alloc.cursor k (search rules)
      ∙ c.in_ok-sign.ensures.gives _ ∙ c.in_ok-param.ensures.gives _;
  shrinks = (let a = c.in_ok-sign.ensures.shrinks in let b = c.in_ok-param.ensures.shrinks in omega arith);
}

pub returns : goal.returns
returns c =
    record {
      reads = subst (λ w. Reads (Form.Params w) c.args.cursor.now.rest c.loop-alloc.cursor.rest)
          (append-nil c.loop-alloc.params) (c.loop-alloc.invariant.reads [] _ G.no_names);
      gives = search rules;
      shrinks = search rules;
    }
