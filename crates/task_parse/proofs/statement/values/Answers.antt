use Rattle.std.proofs.Common.{rules, ◌∷◌, [], ap, ◌∙◌, subst, arith, append_assoc, append-nil}
use Rattle.std.proofs.lemmas.Result.{err_from_is_err_and}
use Rattle.task_lex.specs.declared.symbol.Symbol.TheVariants as sign
use Rattle.task_parse.specs.Grammar as G
use Rattle.task_parse.specs.Grammar.{Form, Reads}
use Rattle.task_parse.specs.Lexeme.{Lexeme}
use Rattle.task_parse.specs.Machine.{seen}
use Rattle.task_parse.proofs.Steps as S
use Rattle.task_parse.proofs.Parts as P
use Rattle.task_parse.proofs.statement.values.Goals as goal

pub returns-in_err-sign : goal.returns-in_err-sign
returns-in_err-sign c =
    let p = err_from_is_err_and c.from_residual.result c.from_residual.ensures.1 in
    rw (p.1, p.2) (S.refused_within (λ k. ap (seen c.in_err-sign.field-0.0) (P.values_over c.args.cursor.now _ (search rules)) ∙ c.in_err-sign.ensures.gives k))

pub returns-then-is_at : goal.returns-then-is_at
returns-then-is_at c =
    record { reads = rw c.new-values.ensures (S.from c.in_ok-sign.ensures.reads G.no_values); gives = search rules; shrinks = search rules }

pub returns-in_err-first : goal.returns-in_err-first
returns-in_err-first c =
    let p = err_from_is_err_and c.from_residual-in_err-first.result c.from_residual-in_err-first.ensures.1 in
    rw (p.1, p.2) (S.refused_within (λ k. ap (seen c.in_err-first.field-0.0) (P.values_on c.args.cursor.now k (search rules))
    ∙ c.in_err-first.ensures.gives _))

pub loop-alloc-init : goal.loop-alloc-init
loop-alloc-init c = record {
  reads = λ more rest d. rw (c.in_ok-push.ensures.ok, c.new-values.ensures) (G.values c.in_ok-first.ensures.reads d);
  gives = λ k. P.values_on c.args.cursor.now k (search rules)
      ∙ c.in_ok-first.ensures.gives _;
  shrinks = c.in_ok-first.ensures.shrinks;
}

pub returns-in_err-sign-2 : goal.returns-in_err-sign-2
returns-in_err-sign-2 c =
    let p = err_from_is_err_and c.from_residual-in_err-sign-2.result c.from_residual-in_err-sign-2.ensures.1 in
    rw (p.1, p.2) (S.refused_within (λ k. ap (seen c.in_err-sign-2.field-0.0) (c.loop-alloc.invariant.gives k
    ∙ P.more_on c.loop-alloc.cursor _ (search rules))
    ∙ c.in_err-sign-2.ensures.gives _))

pub returns-in_err-value : goal.returns-in_err-value
returns-in_err-value c =
    let p = err_from_is_err_and c.from_residual-in_err-value.result c.from_residual-in_err-value.ensures.1 in
    rw (p.1, p.2) (S.refused_within (λ k. ap (seen c.in_err-value.field-0.0) (c.loop-alloc.invariant.gives k
    ∙ P.more_on c.loop-alloc.cursor _ (search rules)
    ∙ c.in_ok-sign-2.ensures.gives _)
    ∙ c.in_err-value.ensures.gives _))

pub loop-alloc-preserved : goal.loop-alloc-preserved
loop-alloc-preserved c = record {
  reads = λ more rest d. rw (c.in_ok-push-2.ensures.ok, append_assoc) (c.loop-alloc.invariant.reads
      (c.in_ok-value.value ∷ more) rest (S.from c.in_ok-sign-2.ensures.reads
      (G.one_more c.in_ok-value.ensures.reads d)));
  gives = λ k. c.loop-alloc.invariant.gives k ∙ P.more_on c.loop-alloc.cursor _ (search rules)
      ∙ c.in_ok-sign-2.ensures.gives _
      ∙ c.in_ok-value.ensures.gives _;
  shrinks = (let a = c.in_ok-sign-2.ensures.shrinks in let b = c.in_ok-value.ensures.shrinks in omega arith);
}

pub returns-in_err-sign-3 : goal.returns-in_err-sign-3
returns-in_err-sign-3 c =
    let p = err_from_is_err_and c.from_residual-in_err-sign-3.result c.from_residual-in_err-sign-3.ensures.1 in
    rw (p.1, p.2) (S.refused_within (λ k. ap (seen c.in_err-sign-3.field-0.0) (c.loop-alloc.invariant.gives k
    ∙ P.more_over c.loop-alloc.cursor _ (search rules)) ∙ c.in_err-sign-3.ensures.gives k))

pub returns : goal.returns
returns c =
    record {
      reads = subst (λ w. Reads (Form.Values w) c.args.cursor.now.rest
          (Lexeme.sign sign.Semicolon ∷ c.sign-2.new.self.rest)) (append-nil c.loop-alloc.values) (c.loop-alloc.invariant.reads [] _
          (S.from c.in_ok-sign-3.ensures.reads G.no_more));
      gives = search rules;
      shrinks = search rules;
    }
