use Rattle.std.proofs.Common.{rules, ◌∷◌, [], ap, sym, ◌∙◌, subst, arith, append_assoc, append-nil}
use Rattle.std.proofs.lemmas.Result.{err_from_is_err_and}
use Rattle.task_parse.specs.Grammar as G
use Rattle.task_parse.specs.Grammar.{Form, Reads}
use Rattle.task_parse.specs.Machine.{seen}
use Rattle.task_parse.proofs.Parts as P
use Rattle.task_parse.proofs.Steps as S
use Rattle.task_parse.proofs.declaration.variables.Goals as goal

pub loop-alloc-init : goal.loop-alloc-init
loop-alloc-init c = record {
  reads = λ more rest d. rw (c.in_ok-push.ensures.ok, c.new-vars.ensures) (G.variables c.in_ok-first.ensures.reads d);
  some = λ h. S.not_empty _ _ (sym (c.in_ok-push.ensures.ok) ∙ h);
  gives = λ k. c.in_ok-first.ensures.gives _;
  shrinks = c.in_ok-first.ensures.shrinks;
}

pub returns-in_err-var-clause-read : goal.returns-in_err-var-clause-read
returns-in_err-var-clause-read c =
    let p = err_from_is_err_and c.from_residual-in_err-var.result c.from_residual-in_err-var.ensures.1 in
    rw (p.1, p.2) (S.refused (λ k. ap (seen c.in_err-var.field-0.0) (c.loop-alloc.invariant.gives k
    ∙ P.variables_on c.loop-alloc.cursor k (search rules)) ∙ c.in_err-var.ensures.gives _))

pub loop-alloc-preserved : goal.loop-alloc-preserved
loop-alloc-preserved c = record {
  reads = λ more rest d. rw (c.in_ok-push-2.ensures.ok, append_assoc) (c.loop-alloc.invariant.reads
      (c.in_ok-var.var ∷ more) rest (G.variables c.in_ok-var.ensures.reads d));
  some = λ h. S.not_empty _ _ (sym (c.in_ok-push-2.ensures.ok) ∙ h);
  gives = λ k. c.loop-alloc.invariant.gives k ∙ P.variables_on c.loop-alloc.cursor k (search rules)
      ∙ c.in_ok-var.ensures.gives _;
  shrinks = (let a = c.in_ok-var.ensures.shrinks in omega arith);
}

pub returns-clause-read : goal.returns-clause-read
returns-clause-read c =
    record {
      reads = subst (λ w. Reads (Form.Variables w) c.args.cursor.now.rest c.loop-alloc.cursor.rest)
          (append-nil c.loop-alloc.vars) (c.loop-alloc.invariant.reads [] _ G.no_variables);
      gives = search rules;
      shrinks = search rules;
    }
