use Rattle.std.proofs.Common.{rules, ◌∷◌, [], ap, sym, ◌∙◌, subst, append_assoc, append-nil}
use Rattle.std.proofs.lemmas.Result.{err_from_is_err_and}
use Rattle.task_parse.specs.Grammar as G
use Rattle.task_parse.specs.Grammar.{Form, Reads}
use Rattle.task_parse.specs.Machine.{seen}
use Rattle.task_parse.proofs.Lists as L
use Rattle.task_parse.proofs.Steps as S
use Rattle.task_parse.proofs.unit.units.Goals as goal

pub loop-alloc-init : goal.loop-alloc-init
loop-alloc-init c = record {
  reads = λ more rest d. rw (c.in_ok-push.ensures.ok, c.new-units.ensures) (G.units c.in_ok-first.ensures.reads d);
  some = λ h. S.not_empty _ _ (sym (c.in_ok-push.ensures.ok) ∙ h);
  ends = c.in_ok-first.ensures.gives _;
}

pub returns-in_err-next-clause-ends : goal.returns-in_err-next-clause-ends
returns-in_err-next-clause-ends c =
    let p = err_from_is_err_and c.from_residual-in_err-next.result c.from_residual-in_err-next.ensures.1 in
    rw (p.1, p.2) (ap (seen c.in_err-next.field-0.0) (c.loop-alloc.invariant.ends
    ∙ L.further_units c.loop-alloc.cursor (search rules)) ∙ c.in_err-next.ensures.gives _)

pub loop-alloc-preserved : goal.loop-alloc-preserved
loop-alloc-preserved c = record {
  reads = λ more rest d. rw (c.in_ok-push-2.ensures.ok, append_assoc) (c.loop-alloc.invariant.reads
      (c.in_ok-next.next ∷ more) rest (G.units c.in_ok-next.ensures.reads d));
  some = λ h. S.not_empty _ _ (sym (c.in_ok-push-2.ensures.ok) ∙ h);
  ends = c.loop-alloc.invariant.ends ∙ L.further_units c.loop-alloc.cursor (search rules)
      ∙ c.in_ok-next.ensures.gives _;
}

pub returns-clause-reads : goal.returns-clause-reads
returns-clause-reads c = subst (λ w. Reads (Form.Units w) c.args.cursor.now.rest []) (append-nil c.loop-alloc.units)
    (c.loop-alloc.invariant.reads [] [] (S.from (L.nothing_left c.loop-alloc.cursor.rest (search rules)) G.no_units))
