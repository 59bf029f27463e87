use Rattle.std.proofs.Common.{rules, ◌∷◌, [], ap, ◌∙◌, subst, arith, append_assoc, append-nil}
use Rattle.std.proofs.lemmas.Result.{err_from_is_err_and}
use Rattle.task_parse.specs.Grammar as G
use Rattle.task_parse.specs.Grammar.{Form, Reads}
use Rattle.task_parse.specs.Machine.{seen}
use Rattle.task_parse.proofs.Steps as S
use Rattle.task_parse.proofs.Parts as P
use Rattle.task_parse.proofs.event.events.Goals as goal

pub returns-in_err-next : goal.returns-in_err-next
returns-in_err-next c =
    let p = err_from_is_err_and c.from_residual.result c.from_residual.ensures.1 in
    rw (p.1, p.2) (S.may_refused (λ k. ap (seen c.in_err-next.field-0.0) (c.loop-alloc.invariant.gives k
    ∙ P.events_on c.loop-alloc.cursor k (search rules)) ∙ c.in_err-next.ensures.gives _))

pub loop-alloc-preserved : goal.loop-alloc-preserved
loop-alloc-preserved c = record {
  reads = λ more rest d. rw (c.in_ok-push.ensures.ok, append_assoc) (c.loop-alloc.invariant.reads
      (c.in_ok-next.next ∷ more) rest (G.events c.in_ok-next.ensures.reads d));
  gives = λ k. c.loop-alloc.invariant.gives k ∙ P.events_on c.loop-alloc.cursor k (search rules)
      ∙ c.in_ok-next.ensures.gives _;
  shrinks = (let a = c.in_ok-next.ensures.shrinks in omega arith);
}

pub returns : goal.returns
returns c =
    record {
      reads = subst (λ w. Reads (Form.Events w) c.args.cursor.now.rest c.loop-alloc.cursor.rest)
          (append-nil c.loop-alloc.events) (c.loop-alloc.invariant.reads [] _ G.no_events);
      gives = search rules;
      shrinks = search rules;
    }
