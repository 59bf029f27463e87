use Rattle.std.proofs.Common.{◌∙◌, ℕ, List, refl, subst}
use Rattle.std.proofs.lemmas.Result.{err_from_is_err_and}
use Rattle.coati_top.specs.Answer.{AsksFor}
use Rattle.coati_top.specs.Refused.{IsUnserved, RefusesRun}
use Rattle.coati_top.proofs.loaded.loaded.Goals as goal

pub returns-in_err-board-clause-unserved : goal.returns-in_err-board-clause-unserved
returns-in_err-board-clause-unserved c =
    let p = err_from_is_err_and c.from_residual-in_err-board.result
    c.from_residual-in_err-board.ensures.1 in
    let why = c.in_err-board.field-0.0 in
    rw (p.1, p.2)
    (subst (λ (input : List ℕ). IsUnserved (RefusesRun input) why)
    (c.deref.ensures.value ∙ c.in_ok-input.ensures.text) c.in_err-board.ensures.unserved)

pub returns-clause-served : goal.returns-clause-served
returns-clause-served c =
    let run = c.in_ok-board.board in
    record {
      run = run;
      asked = subst (λ (input : List ℕ). AsksFor input run.program run.script)
          (c.deref.ensures.value ∙ c.in_ok-input.ensures.text) c.in_ok-board.ensures.asked;
      made = c.in_ok-board.ensures.made;
      text_is = c.in_ok-text.ensures;
      kept = refl;
    }
