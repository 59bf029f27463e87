use Rattle.std.proofs.Common.{◌≤◌, ℕ, length, sym, subst}
use Rattle.std.specs.Prelude.{IfOk}
use Rattle.std.proofs.lemmas.Result.{IfOk-weaker}
use Rattle.word_code.specs.Code.{Bodies, HasBody}
use Rattle.codegen.specs.CodeLaws.{course_on}
use Rattle.worked_bodies.specs.Ended.{EndsBy}
use Rattle.worked_bodies.proofs.Bodies.{computes_there, same_params}
use Rattle.worked_bodies.proofs.compiled.Compiled.run.Goals as goal

pub run_within-requires-clause-exists : goal.run_within-requires-clause-exists
run_within-requires-clause-exists g c =
    subst (λ (code : Bodies). HasBody code c.args.body) (sym c.args.self.now.is_code)
    (c.bodies_stand_by_number.ensures c.args.self.now.checked c.args.body c.requires.body.body c.requires.body.is_body).exists

pub run_within-requires-clause-words : goal.run_within-requires-clause-words
run_within-requires-clause-words g c =
    subst (λ (n : ℕ). n ≤ 256) (sym c.requires.words) (rw c.program-program.ensures.program at c.program-program.ensures.sizes.words_most)

pub run_within-requires-clause-computes : goal.run_within-requires-clause-computes
run_within-requires-clause-computes g c = (
  course_on c.args.self.now.checked c.requires.body.body.params c.requires.body.body.statements c.args.params.now,
  computes_there c.fitting_bodies_compute_their_course.ensures.programs c.args.self.now.checked
      (c.accepted_bodies_fit.ensures.each c.args.self.now.checked c.program-program.ensures.accepted)
      c.args.self.now.code c.args.body c.args.params.now c.requires.body.body c.body_cost-cost.result (length (g.V.View.meaning.words c.args.view.now))
      c.args.self.now.is_code c.body_cost-cost.ensures.cost c.requires.words c.requires.body.is_body c.requires.body.one_each,
)

pub returns-clause-told : goal.returns-clause-told
returns-clause-told g c =
    IfOk-weaker c.run_within.result _ _
    (λ ran told body is.
    told (course_on c.args.self.now.checked body.params body.statements c.args.params.now)
    (computes_there c.fitting_bodies_compute_their_course.ensures.programs c.args.self.now.checked
    (c.accepted_bodies_fit.ensures.each c.args.self.now.checked c.program-program.ensures.accepted)
    c.args.self.now.code c.args.body c.args.params.now body c.body_cost-cost.result (length (g.V.View.meaning.words c.args.view.now))
    c.args.self.now.is_code c.body_cost-cost.ensures.cost c.requires.words is
    (same_params c.args.self.now.checked c.args.body c.args.params.now body c.requires.body is)))
    c.run_within.ensures.told

pub returns-clause-ends : goal.returns-clause-ends
returns-clause-ends g c =
    subst (λ (code : Bodies). IfOk c.run_within.result (λ ran. EndsBy g.V.View.meaning code c.args.body c.args.params.now c.args.view.now ran.steps ran.readings.items ran.ending c.run_within.new.view))
    c.args.self.now.is_code c.run_within.ensures.ends
