use Rattle.std.proofs.Common.{◌≡◌, length, true, refl, sym, ap, ◌∙◌, subst, arith}
use Rattle.std.specs.Prelude.{Option, Some, None, is_some}
use Rattle.task_check.specs.Bodies.{BodyRead}
use Rattle.word_code.specs.Code.{HasBody, body_words}
use Rattle.codegen.specs.Bodies.{body_of}
use Rattle.codegen.proofs.Numbers.{fits_by_number}
use Rattle.codegen.proofs.Sizes.{has_its_words}
use Rattle.codegen.proofs.lister.words_of.Goals as goal

known : (found : Option BodyRead) → is_some found ≡ true → (body : BodyRead) × (found ≡ Some body)
known None some = absurd cc
known (Some body) some = (body, refl)

pub body-requires : goal.body-requires
body-requires c =
    let program = c.args.checked.now in
    let body = known (body_of program c.args.number) c.requires.body in
    let stands = c.bodies_stand_by_number.ensures program c.args.number body.0 body.1 in
    subst (λ code. HasBody code c.args.number) (sym c.requires.code) stands.exists

pub returns-clause-words : goal.returns-clause-words
returns-clause-words c = λ body is.
    let stands = c.bodies_stand_by_number.ensures c.args.checked.now c.args.number body is in
    c.body.ensures ∙ ap (λ code. body_words code c.args.number) c.requires.code ∙ stands.words_are

pub returns-clause-few : goal.returns-clause-few
returns-clause-few c =
    let program = c.args.checked.now in
    let body = known (body_of program c.args.number) c.requires.body in
    let stands = c.bodies_stand_by_number.ensures program c.args.number body.0 body.1 in
    let is = c.body.ensures ∙ ap (λ code. body_words code c.args.number) c.requires.code ∙ stands.words_are in
    let fits = fits_by_number program (c.accepted_bodies_fit.ensures.each program c.program-program.ensures.accepted) c.args.number body.0 body.1 in
    omega (arith, ap length is, has_its_words program body.0.kind body.0.params body.0.statements, fits.short)
