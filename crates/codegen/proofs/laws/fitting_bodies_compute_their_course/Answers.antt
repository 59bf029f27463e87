use Rattle.std.proofs.Common.{sym, subst}
use Rattle.task_syntax.specs.Cost.{body_cost}
use Rattle.task_syntax.specs.Names.{word_count}
use Rattle.word_code.specs.Following.{Computes}
use Rattle.codegen.specs.CodeLaws.{course_on}
use Rattle.codegen.proofs.Bodies.{computes}
use Rattle.codegen.proofs.Numbers.{stands_by_number, fits_by_number}
use Rattle.codegen.proofs.laws.fitting_bodies_compute_their_course.Goals as goal

pub returns-clause-bodies : goal.returns-clause-bodies
returns-clause-bodies c = λ program kind params stmts fits values is. computes program params stmts c.instructions_are_their_words.ensures.round_trip kind fits values is

pub returns-clause-programs : goal.returns-clause-programs
returns-clause-programs c = λ program each number body is values counted.
    subst (λ words. Computes words (word_count program.vars) (body_cost program body.statements body.kind) values (course_on program body.params body.statements values))
    (sym (stands_by_number program number body is).words_are)
    (computes program body.params body.statements c.instructions_are_their_words.ensures.round_trip body.kind (fits_by_number program each number body is) values counted)
