-- What code keeps to: it does what its body means, it has the words that were counted, and it
-- stands where its body's number says.
use Rattle.std.specs.Prelude.{ℕ, ◌≡◌, List, length, Some}
use Rattle.task_syntax.specs.declared.name.Name.{Name}
use Rattle.task_syntax.specs.declared.program.Program.{Program}
use Rattle.task_syntax.specs.declared.statement.Stmt.{Stmt}
use Rattle.task_syntax.specs.declared.body.Kind.{Kind}
use Rattle.task_syntax.specs.declared.body.BodyId.{BodyId}
use Rattle.task_syntax.specs.Cost.{body_cost}
use Rattle.task_syntax.specs.CodeWords as counted
use Rattle.task_syntax.specs.Course.{Course}
use Rattle.task_syntax.specs.Names.{word_count}
use Rattle.task_syntax.specs.Expressions.{no_locals}
use Rattle.task_syntax.specs.Statements as meaning
use Rattle.task_syntax.specs.Events.{with_words}
use Rattle.coati_word.specs.declared.ending.Ending.{Ending}
use Rattle.word_code.specs.Code as words
use Rattle.word_code.specs.Code.{HasBody}
use Rattle.word_code.specs.Following.{Computes}
use Rattle.task_check.specs.Bodies.{BodyRead}
use Rattle.codegen.specs.Bodies.{body_of, words_of_body, program_code, EachFits}
use Rattle.codegen.specs.Code.{AreEncodable}
use Rattle.codegen.specs.Fit.{Fits}
use Rattle.codegen.specs.Templates.{body_code, body_words}

-- the course of a body whose parameters are these words
abbrev pub course_on : Program → List Name → List Stmt → List ℕ → Course Ending
course_on program params stmts values = meaning.body program stmts
    (with_words params values no_locals)

-- the words of a body that fits compute its course, whatever its parameters are
abbrev pub FittingBodiesComputeTheirCourse : Type 0
FittingBodiesComputeTheirCourse =
    (program : Program) (kind : Kind) (params : List Name) (stmts : List Stmt) →
    Fits program kind params stmts →
    (values : List ℕ) → length values ≡ length params →
    Computes (body_words program kind params stmts) (word_count program.vars)
    (body_cost program stmts kind) values (course_on program params stmts values)

-- the instructions of a body that fits have their operands in their ranges
abbrev pub FittingCodeIsEncodable : Type 0
FittingCodeIsEncodable =
    (program : Program) (kind : Kind) (params : List Name) (stmts : List Stmt) →
    Fits program kind params stmts → AreEncodable (body_code program kind params stmts)

-- the code of a body has as many words as were counted
abbrev pub CodeHasItsWords : Type 0
CodeHasItsWords =
    (program : Program) (kind : Kind) (params : List Name) (stmts : List Stmt) →
    length (body_words program kind params stmts) ≡ counted.body_words stmts kind

-- the body stands among the code of the program, under its number
pub record StandsByNumber (program : Program) (number : BodyId) (body : BodyRead) : Type 0 where
  pub exists : HasBody (program_code program) number
  pub words_are : words.body_words (program_code program) number ≡ words_of_body program body

-- so does each body
abbrev pub BodiesStandByNumber : Type 0
BodiesStandByNumber = (program : Program) (number : BodyId) (body : BodyRead) →
    body_of program number ≡ Some body → StandsByNumber program number body

-- in a program whose bodies fit, each computes its course from where it stands
abbrev pub FittingProgramsComputeTheirCourses : Type 0
FittingProgramsComputeTheirCourses =
    (program : Program) → EachFits program → (number : BodyId) (body : BodyRead) →
    body_of program number ≡ Some body →
    (values : List ℕ) → length values ≡ length body.params →
    Computes (words.body_words (program_code program) number) (word_count program.vars)
    (body_cost program body.statements body.kind) values
    (course_on program body.params body.statements values)
