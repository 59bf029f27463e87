-- What a machine tells of a body of a program: what the evaluator tells.
use Rattle.std.specs.Prelude.{ℕ, ◌≡◌, List, length, slice_index, Some}
use Rattle.coati_word.specs.declared.ending.Ending.{Ending}
use Rattle.coati_word.specs.declared.reading.Reading.{Reading}
use Rattle.task_syntax.specs.declared.body.BodyId.{BodyId}
use Rattle.task_syntax.specs.declared.program.Program.{Program}
use Rattle.task_syntax.specs.Course.{Course, accesses, answer}
use Rattle.word_code.specs.Following.{Computes}
use Rattle.task_check.specs.Bodies.{BodyRead}
use Rattle.codegen.specs.Bodies.{body_of}
use Rattle.codegen.specs.CodeLaws.{course_on}
use Rattle.serial_run.specs.Outcomes.{Tells}

-- the program has a body of this number, and these are words for its parameters
pub record HasBodyFor (program : Program) (number : BodyId) (params : List ℕ) : Type 0 where
  pub body : BodyRead
  pub is_body : body_of program number ≡ Some body
  pub one_each : length params ≡ length body.params

-- a course leads from the one list of words to the other, with these readings and this ending
abbrev pub TellsCourse : Course Ending → List ℕ → List ℕ → List Reading → Ending → Type 0
TellsCourse course old new read ending =
    Tells old (accesses course (slice_index old)) (answer course (slice_index old)) new
    (record { readings = read; ending = ending })

-- so does whatever course the words of a body compute
abbrev pub TellsWhatIsComputed : List ℕ → ℕ → List ℕ → List ℕ → List ℕ → List Reading → Ending →
    Type 0
TellsWhatIsComputed words cost params old new read ending =
    (course : Course Ending) → Computes words (length old) cost params course →
    TellsCourse course old new read ending

-- the body of this number leads from the one list of words to the other, with these readings and
-- this ending
abbrev pub TellsBody : Program → BodyId → List ℕ → List ℕ → List ℕ → List Reading → Ending → Type 0
TellsBody program number params old new read ending =
    (body : BodyRead) → body_of program number ≡ Some body →
    TellsCourse (course_on program body.params body.statements params) old new read ending
