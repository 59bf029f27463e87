-- What the code of an accepted program keeps to: each task and each half of an event, found by its
-- number, does what it means.
use Rattle.std.specs.Prelude.{ℕ, ◌≡◌, List, [], ◌∷◌, length, slice_get, Some}
use Rattle.coati_word.specs.declared.ending.Ending.{Ending}
use Rattle.task_syntax.specs.declared.program.Program.{Program}
use Rattle.task_syntax.specs.declared.program.Event.{Event}
use Rattle.task_syntax.specs.declared.program.TaskDecl.{TaskDecl}
use Rattle.task_syntax.specs.declared.body.Kind.TheVariants as kind
use Rattle.task_syntax.specs.declared.body.BodyId.{BodyId}
use Rattle.task_syntax.specs.declared.body.BodyId.TheVariants.{Task, Top, Bottom}
use Rattle.task_syntax.specs.Cost.{body_cost}
use Rattle.task_syntax.specs.Course.{Course}
use Rattle.task_syntax.specs.Names.{tasks, word_count}
use Rattle.task_syntax.specs.Expressions.{no_locals, with_local}
use Rattle.task_syntax.specs.Statements.{body}
use Rattle.task_syntax.specs.Events.{bottom_course}
use Rattle.word_code.specs.Code.{body_words}
use Rattle.word_code.specs.Following.{Computes}
use Rattle.task_check.specs.Accepted.{IsAccepted}
use Rattle.codegen.specs.Bodies.{program_code}

-- the words of the body of this number compute a course on parameters, within a cost
abbrev pub BodyComputes : Program → BodyId → ℕ → List ℕ → Course Ending → Type 0
BodyComputes program number cost params course =
    Computes (body_words (program_code program) number) (word_count program.vars) cost
    params course

-- a task
abbrev pub TasksComputeTheirCourse : Type 0
TasksComputeTheirCourse =
    (program : Program) → IsAccepted program → (number : ℕ) (task : TaskDecl) →
    slice_get (tasks program) number ≡ Some task →
    BodyComputes program (Task number) (body_cost program task.body kind.Task) []
    (body program task.body no_locals)

-- a top half, on a posting's argument
abbrev pub TopHalvesComputeTheirCourse : Type 0
TopHalvesComputeTheirCourse =
    (program : Program) → IsAccepted program → (number : ℕ) (event : Event) →
    slice_get program.events number ≡ Some event → (argument : ℕ) →
    BodyComputes program (Top number) (body_cost program event.top kind.Top) (argument
    ∷ []) (body program event.top (with_local event.argument.text argument no_locals))

-- a bottom half, on the words of a message
abbrev pub BottomHalvesComputeTheirCourse : Type 0
BottomHalvesComputeTheirCourse =
    (program : Program) → IsAccepted program → (number : ℕ) (event : Event) →
    slice_get program.events number ≡ Some event →
    (message : List ℕ) → length message ≡ length event.params →
    BodyComputes program (Bottom number) (body_cost program event.bottom kind.Bottom) message
    (bottom_course program event message)
