-- The code of a program's bodies, which stand in their order.
use Rattle.std.specs.Prelude.{ℕ, List, All, length, Option, slice_get}
use Rattle.std.specs.Option.{option_map}
use Rattle.task_syntax.specs.declared.program.Program.{Program}
use Rattle.task_syntax.specs.declared.body.BodyId.{BodyId}
use Rattle.task_syntax.specs.declared.body.BodyId.TheVariants.{Task, Top, Bottom}
use Rattle.task_syntax.specs.Names.{tasks}
use Rattle.task_check.specs.Bodies.{BodyRead, task_body, top_half, bottom_half, bodies}
use Rattle.word_code.specs.Code as words
use Rattle.codegen.specs.Fit.{Fits}
use Rattle.codegen.specs.Templates.{body_words, program_words}

-- the body of a number, where it is there
abbrev pub body_of : Program → BodyId → Option BodyRead
body_of program (Task task) = option_map task_body (slice_get (tasks program) task)
body_of program (Top event) = option_map top_half (slice_get program.events event)
body_of program (Bottom event) = option_map bottom_half (slice_get program.events event)

-- the words of a body
abbrev pub words_of_body : Program → BodyRead → List ℕ
words_of_body program body = body_words program body.kind body.params body.statements

-- the code of a program
abbrev pub program_code : Program → words.Bodies
program_code program = record { tasks = length (tasks program); bodies = program_words program }

-- each body of a program fits
abbrev pub EachFits : Program → Type 0
EachFits program = All (λ (body : BodyRead). Fits program body.kind body.params body.statements)
    (bodies program)
