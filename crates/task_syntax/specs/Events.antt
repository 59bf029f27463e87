-- Events. The top half runs on the posting's argument and gives a message; the bottom half runs on
-- the message's words. Only the bottom half sees the variables, and an event doesn't move the
-- place.
use Rattle.std.specs.Prelude.{ℕ, List, [], ◌∷◌, Option, Some, None, slice_get}
use Rattle.coati_word.specs.declared.ending.Ending.{Ending}
use Rattle.coati_word.specs.declared.ending.Ending.TheVariants.{Next, Halt, Done, Given}
use Rattle.task_syntax.specs.declared.program.Program.{Program}
use Rattle.task_syntax.specs.declared.program.Event.{Event}
use Rattle.task_syntax.specs.declared.name.Name.{Name}
use Rattle.task_syntax.specs.Course.{Course, Store, Access, accesses, answer}
use Rattle.task_syntax.specs.Expressions.{Locals, no_locals, with_local}
use Rattle.task_syntax.specs.Statements.{body}

-- the words that a top half gives
abbrev pub message_of : Ending → List ℕ
message_of (Next task) = []
message_of Halt = []
message_of Done = []
message_of (Given words) = words

-- parameters, each with its word
abbrev pub with_words : List Name → List ℕ → Locals → Locals
with_words [] words locals = locals
with_words (name ∷ names) [] locals = locals
with_words (name ∷ names) (word ∷ words) locals =
    with_words names words (with_local name.text word locals)

-- a store for a top half, which looks at none
abbrev pub blank_store : Store
blank_store word = 0

-- what the top half of an event gives on an argument
abbrev pub message : Program → Event → ℕ → List ℕ
message program event argument = message_of (answer
    (body program event.top (with_local event.argument.text argument no_locals)) blank_store)

-- the course of the bottom half on a message
abbrev pub bottom_course : Program → Event → List ℕ → Course Ending
bottom_course program event words = body program event.bottom
    (with_words event.params words no_locals)

-- the bottom half of an event on what its top half gives; an event that isn't there does nothing
abbrev pub course_of : Program → Option Event → ℕ → Course Ending
course_of program None argument = Course.ends Done
course_of program (Some event) argument = bottom_course program event
    (message program event argument)

-- the course of the event of a number on an argument
abbrev pub event_course : Program → ℕ → ℕ → Course Ending
event_course program event argument = course_of program (slice_get program.events event) argument

-- what the event does on a store
abbrev pub event_effect : Program → ℕ → ℕ → Store → List Access
event_effect program event argument store = accesses (event_course program event argument) store
