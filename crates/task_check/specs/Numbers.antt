-- What else has a number in a program: its events by name, and its buffer.
use Rattle.std.specs.Prelude.{ℕ, ◌+◌, List, [], ◌∷◌, Option, Some, None, if◌then◌else◌}
use Rattle.std.specs.Option.{option_map_or}
use Rattle.std.specs.Str.{bytes_eq}
use Rattle.task_syntax.specs.declared.name.Number.{Number}
use Rattle.task_syntax.specs.declared.program.Program.{Program}
use Rattle.task_syntax.specs.declared.program.Event.{Event}
use Rattle.task_syntax.specs.Names.{Words}

-- the number of the event of a name, where the first of these events has the number `first`
abbrev pub event_from : ℕ → List Event → List ℕ → Option ℕ
event_from first [] name = None
event_from first (event ∷ more) name = if bytes_eq event.name.text name then Some first
    else event_from (first + 1) more name

-- the number of the event of a name, where it is one
abbrev pub event_of : Program → List ℕ → Option ℕ
event_of program name = event_from 0 program.events name

-- how many postings the buffer holds: 8 where none is declared
abbrev pub buffer_size : Program → ℕ
buffer_size program = option_map_or (λ (number : Number). number.value) program.buffer 8

-- a variable's first word, and how many an array has
abbrev pub first_and_length : Words → ℕ × Option ℕ
first_and_length words = (words.first, words.length)
