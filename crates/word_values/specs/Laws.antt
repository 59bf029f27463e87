-- Laws of words in programs.
use Rattle.std.specs.Prelude.{ℕ, ◌≡◌, List, Some, slice_index}
use Rattle.coati_word.specs.OperatorLaws.{IsWord}
use Rattle.task_lex.specs.declared.token.Token.{Token}
use Rattle.task_lex.specs.Reading.{Tokens}
use Rattle.task_parse.specs.Faults.{Spells}
use Rattle.task_syntax.specs.declared.program.Program.{Program}
use Rattle.task_syntax.specs.Course.{Store}
use Rattle.task_syntax.specs.Events.{event_effect}
use Rattle.task_syntax.specs.Names.{opening_values}
use Rattle.task_syntax.specs.Units.{Reached, tasks_effect}
use Rattle.word_values.specs.Words.{HoldsWords, IsOfWords, StayInWords}

-- a program that the tokens of a source spell
abbrev pub SpelledProgramsAreOfWords : Type 0
SpelledProgramsAreOfWords = (source : List ℕ) (tokens : List Token) (program : Program) →
    Tokens source tokens → Spells source tokens program → IsOfWords program

-- the store before the first unit
abbrev pub OpeningStoresHoldWords : Type 0
OpeningStoresHoldWords = (program : Program) → IsOfWords program →
    HoldsWords (slice_index (opening_values program))

-- so many tasks of a unit
abbrev pub UnitsStayInWords : Type 0
UnitsStayInWords =
    (program : Program) (task count : ℕ) (store : Store) (reached : Reached) →
    IsOfWords program → HoldsWords store →
    tasks_effect program task store count ≡ Some reached → StayInWords reached.done store

-- an event
abbrev pub EventsStayInWords : Type 0
EventsStayInWords =
    (program : Program) (event argument : ℕ) (store : Store) →
    IsOfWords program → IsWord argument → HoldsWords store →
    StayInWords (event_effect program event argument store) store
