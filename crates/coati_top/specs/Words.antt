-- The words of a command line, without the program's name, and what they name.
use Rattle.std.specs.Prelude.{ℕ, ◌≡◌, ◌≤◌, Bool, true, false, List, [], ◌∷◌, Option, Some, None, codes, bytes_eq, if◌then◌else◌}
use Rattle.std.specs.Option.{option_and_then, option_map}
use Rattle.trace_text.specs.Reading.{number_in}
use Rattle.coati_word.specs.declared.mode.Mode.{Mode}
use Rattle.coati_word.specs.declared.mode.Mode.TheVariants.{Buffi, Split}
use Rattle.coati_top.specs.declared.command.Command.{Command}
use Rattle.coati_top.specs.declared.command.Command.TheVariants.{Check, Dump, Run, Replay, Generate, Load}

-- whether a command reads its input
abbrev pub reads : Command → Bool
reads Check = true
reads Dump = true
reads (Run mode) = true
reads (Replay mode) = true
reads (Generate rounds) = false
reads (Load mode rounds) = false

-- the greatest number of rounds of an input that is generated
abbrev pub greatest_rounds : ℕ
greatest_rounds = 200

-- the command is one that is served
abbrev pub IsServable : Command → Type 0
IsServable (Generate rounds) = rounds ≤ greatest_rounds
IsServable (Load mode rounds) = rounds ≤ greatest_rounds
IsServable _ = Unit {0}

-- the number of rounds of which the word is the decimal
abbrev pub rounds_of : List ℕ → Option ℕ
rounds_of word = number_in 0 greatest_rounds word

-- the mode of a word
abbrev pub mode_of : List ℕ → Option Mode
mode_of word =
    if bytes_eq word (codes "split") then Some Split
    else (if bytes_eq word (codes "buffi") then Some Buffi else None)

-- the command to load a mode with so many rounds
abbrev pub loading : List ℕ → List ℕ → Option Command
loading mode rounds = option_and_then (λ m. option_map (Load m) (rounds_of rounds)) (mode_of mode)

-- the command that two words are
abbrev pub command_of_two : List ℕ → List ℕ → Option Command
command_of_two command word =
    if bytes_eq command (codes "run") then option_map Run (mode_of word)
    else (if bytes_eq command (codes "replay") then option_map Replay (mode_of word)
    else (if bytes_eq command (codes "gen") then option_map Generate (rounds_of word) else None))

-- the command that the words are, if they are one
abbrev pub command_of : List (List ℕ) → Option Command
command_of [] = None
command_of (command ∷ []) =
    if bytes_eq command (codes "check") then Some Check
    else (if bytes_eq command (codes "dump") then Some Dump else None)
command_of (command ∷ word ∷ []) = command_of_two command word
command_of (command ∷ word ∷ other ∷ []) =
    if bytes_eq command (codes "load") then loading word other else None
command_of (command ∷ word ∷ other ∷ one ∷ more) = None
