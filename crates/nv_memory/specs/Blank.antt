-- The image before the first step.
use Rattle.std.specs.Prelude.{ℕ, ◌+◌, ◌-◌, ◌==◌, List, [], ◌∷◌, ◌++◌, length, replicate, slice_index, if◌then◌else◌}
use Rattle.coati_word.specs.declared.mode.Mode.{Mode}
use Rattle.coati_word.specs.declared.mode.Mode.TheVariants as mode
use Rattle.nv_memory.specs.Seats.{Seat, size}
use Rattle.nv_memory.specs.State.{State}

-- how a mode stands in the header
abbrev pub mode_word : Mode → ℕ
mode_word mode.Split = 0
mode_word mode.Buffi = 1

-- the opening values, the mode, and else 0
abbrev pub blank_cells : List ℕ → Mode → Seat → ℕ
blank_cells opening mode (Seat.Header i) = if i == 11 then mode_word mode else 0
blank_cells opening mode (Seat.Part part word) = if part == 0 then slice_index opening word else 0
blank_cells opening mode (Seat.Entry slot part at) = 0

abbrev pub blank : List ℕ → ℕ → Mode → State
blank opening k mode = record { n = length opening; k = k; at = blank_cells opening mode }

-- the words in their order
abbrev pub header_words : Mode → List ℕ
header_words mode = replicate 11 0 ++ mode_word mode ∷ []

abbrev pub blank_words : ℕ → List ℕ → Mode → List ℕ
blank_words k opening mode =
    header_words mode ++ (opening ++ replicate (size (length opening) k - (12 + length opening)) 0)
