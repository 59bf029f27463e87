-- What a line of a trace may say, and how it says so.
use Rattle.std.specs.Prelude.{ℕ, ◌≡◌, ◌≢◌, ◌≤◌, List, [], ◌∷◌, codes, decimal}
use Rattle.coati_word.specs.declared.limits.TheConstants.{PERIOD_STEPS}
use Rattle.task_check.specs.Numbers.{event_of}
use Rattle.task_syntax.specs.declared.program.Program.{Program}
use Rattle.trace_text.specs.declared.statement.Statement.{Statement}
use Rattle.trace_text.specs.declared.statement.Statement.TheVariants.{Limit, Power, At}
use Rattle.trace_text.specs.Fields.{fields_of}

-- the greatest number that a trace tells
abbrev pub greatest_number : ℕ
greatest_number = 4294967295

abbrev pub greatest_device : ℕ
greatest_device = 7

abbrev pub greatest_argument : ℕ
greatest_argument = 65535

-- the line has the form of this statement: `limit L`, `power P`, `power P times M` or `at T D
-- EVENT A`, where the event has a number if the program has one of this name
pub data Says (program : Program) (line : List ℕ) : Statement → Type 0 where
  limit : (limit : ℕ) → fields_of line ≡ codes "limit" ∷ decimal limit ∷ []
      → limit ≤ greatest_number → Says program line (Limit limit)
  power : (period : ℕ) → fields_of line ≡ codes "power" ∷ decimal period ∷ []
      → 1 ≤ period → period ≤ PERIOD_STEPS → Says program line (Power period 1)
  powers : (period times : ℕ) → fields_of line ≡ codes "power" ∷ decimal period ∷ codes "times"
      ∷ decimal times ∷ []
      → 1 ≤ period → period ≤ PERIOD_STEPS → 1 ≤ times → times ≤ greatest_number →
      Says program line (Power period times)
  at : (time device : ℕ) (event : List ℕ) (argument : ℕ)
      → fields_of line ≡ codes "at" ∷ decimal time ∷ decimal device ∷ event ∷ decimal argument
      ∷ [] → event ≢ []
      → time ≤ greatest_number → device ≤ greatest_device → argument ≤ greatest_argument
      → Says program line (At time device (event_of program event) argument)
