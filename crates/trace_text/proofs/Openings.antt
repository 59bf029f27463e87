-- What a line says whose first word is `limit`.
use Rattle.std.proofs.Common.{◌≡◌, ℕ, true, List, ◌∷◌, Some, None, Option, Result, Err, refl}
use Rattle.std.specs.Prelude.{bytes_eq, codes}
use Rattle.std.specs.Option.{option_map, option_map_or}
use Rattle.serial_log.specs.declared.script.Script.{Script}
use Rattle.task_syntax.specs.declared.program.Program.{Program}
use Rattle.trace_text.specs.declared.fault.TraceFault.{TraceFault}
use Rattle.trace_text.specs.declared.fault.TraceFault.TheVariants.{BadLine}
use Rattle.trace_text.specs.declared.statement.Statement.{Statement}
use Rattle.trace_text.specs.declared.statement.Statement.TheVariants.{Limit}
use Rattle.trace_text.specs.Fields.{fields_of, first_word}
use Rattle.trace_text.specs.Reading.{limit_of, said_reading, statement_reading}

mapped : (F : Statement → Result Script TraceFault) (other : Result Script TraceFault) (limit : Option ℕ)
    → option_map_or F (option_map Limit limit) other ≡ option_map_or (λ limit. F (Limit limit)) limit other
mapped F other None = refl
mapped F other (Some limit) = refl

pub said_limit : (program : Program) (number : ℕ) (told : Option Script) (line : List ℕ) (fields : List (List ℕ))
    → bytes_eq (first_word line) (codes "limit") ≡ true → fields_of line ≡ first_word line ∷ fields
    → said_reading program number told line ≡ option_map_or (λ limit. statement_reading program number told (Limit limit)) (limit_of fields) (Err (BadLine number))
said_limit program number told line fields is behind =
    rw (behind, is) (mapped (statement_reading program number told) (Err (BadLine number)) (limit_of fields))
