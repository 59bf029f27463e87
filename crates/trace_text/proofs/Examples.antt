-- Small traces, and what is read of them.
use Rattle.std.proofs.Common.{◌≡◌, ℕ, List, [], ◌∷◌, Result, Err, None, refl}
use Rattle.std.specs.Prelude.{codes}
use Rattle.serial_log.specs.declared.script.Script.{Script}
use Rattle.task_syntax.specs.declared.program.Program.{Program}
use Rattle.trace_text.specs.Fields.{fields_of, first_word}
use Rattle.trace_text.specs.Reading.{reading}
use Rattle.trace_text.specs.declared.fault.TraceFault.{TraceFault}
use Rattle.trace_text.specs.declared.fault.TraceFault.TheVariants.{BadLine, NoLimit}

abbrev nothing : Program
nothing = record { vars = []; buffer = None; events = []; units = [] }

abbrev read : List ℕ → Result Script TraceFault
read text = reading nothing text

abbrev fault : TraceFault → Result Script TraceFault
fault found = Err found

-- each two fields have one space between them
four_fields : fields_of (codes "power 5 times 10") ≡ codes "power" ∷ codes "5" ∷ codes "times" ∷ codes "10" ∷ []
four_fields = refl

empty_field : fields_of (codes "at 5  1 ") ≡ codes "at" ∷ codes "5" ∷ [] ∷ codes "1" ∷ [] ∷ []
empty_field = refl

lone_word : first_word (codes "limit") ≡ codes "limit"
lone_word = refl

-- the limit comes first, and its word stands alone
empty : read [] ≡ fault NoLimit
empty = refl

comments_alone : read (codes "# limit 9\n\n") ≡ fault NoLimit
comments_alone = refl

power_first : read (codes "power 5\nlimit 9\n") ≡ fault NoLimit
power_first = refl

longer_word : read (codes "limits 9\n") ≡ fault NoLimit
longer_word = refl

carriage_return : read (codes "limit\r\n") ≡ fault NoLimit
carriage_return = refl

no_number : read (codes "\nlimit\n") ≡ fault (BadLine 2)
no_number = refl
