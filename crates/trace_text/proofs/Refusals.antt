-- One line: what it tells, or why it is refused.
use Rattle.std.proofs.Common.{◌≡◌, ◌≢◌, ℕ, true, false, List, ◌∷◌, Option, Some, None, Result, Ok, Err, refl, sym, ◌∙◌, inl, inr}
use Rattle.std.specs.Prelude.{bytes_eq, codes}
use Rattle.std.proofs.lemmas.Bool.{cases_Bool, false_from_ne_true}
use Rattle.std.proofs.lemmas.Slice.Eq.{bytes_eq-Decides}
use Rattle.serial_log.specs.declared.script.Script.{Script}
use Rattle.task_syntax.specs.declared.program.Program.{Program}
use Rattle.trace_text.specs.declared.fault.TraceFault.{TraceFault}
use Rattle.trace_text.specs.declared.fault.TraceFault.TheVariants as fault
use Rattle.trace_text.specs.declared.statement.Statement.{Statement}
use Rattle.trace_text.specs.declared.statement.Statement.TheVariants.{Limit, Power, At}
use Rattle.trace_text.specs.Fields.{fields_of, first_word}
use Rattle.trace_text.specs.Reading.{line_reading, said_reading, statement_of, statement_reading}
use Rattle.trace_text.specs.Statements.{Says, limit}
use Rattle.trace_text.specs.Trace.{IsBad, IsOutOfOrder, IsTooMuch, IsUnknown, Tells, is_in_order, is_known, is_within, script_behind}
use Rattle.trace_text.proofs.Cuts.{first_field}
use Rattle.trace_text.proofs.Forms.{says_from, says_read}

-- the line of this number is refused with this fault
abbrev pub Refuses : Program → ℕ → Option Script → List ℕ → TraceFault → Type 0
Refuses program number told line (fault.BadLine place) = (place ≡ number) × IsBad program told line
Refuses program number told line (fault.Unknown place) = (place ≡ number) × IsUnknown program told line
Refuses program number told line (fault.Order place) = (place ≡ number) × IsOutOfOrder program told line
Refuses program number told line (fault.TooMany place) = (place ≡ number) × IsTooMuch program told line
Refuses program number told line fault.NoLimit = ⊥
Refuses program number told line fault.OutOfMemory = ⊥

-- what a reading of a line comes from
abbrev pub Means : Program → ℕ → Option Script → List ℕ → Result Script TraceFault → Type 0
Means program number told line (Ok script) = Tells program told line script
Means program number told line (Err fault) = Refuses program number told line fault

-- a statement that was read
statement_means : (program : Program) (number : ℕ) (told : Option Script) (line : List ℕ) (statement : Statement)
    → Says program line statement → Means program number told line (statement_reading program number told statement)
statement_means program number told line statement says = elim (cases_Bool (is_known statement)) [
  | inl known ↦ elim (cases_Bool (is_in_order told statement)) [
    | inl order ↦ elim (cases_Bool (is_within program (script_behind told statement))) [
      | inl within ↦ rw (known, order, within) (record { statement = statement; says = says; known = known; order = order; within = within; behind = refl })
      | inr much ↦ rw (known, order, much) (refl, record { statement = statement; says = says; known = known; order = order; much = much })
    ]
    | inr unordered ↦ rw (known, unordered) (refl, record { statement = statement; says = says; known = known; order = unordered })
  ]
  | inr unknown ↦ rw unknown (refl, record { statement = statement; says = says; unknown = unknown })
]

-- a line that was read
pub said_means : (program : Program) (number : ℕ) (told : Option Script) (line : List ℕ)
    → Means program number told line (said_reading program number told line)
said_means program number told line = go (statement_of program (fields_of line)) refl where
  go : (read : Option Statement) → statement_of program (fields_of line) ≡ read → Means program number told line (said_reading program number told line)
  go None was = rw was (refl, λ statement says. let other : None ≡ Some statement = sym was ∙ says_read program line statement says in cc)
  go (Some statement) was = rw was (statement_means program number told line statement (says_from program line statement was))

-- a line that tells this script is read so
pub told_reading : (program : Program) (number : ℕ) (told : Option Script) (line : List ℕ) (script : Script)
    → Tells program told line script → said_reading program number told line ≡ Ok script
told_reading program number told line script is =
    rw (says_read program line is.statement is.says, is.known, is.order, is.within, is.behind) refl

-- a line that says nothing of any form is read as bad
bad_reading : (program : Program) (line : List ℕ) (told : Option Script) → IsBad program told line → statement_of program (fields_of line) ≡ None
bad_reading program line told bad = go (statement_of program (fields_of line)) refl where
  go : (read : Option Statement) → statement_of program (fields_of line) ≡ read → statement_of program (fields_of line) ≡ None
  go None was = was
  go (Some statement) was = absurd (bad statement (says_from program line statement was))

-- a refused line is read as its fault
pub refused_reading : (program : Program) (number : ℕ) (told : Option Script) (line : List ℕ) (found : TraceFault)
    → Refuses program number told line found → said_reading program number told line ≡ Err found
refused_reading program number told line (fault.BadLine place) is = rw (bad_reading program line told is.1, is.0) refl
refused_reading program number told line (fault.Unknown place) is =
    rw (says_read program line is.1.statement is.1.says, is.1.unknown, is.0) refl
refused_reading program number told line (fault.Order place) is =
    rw (says_read program line is.1.statement is.1.says, is.1.known, is.1.order, is.0) refl
refused_reading program number told line (fault.TooMany place) is =
    rw (says_read program line is.1.statement is.1.says, is.1.known, is.1.order, is.1.much, is.0) refl
refused_reading program number told line fault.NoLimit is = absurd is
refused_reading program number told line fault.OutOfMemory is = absurd is

-- where the lines before have told a limit or this line begins with `limit`, it is read as what it says
pub limited_reading : (program : Program) (number : ℕ) (told : Option Script) (line : List ℕ)
    → (told ≡ None → first_word line ≡ codes "limit") → line_reading program number told line ≡ said_reading program number told line
limited_reading program number None line limited =
    let same : bytes_eq (first_word line) (codes "limit") ≡ true = (bytes_eq-Decides (first_word line) (codes "limit")).1 (limited refl) in
    rw same refl
limited_reading program number (Some script) line limited = refl

-- and else the text lacks its limit
pub unlimited_reading : (program : Program) (number : ℕ) (line : List ℕ)
    → first_word line ≢ codes "limit" → line_reading program number None line ≡ Err fault.NoLimit
unlimited_reading program number line other =
    let differs : bytes_eq (first_word line) (codes "limit") ≡ false =
    false_from_ne_true (bytes_eq (first_word line) (codes "limit")) (λ same. other ((bytes_eq-Decides (first_word line) (codes "limit")).0 same)) in
    rw differs refl

-- the line of a limit begins with its word
limit_begins : (program : Program) (line : List ℕ) (number : ℕ) → Says program line (Limit number) → first_word line ≡ codes "limit"
limit_begins program line _ (limit number cut most) = let behind = first_field line in
    let same : first_word line ∷ behind.0 ≡ codes "limit" ∷ _ = sym behind.1 ∙ cut in cc

-- the first line that tells something is that of the limit
pub first_begins : (program : Program) (line : List ℕ) (script : Script) → Tells program None line script → first_word line ≡ codes "limit"
first_begins program line script is = go is.statement is.says is.order where
  go : (statement : Statement) → Says program line statement → is_in_order None statement ≡ true → first_word line ≡ codes "limit"
  go (Limit number) says order = limit_begins program line number says
  go (Power period times) says order = cc
  go (At time device event argument) says order = cc
