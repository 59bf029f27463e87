-- Which script a text is, and why a text is none. Each line is read where those before it lead: to
-- no script before the line of the limit, and then to the script that they tell.
use Rattle.std.specs.Prelude.{ℕ, ◌≡◌, ◌≢◌, ◌<◌, ◌≤◌, ◌+◌, ◌*◌, ◌==◌, Bool, true, false, ◌&&◌, not, List, [], ◌∷◌, ◌++◌, Option, Some, None, codes, filter, length, nat_le, replicate, unwrap_or}
use Rattle.std.specs.Option.{is_some}
use Rattle.std.specs.List.{All}
use Rattle.std.specs.List.Sorted.{IsNonDecreasingBy}
use Rattle.coati_text.specs.Line.{lines_of}
use Rattle.coati_word.specs.declared.limits.TheConstants.{EXECUTOR_STEPS, MACHINE_STEPS, PERIOD_STEPS, POSTINGS, POWER_PERIODS}
use Rattle.serial_log.specs.declared.script.Posting.{Posting}
use Rattle.serial_log.specs.declared.script.Script.{Script}
use Rattle.task_cost.specs.Limits.{handler_bound}
use Rattle.task_syntax.specs.declared.program.Program.{Program}
use Rattle.trace_text.specs.declared.fault.TraceFault.{TraceFault}
use Rattle.trace_text.specs.declared.fault.TraceFault.TheVariants as fault
use Rattle.trace_text.specs.declared.statement.Statement.{Statement}
use Rattle.trace_text.specs.declared.statement.Statement.TheVariants.{Limit, Power, At}
use Rattle.trace_text.specs.Fields.{first_word, is_quiet}
use Rattle.trace_text.specs.Statements.{Says, greatest_argument, greatest_device}

-- a script of which nothing is told
abbrev pub blank : Script
blank = record { limit = 0; power = []; postings = [] }

-- the script with what one more statement tells
abbrev pub with_statement : Script → Statement → Script
with_statement script (Limit limit) = record script { limit = limit }
with_statement script (Power period times) = record script {
  power = script.power
      ++ replicate times period;
}
with_statement script (At time device event argument) = record script {
  postings = script.postings ++ record {
    time = time;
    device = device;
    event = unwrap_or event 0;
    argument = argument;
  } ∷ [];
}

-- the script behind a statement, where the lines before it lead here
abbrev pub script_behind : Option Script → Statement → Script
script_behind told statement = with_statement (unwrap_or told blank) statement

-- the event of a posting is one of the program's
abbrev pub is_known : Statement → Bool
is_known (Limit limit) = true
is_known (Power period times) = true
is_known (At time device event argument) = is_some event

-- the time of the last of these postings, 0 where there is none
abbrev pub last_time : List Posting → ℕ
last_time [] = 0
last_time (posting ∷ []) = posting.time
last_time (posting ∷ next ∷ more) = last_time (next ∷ more)

-- the statement may stand here: the limit first and once, then the periods, then the postings in
-- the order of their times
abbrev pub is_in_order : Option Script → Statement → Bool
is_in_order None (Limit limit) = true
is_in_order None statement = false
is_in_order (Some script) (Limit limit) = false
is_in_order (Some script) (Power period times) = length script.postings == 0
is_in_order (Some script) (At time device event argument) = nat_le (last_time script.postings) time

-- how many machine steps a run of the script may take: its limit, and a handler for each posting
abbrev pub run_bound : Program → Script → ℕ
run_bound program script = script.limit + handler_bound program * length script.postings

-- the script is within the limits so far
abbrev pub is_within : Program → Script → Bool
is_within program script =
    nat_le script.limit EXECUTOR_STEPS && nat_le (length script.power) POWER_PERIODS
    && nat_le (length script.postings) POSTINGS && nat_le (run_bound program script) MACHINE_STEPS

-- the script is within all limits
pub record IsWithin (program : Program) (script : Script) : Type 0 where
  pub limit : script.limit ≤ EXECUTOR_STEPS
  pub power : length script.power ≤ POWER_PERIODS
  pub postings : length script.postings ≤ POSTINGS
  pub run : run_bound program script ≤ MACHINE_STEPS

-- a posting that a trace of the program may tell
pub record IsPosting (program : Program) (posting : Posting) : Type 0 where
  pub device : posting.device ≤ greatest_device
  pub event : posting.event < length program.events
  pub argument : posting.argument ≤ greatest_argument

-- its periods and postings are such that a trace of the program may tell them, and times never
-- fall
pub record IsScriptFor (program : Program) (script : Script) : Type 0 where
  pub periods : All (λ period. (1 ≤ period) × (period ≤ PERIOD_STEPS)) script.power
  pub postings : All (IsPosting program) script.postings
  pub in_time : IsNonDecreasingBy (λ (posting : Posting). posting.time) script.postings

-- the line is refused for one of these reasons, which are read in this order
abbrev pub IsBad : Program → Option Script → List ℕ → Type 0
IsBad program told line = (statement : Statement) → Says program line statement → ⊥

pub record IsUnknown (program : Program) (told : Option Script) (line : List ℕ) : Type 0 where
  pub statement : Statement
  pub says : Says program line statement
  pub unknown : is_known statement ≡ false

pub record IsOutOfOrder (program : Program) (told : Option Script) (line : List ℕ) : Type 0 where
  pub statement : Statement
  pub says : Says program line statement
  pub known : is_known statement ≡ true
  pub order : is_in_order told statement ≡ false

pub record IsTooMuch (program : Program) (told : Option Script) (line : List ℕ) : Type 0 where
  pub statement : Statement
  pub says : Says program line statement
  pub known : is_known statement ≡ true
  pub order : is_in_order told statement ≡ true
  pub much : is_within program (script_behind told statement) ≡ false

-- the line is not refused, and this is the script behind it
pub record Tells (program : Program) (told : Option Script) (line : List ℕ) (script : Script)
    : Type 0 where
  pub statement : Statement
  pub says : Says program line statement
  pub known : is_known statement ≡ true
  pub order : is_in_order told statement ≡ true
  pub within : is_within program (script_behind told statement) ≡ true
  pub behind : script ≡ script_behind told statement

-- these lines lead from what was told before them to what is told behind them
pub data Leads (program : Program) : Option Script → List (List ℕ) → Option Script → Type 0 where
  nothing : (told : Option Script) → Leads program told [] told
  quiet : (told : Option Script) (line : List ℕ) (more : List (List ℕ)) (last : Option Script)
      → is_quiet line ≡ true → Leads program told more last → Leads program told (line ∷ more) last
  said : (told : Option Script) (line : List ℕ) (script : Script) (more : List (List ℕ))
      (last : Option Script)
      → is_quiet line ≡ false → Tells program told line script →
      Leads program (Some script) more last
      → Leads program told (line ∷ more) last

-- the text is this script
abbrev pub TraceText : Program → List ℕ → Script → Type 0
TraceText program text script = Leads program None (lines_of text) (Some script)

-- the lines that say something
abbrev pub said_lines : List (List ℕ) → List (List ℕ)
said_lines lines = filter (λ line. not (is_quiet line)) lines

-- no line says something, or the first one that does has another first word than `limit`
abbrev pub LacksLimit : List (List ℕ) → Type 0
LacksLimit lines =
    (line : List ℕ) (more : List (List ℕ)) → said_lines lines ≡ line ∷ more →
    first_word line ≢ codes "limit"

-- the line of this number, counted from 1, is the first that is refused, and this is why
pub record FaultAt (program : Program) (lines : List (List ℕ)) (number : ℕ)
    (IsFault : Program → Option Script → List ℕ → Type 0) : Type 0 where
  pub front : List (List ℕ)
  pub line : List ℕ
  pub more : List (List ℕ)
  pub lines_are : lines ≡ front ++ line ∷ more
  pub counted : number ≡ length front + 1
  pub told : Option Script
  pub before : Leads program None front told
  pub heard : is_quiet line ≡ false
  pub limited : told ≡ None → first_word line ≡ codes "limit"
  pub fault : IsFault program told line

-- why the text is no script
abbrev pub FirstFault : Program → List ℕ → TraceFault → Type 0
FirstFault program text (fault.BadLine number) = FaultAt program (lines_of text) number IsBad
FirstFault program text (fault.Unknown number) = FaultAt program (lines_of text) number IsUnknown
FirstFault program text (fault.Order number) = FaultAt program (lines_of text) number IsOutOfOrder
FirstFault program text (fault.TooMany number) = FaultAt program (lines_of text) number IsTooMuch
FirstFault program text fault.NoLimit = LacksLimit (lines_of text)
FirstFault program text fault.OutOfMemory = ⊥
