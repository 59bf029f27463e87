-- Units in a line: what was read of a text, and that it is read again.
use Rattle.std.proofs.Common.{◌≡◌, ℕ, ◌+◌, ◌<◌, ◌≤◌, false, List, ◌++◌, map, Option, Some, None, length, refl, sym, ap, subst, ◌∙◌, inl, inr, arith}
use Rattle.std.specs.Prelude.{codes, nat_le}
use Rattle.std.specs.Fmt.{decimal}
use Rattle.std.proofs.lemmas.Bool.{cases_Bool, le-leb, leb-true}
use Rattle.coati_word.specs.declared.limits.TheConstants.{EXECUTOR_STEPS}
use Rattle.serial_log.specs.declared.record.Record.{Record}
use Rattle.serial_log.specs.declared.unit.Unit.{Unit as Committed}
use Rattle.serial_log.specs.declared.unit.Unit.TheVariants as unit
use Rattle.task_check.specs.Counts.{transactions}
use Rattle.task_check.specs.Numbers.{event_of}
use Rattle.task_lex.specs.Byte.{begins, is_name_byte}
use Rattle.task_syntax.specs.declared.program.Program.{Program}
use Rattle.task_syntax.specs.Names.{task_of, tasks}
use Rattle.std.proofs.lemmas.Option.{same_Some}
use Rattle.coati_text.specs.Decimal.{digit_count}
use Rattle.trace_out.specs.Front.{behind, behind_name, name_at, number_at}
use Rattle.trace_out.specs.LineReading.{counted_at, found, posting_at, record_at, record_of, tasks_at, unit_at}
use Rattle.trace_out.specs.Lookups.{event_at, named_at, task_at, transaction_at, transaction_of}
use Rattle.trace_out.specs.Names.{name_of_task, name_of_transaction}
use Rattle.trace_out.specs.Printed.{HasUnit, IsCounted, IsRecord, IsTaskCount, greatest_number}
use Rattle.trace_out.specs.Shown.{count_text, unit_text}
use Rattle.trace_out.specs.Lines.{word_and_number}
use Rattle.trace_out.proofs.Binds.{bound, made, chosen}
use Rattle.trace_out.proofs.Fronts.{behind-again, behind-parts, behind_name-again, name_at-again, name_at-split, number_at-again, number_at-parts}
use Rattle.trace_out.proofs.Places.{AreNames, events-placed, name_of_event, place_from, place_from-again, place_from-parts, tasks-placed, text_at, text_at-named, transactions-placed}
use Rattle.trace_out.proofs.WordPlaces.{HasWords, name_of_var}

-- the names of a program are names, each its own, and no array is empty
pub record IsNamed (program : Program) : Type 0 where
  pub tasks : AreNames (map name_of_task (tasks program))
  pub transactions : AreNames (map name_of_transaction (transactions program))
  pub events : AreNames (map name_of_event program.events)
  pub vars : AreNames (map name_of_var program.vars)
  pub words : HasWords program.vars

module _ {X : Type 0} (text_of : X → List ℕ) (items : List X) (look_up : List ℕ → Option ℕ)
    (same : (name : List ℕ) → look_up name ≡ place_from text_of 0 items name) where
  -- a name that was looked up
  pub record IsNameRead (text : List ℕ) (found : ℕ × List ℕ) : Type 0 where
    pub spelled : text ≡ text_at text_of items found.0 ++ found.1
    pub within : found.0 < length items

  named-parts : (text : List ℕ) (found : ℕ × List ℕ) → named_at look_up text ≡ Some found
      → IsNameRead text found
  named-parts text found read =
      let one = made (look_up (name_at text)) read in
      let is : (one.value, behind_name text) ≡ found = one.is in
      let number : one.value ≡ found.0 = cc in
      let rest : behind_name text ≡ found.1 = cc in
      let placed = place_from-parts text_of 0 items (name_at text) one.value
      (sym (same (name_at text)) ∙ one.was) in
      let place : placed.place ≡ found.0 = omega (arith, placed.is, number) in
      record {
        spelled =
            name_at-split text ∙ ap (λ (t : List ℕ). t ++ behind_name text)
            (placed.named ∙ ap (text_at text_of items) place)
            ∙ ap (λ (t : List ℕ). text_at text_of items found.0 ++ t) rest;
        within = omega (arith, placed.within, place);
      }

  named-again : (place : ℕ) (rest : List ℕ) → AreNames (map text_of items) → place < length items
      → begins is_name_byte rest ≡ false
      → named_at look_up (text_at text_of items place ++ rest) ≡ Some (place, rest)
  named-again place rest names within ends =
      let name = text_at text_of items place in
      let spelled = text_at-named text_of items place within names.spelled in
      let front = name_at-again name rest spelled ends in
      let left = behind_name-again name rest spelled ends in
      let zero : 0 + place ≡ place = omega arith in
      let here : look_up (name_at (name ++ rest)) ≡ Some place =
      ap look_up front ∙ same name ∙ place_from-again text_of 0 items place within names.distinct
      ∙ ap Some zero in
      rw (here, left) refl

-- a unit that was read of a text
pub record IsUnitRead (program : Program) (text : List ℕ)
    (found : Committed × List ℕ) : Type 0 where
  pub spelled : text ≡ unit_text program found.0 ++ found.1
  pub has : HasUnit program found.0

task_read : (program : Program) (name : List ℕ) (x : Committed × List ℕ) → found unit.Task
    (task_at program name) ≡ Some x → IsUnitRead program (codes "task " ++ name) x
unfolding task_at
task_read program name x read =
    let one = made (task_at program name) read in
    let at = named-parts name_of_task (tasks program) (task_of program)
    (tasks-placed 0 (tasks program)) name one.value one.was in
    subst (IsUnitRead program (codes "task " ++ name)) one.is
    (record { spelled = ap (λ (t : List ℕ). codes "task " ++ t) at.spelled; has = at.within })

transaction_read : (program : Program) (name : List ℕ) (x : Committed × List ℕ)
    → found unit.Transaction (transaction_at program name) ≡ Some x → IsUnitRead program
    (codes "transaction " ++ name) x
unfolding transaction_at
transaction_read program name x read =
    let one = made (transaction_at program name) read in
    let at = named-parts name_of_transaction (transactions program) (transaction_of program)
    (transactions-placed 0 (transactions program)) name one.value one.was in
    subst (IsUnitRead program (codes "transaction " ++ name)) one.is
    (record {
      spelled = ap (λ (t : List ℕ). codes "transaction " ++ t) at.spelled;
      has =
          at.within;
    })

-- an event that was read of a text
pub record IsEventRead (program : Program) (text : List ℕ) (x : ℕ × List ℕ) : Type 0 where
  pub spelled : text ≡ text_at name_of_event program.events x.0 ++ x.1
  pub within : x.0 < length program.events

pub event_at-parts : (program : Program) (name : List ℕ) (x : ℕ × List ℕ) → event_at program name
    ≡ Some x → IsEventRead program name x
unfolding event_at
event_at-parts program name x read =
    let at = named-parts name_of_event program.events (event_of program)
    (events-placed 0 program.events) name x read in
    record { spelled = at.spelled; within = at.within }

pub event_at-again : (program : Program) (event : ℕ) (rest : List ℕ) → IsNamed program
    → event < length program.events → begins is_name_byte rest ≡ false
    → event_at program (text_at name_of_event program.events event ++ rest) ≡ Some (event, rest)
unfolding event_at
event_at-again program event rest named within ends =
    named-again name_of_event program.events (event_of program)
    (events-placed 0 program.events) event rest named.events within ends

event_read : (program : Program) (name : List ℕ) (x : Committed × List ℕ) → found unit.Event
    (event_at program name) ≡ Some x → IsUnitRead program (codes "event " ++ name) x
event_read program name x read =
    let one = made (event_at program name) read in
    let at = event_at-parts program name one.value one.was in
    subst (IsUnitRead program (codes "event " ++ name)) one.is
    (record { spelled = ap (λ (t : List ℕ). codes "event " ++ t) at.spelled; has = at.within })

pub unit_at-parts : (program : Program) (text : List ℕ) (x : Committed × List ℕ)
    → unit_at program text ≡ Some x → IsUnitRead program text x
unfolding unit_at
unit_at-parts program text x read = elim (chosen (behind (codes "task ") text) read) [
  | inl task ↦ subst (λ (t : List ℕ). IsUnitRead program t x)
      (sym (behind-parts (codes "task ") text task.value task.was))
      (task_read program task.value x task.goes_on)
  | inr none ↦ elim (chosen (behind (codes "transaction ") text) none.goes_on) [
    | inl tx ↦ subst (λ (t : List ℕ). IsUnitRead program t x)
        (sym (behind-parts (codes "transaction ") text tx.value tx.was))
        (transaction_read program tx.value x tx.goes_on)
    | inr neither ↦
        let event = bound (behind (codes "event ") text) neither.goes_on in
        subst (λ (t : List ℕ). IsUnitRead program t x)
        (sym (behind-parts (codes "event ") text event.value event.was))
        (event_read program event.value x event.goes_on)
  ]
]

-- one kind of unit is no other
no_task : (rest : List ℕ) → (behind (codes "task ") (codes "transaction " ++ rest) ≡ None)
    × (behind (codes "task ") (codes "event " ++ rest) ≡ None)
unfolding behind
no_task rest = (refl, refl)

no_transaction : (rest : List ℕ) → behind (codes "transaction ") (codes "event " ++ rest) ≡ None
unfolding behind
no_transaction rest = refl

pub unit_at-again : (program : Program) (of : Committed) (rest : List ℕ) → IsNamed program
    → HasUnit program of → begins is_name_byte rest ≡ false
    → unit_at program (unit_text program of ++ rest) ≡ Some (of, rest)
unfolding unit_at task_at transaction_at
unit_at-again program (unit.Task task) rest named has ends =
    let name = text_at name_of_task (tasks program) task in
    let one : behind (codes "task ") (codes "task " ++ (name ++ rest)) ≡ Some (name ++ rest) =
    behind-again (codes "task ") (name ++ rest) in
    let at = named-again name_of_task (tasks program) (task_of program)
    (tasks-placed 0 (tasks program)) task rest named.tasks has ends in
    rw (one, at) refl
unit_at-again program (unit.Transaction tx) rest named has ends =
    let name = text_at name_of_transaction (transactions program) tx in
    let one : behind (codes "transaction ") (codes "transaction " ++ (name ++ rest)) ≡ Some
    (name ++ rest) = behind-again (codes "transaction ") (name ++ rest) in
    let at = named-again name_of_transaction (transactions program) (transaction_of program)
    (transactions-placed 0 (transactions program)) tx rest named.transactions has ends in
    let other = (no_task (name ++ rest)).0 in
    rw (other, one, at) refl
unit_at-again program (unit.Event event) rest named has ends =
    let name = text_at name_of_event program.events event in
    let one : behind (codes "event ") (codes "event " ++ (name ++ rest)) ≡ Some (name ++ rest) =
    behind-again (codes "event ") (name ++ rest) in
    let at = event_at-again program event rest named has ends in
    let other = (no_task (name ++ rest)).1 in
    let another = no_transaction (name ++ rest) in
    rw (other, another, one, at) refl

-- a number behind a word
pub record IsCountRead (word : List ℕ) (Fits : ℕ → Type 0) (text : List ℕ)
    (x : ℕ × List ℕ) : Type 0 where
  pub spelled : text ≡ word_and_number word x.0 ++ x.1
  pub fits : Fits x.0

pub tasks_at-parts : (text : List ℕ) (x : ℕ × List ℕ) → tasks_at text ≡ Some x → IsCountRead
    (codes " tasks") IsTaskCount text x
unfolding tasks_at
tasks_at-parts text x read =
    let one = bound (behind (codes " tasks ") text) read in
    let two = bound (number_at EXECUTOR_STEPS one.value) one.goes_on in
    let number = number_at-parts EXECUTOR_STEPS one.value two.value (omega arith) two.was in
    elim (cases_Bool (nat_le 1 two.value.0)) [
      | inl some ↦
          let same : Some two.value ≡ Some x = rw some at two.goes_on in
          let is : two.value ≡ x = cc in
          subst (IsCountRead (codes " tasks") IsTaskCount text) is (record {
            spelled = behind-parts (codes " tasks ") text one.value one.was
                ∙ ap (λ (t : List ℕ). codes " tasks " ++ t) number.spelled;
            fits = (leb-true 1 two.value.0 some, number.within);
          })
      | inr none ↦ let other : None ≡ Some x = rw none at two.goes_on in cc
    ]

pub tasks_at-again : (tasks : ℕ) (rest : List ℕ) → IsTaskCount tasks → digit_count rest ≡ 0
    → tasks_at (word_and_number (codes " tasks") tasks ++ rest) ≡ Some (tasks, rest)
unfolding tasks_at
tasks_at-again tasks rest is ends =
    let one : behind (codes " tasks ") (codes " tasks " ++ (decimal tasks ++ rest)) ≡ Some
    (decimal tasks ++ rest) = behind-again (codes " tasks ") (decimal tasks ++ rest) in
    let two = number_at-again EXECUTOR_STEPS tasks rest (omega arith) is.1 ends in
    rw (one, two, le-leb 1 tasks is.0) refl

abbrev pub IsInRange : ℕ → Type 0
IsInRange number = number ≤ greatest_number

pub posting_at-parts : (text : List ℕ) (x : ℕ × List ℕ) → posting_at text ≡ Some x → IsCountRead
    (codes " posting") IsInRange text x
unfolding posting_at
posting_at-parts text x read =
    let one = bound (behind (codes " posting ") text) read in
    let number = number_at-parts greatest_number one.value x (omega arith) one.goes_on in
    record {
      spelled = behind-parts (codes " posting ") text one.value one.was
          ∙ ap (λ (t : List ℕ). codes " posting " ++ t) number.spelled;
      fits = number.within;
    }

pub posting_at-again : (posting : ℕ) (rest : List ℕ) → posting ≤ greatest_number
    → digit_count rest ≡ 0 → posting_at (word_and_number (codes " posting") posting ++ rest)
    ≡ Some (posting, rest)
unfolding posting_at
posting_at-again posting rest is ends =
    let one : behind (codes " posting ") (codes " posting " ++ (decimal posting ++ rest)) ≡ Some
    (decimal posting ++ rest) = behind-again (codes " posting ") (decimal posting ++ rest) in
    rw (one, number_at-again greatest_number posting rest (omega arith) is ends) refl

-- the record of a unit, with its count
record IsCountedRead (from : ℕ) (of : Committed) (text : List ℕ)
    (x : Record × List ℕ) : Type 0 where
  spelled : text ≡ count_text x.0 of ++ x.1
  unit_is : x.0.unit ≡ of
  placed : x.0.reads_from ≡ from
  counted : IsCounted x.0 of

counted_at-parts : (from : ℕ) (of : Committed) (text : List ℕ) (x : Record × List ℕ)
    → counted_at from of text ≡ Some x → IsCountedRead from of text x
unfolding counted_at
counted_at-parts from (unit.Task task) text x read =
    let one : Some (record_of (unit.Task task) 1 0 from, text) ≡ Some x = read in
    let is : (record_of (unit.Task task) 1 0 from, text) ≡ x = cc in
    subst (IsCountedRead from (unit.Task task) text) is
    (record { spelled = refl; unit_is = refl; placed = refl; counted = (refl, refl) })
counted_at-parts from (unit.Transaction tx) text x read =
    let one = made (tasks_at text) read in
    let at = tasks_at-parts text one.value one.was in
    subst (IsCountedRead from (unit.Transaction tx) text) one.is
    (record { spelled = at.spelled; unit_is = refl; placed = refl; counted = (at.fits, refl) })
counted_at-parts from (unit.Event event) text x read =
    let one = made (posting_at text) read in
    let at = posting_at-parts text one.value one.was in
    subst (IsCountedRead from (unit.Event event) text) one.is
    (record { spelled = at.spelled; unit_is = refl; placed = refl; counted = (refl, at.fits) })

-- a record without readings
abbrev pub bare : Record → Record
bare committed = record committed { reads_len = 0 }

counted_at-again : (committed : Record) (of : Committed) (rest : List ℕ) → committed.unit ≡ of
    → IsCounted committed of → digit_count rest ≡ 0
    → counted_at committed.reads_from of (count_text committed of ++ rest) ≡ Some
    (bare committed, rest)
unfolding counted_at
counted_at-again committed (unit.Task task) rest is counted ends =
    let same : record_of (unit.Task task) 1 0 committed.reads_from ≡ bare committed =
    rw (sym is, sym counted.0, sym counted.1) refl in
    ap (λ (c : Record). Some (c, rest)) same
counted_at-again committed (unit.Transaction tx) rest is counted ends =
    let same : record_of (unit.Transaction tx) committed.tasks 0 committed.reads_from
    ≡ bare committed = rw (sym is, sym counted.1) refl in
    rw (tasks_at-again committed.tasks rest counted.0 ends)
    (ap (λ (c : Record). Some (c, rest)) same)
counted_at-again committed (unit.Event event) rest is counted ends =
    let same : record_of (unit.Event event) 0 committed.posting committed.reads_from
    ≡ bare committed = rw (sym is, sym counted.0) refl in
    rw (posting_at-again committed.posting rest counted.1 ends)
    (ap (λ (c : Record). Some (c, rest)) same)

-- the text of a record up to its readings
abbrev pub record_text : Program → Record → List ℕ → List ℕ
record_text program committed reads =
    unit_text program committed.unit ++ (count_text committed committed.unit
    ++ (codes " reads" ++ reads))

pub record IsRecordRead (program : Program) (from : ℕ) (text : List ℕ)
    (x : Record × List ℕ) : Type 0 where
  pub spelled : text ≡ record_text program x.0 x.1
  pub is : IsRecord program x.0
  pub placed : x.0.reads_from ≡ from

pub record_at-parts : (program : Program) (from : ℕ) (text : List ℕ) (x : Record × List ℕ)
    → record_at program from text ≡ Some x → IsRecordRead program from text x
unfolding record_at
record_at-parts program from text x read =
    let one = bound (unit_at program text) read in
    let two = bound (counted_at from one.value.0 one.value.1) one.goes_on in
    let three = bound (behind (codes " reads") two.value.1) two.goes_on in
    let is = same_Some (two.value.0, three.value) x three.goes_on in
    let at = unit_at-parts program text one.value one.was in
    let counted = counted_at-parts from one.value.0 one.value.1 two.value two.was in
    let reads = behind-parts (codes " reads") two.value.1 three.value three.was in
    let here : text ≡ unit_text program one.value.0 ++ (count_text two.value.0 one.value.0
    ++ (codes " reads" ++ three.value)) =
    at.spelled ∙ ap (λ (t : List ℕ). unit_text program one.value.0 ++ t)
    (counted.spelled ∙ ap (λ (t : List ℕ). count_text two.value.0 one.value.0 ++ t) reads) in
    subst (IsRecordRead program from text) is (record {
      spelled = here ∙ ap (λ (u : Committed). unit_text program u
          ++ (count_text two.value.0 u ++ (codes " reads" ++ three.value))) (sym counted.unit_is);
      is = record {
        unit = subst (HasUnit program) (sym counted.unit_is) at.has;
        counted = subst (IsCounted two.value.0) (sym counted.unit_is) counted.counted;
      };
      placed = counted.placed;
    })

begins-count : (committed : Record) (of : Committed) (reads : List ℕ) → begins is_name_byte
    (count_text committed of ++ (codes " reads" ++ reads)) ≡ false
begins-count committed (unit.Task task) reads = refl
begins-count committed (unit.Transaction tx) reads = refl
begins-count committed (unit.Event event) reads = refl

pub record_at-again : (program : Program) (committed : Record) (reads : List ℕ) → IsNamed program
    → IsRecord program committed
    → record_at program committed.reads_from (record_text program committed reads) ≡ Some
    (bare committed, reads)
unfolding record_at
record_at-again program committed reads named is =
    let tail = count_text committed committed.unit ++ (codes " reads" ++ reads) in
    let one = unit_at-again program committed.unit tail named is.unit
    (begins-count committed committed.unit reads) in
    let two = counted_at-again committed committed.unit
    (codes " reads" ++ reads) refl is.counted refl in
    let three = behind-again (codes " reads") reads in
    rw (one, two, three) refl
