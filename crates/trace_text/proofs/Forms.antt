-- What a line says is what is read of its fields.
use Rattle.std.proofs.Common.{◌≡◌, ◌≢◌, ℕ, ◌≤◌, ◌<◌, ◌^◌, true, List, [], ◌∷◌, Option, Some, None, refl, ap, ◌∙◌, arith, inl, inr, subst}
use Rattle.std.specs.Fmt.{decimal}
use Rattle.std.specs.Prelude.{bytes_eq, codes, option_and_then}
use Rattle.std.specs.Option.{option_map}
use Rattle.std.proofs.lemmas.Bool.{cases_Bool}
use Rattle.std.proofs.lemmas.Slice.Eq.{bytes_eq-Decides}
use Rattle.coati_word.specs.declared.limits.TheConstants.{PERIOD_STEPS}
use Rattle.task_check.specs.Numbers.{event_of}
use Rattle.task_syntax.specs.declared.program.Program.{Program}
use Rattle.trace_text.specs.declared.statement.Statement.{Statement}
use Rattle.trace_text.specs.declared.statement.Statement.TheVariants.{Limit, Power, At}
use Rattle.trace_text.specs.Fields.{fields_of}
use Rattle.trace_text.specs.Reading.{at_of, limit_of, number_in, power_of, powers_of, statement_of}
use Rattle.trace_text.specs.Statements.{Says, limit, power, powers, at, greatest_argument, greatest_device, greatest_number}
use Rattle.trace_text.proofs.Numbers.{IsIn, number_in-from, number_in-parts}

-- what a mapped value comes from
record Mapped {X Y : Type 0} (f : X → Y) (o : Option X) (y : Y) : Type 0 where
  value : X
  was : o ≡ Some value
  is : f value ≡ y

mapped : {X Y : Type 0} (f : X → Y) (o : Option X) (y : Y) → option_map f o ≡ Some y → Mapped f o y
mapped f None y e = cc
mapped f (Some value) y e = record { value = value; was = refl; is = cc }

-- what a chained value comes from
record Chained {X Y : Type 0} (f : X → Option Y) (o : Option X) (y : Y) : Type 0 where
  value : X
  was : o ≡ Some value
  is : f value ≡ Some y

chained : {X Y : Type 0} (f : X → Option Y) (o : Option X) (y : Y) → option_and_then f o ≡ Some y → Chained f o y
chained f None y e = cc
chained f (Some value) y e = record { value = value; was = refl; is = e }

same_powers : (period length word times count : List ℕ) → period ≡ length → word ≡ codes "times" → times ≡ count
    → codes "power" ∷ period ∷ word ∷ times ∷ [] ≡ codes "power" ∷ length ∷ codes "times" ∷ count ∷ []
same_powers period length word times count one two three = rw (one, two, three) refl

same_at : (time first device second event argument third : List ℕ) → time ≡ first → device ≡ second → argument ≡ third
    → codes "at" ∷ time ∷ device ∷ event ∷ argument ∷ [] ≡ codes "at" ∷ first ∷ second ∷ event ∷ third ∷ []
same_at time first device second event argument third one two three = rw (one, two, three) refl

limit_says : (program : Program) (line : List ℕ) (fields : List (List ℕ)) (statement : Statement)
    → fields_of line ≡ codes "limit" ∷ fields → option_map Limit (limit_of fields) ≡ Some statement → Says program line statement
limit_says program line [] statement cut read = cc
limit_says program line (field ∷ []) statement cut read =
    let told = mapped Limit (number_in 0 greatest_number field) statement read in
    let is = number_in-parts 0 greatest_number told.value field told.was in
    let form : fields_of line ≡ codes "limit" ∷ decimal told.value ∷ [] = cut ∙ ap (λ (x : List ℕ). codes "limit" ∷ x ∷ []) is.spelled in
    subst (λ (s : Statement). Says program line s) told.is (limit told.value form is.most_is)
limit_says program line (field ∷ other ∷ more) statement cut read = cc

power_says : (program : Program) (line period : List ℕ) (times : ℕ) (statement : Statement)
    → ((length : ℕ) → IsIn 1 PERIOD_STEPS period length → Says program line (Power length times))
    → power_of period times ≡ Some statement → Says program line statement
power_says program line period times statement says read =
    let told = mapped (λ (length : ℕ). Power length times) (number_in 1 PERIOD_STEPS period) statement read in
    subst (λ (s : Statement). Says program line s) told.is (says told.value (number_in-parts 1 PERIOD_STEPS told.value period told.was))

powers_says : (program : Program) (line : List ℕ) (fields : List (List ℕ)) (statement : Statement)
    → fields_of line ≡ codes "power" ∷ fields → powers_of fields ≡ Some statement → Says program line statement
powers_says program line [] statement cut read = cc
powers_says program line (period ∷ []) statement cut read =
    power_says program line period 1 statement
    (λ length is. power length (cut ∙ ap (λ (x : List ℕ). codes "power" ∷ x ∷ []) is.spelled) is.least_is is.most_is) read
powers_says program line (period ∷ word ∷ []) statement cut read = cc
powers_says program line (period ∷ word ∷ times ∷ []) statement cut read = elim (cases_Bool (bytes_eq word (codes "times"))) [
  | inl same ↦
      let word_is : word ≡ codes "times" = (bytes_eq-Decides word (codes "times")).0 same in
      let both : option_and_then (power_of period) (number_in 1 greatest_number times) ≡ Some statement = rw same at read in
      let told = chained (power_of period) (number_in 1 greatest_number times) statement both in
      let count = number_in-parts 1 greatest_number told.value times told.was in
      power_says program line period told.value statement
      (λ length is. powers length told.value (cut ∙ same_powers period (decimal length) word times (decimal told.value) is.spelled word_is count.spelled) is.least_is is.most_is count.least_is count.most_is)
      told.is
  | inr other ↦ let none : None ≡ Some statement = rw other at read in cc
]
powers_says program line (period ∷ word ∷ times ∷ other ∷ more) statement cut read = cc

at_says : (program : Program) (line : List ℕ) (fields : List (List ℕ)) (statement : Statement)
    → fields_of line ≡ codes "at" ∷ fields → at_of program fields ≡ Some statement → Says program line statement
at_says program line [] statement cut read = cc
at_says program line (time ∷ []) statement cut read = cc
at_says program line (time ∷ device ∷ []) statement cut read = cc
at_says program line (time ∷ device ∷ [] ∷ more) statement cut read = cc
at_says program line (time ∷ device ∷ (byte ∷ event) ∷ []) statement cut read = cc
at_says program line (time ∷ device ∷ (byte ∷ event) ∷ argument ∷ []) statement cut read =
    let name = byte ∷ event in
    let timed = chained (λ (t : ℕ). option_and_then (λ (d : ℕ). option_map (λ (a : ℕ). At t d (event_of program name) a) (number_in 0 greatest_argument argument)) (number_in 0 greatest_device device)) (number_in 0 greatest_number time) statement read in
    let placed = chained (λ (d : ℕ). option_map (λ (a : ℕ). At timed.value d (event_of program name) a) (number_in 0 greatest_argument argument)) (number_in 0 greatest_device device) statement timed.is in
    let given = mapped (λ (a : ℕ). At timed.value placed.value (event_of program name) a) (number_in 0 greatest_argument argument) statement placed.is in
    let t = number_in-parts 0 greatest_number timed.value time timed.was in
    let d = number_in-parts 0 greatest_device placed.value device placed.was in
    let a = number_in-parts 0 greatest_argument given.value argument given.was in
    subst (λ (s : Statement). Says program line s) given.is
    (at timed.value placed.value name given.value (cut ∙ same_at time (decimal timed.value) device (decimal placed.value) name argument (decimal given.value) t.spelled d.spelled a.spelled) (λ e. cc) t.most_is d.most_is a.most_is)
at_says program line (time ∷ device ∷ (byte ∷ event) ∷ argument ∷ other ∷ more) statement cut read = cc

-- the statement that is read of the fields is what the line says
fields_say : (program : Program) (line : List ℕ) (fields : List (List ℕ)) (statement : Statement)
    → fields_of line ≡ fields → statement_of program fields ≡ Some statement → Says program line statement
fields_say program line [] statement cut read = cc
fields_say program line (word ∷ fields) statement cut read =
    let cut_at = λ (text : List ℕ) (same : bytes_eq word text ≡ true). cut ∙ ap (λ (x : List ℕ). x ∷ fields) ((bytes_eq-Decides word text).0 same) in
    elim (cases_Bool (bytes_eq word (codes "limit"))) [
      | inl limited ↦ limit_says program line fields statement (cut_at (codes "limit") limited) (rw limited at read)
      | inr unlimited ↦ elim (cases_Bool (bytes_eq word (codes "power"))) [
        | inl powered ↦ powers_says program line fields statement (cut_at (codes "power") powered) (rw (unlimited, powered) at read)
        | inr unpowered ↦ elim (cases_Bool (bytes_eq word (codes "at"))) [
          | inl posted ↦ at_says program line fields statement (cut_at (codes "at") posted) (rw (unlimited, unpowered, posted) at read)
          | inr other ↦ let none : None ≡ Some statement = rw (unlimited, unpowered, other) at read in cc
        ]
      ]
    ]

pub says_from : (program : Program) (line : List ℕ) (statement : Statement)
    → statement_of program (fields_of line) ≡ Some statement → Says program line statement
says_from program line statement read = fields_say program line (fields_of line) statement refl read

-- a decimal in the range is read
read_back : (least most number : ℕ) → most < 2 ^ 64 → least ≤ number → number ≤ most → number_in least most (decimal number) ≡ Some number
read_back least most number small above below =
    number_in-from least most number (decimal number) (omega arith) (record { spelled = refl; least_is = above; most_is = below })

at_read : (program : Program) (time device : ℕ) (event : List ℕ) (argument : ℕ) → event ≢ []
    → time ≤ greatest_number → device ≤ greatest_device → argument ≤ greatest_argument
    → at_of program (decimal time ∷ decimal device ∷ event ∷ decimal argument ∷ []) ≡ Some (At time device (event_of program event) argument)
at_read program time device [] argument some t d a = absurd (some refl)
at_read program time device (byte ∷ event) argument some t d a =
    rw (
      read_back 0 greatest_number time (omega arith) (omega arith) t,
      read_back 0 greatest_device device (omega arith) (omega arith) d,
      read_back 0 greatest_argument argument (omega arith) (omega arith) a,
    ) refl

-- what the line says is read of its fields
pub says_read : (program : Program) (line : List ℕ) (statement : Statement)
    → Says program line statement → statement_of program (fields_of line) ≡ Some statement
says_read program line _ (limit number cut most) =
    rw (cut, read_back 0 greatest_number number (omega arith) (omega arith) most) refl
says_read program line _ (power period cut least most) =
    rw (cut, read_back 1 PERIOD_STEPS period (omega arith) least most) refl
says_read program line _ (powers period times cut least most some few) =
    rw (cut, read_back 1 greatest_number times (omega arith) some few, read_back 1 PERIOD_STEPS period (omega arith) least most) refl
says_read program line _ (at time device event argument cut some t d a) = rw cut (at_read program time device event argument some t d a)
