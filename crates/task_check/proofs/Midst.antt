-- The transaction in whose midst a named task is, found unit by unit.
use Rattle.std.proofs.Common.{◌≡◌, ◌∙◌, ◌==◌, ℕ, zero, suc, ◌+◌, ◌<◌, ◌≤◌, List, [], ◌∷◌, ◌++◌, length, replicate, refl, ap, sym, subst, true, false, Bool, arith, inl, inr}
use Rattle.std.specs.Prelude.{Option, None, Some, flat_map, slice_get, option_and_then, if◌then◌else◌}
use Rattle.std.specs.Option.{option_map, option_map_or}
use Rattle.std.specs.List.{AllByRecursion}
use Rattle.std.specs.Str.{bytes_eq}
use Rattle.std.proofs.lemmas.List.{length-replicate}
use Rattle.std.proofs.lemmas.Bool.{cases_Bool}
use Rattle.std.proofs.lemmas.Bool.Decides.{nat_tests}
use Rattle.task_syntax.specs.declared.program.Program.{Program}
use Rattle.task_syntax.specs.declared.program.TaskDecl.{TaskDecl}
use Rattle.task_syntax.specs.declared.program.UnitDecl.{UnitDecl}
use Rattle.task_syntax.specs.declared.program.UnitDecl.TheVariants.{Lone, Tx}
use Rattle.task_syntax.specs.Names.{tasks_of_unit, task_from}
use Rattle.task_syntax.specs.Units.{memberships, first_from}
use Rattle.task_check.specs.Transitions.{midst_of}
use Rattle.task_check.specs.UnitWalk.{own_number, count_with}
use Rattle.task_check.proofs.UnitNumbers.{memberships-cons}

-- what is known where a name stands at this place of a unit, or isn't in it
abbrev pub met : ℕ → Option ℕ → Option ℕ → Option ℕ
met tx None rest = rest
met tx (Some zero) rest = None
met tx (Some (suc place)) rest = Some tx

-- the transaction in whose midst the task of a name is, among these units, before which `tx` transactions stand
abbrev pub midst_from : ℕ → List UnitDecl → List ℕ → Option ℕ
midst_from tx [] name = None
midst_from tx (unit ∷ more) name = met tx (task_from 0 (tasks_of_unit unit) name) (midst_from (count_with unit tx) more name)

-- the transaction is another one
abbrev is_tx : ℕ → Option ℕ → Bool
is_tx tx member = option_map_or (λ x. x == tx) member false

-- the transaction of the task at a place, unless it is the first there, by the members' transactions alone
abbrev unless_first_of : List (Option ℕ) → ℕ → ℕ → Option ℕ
unless_first_of members place tx = if option_map_or (λ first. first == place) (first_from tx 0 members) false then None else Some tx

abbrev midst_at : List (Option ℕ) → ℕ → Option ℕ
midst_at members place = option_and_then (unless_first_of members place) (option_and_then (λ tx. tx) (slice_get members place))

-- none of these is a member of the transaction
abbrev IsWithout : ℕ → List (Option ℕ) → Type 0
IsWithout tx [] = Unit {0}
IsWithout tx (member ∷ more) = (is_tx tx member ≡ false) × IsWithout tx more

first_from-shift : (tx by from : ℕ) (members : List (Option ℕ)) → first_from tx (by + from) members ≡ option_map (λ place. by + place) (first_from tx from members)
first_from-shift tx by from [] = refl
first_from-shift tx by from (member ∷ more) =
    elim (cases_Bool (is_tx tx member)) [
      | inl is ↦ rw is refl
      | inr other ↦ let next : (by + from) + 1 ≡ by + (from + 1) = omega arith in rw other (rw next (first_from-shift tx by (from + 1) more))
    ]

first_from-behind : (tx from : ℕ) (front back : List (Option ℕ)) → IsWithout tx front → first_from tx from (front ++ back) ≡ first_from tx (length front + from) back
first_from-behind tx from [] back none = let same : from ≡ 0 + from = omega arith in ap (λ (n : ℕ). first_from tx n back) same
first_from-behind tx from (member ∷ more) back none =
    rw none.0 (first_from-behind tx (from + 1) more back none.1 ∙ ap (λ (n : ℕ). first_from tx n back) (let same : length more + (from + 1) ≡ length (member ∷ more) + from = omega arith in same))

pub slice_get-behind : {A : Type 0} (front back : List A) (place : ℕ) → slice_get (front ++ back) (length front + place) ≡ slice_get back place
slice_get-behind [] back place = let same : 0 + place ≡ place = omega arith in ap (slice_get back) same
slice_get-behind (x ∷ front) back place = let next : suc (length front) + place ≡ suc (length front + place) = omega arith in rw next (slice_get-behind front back place)

same_place : (by place : ℕ) (first : Option ℕ) → option_map_or (λ f. f == by + place) (option_map (λ p. by + p) first) false ≡ option_map_or (λ f. f == place) first false
same_place by place None = refl
same_place by place (Some first) = grind (arith, nat_tests)

unless-behind : (front back : List (Option ℕ)) (place tx : ℕ) → IsWithout tx front → unless_first_of (front ++ back) (length front + place) tx ≡ unless_first_of back place tx
unless-behind front back place tx none =
    ap (λ (first : Option ℕ). if option_map_or (λ f. f == length front + place) first false then None else Some tx)
    (first_from-behind tx 0 front back none ∙ first_from-shift tx (length front) 0 back)
    ∙ ap (λ (is_first : Bool). if is_first then None else Some tx) (same_place (length front) place (first_from tx 0 back))

-- a place behind members of other transactions
behind-of : (front back : List (Option ℕ)) (place : ℕ) (got : Option (Option ℕ)) → ((tx : ℕ) → got ≡ Some (Some tx) → IsWithout tx front) →
    option_and_then (unless_first_of (front ++ back) (length front + place)) (option_and_then (λ tx. tx) got)
    ≡ option_and_then (unless_first_of back place) (option_and_then (λ tx. tx) got)
behind-of front back place None without = refl
behind-of front back place (Some None) without = refl
behind-of front back place (Some (Some tx)) without = unless-behind front back place tx (without tx refl)

midst-behind : (front back : List (Option ℕ)) (place : ℕ) → ((tx : ℕ) → slice_get back place ≡ Some (Some tx) → IsWithout tx front) →
    midst_at (front ++ back) (length front + place) ≡ midst_at back place
midst-behind front back place without =
    ap (λ (got : Option (Option ℕ)). option_and_then (unless_first_of (front ++ back) (length front + place)) (option_and_then (λ tx. tx) got)) (slice_get-behind front back place)
    ∙ behind-of front back place (slice_get back place) without

-- a place among the members of one transaction, the first of whom stands first
slice_get-same : (count place : ℕ) (member : Option ℕ) (back : List (Option ℕ)) → place < count → slice_get (replicate count member ++ back) place ≡ Some member
slice_get-same zero place member back below = absurd (omega arith)
slice_get-same (suc count) zero member back below = refl
slice_get-same (suc count) (suc place) member back below = slice_get-same count place member back (omega arith)

same-tx : (tx : ℕ) → (tx == tx) ≡ true
same-tx tx = grind (arith, nat_tests)

not_first : (place : ℕ) → (0 == suc place) ≡ false
not_first place = grind (arith, nat_tests)

midst-within : (count place tx : ℕ) (back : List (Option ℕ)) (rest : Option ℕ) → place < count → midst_at (replicate count (Some tx) ++ back) place ≡ met tx (Some place) rest
midst-within zero place tx back rest below = absurd (omega arith)
midst-within (suc count) zero tx back rest below = rw (same-tx tx) refl
midst-within (suc count) (suc place) tx back rest below = rw (slice_get-same count place (Some tx) back (omega arith)) (rw (same-tx tx) (rw (not_first place) refl))

-- the task of a name among those of a unit and those behind it
abbrev either : Option ℕ → Option ℕ → Option ℕ
either None other = other
either (Some place) other = Some place

task_from-append : (first : ℕ) (front back : List TaskDecl) (name : List ℕ) → task_from first (front ++ back) name ≡ either (task_from first front name) (task_from (length front + first) back name)
task_from-append first [] back name = let same : first ≡ 0 + first = omega arith in ap (λ (n : ℕ). task_from n back name) same
task_from-append first (task ∷ front) back name =
    elim (cases_Bool (bytes_eq task.name.text name)) [
      | inl same ↦ rw same refl
      | inr other ↦
          rw other (task_from-append (first + 1) front back name
          ∙ ap (λ (n : ℕ). either (task_from (first + 1) front name) (task_from n back name)) (let next : length front + (first + 1) ≡ length (task ∷ front) + first = omega arith in next))
    ]

task_from-shift : (by first : ℕ) (tasks : List TaskDecl) (name : List ℕ) → task_from (by + first) tasks name ≡ option_map (λ place. by + place) (task_from first tasks name)
task_from-shift by first [] name = refl
task_from-shift by first (task ∷ more) name =
    elim (cases_Bool (bytes_eq task.name.text name)) [
      | inl same ↦ rw same refl
      | inr other ↦ let next : (by + first) + 1 ≡ by + (first + 1) = omega arith in rw other (rw next (task_from-shift by (first + 1) more name))
    ]

task_from-within : (first : ℕ) (tasks : List TaskDecl) (name : List ℕ) (place : ℕ) → task_from first tasks name ≡ Some place → place < first + length tasks
task_from-within first [] name place found = absurd (let none : None ≡ Some place = found in cc)
task_from-within first (task ∷ more) name place found =
    elim (cases_Bool (bytes_eq task.name.text name)) [
      | inl same ↦ let here : Some first ≡ Some place = rw same at found in let is : first ≡ place = cc in omega arith
      | inr other ↦ let there : task_from (first + 1) more name ≡ Some place = rw other at found in let rest = task_from-within (first + 1) more name place there in omega arith
    ]

-- transactions are numbered upwards
abbrev IsFrom : ℕ → Option ℕ → Type 0
IsFrom bound None = Unit {0}
IsFrom bound (Some tx) = bound ≤ tx

is_from-weaker : (bound : ℕ) (member : Option ℕ) → IsFrom (bound + 1) member → IsFrom bound member
is_from-weaker bound None is = tt
is_from-weaker bound (Some tx) is = omega arith

all-weaker : (bound : ℕ) (members : List (Option ℕ)) → AllByRecursion (IsFrom (bound + 1)) members → AllByRecursion (IsFrom bound) members
all-weaker bound [] all = tt
all-weaker bound (member ∷ more) all = (is_from-weaker bound member all.0, all-weaker bound more all.1)

all-same : (bound count : ℕ) (members : List (Option ℕ)) → AllByRecursion (IsFrom bound) members → AllByRecursion (IsFrom bound) (replicate count (Some bound) ++ members)
all-same bound zero members all = all
all-same bound (suc count) members all = (omega arith, all-same bound count members all)

memberships-from : (tx : ℕ) (units : List UnitDecl) → AllByRecursion (IsFrom tx) (memberships tx units)
memberships-from tx [] = tt
memberships-from tx (Lone task ∷ more) = (tt, memberships-from tx more)
memberships-from tx (Tx members ∷ more) = all-same tx (length members.tasks) (memberships (tx + 1) more) (all-weaker tx (memberships (tx + 1) more) (memberships-from (tx + 1) more))

got-from : (bound : ℕ) (members : List (Option ℕ)) (place tx : ℕ) → AllByRecursion (IsFrom bound) members → slice_get members place ≡ Some (Some tx) → bound ≤ tx
got-from bound [] place tx all got = absurd (let none : None ≡ Some (Some tx) = got in cc)
got-from bound (member ∷ more) zero tx all got = let is : Some member ≡ Some (Some tx) = got in let same : member ≡ Some tx = cc in subst (IsFrom bound) same all.0
got-from bound (member ∷ more) (suc place) tx all got = got-from bound more place tx all.1 got

-- no member of a unit is in a transaction behind it
without-same : (tx count : ℕ) (own : Option ℕ) → is_tx tx own ≡ false → IsWithout tx (replicate count own)
without-same tx zero own other = tt
without-same tx (suc count) own other = (other, without-same tx count own other)

other-tx : (unit : UnitDecl) (tx other : ℕ) → count_with unit tx ≤ other → is_tx other (own_number unit tx) ≡ false
other-tx (Lone task) tx other above = refl
other-tx (Tx members) tx other above = grind (arith, nat_tests)

behind_all : (front back : List (Option ℕ)) (by : ℕ) → length front ≡ by → ((place tx : ℕ) → slice_get back place ≡ Some (Some tx) → IsWithout tx front) → (place : Option ℕ) →
    option_and_then (midst_at (front ++ back)) (option_map (λ p. by + p) place) ≡ option_and_then (midst_at back) place
behind_all front back by is without None = refl
behind_all front back by is without (Some place) = subst (λ (n : ℕ). midst_at (front ++ back) (n + place) ≡ midst_at back place) is (midst-behind front back place (without place))

within-unit : (tx : ℕ) (unit : UnitDecl) (name : List ℕ) (place : ℕ) (back : List (Option ℕ)) (rest : Option ℕ) → task_from 0 (tasks_of_unit unit) name ≡ Some place →
    midst_at (replicate (length (tasks_of_unit unit)) (own_number unit tx) ++ back) place ≡ met tx (Some place) rest
within-unit tx (Lone task) name zero back rest found = refl
within-unit tx (Lone task) name (suc place) back rest found = absurd (let below = task_from-within 0 (task ∷ []) name (suc place) found in omega arith)
within-unit tx (Tx members) name place back rest found = midst-within (length members.tasks) place tx back rest (let below = task_from-within 0 members.tasks name place found in omega arith)

step_of : (tx : ℕ) (unit : UnitDecl) (more : List UnitDecl) (name : List ℕ) (got : Option ℕ) → task_from 0 (tasks_of_unit unit) name ≡ got →
    option_and_then (midst_at (memberships (count_with unit tx) more)) (task_from 0 (flat_map tasks_of_unit more) name) ≡ midst_from (count_with unit tx) more name →
    option_and_then (midst_at (memberships tx (unit ∷ more))) (task_from 0 (tasks_of_unit unit ++ flat_map tasks_of_unit more) name) ≡ met tx got (midst_from (count_with unit tx) more name)
step_of tx unit more name None is rest =
    let front = replicate (length (tasks_of_unit unit)) (own_number unit tx) in
    let back = memberships (count_with unit tx) more in
    let behind = flat_map tasks_of_unit more in
    ap (option_and_then (midst_at (memberships tx (unit ∷ more))))
    (task_from-append 0 (tasks_of_unit unit) behind name
    ∙ ap (λ (o : Option ℕ). either o (task_from (length (tasks_of_unit unit) + 0) behind name)) is
    ∙ task_from-shift (length (tasks_of_unit unit)) 0 behind name)
    ∙ ap (λ (members : List (Option ℕ)). option_and_then (midst_at members) (option_map (λ p. length (tasks_of_unit unit) + p) (task_from 0 behind name))) (memberships-cons tx unit more)
    ∙ behind_all front back (length (tasks_of_unit unit)) (length-replicate (length (tasks_of_unit unit)) (own_number unit tx))
    (λ place other got. without-same other (length (tasks_of_unit unit)) (own_number unit tx) (other-tx unit tx other (got-from (count_with unit tx) back place other (memberships-from (count_with unit tx) more) got)))
    (task_from 0 behind name)
    ∙ rest
step_of tx unit more name (Some place) is rest =
    let behind = flat_map tasks_of_unit more in
    ap (option_and_then (midst_at (memberships tx (unit ∷ more))))
    (task_from-append 0 (tasks_of_unit unit) behind name ∙ ap (λ (o : Option ℕ). either o (task_from (length (tasks_of_unit unit) + 0) behind name)) is)
    ∙ ap (λ (members : List (Option ℕ)). midst_at members place) (memberships-cons tx unit more)
    ∙ within-unit tx unit name place (memberships (count_with unit tx) more) (midst_from (count_with unit tx) more name) is

pub midst_from-is : (tx : ℕ) (units : List UnitDecl) (name : List ℕ) → option_and_then (midst_at (memberships tx units)) (task_from 0 (flat_map tasks_of_unit units) name) ≡ midst_from tx units name
midst_from-is tx [] name = refl
midst_from-is tx (unit ∷ more) name = step_of tx unit more name (task_from 0 (tasks_of_unit unit) name) refl (midst_from-is (count_with unit tx) more name)

pub midst_of-is : (program : Program) (name : List ℕ) → midst_from 0 program.units name ≡ midst_of program name
midst_of-is program name = sym (midst_from-is 0 program.units name)
