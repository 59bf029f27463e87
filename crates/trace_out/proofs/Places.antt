-- Lists of names: which number a name has, and that each number has a name of its own.
use Rattle.std.proofs.Common.{◌≡◌, ℕ, ◌+◌, ◌<◌, zero, suc, true, false, List, [], ◌∷◌, map, Option, Some, None, length, refl, sym, ap, ◌∙◌, inl, inr, arith}
use Rattle.std.specs.Prelude.{slice_get, if◌then◌else◌}
use Rattle.std.specs.Option.{option_map_or}
use Rattle.std.specs.List.{AllByRecursion}
use Rattle.std.specs.Str.{bytes_eq}
use Rattle.std.proofs.lemmas.Bool.{cases_Bool}
use Rattle.std.proofs.lemmas.Slice.Eq.{bytes_eq-Decides}
use Rattle.task_syntax.specs.declared.program.Event.{Event}
use Rattle.task_syntax.specs.declared.program.TaskDecl.{TaskDecl}
use Rattle.task_syntax.specs.declared.program.TxDecl.{TxDecl}
use Rattle.task_syntax.specs.Names.{task_from}
use Rattle.task_check.specs.Numbers.{event_from}
use Rattle.trace_out.specs.Lookups.{transaction_from}
use Rattle.trace_out.specs.Names.{name_of_task, name_of_transaction}
use Rattle.trace_out.proofs.Fronts.{IsNameText}

-- no name stands twice among these
abbrev pub AreDistinct : List (List ℕ) → Type 0
AreDistinct [] = Unit {0}
AreDistinct (name ∷ more) = AllByRecursion (λ other. bytes_eq name other ≡ false) more
    × AreDistinct more

-- they are names, and none stands twice
pub record AreNames (names : List (List ℕ)) : Type 0 where
  pub distinct : AreDistinct names
  pub spelled : AllByRecursion IsNameText names

module _ {X : Type 0} (text : X → List ℕ) where
  -- the name at a number
  abbrev pub text_at : List X → ℕ → List ℕ
  text_at items number = option_map_or text (slice_get items number) []

  -- the number of a name, where the first of these items has the number `first`
  abbrev pub place_from : ℕ → List X → List ℕ → Option ℕ
  place_from first [] name = None
  place_from first (x ∷ more) name = if bytes_eq (text x) name then Some first else place_from
      (first + 1) more name

  -- a number that was found
  pub record IsPlaced (first : ℕ) (items : List X) (name : List ℕ) (number : ℕ) : Type 0 where
    pub place : ℕ
    pub is : number ≡ first + place
    pub within : place < length items
    pub named : name ≡ text_at items place

  pub place_from-parts : (first : ℕ) (items : List X) (name : List ℕ) (number : ℕ)
      → place_from first items name ≡ Some number → IsPlaced first items name number
  place_from-parts first [] name number found = cc
  place_from-parts first (x ∷ more) name number found =
      elim (cases_Bool (bytes_eq (text x) name)) [
        | inl same ↦
            let here : Some first ≡ Some number = rw same at found in
            let is : first ≡ number = cc in
            record {
              place = 0;
              is = omega (arith, is);
              within = omega arith;
              named =
                  sym ((bytes_eq-Decides (text x) name).0 same);
            }
        | inr other ↦
            let later : place_from (first + 1) more name ≡ Some number = rw other at found in
            let r = place_from-parts (first + 1) more name number later in
            record {
              place = suc r.place;
              is = omega (arith, r.is);
              within = omega (arith, r.within);
              named = r.named;
            }
      ]

  -- another item's name
  other_name : (items : List X) (place : ℕ) (name : List ℕ) → place < length items
      → AllByRecursion (λ other. bytes_eq name other ≡ false) (map text items) → bytes_eq name
      (text_at items place) ≡ false
  other_name [] place name within none = absurd (omega arith)
  other_name (x ∷ more) zero name within none = none.0
  other_name (x ∷ more) (suc place) name within none = other_name more place name
      (omega arith) none.1

  pub place_from-again : (first : ℕ) (items : List X) (place : ℕ) → place < length items
      → AreDistinct (map text items) → place_from first items (text_at items place) ≡ Some
      (first + place)
  place_from-again first [] place within distinct = absurd (omega arith)
  place_from-again first (x ∷ more) zero within distinct =
      let same : bytes_eq (text x) (text x) ≡ true = (bytes_eq-Decides (text x) (text x)).1 refl in
      let here : first ≡ first + 0 = omega arith in
      rw same (ap Some here)
  place_from-again first (x ∷ more) (suc place) within distinct =
      let next : first + 1 + place ≡ first + suc place = omega arith in
      rw (other_name more place (text x) (omega arith) distinct.0)
      (place_from-again (first + 1) more place (omega arith) distinct.1 ∙ ap Some next)

  pub text_at-named : (items : List X) (place : ℕ) → place < length items
      → AllByRecursion IsNameText (map text items) → IsNameText (text_at items place)
  text_at-named [] place within all = absurd (omega arith)
  text_at-named (x ∷ more) zero within all = all.0
  text_at-named (x ∷ more) (suc place) within all = text_at-named more place (omega arith) all.1

abbrev pub name_of_event : Event → List ℕ
name_of_event event = event.name.text

pub tasks-placed : (first : ℕ) (tasks : List TaskDecl) (name : List ℕ)
    → task_from first tasks name ≡ place_from name_of_task first tasks name
tasks-placed first [] name = refl
tasks-placed first (task ∷ more) name = elim (cases_Bool (bytes_eq task.name.text name)) [
  | inl same ↦ rw same refl
  | inr other ↦ rw other (tasks-placed (first + 1) more name)
]

pub transactions-placed : (first : ℕ) (transactions : List TxDecl) (name : List ℕ)
    → transaction_from first transactions name
    ≡ place_from name_of_transaction first transactions name
transactions-placed first [] name = refl
transactions-placed first (tx ∷ more) name = elim (cases_Bool (bytes_eq tx.name.text name)) [
  | inl same ↦ rw same refl
  | inr other ↦ rw other (transactions-placed (first + 1) more name)
]

pub events-placed : (first : ℕ) (events : List Event) (name : List ℕ)
    → event_from first events name ≡ place_from name_of_event first events name
events-placed first [] name = refl
events-placed first (event ∷ more) name = elim (cases_Bool (bytes_eq event.name.text name)) [
  | inl same ↦ rw same refl
  | inr other ↦ rw other (events-placed (first + 1) more name)
]
