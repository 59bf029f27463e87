-- A name set among the locals.
use Rattle.std.proofs.Common.{◌≡◌, ℕ, zero, suc, ◌+◌, List, [], ◌∷◌, ◌++◌, get_or, set, refl, sym, subst, ap, ◌∙◌, arith, inl, inr, true, false}
use Rattle.std.specs.Prelude.{Some, None}
use Rattle.std.specs.Str.{bytes_eq}
use Rattle.std.proofs.lemmas.Bool.{cases_Bool}
use Rattle.std.proofs.lemmas.Slice.Eq.{bytes_eq-Decides}
use Rattle.task_syntax.specs.Expressions.{with_local}
use Rattle.serial_run.specs.declared.locals.Local.{Local}
use Rattle.serial_run.specs.Locals.{value_among, place_from}

same_bytes : (one other : List ℕ) → bytes_eq one other ≡ true → one ≡ other
same_bytes one other same = (bytes_eq-Decides one other).0 same

bytes_eq-itself : (name : List ℕ) → bytes_eq name name ≡ true
bytes_eq-itself name = (bytes_eq-Decides name name).1 refl

other_bytes : (one other : List ℕ) → bytes_eq one other ≡ false → bytes_eq other one ≡ false
other_bytes one other apart =
    elim (cases_Bool (bytes_eq other one)) [
      | inl same ↦ let never : bytes_eq one other ≡ true = rw (same_bytes other one same) (bytes_eq-itself one) in absurd cc
      | inr is ↦ is
    ]

-- the first local of a name has this place
abbrev pub IsFirst : List ℕ → List Local → ℕ → Type 0
IsFirst name [] at = ⊥
IsFirst name (local ∷ more) zero = bytes_eq name local.name.now ≡ true
IsFirst name (local ∷ more) (suc at) = (bytes_eq name local.name.now ≡ false) × IsFirst name more at

pub record IsPlaced (name : List ℕ) (locals : List Local) (first at : ℕ) : Type 0 where
  pub within : ℕ
  pub at_first : at ≡ first + within
  pub is : IsFirst name locals within

placed : (locals : List Local) (first : ℕ) (name : List ℕ) (at : ℕ) → place_from first locals name ≡ Some at → IsPlaced name locals first at
placed [] first name at found = absurd (let never : None ≡ Some at = found in cc)
placed (local ∷ more) first name at found =
    elim (cases_Bool (bytes_eq name local.name.now)) [
      | inl same ↦ let here : Some first ≡ Some at = rw same at found in let is : first ≡ at = cc in record { within = 0; at_first = omega (arith, is); is = same }
      | inr other ↦ let there : place_from (first + 1) more name ≡ Some at = rw other at found in
          let rest = placed more (first + 1) name at there in
          record { within = suc rest.within; at_first = omega (arith, rest.at_first); is = (other, rest.is) }
    ]

pub first-is : (name : List ℕ) (locals : List Local) (at : ℕ) → place_from 0 locals name ≡ Some at → IsFirst name locals at
first-is name locals at found =
    let place = placed locals 0 name at found in
    let same : place.within ≡ at = omega (arith, place.at_first) in
    subst (IsFirst name locals) same place.is

pub value_among-set : (locals : List Local) (at : ℕ) (local : Local) (name : List ℕ) (value : ℕ) (asked : List ℕ) →
    local ≡ get_or locals at local → IsFirst name locals at →
    value_among (set locals at (record { name = local.name; value = value })) asked ≡ with_local name value (value_among locals) asked
value_among-set [] at local name value asked is first = absurd first
value_among-set (head ∷ more) zero local name value asked is first =
    let named : name ≡ local.name.now = same_bytes name head.name.now first ∙ ap (λ (l : Local). l.name.now) (sym is) in
    rw (← named)
    (elim (cases_Bool (bytes_eq asked name)) [
      | inl same ↦ rw (same) refl
      | inr other ↦ let apart : bytes_eq asked head.name.now ≡ false = rw (← same_bytes name head.name.now first) other in rw (other, apart) refl
    ])
value_among-set (head ∷ more) (suc at) local name value asked is first =
    let rest = value_among-set more at local name value asked is first.1 in
    elim (cases_Bool (bytes_eq asked head.name.now)) [
      | inl same ↦ let apart : bytes_eq asked name ≡ false = rw (same_bytes asked head.name.now same) (other_bytes name head.name.now first.0) in rw (same, apart) refl
      | inr other ↦ rw other rest
    ]

pub value_among-push : (locals : List Local) (first : ℕ) (local : Local) (asked : List ℕ) → place_from first locals local.name.now ≡ None →
    value_among (locals ++ local ∷ []) asked ≡ with_local local.name.now local.value (value_among locals) asked
value_among-push [] first local asked absent = refl
value_among-push (head ∷ more) first local asked absent =
    elim (cases_Bool (bytes_eq local.name.now head.name.now)) [
      | inl same ↦ absurd (let never : Some first ≡ None = rw same at absent in cc)
      | inr other ↦ let rest : place_from (first + 1) more local.name.now ≡ None = rw other at absent in
          elim (cases_Bool (bytes_eq asked head.name.now)) [
            | inl same ↦ let apart : bytes_eq asked local.name.now ≡ false = rw (same_bytes asked head.name.now same) (other_bytes local.name.now head.name.now other) in rw (same, apart) refl
            | inr further ↦ rw further (value_among-push more (first + 1) local asked rest)
          ]
    ]
