-- How the names in scope are kept: in a map whose keys are the names' bytes.
use Rattle.std.proofs.Common.{◌≡◌, ℕ, Bool, true, false, List, [], ◌∷◌, ◌++◌, map, refl, ap, sym, Bor, take, Some, None, if◌then◌else◌, inl, inr}
use Rattle.std.specs.Map.{lookup}
use Rattle.std.proofs.lemmas.List.{take-map}
use Rattle.std.proofs.lemmas.Bool.{cases_Bool}
use Rattle.std.specs.Str.{bytes_eq}
use Rattle.indexmap.specs.IndexMap.{insert_entry}
use Rattle.task_check.specs.declared.meaning.Meaning.{Meaning}
use Rattle.task_check.specs.Scope.{with_name}

-- an entry of the map, as what a name stands for
abbrev pub name_of : Bor (List ℕ) × Meaning → List ℕ × Meaning
name_of entry = (entry.0.now, entry.1)

pub lookup_named : (test : List ℕ → Bool) (entries : List (Bor (List ℕ) × Meaning)) → lookup test (map name_of entries) ≡ lookup (λ key. test key.now) entries
lookup_named test [] = refl
lookup_named test (entry ∷ more) =
    elim (test entry.0.now) as (λ v. (if v then Some entry.1 else lookup test (map name_of more)) ≡ (if v then Some entry.1 else lookup (λ key. test key.now) more)) [
      | true ↦ refl
      | false ↦ lookup_named test more
    ]

-- a name that isn't there goes last
appended : (entries : List (Bor (List ℕ) × Meaning)) (key : Bor (List ℕ)) (meaning : Meaning) → lookup (bytes_eq key.now) (map name_of entries) ≡ None
    → map name_of (insert_entry (λ a b. bytes_eq a.now b.now) entries key meaning) ≡ map name_of entries ++ (key.now, meaning) ∷ []
appended [] key meaning none = refl
appended (entry ∷ more) key meaning none =
    elim (cases_Bool (bytes_eq key.now entry.0.now)) [
      | inl same ↦ absurd (let found : Some entry.1 ≡ None = rw same at none in cc)
      | inr other ↦
          let rest : lookup (bytes_eq key.now) (map name_of more) ≡ None = rw other at none in
          rw other (ap (λ names. name_of entry ∷ names) (appended more key meaning rest))
    ]

pub inserted : (entries : List (Bor (List ℕ) × Meaning)) (key : Bor (List ℕ)) (meaning : Meaning) → lookup (bytes_eq key.now) (map name_of entries) ≡ None
    → map name_of (insert_entry (λ a b. bytes_eq a.now b.now) entries key meaning) ≡ with_name (map name_of entries) key.now meaning
inserted entries key meaning none = rw none (appended entries key meaning none)

pub named_take : (count : ℕ) (entries : List (Bor (List ℕ) × Meaning)) → map name_of (take count entries) ≡ take count (map name_of entries)
named_take count entries = sym (take-map name_of count entries)
