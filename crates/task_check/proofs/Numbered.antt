-- Tasks and transactions by number, unit by unit.
use Rattle.std.proofs.Common.{◌≡◌, ℕ, zero, suc, ◌+◌, ◌<◌, List, [], ◌∷◌, ◌++◌, length, get_or, drop, refl, ap, sym, ◌∙◌, arith, replicate, length-append}
use Rattle.std.specs.Prelude.{Some, slice_get, flat_map}
use Rattle.std.proofs.lemmas.List.{drop_more}

module _ {X : Type 0} where
  pub get-append : (xs ys : List X) (i : ℕ) → i < length xs → slice_get (xs ++ ys) i ≡ slice_get xs i
  get-append [] ys i within = absurd (omega arith)
  get-append (x ∷ xs) ys zero within = refl
  get-append (x ∷ xs) ys (suc i) within = get-append xs ys i (omega arith)

  pub get-append_past : (xs ys : List X) (i j : ℕ) → i ≡ length xs + j → slice_get (xs ++ ys) i ≡ slice_get ys j
  get-append_past [] ys i j is = let same : i ≡ j = omega arith in ap (slice_get ys) same
  get-append_past (x ∷ xs) ys zero j is = absurd (omega arith)
  get-append_past (x ∷ xs) ys (suc i) j is = get-append_past xs ys i j (omega arith)

-- what is numbered in units, from one of them on
module _ {U X : Type 0} (of_unit : U → List X) where
  pub unit-from : (units : List U) (k : ℕ) (unit : U) → k < length units → unit ≡ get_or units k unit → flat_map of_unit (drop k units) ≡ of_unit unit ++ flat_map of_unit (drop (k + 1) units)
  unit-from units k unit within is = ap (flat_map of_unit) (drop_more units k unit within ∙ ap (λ first. first ∷ drop (k + 1) units) (sym is))

  pub get-here : (units : List U) (k : ℕ) (unit : U) (i : ℕ) → k < length units → unit ≡ get_or units k unit → i < length (of_unit unit)
      → slice_get (flat_map of_unit (drop k units)) i ≡ slice_get (of_unit unit) i
  get-here units k unit i within is here = ap (λ list. slice_get list i) (unit-from units k unit within is) ∙ get-append (of_unit unit) (flat_map of_unit (drop (k + 1) units)) i here

  pub get-further : (units : List U) (k : ℕ) (unit : U) (i j : ℕ) → k < length units → unit ≡ get_or units k unit → i ≡ length (of_unit unit) + j
      → slice_get (flat_map of_unit (drop k units)) i ≡ slice_get (flat_map of_unit (drop (k + 1) units)) j
  get-further units k unit i j within is past = ap (λ list. slice_get list i) (unit-from units k unit within is) ∙ get-append_past (of_unit unit) (flat_map of_unit (drop (k + 1) units)) i j past

-- how many are numbered from one unit on
pub length-from : {U X : Type 0} (of_unit : U → List X) (units : List U) (k : ℕ) (unit : U) → k < length units → unit ≡ get_or units k unit
    → length (flat_map of_unit (drop k units)) ≡ length (of_unit unit) + length (flat_map of_unit (drop (k + 1) units))
length-from of_unit units k unit within is = ap length (unit-from of_unit units k unit within is) ∙ length-append (of_unit unit) (flat_map of_unit (drop (k + 1) units))

pub get-replicate : {X : Type 0} (n i : ℕ) (x : X) → i < n → slice_get (replicate n x) i ≡ Some x
get-replicate zero i x within = absurd (omega arith)
get-replicate (suc n) zero x within = refl
get-replicate (suc n) (suc i) x within = get-replicate n i x (omega arith)
