-- What is read of a text in turn, in front of what is left.
use Rattle.std.proofs.Common.{◌≡◌, ◌≤◌, List, [], ◌∷◌, ◌++◌, Option, Some, None, length, refl, ap, append_assoc, arith}
use Rattle.std.specs.Option.{option_map}
use Rattle.trace_out.specs.LineReading.{in_front}

-- what was read before, and what is read of the rest
abbrev pub prepended : {A : Type 0} → List A → Option (List A) → Option (List A)
prepended front found = option_map (λ more. front ++ more) found

-- nothing was read before
pub prepended-nil : {A : Type 0} (found : Option (List A)) → prepended [] found ≡ found
prepended-nil None = refl
prepended-nil (Some more) = refl

-- one more was
pub prepended-more : {A : Type 0} (front : List A) (x : A) (found : Option (List A)) → prepended
    (front ++ x ∷ []) found ≡ prepended front (in_front x found)
prepended-more front x None = refl
prepended-more front x (Some more) = ap Some (append_assoc front (x ∷ []) more)

-- a list without elements
pub nil_from_length : {A : Type 0} (xs : List A) → length xs ≤ 0 → xs ≡ []
nil_from_length [] none = refl
nil_from_length (x ∷ xs) none = absurd (omega arith)
