-- Least places of lists that are joined.
use Rattle.std.proofs.Common.{◌≡◌, ℕ, Bool, List, [], ◌∷◌, ◌++◌, refl, ap, sym, ◌∙◌, map}
use Rattle.std.specs.Prelude.{Option, flat_map}
use Rattle.std.specs.List.{concat}
use Rattle.std.proofs.lemmas.List.{map-append}
use Rattle.std.proofs.lemmas.List.Elements.{filter-append}
use Rattle.task_check.specs.declared.found.Found.{Found}
use Rattle.task_check.specs.declared.meaning.Meaning.{Meaning}
use Rattle.task_check.specs.declared.role.Role.{Role}
use Rattle.task_check.specs.Least.{IsLeastOf, least, lesser}
use Rattle.task_check.specs.Mentions.{Mention}
use Rattle.task_check.proofs.LeastParts.{IsLeastOf_least, least-append, lesser_assoc, lesser-none}
use Rattle.task_check.specs.NameRules.{places_where, is_twice_named, is_unknown, is_wrong_kind}
use Rattle.task_check.specs.Found.{found_among, joined}

pub places_where-append : (test : Role → Option Meaning → Bool) (one other : List Mention) → places_where test (one ++ other) ≡ places_where test one ++ places_where test other
places_where-append test one other = rw (filter-append, map-append) refl

pub found-append : (one other : List Mention) → found_among (one ++ other) ≡ joined (found_among one) (found_among other)
found-append one other = rw (places_where-append is_twice_named one other, places_where-append is_unknown one other, places_where-append is_wrong_kind one other) (simp least-append)

pub joined-joined : (one two three : Found) → joined (joined one two) three ≡ joined one (joined two three)
joined-joined one two three = simp lesser_assoc

pub joined-none : (one : Found) → joined one (found_among []) ≡ one
joined-none one = simp lesser-none

pub concat-map : {X : Type 0} (places : X → List ℕ) (xs : List X) → concat (map places xs) ≡ flat_map places xs
concat-map places [] = refl
concat-map places (x ∷ xs) = ap (λ rest. places x ++ rest) (concat-map places xs)

pub is_least : (places : List ℕ) (found : Option ℕ) → found ≡ least places → IsLeastOf places found
is_least places found is = rw is (IsLeastOf_least places)

-- the places of two parts, and of three
pub is_least-two : (one two : List ℕ) (found : Option ℕ) → found ≡ lesser (least one) (least two) → IsLeastOf (one ++ two) found
is_least-two one two found is = is_least (one ++ two) found (is ∙ sym (least-append one two))

pub is_least-three : (one two three : List ℕ) (found : Option ℕ) → found ≡ lesser (lesser (least one) (least two)) (least three) → IsLeastOf (one ++ two ++ three) found
is_least-three one two three found is = is_least-two (one ++ two) three found (is ∙ ap (λ both. lesser both (least three)) (sym (least-append one two)))

pub ruleset finding = (found-append, joined-joined, joined-none)
