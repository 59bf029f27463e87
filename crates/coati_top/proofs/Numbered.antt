-- Texts that are put down item by item, by number.
use Rattle.std.proofs.Common.{◌≡◌, ℕ, ◌+◌, ◌<◌, List, ◌++◌, length, drop, sym, ap, ◌∙◌, append_assoc, Some}
use Rattle.std.specs.Prelude.{flat_map, slice_get}
use Rattle.std.proofs.lemmas.List.{at_drop_more}
use Rattle.std.proofs.lemmas.Option.{get_or_from_slice_get}

-- one item more: behind it the text goes on with those that are left
pub one_more : {X : Type 0} (line : X → List ℕ) (items : List X) (number : ℕ) (x : X) (old new whole : List ℕ) →
    number < length items → slice_get items number ≡ Some x → new ≡ old ++ line x →
    old ++ flat_map line (drop number items) ≡ whole → new ++ flat_map line (drop (number + 1) items) ≡ whole
one_more {X = X} line items number x old new whole within is put before =
    let rest = flat_map line (drop (number + 1) items) in
    let here : flat_map line (drop number items) ≡ line x ++ rest =
    at_drop_more (flat_map line) items number x within ∙ ap (λ (y : X). line y ++ rest) (get_or_from_slice_get items number x x is) in
    ap (λ (text : List ℕ). text ++ rest) put ∙ append_assoc old (line x) rest ∙ ap (λ (text : List ℕ). old ++ text) (sym here) ∙ before
