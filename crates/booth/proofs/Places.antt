-- The seats of the first so many devices.
use Rattle.std.proofs.Common.{◌≡◌, ℕ, ◌+◌, [], ◌∷◌, ◌++◌, refl, add-one}
use Rattle.booth.specs.Views.{fresh_place, fresh_places}

pub one_place_more : (device : ℕ) →
    fresh_places (device + 1) ≡ fresh_places device ++ fresh_place device ∷ []
one_place_more device = rw add-one refl
