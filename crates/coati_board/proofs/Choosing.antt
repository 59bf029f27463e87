-- What the executor's choices tell.
use Rattle.std.proofs.Common.{◌≡◌, ◌≢◌, ℕ, ◌==◌, [], ◌∷◌, arith, Bool, true, false, if◌then◌else◌, Some, None}
use Rattle.std.proofs.lemmas.Bool.Decides.{nat_tests}
use Rattle.nv_memory.specs.Seats.{Seat}
use Rattle.nv_memory.specs.State.{Change, State, first_undone, set_to}

-- a word has to be written
pub record IsUndone (s : State) (seat : Seat) (value : ℕ) (change : Change) : Type 0 where
  pub other : s.at seat ≢ value
  pub change_is : change ≡ set_to seat value

undone_step : (here change : Change) (b : Bool) → (if b then None else Some here) ≡ Some change →
    (b ≡ false) × (change ≡ here)
undone_step here change true e = absurd cc
undone_step here change false e = (cc, cc)

pub undone : (s : State) (seat : Seat) (value : ℕ) (change : Change) →
    first_undone s (set_to seat value ∷ []) ≡ Some change → IsUndone s seat value change
undone s seat value change e =
    let step = undone_step (set_to seat value) change (s.at seat == value) e in
    record {
      other = let test : (s.at seat == value) ≡ false = step.0 in
          λ same. grind (arith, nat_tests);
      change_is = step.1;
    }
