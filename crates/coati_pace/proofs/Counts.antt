-- The parts of the need as the code tells them apart.
use Rattle.std.proofs.Common.{◌≡◌, ◌≢◌, ℕ, zero, suc, ◌+◌, ◌-◌, ◌*◌, ◌&&◌, ◌==◌, Bool, true, false, refl, arith}
use Rattle.coati_word.specs.declared.mode.Mode.{Mode}
use Rattle.coati_pace.specs.declared.effort.Shape.{Shape}
use Rattle.coati_pace.specs.declared.effort.Place.TheVariants.{Inside}
use Rattle.coati_pace.specs.Effort.{cleaning_writes}
use Rattle.coati_pace.specs.Need.{behind_oldest, cleaning_left, event_steps, missing, queue_steps, seen, steps_ending, undo_risk, undo_steps}

pub behind_is : (steps held : ℕ) → behind_oldest steps held ≡ (held - 1) * (steps + 1)
unfolding behind_oldest
behind_is steps zero = omega arith
behind_is steps (suc held) = let e : suc held - 1 ≡ held = omega arith in rw e refl

pub queue_none : (steps held : ℕ) (begun : Bool) → held ≡ 0 → queue_steps steps held begun ≡ 0
unfolding queue_steps
queue_none steps zero begun none = refl
queue_none steps (suc held) begun none = absurd (omega (arith, none))

pub queue_more : (steps held : ℕ) (begun : Bool) → held ≢ 0 →
    queue_steps steps held begun ≡ behind_oldest steps held + steps + missing begun
unfolding queue_steps
queue_more steps zero begun some = absurd (some refl)
queue_more steps (suc held) begun some = refl

pub cleaning_stays : (s : Shape) (writes events cleaning : ℕ) →
    (writes == 0) && (events == 0) ≡ true → cleaning_left s writes events cleaning ≡ cleaning
unfolding cleaning_left
cleaning_stays s zero zero cleaning is = refl
cleaning_stays s zero (suc events) cleaning is = absurd (grind (arith, is))
cleaning_stays s (suc writes) events cleaning is = absurd (grind (arith, is))

pub cleaning_anew : (s : Shape) (writes events cleaning : ℕ) →
    (writes == 0) && (events == 0) ≡ false →
    cleaning_left s writes events cleaning ≡ cleaning_writes s
unfolding cleaning_left
cleaning_anew s zero zero cleaning is = absurd (grind (arith, is))
cleaning_anew s zero (suc events) cleaning is = refl
cleaning_anew s (suc writes) events cleaning is = refl

pub risk_none : (s : Shape) (events : ℕ) → events ≡ 0 → undo_risk s Inside events ≡ 0
unfolding undo_risk
risk_none s zero none = refl
risk_none s (suc events) none = absurd (omega (arith, none))

pub risk_some : (s : Shape) (events : ℕ) → events ≢ 0 →
    undo_risk s Inside events ≡ undo_steps s
unfolding undo_risk
risk_some s zero some = absurd (some refl)
risk_some s (suc events) some = refl

-- where a transaction is open
pub ruleset risks = (risk_none, risk_some)

pub ending_none : (s : Shape) (mode : Mode) (writes events : ℕ) (placed begun : Bool) →
    events ≡ 0 → steps_ending s mode writes events placed begun ≡ missing (seen writes placed) + 1
unfolding steps_ending
ending_none s mode writes zero placed begun none = refl
ending_none s mode writes (suc events) placed begun none = absurd (omega (arith, none))

pub ending_more : (s : Shape) (mode : Mode) (writes events : ℕ) (placed begun : Bool) →
    events ≢ 0 →
    steps_ending s mode writes events placed begun
    ≡ queue_steps (event_steps s mode) events (seen writes begun) + undo_steps s
    + (cleaning_writes s + s.attempt + 2) + 2
unfolding steps_ending
ending_more s mode writes zero placed begun some = absurd (some refl)
ending_more s mode writes (suc events) placed begun some = refl
