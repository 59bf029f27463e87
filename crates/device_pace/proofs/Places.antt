-- Where a device stands, and what comes before the next task, from memory.
use Rattle.std.proofs.Common.{◌≡◌, ◌≢◌, ◌==◌, ℕ, refl, ap, ◌∙◌, arith, inl, inr, Bool, true, false, if◌then◌else◌}
use Rattle.std.proofs.lemmas.Bool.Decides.{nat_tests}
use Rattle.coati_word.specs.declared.mode.Mode.{Mode}
use Rattle.coati_word.specs.declared.mode.Mode.TheVariants.{Split, Buffi}
use Rattle.task_syntax.specs.Units.{halt}
use Rattle.nv_memory.specs.Blank.{mode_word}
use Rattle.nv_memory.specs.Ring.{held_count}
use Rattle.nv_memory.specs.StandsFor.{place_of}
use Rattle.nv_memory.specs.State.{State}
use Rattle.nv_memory.specs.Words.{doomed, mark, mode}
use Rattle.coati_device.specs.declared.device.Phase.{Phase}
use Rattle.coati_device.specs.OpenUnit.{has_unit}
use Rattle.coati_device.specs.Rows.{ComesToTasks, ComesToTheEnd, IsClear}
use Rattle.coati_device.proofs.OpenedUnits.{one_open}
use Rattle.coati_pace.specs.declared.effort.Place.{Place}
use Rattle.coati_pace.specs.declared.effort.Place.TheVariants.{Halted, Outside, Inside}
use Rattle.coati_pace.specs.declared.effort.Stage.{Stage}
use Rattle.coati_pace.specs.Effort.{effort}
use Rattle.coati_pace.specs.Need.{events_before_end, events_first}
use Rattle.device_pace.specs.Effort.{effort_at, place_behind, stage_of, writes_under_way}

-- efforts with the same parts are the same
pub same_effort : (w v h k : ℕ) (p q : Place) (s t : Stage) → w ≡ v → h ≡ k → p ≡ q → s ≡ t →
    effort w h p s ≡ effort v k q t
same_effort w v h k p q s t a b c d = rw (a, b, c, d) refl

-- memory and the phase tell the parts
pub reads : (s : State) (phase at : Phase) (w h : ℕ) (p : Place) (t : Stage) → phase ≡ at →
    writes_under_way s ≡ w → held_count s ≡ h → place_behind s ≡ p → stage_of s at ≡ t →
    effort_at s phase ≡ effort w h p t
reads s phase at w h p t is a b c d =
    ap (effort_at s) is
    ∙ same_effort (writes_under_way s) w (held_count s) h (place_behind s) p (stage_of s at) t
    a b c d

-- no write is under way where neither a commit nor an undo is
pub clear_writes : (s : State) → mark s ≡ 0 → doomed s ≡ 0 → writes_under_way s ≡ 0
clear_writes s clear live = rw (clear, live) refl

abbrev place_by : Bool → Bool → Place
place_by unit over = if unit then Inside else (if over then Halted else Outside)

pub inside : (s : State) → has_unit s ≡ true → place_behind s ≡ Inside
inside s is = ap (λ (b : Bool). place_by b (place_of s == halt)) is

pub same_place : (s t : State) → has_unit t ≡ has_unit s → place_of t ≡ place_of s →
    place_behind t ≡ place_behind s
same_place s t unit place =
    ap (λ (b : Bool). place_by b (place_of t == halt)) unit
    ∙ ap (λ (n : ℕ). place_by (has_unit s) (n == halt)) place

-- where no unit is open, the place is told by the place of the program
pub outside_of : (s : State) → has_unit s ≡ false →
    place_behind s ≡ place_by false (place_of s == halt)
outside_of s is = ap (λ (b : Bool). place_by b (place_of s == halt)) is

other_place : (n : ℕ) → n ≢ halt → (n == halt) ≡ false
other_place n on = grind (arith, nat_tests)

pub outside : (s : State) → has_unit s ≡ false → place_of s ≢ halt → place_behind s ≡ Outside
outside s none on = outside_of s none ∙ ap (place_by false) (other_place (place_of s) on)

pub halted : (s : State) → has_unit s ≡ false → place_of s ≡ halt → place_behind s ≡ Halted
halted s none over = outside_of s none ∙ ap (λ (n : ℕ). place_by false (n == halt)) over

-- a halted place is one of no unit
halted_by : (unit over : Bool) → place_by unit over ≡ Halted → (unit ≡ false) × (over ≡ true)
halted_by true over is = absurd cc
halted_by false true is = (refl, refl)
halted_by false false is = absurd cc

pub of_halted : (s : State) → place_behind s ≡ Halted → (has_unit s ≡ false) × (place_of s ≡ halt)
of_halted s is =
    let both = halted_by (has_unit s) (place_of s == halt) is in
    (both.0, let over = both.1 in grind (arith, nat_tests))

pub not_halted : (s : State) → place_of s ≢ halt → place_behind s ≢ Halted
not_halted s on is = on (of_halted s is).1

inside_by : (unit over : Bool) → unit ≡ false → place_by unit over ≢ Inside
inside_by unit true none = rw none (λ is. absurd cc)
inside_by unit false none = rw none (λ is. absurd cc)

pub not_inside : (s : State) → has_unit s ≡ false → place_behind s ≢ Inside
not_inside s none = inside_by (has_unit s) (place_of s == halt) none

-- no event comes first where none is held
none_first : (m : Mode) (p : Place) → events_first m p 0 ≡ 0
unfolding events_first
none_first Buffi p = refl
none_first Split Halted = refl
none_first Split Outside = refl
none_first Split Inside = refl

none_inside : (m : Mode) (held word : ℕ) → word ≡ mode_word m → word ≡ 0 →
    events_first m Inside held ≡ 0
unfolding events_first
none_inside Split held word is split = refl
none_inside Buffi held word is split = absurd (omega (arith, is, split))

-- where a task comes next
pub none_before : (s : State) (m : Mode) → mode s ≡ mode_word m → IsClear s → ComesToTasks s →
    events_first m (place_behind s) (held_count s) ≡ 0
none_before s m is clear tasks = elim tasks [
  | inl none ↦
      ap (events_first m (place_behind s)) none ∙ none_first m (place_behind s)
  | inr is_open ↦
      ap (λ (p : Place). events_first m p (held_count s)) (inside s (one_open s clear is_open.1))
      ∙ none_inside m (held_count s) (mode s) is is_open.0
]

none_at_end : (m : Mode) (held word : ℕ) → word ≡ mode_word m → (word ≡ 1 → held ≡ 0) →
    events_before_end m held ≡ 0
unfolding events_before_end
none_at_end Split held word is none = refl
none_at_end Buffi held word is none = none is

-- where a task that has ended goes on
pub none_before_end : (s : State) (m : Mode) → mode s ≡ mode_word m → ComesToTheEnd s →
    events_before_end m (held_count s) ≡ 0
none_before_end s m is none = none_at_end m (held_count s) (mode s) is none
