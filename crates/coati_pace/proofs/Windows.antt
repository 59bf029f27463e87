-- Stretches of a history that are left alone.
use Rattle.std.proofs.Common.{◌≡◌, ℕ, suc, ◌<◌, ◌≤◌, ◌⊎◌, inl, inr, List, [], ◌∷◌, ◌++◌, refl, arith, true, false, Bool, nat_lt, if◌then◌else◌}
use Rattle.std.specs.List.{All, Any, Contains}
use Rattle.std.proofs.lemmas.List.Elements.{All-head, All-tail, Contains-append_left, Contains-append_right}
use Rattle.std.proofs.lemmas.List.Quantifiers.{Any-push}
use Rattle.std.proofs.lemmas.Bool.{ltb-true, cases_lt}
use Rattle.std.proofs.lemmas.Grind.{flat_map-append}
use Rattle.serial_log.specs.declared.mark.Mark.{Mark}
use Rattle.serial_log.specs.declared.mark.MarkKind.{MarkKind}
use Rattle.serial_log.specs.declared.mark.MarkKind.TheVariants.{Boot, Posted, Done, Commit, Abort, End}
use Rattle.serial_log.specs.declared.posted.Posted.{Posted as Raised}
use Rattle.serial_log.specs.declared.unit.Unit.{Unit as Committed}
use Rattle.serial_log.specs.declared.unit.Unit.TheVariants.{Event, Task, Transaction}
use Rattle.serial_log.specs.Marks.{boot_times, boot_times_by}
use Rattle.serial_log.specs.Progresses.{ComesFurther, EndsTask, IsLeftAlone, IsOfTasks, IsStepOfHandler}
use Rattle.serial_log.specs.Walk.{walk}
use Rattle.coati_pace.specs.Pace.{counted_by, counted_unit}

-- the predicates are written out, since a tactic doesn't find them
abbrev pub IsBefore : ℕ → Mark → Type 0
IsBefore until mark = mark.at < until

abbrev pub IsBy : ℕ → Mark → Type 0
IsBy until mark = mark.at ≤ until

abbrev pub HasStep : ℕ → Mark → Type 0
HasStep step mark = IsStepOfHandler step mark.at mark.kind

abbrev pub count : ℕ → Mark → ℕ
count last mark = counted_by last mark.at mark.kind

pub any_there : (P : Mark → Type 0) (x : Mark) (xs : List Mark) → Any P xs → Any P (x ∷ xs)
any_there P x xs a = (suc a.0, a.1, omega (arith, a.2), a.3, a.4)

pub any_here : (P : Mark → Type 0) (x : Mark) (xs : List Mark) → P x → Any P (x ∷ xs)
any_here P x xs p = (0, x, omega arith, refl, p)

pub any_more : (P : Mark → Type 0) (xs ys : List Mark) → Any P xs → Any P (xs ++ ys)
any_more P xs ys a =
    let z = Contains-append_left xs ys a.1 (a.0, a.2, a.3) in
    (z.0, a.1, z.1, z.2, a.4)

boots_more : (xs ys : List Mark) (at : ℕ) → Contains (boot_times xs) at →
    Contains (boot_times (xs ++ ys)) at
boots_more xs ys at has =
    rw (flat_map-append (λ (mark : Mark). boot_times_by mark.at mark.kind) xs ys)
    (Contains-append_left (boot_times xs) (boot_times ys) at has)

-- what is left alone with a mark more was so without it
pub alone_before : (from to : ℕ) (marks : List Mark) (mark : Mark) →
    IsLeftAlone from to (marks ++ mark ∷ []) → IsLeftAlone from to marks
alone_before from to marks mark alone = record {
  no_boot = λ at has. alone.no_boot at (boots_more marks (mark ∷ []) at has);
  no_handler = λ step has. alone.no_handler step
      (any_more (HasStep step) marks (mark ∷ []) has);
}

alone_behind : (from to : ℕ) (mark : Mark) (more : List Mark) →
    IsLeftAlone from to (mark ∷ more) → IsLeftAlone from to more
alone_behind from to mark more alone = record {
  no_boot = λ at has. alone.no_boot at
      (Contains-append_right (boot_times_by mark.at mark.kind) (boot_times more) at has);
  no_handler = λ step has. alone.no_handler step (any_there (HasStep step) mark more has);
}

-- no stretch that ends in a handler is left alone
pub in_handler : (from to clock : ℕ) (marks : List Mark) (posted : Raised) → posted.from < to →
    to ≤ clock → from < to →
    IsLeftAlone from to (marks ++ record { at = clock; kind = Posted posted } ∷ []) → ⊥
in_handler from to clock marks posted begun within some alone =
    alone.no_handler to
    (Any-push (HasStep to) marks (record { at = clock; kind = Posted posted }) (begun, within))
    some (omega arith)

posted_low : (last from to at : ℕ) (posted : Raised) (more : List Mark) (made : Bool) →
    nat_lt posted.from at ≡ made → last ≤ from → at < to →
    IsLeftAlone from to (record { at = at; kind = Posted posted } ∷ more) →
    (if made then at else last) ≤ from
posted_low last from to at posted more false is low before alone = low
posted_low last from to at posted more true is low before alone =
    let begun : posted.from < at = ltb-true posted.from at is in
    let mark : Mark = record { at = at; kind = Posted posted } in
    elim (cases_lt from at) [
      | inl later ↦ absurd (alone.no_handler at
          (any_here (HasStep at) mark more (begun, omega arith)) later (omega (arith, before)))
      | inr low ↦ low
    ]

boot_low : (from to at number : ℕ) (more : List Mark) → at < to →
    IsLeftAlone from to (record { at = at; kind = Boot number } ∷ more) → at ≤ from
boot_low from to at number more before alone =
    elim (cases_lt from at) [
      | inl later ↦ absurd (alone.no_boot at (0, omega arith, refl) later before)
      | inr low ↦ low
    ]

end_low : (from to : ℕ) (mark : Mark) → mark.at < to → EndsTask mark.kind →
    (mark.at ≤ from) ⊎ ComesFurther from to mark
end_low from to mark before ends = elim (cases_lt from mark.at) [
  | inl later ↦ inr (record { behind = later; up_to = omega arith; ends = ends })
  | inr low ↦ inl low
]

unit_counts : (last at : ℕ) (unit : Committed) →
    (counted_unit unit last at ≡ last) ⊎ ((counted_unit unit last at ≡ at) × IsOfTasks unit)
unit_counts last at (Event event) = inl refl
unit_counts last at (Task task) = inr (refl, tt)
unit_counts last at (Transaction transaction) = inr (refl, tt)

counted_low : (last from to at : ℕ) (kind : MarkKind) (more : List Mark) → last ≤ from →
    at < to → IsLeftAlone from to (record { at = at; kind = kind } ∷ more) →
    (counted_by last at kind ≤ from) ⊎ ComesFurther from to (record { at = at; kind = kind })
counted_low last from to at (Boot number) more low before alone =
    inl (boot_low from to at number more before alone)
counted_low last from to at (Posted posted) more low before alone =
    inl (posted_low last from to at posted more (nat_lt posted.from at) refl low before alone)
counted_low last from to at (Done task) more low before alone =
    end_low from to (record { at = at; kind = Done task }) before tt
counted_low last from to at (Commit committed) more low before alone =
    elim (unit_counts last at committed.unit) [
      | inl same ↦ inl (omega (arith, same, low))
      | inr counts ↦
          elim (end_low from to (record { at = at; kind = Commit committed }) before counts.1) [
            | inl z ↦ inl (omega (arith, counts.0, z))
            | inr z ↦ inr z
          ]
    ]
counted_low last from to at (Abort aborted) more low before alone = inl low
counted_low last from to at (End ended) more low before alone = inl low

-- in a stretch that is left alone the last mark that counts lies before it, or a task ends in it
pub last_low : (from to last : ℕ) (marks : List Mark) → last ≤ from →
    All (IsBefore to) marks → IsLeftAlone from to marks →
    (walk count last marks ≤ from) ⊎ Any (ComesFurther from to) marks
last_low from to last [] low before alone = inl low
last_low from to last (mark ∷ more) low before alone =
    let first : mark.at < to = All-head (IsBefore to) mark more before in
    elim (counted_low last from to mark.at mark.kind more low first alone) [
      | inl z ↦ elim (last_low from to (count last mark) more z
          (All-tail (IsBefore to) mark more before) (alone_behind from to mark more alone)) [
            | inl z ↦ inl z
            | inr z ↦ inr (any_there (ComesFurther from to) mark more z)
          ]
      | inr here ↦ inr (any_here (ComesFurther from to) mark more here)
    ]
