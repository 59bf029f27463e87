-- Power periods: the clock's count down to a boot, and the times at which periods end.
use Rattle.std.proofs.Common.{◌≡◌, ◌≢◌, ℕ, zero, suc, ◌+◌, ◌-◌, ◌<◌, ◌≤◌, List, [], ◌∷◌, ◌++◌, length, take, add-one, refl, ◌∙◌, ap, inl, inr, arith, true, false}
use Rattle.std.specs.Prelude.{filter, nat_le, slice_index, sum}
use Rattle.std.proofs.lemmas.Bool.Decides.{nat_tests}
use Rattle.std.proofs.lemmas.Bool.{cases_lt}
use Rattle.std.proofs.lemmas.List.{get_or_past}
use Rattle.std.proofs.lemmas.List.Elements.{All-get_or}
use Rattle.std.proofs.lemmas.List.Sums.{sum_by-cons, sum_by_more}
use Rattle.serial_log.specs.Scripted.{ends_from}
use Rattle.coati_device.specs.Laws.{ArePeriods}
use Rattle.coati_device.specs.Points.{IsTimed}

-- one period more
pub sum_more : (periods : List ℕ) (boots : ℕ) → boots < length periods
    → sum (take (boots + 1) periods) ≡ sum (take boots periods) + slice_index periods boots
sum_more periods boots low = sum_by_more (λ x. x) periods boots 0 low

-- there is a period under way where one is left
pub boots_low : (periods : List ℕ) (clock boots until : ℕ) → IsTimed periods clock boots until →
    until ≡ 1 → boots < length periods
boots_low periods clock boots until t one = elim (cases_lt boots (length periods)) [
  | inl low ↦ low
  | inr high ↦ let few = t.few in absurd (omega (arith, t.behind (omega arith)))
]

-- the next clock is the end of a period
pub ends_now : (periods : List ℕ) (clock boots until : ℕ) → IsTimed periods clock boots until →
    until ≡ 1 → clock + 1 ≡ sum (take (boots + 1) periods)
ends_now periods clock boots until t one =
    let now = t.within (boots_low periods clock boots until t one) in omega (arith, now)

-- a step within a period
pub passes : (periods : List ℕ) (clock boots until : ℕ) → IsTimed periods clock boots until →
    until ≢ 1 → IsTimed periods (clock + 1) boots (until - 1)
passes periods clock boots until t other = record {
  few = t.few;
  past = omega (arith, t.past);
  some_left = λ low. omega (arith, t.some_left low, other);
  within = λ low. omega (arith, t.some_left low, t.within low);
  behind = λ e. omega (arith, t.behind e);
}

-- a step to the end of a period
pub is_cut : (periods : List ℕ) (clock boots until : ℕ) → ArePeriods periods →
    IsTimed periods clock boots until → until ≡ 1 →
    IsTimed periods (clock + 1) (boots + 1) (slice_index periods (boots + 1))
is_cut periods clock boots until some t one =
    let low = boots_low periods clock boots until t one in
    let now = ends_now periods clock boots until t one in
    record {
      few = omega (arith, low);
      past = omega (arith, now);
      some_left = λ l. All-get_or (λ period. 1 ≤ period) periods (boots + 1) 0 l some;
      within = λ l. let more = sum_more periods (boots + 1) l in omega (arith, now, more);
      behind = λ e. get_or_past periods (boots + 1) 0 (omega (arith, e));
    }

-- a boot is later than the one before
pub is_later : (periods : List ℕ) (clock boots until : ℕ) → IsTimed periods clock boots until
    → sum (take boots periods) < clock + 1
is_later periods clock boots until t = omega (arith, t.past)

-- before the first step
pub is_timed_first : (periods : List ℕ) → ArePeriods periods →
    IsTimed periods 0 0 (slice_index periods 0)
is_timed_first periods some = record {
  few = omega arith;
  past = omega arith;
  some_left = λ low. All-get_or (λ period. 1 ≤ period) periods 0 0 low some;
  within = λ low. let more = sum_more periods 0 low in omega (arith, more);
  behind = λ e. get_or_past periods 0 0 (omega (arith, e));
}

take_ends_suc : (start boots : ℕ) (periods : List ℕ) → boots < length periods
    → take (suc boots) (ends_from start periods)
    ≡ take boots (ends_from start periods) ++ (start + sum (take (suc boots) periods)) ∷ []
take_ends_suc start boots [] low = absurd (omega arith)
take_ends_suc start zero (period ∷ more) low =
    ap (λ (end : ℕ). (start + end) ∷ []) (let e : period ≡ 0 + period = omega arith in e)
take_ends_suc start (suc boots) (period ∷ more) low =
    let rest = take_ends_suc (start + period) boots more (omega arith) in
    let first = sum_by-cons (λ x. x) period (take (suc boots) more) in
    let same : start + period + sum (take (suc boots) more)
    ≡ start + sum (take (suc (suc boots)) (period ∷ more)) =
    omega (arith, first) in
    ap (λ (ends : List ℕ). (start + period) ∷ ends) rest
    ∙ ap (λ (end : ℕ).
    (start + period) ∷ (take boots (ends_from (start + period) more) ++ end ∷ [])) same

-- the first ends, and one more
pub take_ends : (boots : ℕ) (periods : List ℕ) → boots < length periods
    → take (boots + 1) (ends_from 0 periods)
    ≡ take boots (ends_from 0 periods) ++ sum (take (boots + 1) periods) ∷ []
take_ends boots periods low =
    let end : 0 + sum (take (suc boots) periods) ≡ sum (take (suc boots) periods) = omega arith in
    rw add-one (take_ends_suc 0 boots periods low
    ∙ ap (λ (x : ℕ). take boots (ends_from 0 periods) ++ x ∷ []) end)

-- no period behind has ended
none_ended : (start clock : ℕ) (periods : List ℕ) → clock < start
    → filter (λ end. nat_le end clock) (ends_from start periods) ≡ []
none_ended start clock [] early = refl
none_ended start clock (period ∷ more) early =
    let late : nat_le (start + period) clock ≡ false = grind (arith, nat_tests) in
    rw late (none_ended (start + period) clock more (omega arith))

ends_by_from : (start clock boots : ℕ) (periods : List ℕ) → boots ≤ length periods
    → start + sum (take boots periods) ≤ clock
    → (boots < length periods → clock < start + sum (take (suc boots) periods))
    → filter (λ end. nat_le end clock) (ends_from start periods)
    ≡ take boots (ends_from start periods)
ends_by_from start clock zero [] few past next = refl
ends_by_from start clock (suc boots) [] few past next = absurd (omega arith)
ends_by_from start clock zero (period ∷ more) few past next =
    let soon : clock < start + sum (take (suc zero) (period ∷ more)) = next (omega arith) in
    let late : nat_le (start + period) clock ≡ false = grind (arith, nat_tests, soon) in
    rw late (none_ended (start + period) clock more (omega arith))
ends_by_from start clock (suc boots) (period ∷ more) few past next =
    let here = sum_by-cons (λ x. x) period (take boots more) in
    let then = sum_by-cons (λ x. x) period (take (suc boots) more) in
    let over : nat_le (start + period) clock ≡ true = grind (arith, nat_tests, here) in
    rw over (ap (λ (ends : List ℕ). (start + period) ∷ ends)
    (ends_by_from (start + period) clock boots more (omega arith) (omega (arith, here))
    (λ low. omega (arith, next (omega arith), then))))

-- the ends up to the clock are those of the periods that are over
pub ends_by : (periods : List ℕ) (clock boots until : ℕ) → IsTimed periods clock boots until
    → filter (λ end. nat_le end clock) (ends_from 0 periods) ≡ take boots (ends_from 0 periods)
ends_by periods clock boots until t =
    ends_by_from 0 clock boots periods t.few (omega (arith, t.past)) (λ low.
    let some = t.some_left low in
    let now : clock + until ≡ sum (take (suc boots) periods) =
    t.within low ∙ ap (λ (n : ℕ). sum (take n periods)) (add-one boots) in
    omega (arith, some, now))
