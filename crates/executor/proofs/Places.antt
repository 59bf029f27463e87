-- Where the devices are in a script whose first postings were raised.
use Rattle.std.proofs.Common.{◌≡◌, ◌≢◌, ℕ, zero, suc, ◌+◌, ◌<◌, ◌≤◌, List, [], ◌∷◌, refl, sym, ap, ◌∙◌, subst, arith, inl, inr, length, length-set, drop, drop-cons, add-one, get_or-set_same, get_or-set_other}
use Rattle.std.specs.Prelude.{min, slice_set}
use Rattle.std.proofs.lemmas.Bool.{cases_eq, cases_lt}
use Rattle.nv_memory.proofs.Looks.{test_other, test_same}
use Rattle.serial_log.specs.declared.script.Posting.{Posting}
use Rattle.coati_device.specs.declared.cursor.Cursor.{Cursor}
use Rattle.coati_device.specs.Cursors.{cursor_of, first_cursor, moved, no_cursor, no_posting, others, posting_at}
use Rattle.coati_board.specs.Cursors.{first_cursors, first_place}

-- so many postings were raised, and each device is at its first one behind them
pub record AreBehind (postings : List Posting) (raised : ℕ) (cursors : List Cursor) : Type 0 where
  pub eight : length cursors ≡ 8
  pub each : (device : ℕ) → device < 8
      → (cursor_of cursors device).at ≡ raised + others device (drop raised postings)

-- the postings are of the eight devices
abbrev pub AreOfDevices : List Posting → Type 0
AreOfDevices postings =
    (place : ℕ) → place < length postings → (posting_at postings place).device < 8

pub first_of_rest : (postings : List Posting) (raised : ℕ) → raised < length postings
    → drop raised postings ≡ posting_at postings raised ∷ drop (raised + 1) postings
first_of_rest postings raised low =
    drop-cons postings raised no_posting low
    ∙ ap (λ (n : ℕ). posting_at postings raised ∷ drop n postings) (sym (add-one raised))

-- the next posting's own device is at it
pub own_place : (postings : List Posting) (raised : ℕ) (cursors : List Cursor)
    → AreOfDevices postings → AreBehind postings raised cursors → raised < length postings
    → (cursor_of cursors (posting_at postings raised).device).at ≡ raised
own_place postings raised cursors low are within =
    let device = (posting_at postings raised).device in
    let none : others device (drop raised postings) ≡ 0 =
    ap (others device) (first_of_rest postings raised within)
    ∙ rw (test_same device device refl) refl in
    let at = are.each device (low raised within) in
    omega (arith, at, none)

-- another device skips it
one_more_skipped : (postings : List Posting) (raised device : ℕ) → raised < length postings
    → (posting_at postings raised).device ≢ device
    → others device (drop raised postings) ≡ others device (drop (raised + 1) postings) + 1
one_more_skipped postings raised device within other =
    ap (others device) (first_of_rest postings raised within)
    ∙ rw (test_other (posting_at postings raised).device device other) refl

least_low : (cursors : List Cursor) (end : ℕ) → first_place cursors end ≤ end
least_low [] end = omega arith
least_low (cursor ∷ more) end =
    let low = least_low more (min end cursor.at) in
    omega (arith, low)

least_below : (cursors : List Cursor) (end device : ℕ) → device < length cursors
    → first_place cursors end ≤ (cursor_of cursors device).at
least_below [] end device low = absurd (omega (arith, low))
least_below (cursor ∷ more) end zero low =
    let l = least_low more (min end cursor.at) in
    omega (arith, l)
least_below (cursor ∷ more) end (suc device) low =
    least_below more (min end cursor.at) device (omega (arith, low))

-- all places are from here on
least_above : (cursors : List Cursor) (end from : ℕ) → from ≤ end
    → ((device : ℕ) → device < length cursors → from ≤ (cursor_of cursors device).at)
    → from ≤ first_place cursors end
least_above [] end from low each = low
least_above (cursor ∷ more) end from low each =
    let first = each 0 (omega arith) in
    least_above more (min end cursor.at) from (omega (arith, low, first))
    (λ device l. each (suc device) (omega (arith, l)))

-- the least place is that of the first posting behind them
pub least_is : (postings : List Posting) (raised : ℕ) (cursors : List Cursor)
    → AreOfDevices postings → AreBehind postings raised cursors → raised ≤ length postings
    → first_place cursors (length postings) ≡ raised
least_is postings raised cursors low are few =
    let eight = are.eight in
    let above = least_above cursors (length postings) raised few
    (λ device l. (let at = are.each device (omega (arith, l, eight)) in omega (arith, at))) in
    elim (cases_lt raised (length postings)) [
      | inl within ↦
          let at = own_place postings raised cursors low are within in
          let device_low = low raised within in
          let below =
          least_below cursors (length postings) (posting_at postings raised).device
          (omega (arith, device_low, eight)) in
          omega (arith, above, below, at)
      | inr all ↦
          let below = least_low cursors (length postings) in
          omega (arith, above, below, all)
    ]

-- one posting more
module _ (postings : List Posting) (raised : ℕ) (cursors : List Cursor)
    (low : AreOfDevices postings) (are : AreBehind postings raised cursors)
    (within : raised < length postings) where
  abbrev own : ℕ
  own = (posting_at postings raised).device

  abbrev next : Cursor
  next = moved postings own (cursor_of cursors own)

  abbrev changed : List Cursor
  changed = slice_set cursors own next

  -- where a device is at its first posting behind them
  abbrev place_of : ℕ → ℕ
  place_of device = (raised + 1) + others device (drop (raised + 1) postings)

  each_behind : (device : ℕ) → device < 8 → (cursor_of changed device).at ≡ place_of device
  each_behind device device_low = elim (cases_eq device own) [
    | inl here ↦
        let inside : own < length cursors =
        (let eight = are.eight in let l = low raised within in omega (arith, eight, l)) in
        let behind = λ (n : ℕ). (n + 1) + others own (drop (n + 1) postings) in
        subst (λ (n : ℕ). (cursor_of changed n).at ≡ place_of n) (sym here)
        (ap (λ (c : Cursor). c.at) (get_or-set_same cursors own next no_cursor inside)
        ∙ ap behind (own_place postings raised cursors low are within))
    | inr apart ↦
        let at = are.each device device_low in
        let skipped = one_more_skipped postings raised device within (λ e. apart (sym e)) in
        let still : (cursor_of cursors device).at ≡ place_of device = omega (arith, at, skipped) in
        ap (λ (c : Cursor). c.at) (get_or-set_other cursors own device next no_cursor apart)
        ∙ still
  ]

  pub behind_one_more : AreBehind postings (raised + 1) changed
  behind_one_more = record {
    eight = length-set cursors own next ∙ are.eight;
    each = each_behind;
  }

first_of : (postings : List Posting) (device : ℕ) → device < 8
    → cursor_of (first_cursors postings) device ≡ first_cursor postings device
first_of postings zero low = refl
first_of postings (suc zero) low = refl
first_of postings (suc (suc zero)) low = refl
first_of postings (suc (suc (suc zero))) low = refl
first_of postings (suc (suc (suc (suc zero)))) low = refl
first_of postings (suc (suc (suc (suc (suc zero))))) low = refl
first_of postings (suc (suc (suc (suc (suc (suc zero)))))) low = refl
first_of postings (suc (suc (suc (suc (suc (suc (suc zero))))))) low = refl
first_of postings (suc (suc (suc (suc (suc (suc (suc (suc n)))))))) low =
    absurd (omega (arith, low))

-- none was raised
pub behind_none : (postings : List Posting) → AreBehind postings 0 (first_cursors postings)
behind_none postings = record {
  eight = refl;
  each = λ device low.
      ap (λ (c : Cursor). c.at) (first_of postings device low)
      ∙ (let none : others device postings ≡ 0 + others device postings = omega arith in none);
}
