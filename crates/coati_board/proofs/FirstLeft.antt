-- The first posting of the script that is left: it stands at the least place of a device.
use Rattle.std.proofs.Common.{◌≡◌, ◌⊎◌, inl, inr, ℕ, zero, suc, ◌<◌, ◌≤◌, ◌==◌, List, [], ◌∷◌, true, length, drop, drop-cons, min, refl, sym, ap, subst, ◌∙◌, arith, Some, None, Option}
use Rattle.std.specs.Prelude.{IfNone, IfSome, slice_get}
use Rattle.std.proofs.lemmas.Bool.{cases_lt}
use Rattle.std.proofs.lemmas.Option.{get_or_from_slice_get, slice_get-get_or, slice_get_within}
use Rattle.serial_log.specs.declared.mark.Mark.{Mark}
use Rattle.serial_log.specs.declared.script.Posting.{Posting}
use Rattle.coati_device.specs.declared.cursor.Cursor.{Cursor}
use Rattle.coati_device.specs.Cursors.{AreCursors, HasRaised, count_of, cursor_of, no_posting, others}
use Rattle.coati_device.proofs.CursorMoves.{first_is_own, left_within}
use Rattle.coati_device.proofs.Tests.{same_by_test}
use Rattle.coati_board.specs.Cursors.{first_place}

-- the least place is the end, or that of a device
place_from : (cursors : List Cursor) (end : ℕ) →
    (first_place cursors end ≡ end) ⊎
    ((i : ℕ) × (i < length cursors) × ((cursor_of cursors i).at ≡ first_place cursors end))
place_from [] end = inl refl
place_from (cursor ∷ more) end = elim (place_from more (min end cursor.at)) [
  | inl e ↦ elim (cases_lt cursor.at end) [
    | inl low ↦ inr (0, omega arith, omega (arith, e))
    | inr high ↦ inl (omega (arith, e))
  ]
  | inr found ↦ inr (suc found.0, (let low = found.1 in omega (arith, low)), found.2)
]

-- a posting that is left is one of its device, which has some left
pub record IsLeft (cursors : List Cursor) (posting : Posting) : Type 0 where
  pub device : posting.device < 8
  pub some : 0 < (cursor_of cursors posting.device).left

count_some : (device : ℕ) (posting : Posting) (more : List Posting) →
    (posting.device == device) ≡ true → 0 < count_of device (posting ∷ more)
count_some device posting more own = rw own (omega arith)

left_at : (postings : List Posting) (marks : List Mark) (cursors : List Cursor) (posting : Posting)
    (device at : ℕ) → device < 8 →
    HasRaised postings marks device (cursor_of cursors device) →
    (cursor_of cursors device).at ≡ at → slice_get postings at ≡ Some posting →
    IsLeft cursors posting
left_at postings marks cursors posting device at low has at_is found =
    let within = slice_get_within postings at posting found in
    let rest : drop at postings ≡ posting ∷ drop (suc at) postings =
    drop-cons postings at no_posting within
    ∙ ap (λ (first : Posting). first ∷ drop (suc at) postings)
    (get_or_from_slice_get postings at posting no_posting found) in
    let there : others device (posting ∷ drop (suc at) postings) ≡ 0 =
    ap (others device) (sym rest) ∙ ap (λ (n : ℕ). others device (drop n postings)) (sym at_is)
    ∙ has.there in
    let own = first_is_own device posting (drop (suc at) postings) there in
    let same : posting.device ≡ device = same_by_test posting.device device own in
    let count : (cursor_of cursors device).left ≡ count_of device
    (posting ∷ drop (suc at) postings) =
    has.left ∙ ap (λ (n : ℕ). count_of device (drop n postings)) at_is ∙ ap (count_of device)
    rest in
    let some = count_some device posting (drop (suc at) postings) own in
    record {
      device = omega (arith, same, low);
      some = subst (λ (n : ℕ). 0 < (cursor_of cursors n).left) (sym same)
          (omega (arith, count, some));
    }

pub first_is_left : (postings : List Posting) (marks : List Mark) (cursors : List Cursor)
    (posting : Posting) → AreCursors postings marks cursors →
    slice_get postings (first_place cursors (length postings)) ≡ Some posting →
    IsLeft cursors posting
first_is_left postings marks cursors posting are found =
    elim (place_from cursors (length postings)) [
      | inl end ↦ absurd (let within =
          slice_get_within postings (first_place cursors (length postings)) posting found in
          omega (arith, within, end))
      | inr device ↦
          let eight = are.eight in
          let low : device.0 < 8 = (let few = device.1 in omega (arith, few, eight)) in
          left_at postings marks cursors posting device.0 (first_place cursors (length postings)) low
          (are.each device.0 low) device.2 found
    ]

-- so is what is answered
pub some_is_left : (postings : List Posting) (marks : List Mark) (cursors same : List Cursor)
    (found : Option Posting) → cursors ≡ same →
    AreCursors postings marks cursors →
    found ≡ slice_get postings (first_place cursors (length postings)) →
    IfSome found (λ (posting : Posting). (posting.device < 8)
    × (0 < (cursor_of same posting.device).left))
some_is_left postings marks cursors same None same_is are is = tt
some_is_left postings marks cursors same (Some posting) same_is are is =
    let left = first_is_left postings marks cursors posting are (sym is) in (
      left.device,
      subst (λ (all : List Cursor). 0 < (cursor_of all posting.device).left) same_is
          left.some,
    )

place_below_end : (cursors : List Cursor) (end : ℕ) → first_place cursors end ≤ end
place_below_end [] end = omega arith
place_below_end (cursor ∷ more) end =
    let below = place_below_end more (min end cursor.at) in omega (arith, below)

-- the least place is below that of each device
place_below : (cursors : List Cursor) (end i : ℕ) → i < length cursors →
    first_place cursors end ≤ (cursor_of cursors i).at
place_below [] end i within = absurd (omega (arith, within))
place_below (cursor ∷ more) end zero within =
    let below = place_below_end more (min end cursor.at) in omega (arith, below)
place_below (cursor ∷ more) end (suc i) within =
    place_below more (min end cursor.at) i (omega (arith, within))

-- where there is no such posting no device has one left
pub none_is_left : (postings : List Posting) (marks : List Mark) (cursors : List Cursor) →
    AreCursors postings marks cursors →
    slice_get postings (first_place cursors (length postings)) ≡ None →
    (device : ℕ) → device < 8 → (cursor_of cursors device).left ≡ 0
none_is_left postings marks cursors are none device low =
    elim (cases_lt 0 (cursor_of cursors device).left) [
      | inl some ↦
          let has = are.each device low in
          let count = has.left in
          let eight = are.eight in
          let within = left_within postings device (cursor_of cursors device).at
          (omega (arith, some, count)) in
          let least = place_below cursors (length postings) device (omega (arith, low, eight)) in
          absurd (
          let found = slice_get-get_or postings (first_place cursors (length postings)) no_posting
          (omega (arith, within, least)) in
          let both = sym found ∙ none in cc
          )
      | inr few ↦ omega (arith, few)
    ]

-- so is what is answered
pub none_is_answered : (postings : List Posting) (marks : List Mark) (cursors same : List Cursor)
    (found : Option Posting) → cursors ≡ same → AreCursors postings marks cursors →
    found ≡ slice_get postings (first_place cursors (length postings)) →
    IfNone found ((device : ℕ) → device < 8 → (cursor_of same device).left ≡ 0)
none_is_answered postings marks cursors same None same_is are is =
    subst (λ (all : List Cursor). (device : ℕ) → device < 8 → (cursor_of all device).left ≡ 0)
    same_is (none_is_left postings marks cursors are (sym is))
none_is_answered postings marks cursors same (Some posting) same_is are is = tt
