-- A raised posting moves the cursor of its device, and no other.
use Rattle.std.proofs.Common.{◌≡◌, ◌⊎◌, ℕ, zero, suc, ◌+◌, ◌<◌, ◌≤◌, ◌==◌, List, [], ◌∷◌, ◌++◌, Bool, true, false, if◌then◌else◌, refl, sym, ap, subst, ◌∙◌, arith, inl, inr, length, length-append, length-drop, length-set, drop, drop-cons, map, append_assoc, append-nil, add-one, get_or-set_same, get_or-set_other}
use Rattle.std.specs.Prelude.{slice_set}
use Rattle.std.proofs.lemmas.Bool.{cases_eq}
use Rattle.std.proofs.lemmas.List.{drop-drop, map-append}
use Rattle.std.proofs.lemmas.List.Elements.{filter-append}
use Rattle.nv_memory.proofs.Looks.{test_other}
use Rattle.serial_log.specs.declared.mark.Mark.{Mark}
use Rattle.serial_log.specs.declared.posted.Posted.{Posted as Raised}
use Rattle.serial_log.specs.declared.script.Posting.{Posting}
use Rattle.serial_log.specs.Marks.{raised_postings}
use Rattle.serial_log.specs.Scripted.{Sent, of_device, sent_as, sent_by}
use Rattle.coati_device.specs.declared.cursor.Cursor.{Cursor}
use Rattle.coati_device.specs.Cursors.{AreCursors, HasRaised, count_of, cursor_of, moved, no_cursor, no_posting, others, posting_at}
use Rattle.coati_device.proofs.Tests.{same_by_test}

-- the postings of a device among these
abbrev sent_of : ℕ → List Posting → List Sent
sent_of device postings = of_device device (map sent_by postings)

abbrev raised_of : ℕ → List Mark → List Sent
raised_of device marks = of_device device (map sent_as (raised_postings marks))

bool_cases : (b : Bool) → (b ≡ true) ⊎ (b ≡ false)
bool_cases true = inl refl
bool_cases false = inr refl

-- the postings of other devices are skipped
pub skips_none : (device : ℕ) (postings : List Posting)
    → sent_of device (drop (others device postings) postings) ≡ sent_of device postings
skips_none device [] = refl
skips_none device (first ∷ more) = elim (bool_cases (first.device == device)) [
  | inl own ↦ rw (own, own) refl
  | inr other ↦ rw (other, add-one) (skips_none device more)
]

pub counts_all : (device : ℕ) (postings : List Posting)
    → count_of device (drop (others device postings) postings) ≡ count_of device postings
counts_all device [] = refl
counts_all device (first ∷ more) = elim (bool_cases (first.device == device)) [
  | inl own ↦ rw (own, own) refl
  | inr other ↦ rw (other, add-one) (counts_all device more)
]

pub none_skipped : (device : ℕ) (postings : List Posting)
    → others device (drop (others device postings) postings) ≡ 0
none_skipped device [] = refl
none_skipped device (first ∷ more) = elim (bool_cases (first.device == device)) [
  | inl own ↦ rw (own, own) refl
  | inr other ↦ rw (other, add-one) (none_skipped device more)
]

pub skipped_few : (device : ℕ) (postings : List Posting) → others device postings ≤ length postings
skipped_few device [] = omega arith
skipped_few device (first ∷ more) = elim (bool_cases (first.device == device)) [
  | inl own ↦ rw own (omega arith)
  | inr other ↦ rw other (let few = skipped_few device more in omega (arith, few))
]

-- where a posting is left the script goes on
pub left_within : (postings : List Posting) (device at : ℕ)
    → 0 < count_of device (drop at postings) → at < length postings
left_within [] device at some = absurd (none_there at some)
  where
    none_there : (n : ℕ) → 0 < count_of device (drop n []) → ⊥
    none_there zero more = omega arith
    none_there (suc n) more = omega arith
left_within (first ∷ more) device zero some = omega arith
left_within (first ∷ more) device (suc at) some =
    let low = left_within more device at some in omega (arith, low)

-- where none is skipped the first is the device's
pub first_is_own : (device : ℕ) (first : Posting) (more : List Posting)
    → others device (first ∷ more) ≡ 0 → (first.device == device) ≡ true
first_is_own device first more none = by (first.device == device) none
  where
    by : (b : Bool) → (if b then 0 else others device more + 1) ≡ 0 → b ≡ true
    by true e = refl
    by false e = absurd (omega (arith, e))

raised_more : (device : ℕ) (raised : List Raised) (posted : Raised)
    → of_device device (map sent_as (raised ++ posted ∷ []))
    ≡ of_device device (map sent_as raised) ++ of_device device (sent_as posted ∷ [])
raised_more device raised posted =
    ap (of_device device) (map-append sent_as raised (posted ∷ []))
    ∙ filter-append (λ (one : Sent). one.device == device) (map sent_as raised)
    (sent_as posted ∷ [])

-- the next posting of a device, and what comes behind it
record IsNext (postings : List Posting) (device : ℕ) (c : Cursor) (posting : Posting)
    : Type 0 where
  rest : drop c.at postings ≡ posting ∷ drop (c.at + 1) postings
  within : c.at < length postings
  own : (posting.device == device) ≡ true
  behind : drop (moved postings device c).at postings
      ≡ drop (others device (drop (c.at + 1) postings)) (drop (c.at + 1) postings)

is_next : (postings : List Posting) (marks : List Mark) (device : ℕ) (c : Cursor)
    → HasRaised postings marks device c → 0 < c.left
    → IsNext postings device c (posting_at postings c.at)
is_next postings marks device c has some =
    let count = has.left in
    let within : c.at < length postings =
    left_within postings device c.at (omega (arith, count, some)) in
    let rest : drop c.at postings ≡ posting_at postings c.at ∷ drop (c.at + 1) postings =
    drop-cons postings c.at no_posting within
    ∙ ap (λ (n : ℕ). posting_at postings c.at ∷ drop n postings) (sym (add-one c.at)) in
    record {
      rest = rest;
      within = within;
      own =
          first_is_own device (posting_at postings c.at) (drop (c.at + 1) postings)
          (ap (others device) (sym rest) ∙ has.there);
      behind = sym (drop-drop (others device (drop (c.at + 1) postings)) (c.at + 1) postings);
    }

-- the device whose posting was raised
raises_own : (postings : List Posting) (marks more : List Mark) (device : ℕ) (c : Cursor)
    (posting : Posting) (posted : Raised)
    → HasRaised postings marks device c → IsNext postings device c posting
    → sent_as posted ≡ sent_by posting
    → raised_postings more ≡ raised_postings marks ++ posted ∷ []
    → HasRaised postings more device (moved postings device c)
raises_own postings marks more device c posting posted has next same raised =
    let behind : List Posting = drop (c.at + 1) postings in
    let own : of_device device (sent_as posted ∷ []) ≡ sent_by posting ∷ [] =
    ap (λ (one : Sent). of_device device (one ∷ [])) same ∙ rw next.own refl in
    let told : raised_of device more ≡ raised_of device marks ++ sent_by posting ∷ [] =
    ap (λ (all : List Raised). of_device device (map sent_as all)) raised
    ∙ raised_more device (raised_postings marks) posted
    ∙ ap (λ (last : List Sent). raised_of device marks ++ last) own in
    let left : sent_of device (drop c.at postings) ≡ sent_by posting ∷ sent_of device behind =
    ap (sent_of device) next.rest ∙ rw next.own refl in
    let later : sent_of device (drop (moved postings device c).at postings)
    ≡ sent_of device behind =
    ap (sent_of device) next.behind ∙ skips_none device behind in
    let counted : count_of device (drop c.at postings) ≡ suc (count_of device behind) =
    ap (count_of device) next.rest ∙ rw next.own refl in
    let done = has.done in
    let count = has.left in
    let longer = length-append (raised_of device marks) (sent_by posting ∷ []) in
    let long = ap length told in
    let within = next.within in
    let size = length-drop (c.at + 1) postings in
    let few = skipped_few device behind in
    record {
      parts =
          has.parts
          ∙ ap (λ (last : List Sent). raised_of device marks ++ last) left
          ∙ sym (append_assoc (raised_of device marks) (sent_by posting ∷ [])
          (sent_of device behind))
          ∙ ap (λ (all : List Sent). all ++ sent_of device behind) (sym told)
          ∙ ap (λ (last : List Sent). raised_of device more ++ last) (sym later);
      within = omega (arith, few, size, within);
      there = ap (others device) next.behind ∙ none_skipped device behind;
      done = omega (arith, done, long, longer);
      left =
          let all : count_of device (drop (moved postings device c).at postings)
          ≡ count_of device behind =
          ap (count_of device) next.behind ∙ counts_all device behind in
          omega (arith, all, counted, count);
    }

-- marks that tell the same of a device
stays_raised : (postings : List Posting) (marks more : List Mark) (device : ℕ) (c : Cursor)
    → HasRaised postings marks device c
    → raised_of device more ≡ raised_of device marks → HasRaised postings more device c
stays_raised postings marks more device c has same = record {
  parts =
      has.parts ∙ ap (λ (all : List Sent). all ++ sent_of device (drop c.at postings)) (sym same);
  within = has.within;
  there = has.there;
  done = has.done ∙ ap length (sym same);
  left = has.left;
}

-- another device
raises_no_other : (postings : List Posting) (marks more : List Mark) (device : ℕ) (c : Cursor)
    (posted : Raised)
    → HasRaised postings marks device c → (posted.device == device) ≡ false
    → raised_postings more ≡ raised_postings marks ++ posted ∷ []
    → HasRaised postings more device c
raises_no_other postings marks more device c posted has other raised =
    let none : of_device device (sent_as posted ∷ []) ≡ [] = rw other refl in
    stays_raised postings marks more device c has
    (ap (λ (all : List Raised). of_device device (map sent_as all)) raised
    ∙ raised_more device (raised_postings marks) posted
    ∙ ap (λ (last : List Sent). raised_of device marks ++ last) none
    ∙ append-nil (raised_of device marks))

-- marks that tell the same postings
pub cursors_stay : (postings : List Posting) (marks more : List Mark) (cursors : List Cursor)
    → raised_postings more ≡ raised_postings marks → AreCursors postings marks cursors
    → AreCursors postings more cursors
cursors_stay postings marks more cursors same are = record {
  eight = are.eight;
  each = λ device low.
      stays_raised postings marks more device (cursor_of cursors device) (are.each device low)
      (ap (λ (all : List Raised). of_device device (map sent_as all)) same);
}

-- one more posting: that of a device on which something is left
module _ (postings : List Posting) (marks more : List Mark) (cursors : List Cursor) (device : ℕ)
    (posted : Raised)
    (low : device < 8) (are : AreCursors postings marks cursors)
    (some : 0 < (cursor_of cursors device).left)
    (raised : raised_postings more ≡ raised_postings marks ++ posted ∷ []) where
  abbrev own : Cursor
  own = cursor_of cursors device

  -- the posting is the device's own
  pub next_is_own : (posting_at postings own.at).device ≡ device
  next_is_own =
      same_by_test (posting_at postings own.at).device device
      (is_next postings marks device own (are.each device low) some).own

  abbrev changed : List Cursor
  changed = slice_set cursors device (moved postings device own)

  size_same : length changed ≡ 8
  size_same = length-set cursors device (moved postings device own) ∙ are.eight

  each_changed : posted.device ≡ device → sent_as posted ≡ sent_by (posting_at postings own.at)
      → (other : ℕ) → other < 8
      → HasRaised postings more other (cursor_of changed other)
  each_changed is same other other_low = elim (cases_eq other device) [
    | inl here ↦
        let within : device < length cursors =
        (let eight = are.eight in omega (arith, eight, low)) in
        let found : cursor_of changed device ≡ moved postings device own =
        get_or-set_same cursors device (moved postings device own) no_cursor within in
        subst (λ (number : ℕ). HasRaised postings more number (cursor_of changed number))
        (sym here) (subst (HasRaised postings more device) (sym found)
        (raises_own postings marks more device own (posting_at postings own.at) posted
        (are.each device low)
        (is_next postings marks device own (are.each device low) some) same raised))
    | inr apart ↦
        let found : cursor_of changed other ≡ cursor_of cursors other =
        get_or-set_other cursors device other (moved postings device own) no_cursor apart in
        subst (HasRaised postings more other) (sym found)
        (raises_no_other postings marks more other (cursor_of cursors other) posted
        (are.each other other_low)
        (test_other posted.device other (λ e. apart (sym e ∙ is))) raised)
  ]

  pub cursors_move : posted.device ≡ device → sent_as posted ≡ sent_by (posting_at postings own.at)
      → AreCursors postings more changed
  cursors_move is same = record { eight = size_same; each = each_changed is same }
