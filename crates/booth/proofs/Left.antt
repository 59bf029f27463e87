-- How many postings are left behind the acts of a board.
use Rattle.std.proofs.Common.{◌≡◌, ℕ, zero, suc, ◌+◌, ◌<◌, ◌≤◌, ◌==◌, true, false, List, [], ◌∷◌, refl, sym, ap, ◌∙◌, subst, arith, inl, inr, length}
use Rattle.std.proofs.lemmas.Bool.{cases_Bool, cases_eq}
use Rattle.nv_memory.proofs.Looks.{test_other}
use Rattle.serial_log.specs.declared.posted.Answer.{Answer}
use Rattle.serial_log.specs.declared.script.Posting.{Posting}
use Rattle.coati_device.specs.declared.cursor.Cursor.{Cursor}
use Rattle.coati_device.specs.Cursors.{count_of, cursor_of}
use Rattle.coati_device.proofs.Tests.{same_by_test}
use Rattle.coati_board.specs.Board.{Whole, left_of}
use Rattle.coati_board.specs.Cursors.{first_cursors}
use Rattle.coati_board.specs.Postings.{RaisesNext, RaisesNone}
use Rattle.booth.specs.Left.{left_below, left_in_all}

pub left_stays : (old new : Whole) → RaisesNone old new → (n : ℕ) →
    left_below new n ≡ left_below old n
unfolding left_below
left_stays old new none zero = refl
left_stays old new none (suc n) =
    let below = left_stays old new none n in
    let here = none.left n in
    omega (arith, below, here)

-- the devices below the one that raises
below_stays : (old new : Whole) (device : ℕ) (answer : Answer) →
    RaisesNext old device new answer → (n : ℕ) → n ≤ device →
    left_below new n ≡ left_below old n
unfolding left_below
below_stays old new device answer next zero within = refl
below_stays old new device answer next (suc n) within =
    let below = below_stays old new device answer next n (omega (arith, within)) in
    let here = next.others n (λ same. omega (arith, within, same)) in
    omega (arith, below, here)

pub left_falls : (old new : Whole) (device : ℕ) (answer : Answer) →
    RaisesNext old device new answer → (n : ℕ) → device < n →
    left_below new n + 1 ≡ left_below old n
unfolding left_below
left_falls old new device answer next zero within = absurd (omega (arith, within))
left_falls old new device answer next (suc n) within = elim (cases_eq n device) [
  | inl same ↦
      let below = below_stays old new device answer next n (omega (arith, same)) in
      let here : left_of new n + 1 ≡ left_of old n =
      subst (λ (d : ℕ). left_of new d + 1 ≡ left_of old d) (sym same) next.left in
      omega (arith, below, here)
  | inr apart ↦
      let below = left_falls old new device answer next n (omega (arith, within, apart)) in
      let here = next.others n apart in
      omega (arith, below, here)
]

-- what one device has left counts
pub left_counts : (board : Whole) (device n : ℕ) → device < n →
    left_of board device ≤ left_below board n
unfolding left_below
left_counts board device zero within = absurd (omega (arith, within))
left_counts board device (suc n) within = elim (cases_eq n device) [
  | inl same ↦
      let here : left_of board n ≡ left_of board device = ap (left_of board) same in
      omega (arith, here)
  | inr apart ↦
      let below = left_counts board device n (omega (arith, within, apart)) in
      omega (arith, below)
]

-- where no device has one left none is
pub none_in_all : (board : Whole) → ((device : ℕ) → device < 8 → left_of board device ≡ 0) →
    (n : ℕ) → n ≤ 8 → left_below board n ≡ 0
unfolding left_below
none_in_all board none zero within = refl
none_in_all board none (suc n) within =
    let below = none_in_all board none n (omega (arith, within)) in
    let here = none n (omega (arith, within)) in
    omega (arith, below, here)

-- how many postings the first so many devices have
unfoldable pub counts_below : List Posting → ℕ → ℕ
counts_below postings zero = 0
counts_below postings (suc n) = counts_below postings n + count_of n postings

counts_of_none : (n : ℕ) → counts_below [] n ≡ 0
unfolding counts_below
counts_of_none zero = refl
counts_of_none (suc n) = let below = counts_of_none n in omega (arith, below)

-- a posting counts for its own device alone
count_here : (posting : Posting) (more : List Posting) (n : ℕ) → (posting.device == n) ≡ true →
    count_of n (posting ∷ more) ≡ count_of n more + 1
count_here posting more n own = rw own (omega arith)

count_apart : (posting : Posting) (more : List Posting) (n : ℕ) →
    (posting.device == n) ≡ false → count_of n (posting ∷ more) ≡ count_of n more
count_apart posting more n other = rw other refl

counts_before : (posting : Posting) (more : List Posting) (n : ℕ) → n ≤ posting.device →
    counts_below (posting ∷ more) n ≡ counts_below more n
unfolding counts_below
counts_before posting more zero within = refl
counts_before posting more (suc n) within =
    let below = counts_before posting more n (omega (arith, within)) in
    let here = count_apart posting more n
    (test_other posting.device n (λ same. omega (arith, within, same))) in
    omega (arith, below, here)

counts_one_more : (posting : Posting) (more : List Posting) (n : ℕ) →
    counts_below (posting ∷ more) n ≤ counts_below more n + 1
unfolding counts_below
counts_one_more posting more zero = omega arith
counts_one_more posting more (suc n) = elim (cases_Bool (posting.device == n)) [
  | inl own ↦
      let same : posting.device ≡ n = same_by_test posting.device n own in
      let below = counts_before posting more n (omega (arith, same)) in
      let here = count_here posting more n own in
      omega (arith, below, here)
  | inr other ↦
      let below = counts_one_more posting more n in
      let here = count_apart posting more n other in
      omega (arith, below, here)
]

counts_few : (postings : List Posting) (n : ℕ) → counts_below postings n ≤ length postings
counts_few [] n = let none = counts_of_none n in omega (arith, none)
counts_few (posting ∷ more) n =
    let few = counts_few more n in
    let one = counts_one_more posting more n in
    omega (arith, few, one)

-- at first each device has all its postings left
left_at_first : (postings : List Posting) (device : ℕ) → device < 8 →
    (cursor_of (first_cursors postings) device).left ≡ count_of device postings
left_at_first postings zero low = refl
left_at_first postings (suc zero) low = refl
left_at_first postings (suc (suc zero)) low = refl
left_at_first postings (suc (suc (suc zero))) low = refl
left_at_first postings (suc (suc (suc (suc zero)))) low = refl
left_at_first postings (suc (suc (suc (suc (suc zero))))) low = refl
left_at_first postings (suc (suc (suc (suc (suc (suc zero)))))) low = refl
left_at_first postings (suc (suc (suc (suc (suc (suc (suc zero))))))) low = refl
left_at_first postings (suc (suc (suc (suc (suc (suc (suc (suc n)))))))) low =
    absurd (omega (arith, low))

left_counted : (board : Whole) → board.device.cursors ≡ first_cursors board.script.postings →
    (n : ℕ) → n ≤ 8 → left_below board n ≡ counts_below board.script.postings n
unfolding left_below counts_below
left_counted board first zero within = refl
left_counted board first (suc n) within =
    let below = left_counted board first n (omega (arith, within)) in
    let here : left_of board n ≡ count_of n board.script.postings =
    ap (λ (cursors : List Cursor). (cursor_of cursors n).left) first
    ∙ left_at_first board.script.postings n (omega (arith, within)) in
    omega (arith, below, here)

-- no more are left than the script has
pub few_left : (board : Whole) → board.device.cursors ≡ first_cursors board.script.postings →
    left_in_all board ≤ length board.script.postings
few_left board first =
    let all = left_counted board first 8 (omega arith) in
    let few = counts_few board.script.postings 8 in
    omega (arith, all, few)
