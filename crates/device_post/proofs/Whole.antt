-- Where a device has nothing left its whole script is raised.
use Rattle.std.proofs.Common.{◌≡◌, ℕ, ◌<◌, ◌==◌, true, List, [], ◌∷◌, ◌++◌, append-nil, drop, refl, sym, ap, ◌∙◌, arith, inl, inr, map, Option, Some, None}
use Rattle.std.specs.Prelude.{IfSome}
use Rattle.std.proofs.lemmas.Bool.{cases_Bool}
use Rattle.serial_log.specs.declared.script.Posting.{Posting}
use Rattle.serial_log.specs.Marks.{raised_postings}
use Rattle.serial_log.specs.Scripted.{Sent, of_device, sent_as, sent_by}
use Rattle.coati_device.specs.Cursors.{count_of, cursor_of}
use Rattle.coati_board.specs.Board.{Whole, first_left, left_of}
use Rattle.coati_board.specs.Postings.{ArePostingsInOrder, ArePostingsWhole, HasNoneLeft}

-- a device that has no posting among these sends nothing
none_sent : (device : ℕ) (postings : List Posting) → count_of device postings ≡ 0 →
    of_device device (map sent_by postings) ≡ []
none_sent device [] none = refl
none_sent device (posting ∷ more) none = elim (cases_Bool (posting.device == device)) [
  | inl own ↦ absurd (one_at_least own none)
  | inr other ↦ rw other (none_sent device more (rw other at none))
]
  where
    one_at_least : (posting.device == device) ≡ true → count_of device (posting ∷ more) ≡ 0 → ⊥
    one_at_least own = rw own (λ none. omega (arith, none))

pub whole_where_none_left : (board : Whole) → ArePostingsInOrder board → HasNoneLeft board →
    ArePostingsWhole board.script.postings board.device.history.marks
whole_where_none_left board order none device low =
    let has = order.each device low in
    let at : ℕ = (cursor_of board.device.cursors device).at in
    let nothing = none_sent device (drop at board.script.postings)
    (sym has.left ∙ none device low) in
    let raised : List Sent =
    of_device device (map sent_as (raised_postings board.device.history.marks)) in
    sym (has.parts ∙ ap (λ (rest : List Sent). raised ++ rest) nothing ∙ append-nil raised)

-- no posting is the first that is left
pub none_is_first : (board : Whole) (found : Option Posting) → HasNoneLeft board →
    found ≡ first_left board →
    IfSome found (λ (posting : Posting). (posting.device < 8)
    × (0 < left_of board posting.device)) → first_left board ≡ None
none_is_first board None none is can = sym is
none_is_first board (Some posting) none is can =
    let nothing = none posting.device can.0 in
    let some = can.1 in
    absurd (omega (arith, nothing, some))
