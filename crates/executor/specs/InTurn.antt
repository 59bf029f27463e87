-- A script's postings in a history: they are raised in the script's order, each as soon as its
-- time has come and the posting before it is answered.
use Rattle.std.specs.Prelude.{ℕ, ◌<◌, ◌≡◌, max, List, [], ◌∷◌}
use Rattle.serial_log.specs.declared.mark.Mark.{Mark}
use Rattle.serial_log.specs.declared.mark.MarkKind.{MarkKind}
use Rattle.serial_log.specs.declared.mark.MarkKind.TheVariants.{Posted}
use Rattle.serial_log.specs.declared.posted.Posted.{Posted as Raised}
use Rattle.serial_log.specs.declared.script.Posting.{Posting}
use Rattle.serial_log.specs.Scripted.{sent_as, sent_by}
use Rattle.serial_log.specs.Walk.{walk, Each}

-- the postings that are left, and the time of the last answer, 0 before the first
pub record Turns : Type 0 where
  pub left : List Posting
  pub answered : ℕ

abbrev pub behind_first : List Posting → List Posting
behind_first [] = []
behind_first (posting ∷ more) = more

abbrev pub after_kind : Turns → ℕ → MarkKind → Turns
after_kind t at (Posted posted) = record { left = behind_first t.left; answered = at }
after_kind t at _ = t

abbrev pub after_mark : Turns → Mark → Turns
after_mark t mark = after_kind t mark.at mark.kind

abbrev pub all_left : List Posting → Turns
all_left postings = record { left = postings; answered = 0 }

-- what is left of a script behind marks
abbrev pub turns_of : List Posting → List Mark → Turns
turns_of postings marks = walk after_mark (all_left postings) marks

-- the posting is the first that is left, raised at the greater of its time and the answer before
-- it
pub record IsFirstLeft (t : Turns) (posted : Raised) : Type 0 where
  pub first : Posting
  pub more : List Posting
  pub left : t.left ≡ first ∷ more
  pub sent : sent_as posted ≡ sent_by first
  pub from : posted.from ≡ max first.time t.answered

abbrev pub IsInTurn : Turns → MarkKind → Type 0
IsInTurn t (Posted posted) = IsFirstLeft t posted
IsInTurn t _ = Unit {0}

-- each posting of a history is in its turn
abbrev pub ArePostingsInTurn : List Posting → List Mark → Type 0
ArePostingsInTurn postings marks =
    Each after_mark (λ t mark. IsInTurn t mark.kind) (all_left postings) marks

-- the first of these postings, if there is one, is still to come
abbrev pub IsFirstToCome : ℕ → List Posting → Type 0
IsFirstToCome clock [] = Unit {0}
IsFirstToCome clock (posting ∷ more) = clock < posting.time
