-- Which postings are legal: how each is answered, that events are served in order, and that times
-- don't fall.
use Rattle.std.specs.Prelude.{ℕ, ◌+◌, ◌≡◌, ◌<◌, ◌≤◌, List, [], ◌∷◌, length, Option, Some, None}
use Rattle.coati_word.specs.declared.mode.Mode.{Mode}
use Rattle.task_check.specs.Numbers.{buffer_size}
use Rattle.task_syntax.specs.declared.program.Program.{Program}
use Rattle.serial_log.specs.declared.mark.Mark.{Mark}
use Rattle.serial_log.specs.declared.mark.MarkKind.{MarkKind}
use Rattle.serial_log.specs.declared.mark.MarkKind.TheVariants.{Boot, Posted, Commit}
use Rattle.serial_log.specs.declared.posted.Posted.{Posted as Raised}
use Rattle.serial_log.specs.declared.posted.Answer.{Answer}
use Rattle.serial_log.specs.declared.posted.Answer.TheVariants.{Accepted, Full, Lost}
use Rattle.serial_log.specs.declared.unit.Unit.{Unit as Committed}
use Rattle.serial_log.specs.declared.unit.Unit.TheVariants.{Event}
use Rattle.serial_log.specs.declared.held.Held.{Held}
use Rattle.serial_log.specs.Standing.{Standing, standing_of, EachMark}

-- what a history is judged by
pub record Terms : Type 0 where
  pub program : Program
  pub mode : Mode
  -- how many machine steps a handler makes at most
  pub handler : ℕ

-- the posting whose event is committed next: the oldest
abbrev pub due_posting : List Held → Option Held
due_posting [] = None
due_posting (held ∷ more) = Some held

-- A handler ran: the buffer had room, and the answer came within the handler's time.
pub record IsHandled (terms : Terms) (s : Standing) (at from : ℕ) : Type 0 where
  pub room : length s.rest < buffer_size terms.program
  pub later : from < at
  pub soon : at ≤ from + terms.handler

-- Accepted postings are numbered from 1.
pub record IsLegallyAccepted (terms : Terms) (s : Standing) (at from number : ℕ) : Type 0 where
  pub handled : IsHandled terms s at from
  pub numbered : number ≡ s.accepted + 1

-- A posting is refused at once, and only where the buffer is full.
pub record IsLegallyFull (terms : Terms) (s : Standing) (at from : ℕ) : Type 0 where
  pub full : length s.rest ≡ buffer_size terms.program
  pub at_once : at ≡ from

-- A lost posting tells the boot that comes.
pub record IsLegallyLost (terms : Terms) (s : Standing) (at from boot : ℕ) : Type 0 where
  pub handled : IsHandled terms s at from
  pub numbered : boot ≡ s.boots + 1

abbrev pub IsLegalAnswer : Terms → Standing → ℕ → ℕ → Answer → Type 0
IsLegalAnswer terms s at from (Accepted number) = IsLegallyAccepted terms s at from number
IsLegalAnswer terms s at from Full = IsLegallyFull terms s at from
IsLegalAnswer terms s at from (Lost boot) = IsLegallyLost terms s at from boot

-- A device's postings are counted from 1. None is raised before the time of a mark before it.
pub record IsLegalPost (terms : Terms) (s : Standing) (at : ℕ) (posted : Raised) : Type 0 where
  pub counted : posted.index ≡ s.raised posted.device + 1
  pub raised : s.latest ≤ posted.from
  pub answer : IsLegalAnswer terms s at posted.from posted.answer

-- The number is that of the posting whose event is due.
pub record IsDue (rest : List Held) (posting : ℕ) : Type 0 where
  pub oldest : Held
  pub due : due_posting rest ≡ Some oldest
  pub number : oldest.number ≡ posting

-- Events are committed in the order of their postings.
abbrev pub IsInOrder : List Held → ℕ → Committed → Type 0
IsInOrder rest posting (Event event) = IsDue rest posting
IsInOrder rest posting _ = Unit {0}

-- what each kind of mark tells of postings
abbrev pub KeepsOrder : Terms → Standing → ℕ → MarkKind → Type 0
KeepsOrder terms s at (Posted posted) = IsLegalPost terms s at posted
KeepsOrder terms s at (Commit committed) = IsInOrder s.rest committed.posting committed.unit
KeepsOrder terms s at _ = Unit {0}

-- the boot of this number, at the time of the mark before
pub record IsBootOf (s : Standing) (boot : ℕ) (mark : Mark) : Type 0 where
  pub boots : mark.kind ≡ Boot boot
  pub at_once : mark.at ≡ s.latest

-- A lost posting is followed at once by its boot.
abbrev pub FollowsLost : Standing → Option ℕ → Mark → Type 0
FollowsLost s None mark = Unit {0}
FollowsLost s (Some boot) mark = IsBootOf s boot mark

-- what postings ask of one mark where those before it lead
pub record KeepsPostings (terms : Terms) (s : Standing) (mark : Mark) : Type 0 where
  pub in_time : s.latest ≤ mark.at
  pub follows : FollowsLost s s.lost mark
  pub order : KeepsOrder terms s mark.at mark.kind

-- no lost posting lacks its boot
abbrev pub IsBooted : Program → List Mark → Type 0
IsBooted program marks = (standing_of program marks).lost ≡ None

-- the postings of a history are legal
pub record ArePostingsLegal (terms : Terms) (marks : List Mark) : Type 0 where
  pub each : EachMark terms.program (KeepsPostings terms) marks
  pub booted : IsBooted terms.program marks
