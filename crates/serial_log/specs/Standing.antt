-- What a history stands for so far: one reading of its marks from the left. It is told of all
-- marks, legal or not.
use Rattle.std.specs.Prelude.{ℕ, ◌+◌, ◌==◌, List, [], ◌∷◌, ◌++◌, Option, Some, None, if◌then◌else◌}
use Rattle.task_syntax.specs.declared.program.Program.{Program}
use Rattle.serial_log.specs.declared.mark.Mark.{Mark}
use Rattle.serial_log.specs.declared.mark.MarkKind.{MarkKind}
use Rattle.serial_log.specs.declared.mark.MarkKind.TheVariants.{Boot, Posted, Commit}
use Rattle.serial_log.specs.declared.posted.Posted.{Posted as Raised}
use Rattle.serial_log.specs.declared.posted.Answer.{Answer}
use Rattle.serial_log.specs.declared.posted.Answer.TheVariants.{Accepted, Full, Lost}
use Rattle.serial_log.specs.declared.unit.Unit.{Unit as Committed}
use Rattle.serial_log.specs.declared.unit.Unit.TheVariants.{Event}
use Rattle.serial_log.specs.declared.held.Held.{Held}
use Rattle.serial_log.specs.SerialRun.{Stand, opening_stand, behind_record}
use Rattle.serial_log.specs.Walk.{walk, Each}

pub record Standing : Type 0 where
  -- where the committed units lead
  pub run : Stand
  -- the accepted postings that are in no record, the oldest first
  pub rest : List Held
  -- how many postings were accepted
  pub accepted : ℕ
  -- how many postings each device has raised
  pub raised : ℕ → ℕ
  -- how many boots there were, and the time of the last one, 0 before the first
  pub boots : ℕ
  pub last_boot : ℕ
  -- the boot that has to follow at once, where the mark before is a lost posting
  pub lost : Option ℕ
  -- the time of the mark before, 0 before the first
  pub latest : ℕ

abbrev pub opening : Program → Standing
opening program = record {
  run = opening_stand program;
  rest = [];
  accepted = 0;
  raised = λ device. 0;
  boots = 0;
  last_boot = 0;
  lost = None;
  latest = 0;
}

-- the counts with one more for a device
abbrev pub one_more_of : ℕ → (ℕ → ℕ) → ℕ → ℕ
one_more_of device counts = λ other. if other == device then counts other + 1 else counts other

-- the postings without the one of a number
abbrev pub without : ℕ → List Held → List Held
without number [] = []
without number (held ∷ more) = if held.number == number then more else held ∷ without number more

-- what is left of the postings when a unit is committed
abbrev pub left_by : Committed → ℕ → List Held → List Held
left_by (Event event) posting rest = without posting rest
left_by _ posting rest = rest

abbrev pub after_answer : Standing → Raised → Answer → Standing
after_answer s posted (Accepted number) = record s {
  raised = one_more_of posted.device s.raised;
  rest = s.rest ++ record {
    number = number;
    event = posted.event;
    argument = posted.argument;
  } ∷ [];
  accepted = s.accepted + 1;
}
after_answer s posted Full = record s { raised = one_more_of posted.device s.raised }
after_answer s posted (Lost boot) = record s {
  raised = one_more_of posted.device s.raised;
  lost = Some boot;
}

abbrev pub after_kind : Program → Standing → ℕ → MarkKind → Standing
after_kind program s at (Boot number) = record s {
  boots = s.boots + 1;
  last_boot = at;
  lost = None;
}
after_kind program s at (Posted posted) = after_answer s posted posted.answer
after_kind program s at (Commit committed) = record s {
  run = behind_record program s.rest s.run committed;
  rest = left_by committed.unit committed.posting s.rest;
}
after_kind program s at _ = s

-- what a history stands for with one mark more
abbrev pub after_mark : Program → Standing → Mark → Standing
after_mark program s mark = let next : Standing =
    after_kind program s mark.at mark.kind in record next { latest = mark.at }

-- what a history stands for
abbrev pub standing_of : Program → List Mark → Standing
standing_of program marks = walk (after_mark program) (opening program) marks

-- its rest: the postings that are still buffered
abbrev pub rest_of : Program → List Mark → List Held
rest_of program marks = (standing_of program marks).rest

-- each mark is so where those before it lead
abbrev pub EachMark : Program → (Standing → Mark → Type 0) → List Mark → Type 0
EachMark program P marks = Each (after_mark program) P (opening program) marks
