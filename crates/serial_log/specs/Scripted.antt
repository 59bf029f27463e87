-- What the script and the clock show of a history: its postings are the script's, and its boots
-- are at the power's ends.
use Rattle.std.specs.Prelude.{ℕ, ◌+◌, ◌≡◌, ◌==◌, List, [], ◌∷◌, map, filter, nat_le}
use mathlib.Core.List.{IsPrefix}
use Rattle.task_syntax.specs.declared.program.Program.{Program}
use Rattle.serial_log.specs.declared.mark.Mark.{Mark}
use Rattle.serial_log.specs.declared.posted.Posted.{Posted as Raised}
use Rattle.serial_log.specs.declared.script.Posting.{Posting}
use Rattle.serial_log.specs.Marks.{raised_postings, boot_times}
use Rattle.serial_log.specs.Boots.{AreBootsCounted}

-- what a device posts
pub record Sent : Type 0 where
  pub device : ℕ
  pub event : ℕ
  pub argument : ℕ

abbrev pub sent_by : Posting → Sent
sent_by posting = record {
  device = posting.device;
  event = posting.event;
  argument = posting.argument;
}

abbrev pub sent_as : Raised → Sent
sent_as posted = record {
  device = posted.device;
  event = posted.event;
  argument = posted.argument;
}

-- those of one device
abbrev pub of_device : ℕ → List Sent → List Sent
of_device device sent = filter (λ (one : Sent). one.device == device) sent

-- each device's marks tell its first postings of the script, in their order, each once
abbrev pub ArePostingsScripted : List Posting → List Mark → Type 0
ArePostingsScripted script marks =
    (device : ℕ) → IsPrefix (of_device device (map sent_as (raised_postings marks)))
    (of_device device (map sent_by script))

-- the times at which periods end, the first of which begins at `start`
abbrev pub ends_from : ℕ → List ℕ → List ℕ
ends_from start [] = []
ends_from start (period ∷ more) = (start + period) ∷ ends_from (start + period) more

-- Boots are counted from 1, and their times are the sums of the first power periods that the clock
-- has reached.
pub record AreBootsAtPeriods (program : Program) (periods : List ℕ) (clock : ℕ) (marks : List Mark)
    : Type 0 where
  pub counted : AreBootsCounted program marks
  pub times : boot_times marks ≡ filter (λ end. nat_le end clock) (ends_from 0 periods)
