-- What is asked of a mark of each kind, beside its time.
use Rattle.std.specs.Prelude.{◌≤◌, List}
use Rattle.coati_word.specs.declared.reading.Reading.{Reading}
use Rattle.task_syntax.specs.declared.program.Program.{Program}
use Rattle.serial_log.specs.declared.mark.Mark.{Mark}
use Rattle.serial_log.specs.declared.record.Record.{Record}
use Rattle.serial_log.specs.History.{readings_in}
use Rattle.serial_log.specs.SerialRun.{IsNext}
use Rattle.serial_log.specs.Standing.{Standing}
use Rattle.serial_log.specs.Postings.{FollowsLost, IsInOrder}

-- the mark comes in time, and is the boot of a posting that was lost at once before it
pub record IsTimely (s : Standing) (mark : Mark) : Type 0 where
  pub in_time : s.latest ≤ mark.at
  pub follows : FollowsLost s s.lost mark

-- the record is the next one, and an event's is that of the posting that is due
pub record IsCommitLegal (program : Program) (all : List Reading) (s : Standing)
    (committed : Record) : Type 0 where
  pub next : IsNext program s.rest s.run (record {
    committed = committed;
    reads = readings_in all committed;
  })
  pub order : IsInOrder s.rest committed.posting committed.unit
