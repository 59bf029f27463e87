-- What is asked of a device whose next posting is raised.
use Rattle.std.specs.Prelude.{ℕ, ◌+◌, ◌^◌, ◌<◌, ◌≤◌, ◌≡◌, List, length}
use Rattle.serial_log.specs.declared.script.Posting.{Posting}
use Rattle.serial_log.specs.declared.script.Script.{Script}
use Rattle.task_check.specs.Accepted.{IsAccepted}
use Rattle.task_cost.specs.Limits.{handler_bound}
use Rattle.task_syntax.specs.declared.program.Program.{Program}
use Rattle.coati_device.specs.declared.device.Device.{Device}
use Rattle.coati_device.specs.Cursors.{cursor_of, next_posting}
use Rattle.coati_device.specs.Laws.{Fits, HoldsItsEvents}
use Rattle.coati_device.specs.Points.{IsTimed}
use Rattle.coati_board.specs.Cursors.{HasPosting}
use Rattle.coati_board.specs.Handlers.{HasRoomToWait}

-- the next posting of a device can be answered
pub record CanAnswer (postings : List Posting) (d : Device) (number : ℕ) : Type 0 where
  pub eight : length d.cursors ≡ 8
  pub posting : HasPosting postings (cursor_of d.cursors number)
  pub few : length postings ≤ 4096
  pub room : 0 < d.history.mark_room

-- and handled: there is time and room for its handler
pub record CanRaise (program : Program) (script : Script) (d : Device) (number : ℕ) : Type 0 where
  pub low : number < 8
  pub answer : CanAnswer script.postings d number
  pub marks : 1 < d.history.mark_room
  pub accepted : IsAccepted program
  pub fit : Fits program d
  pub known : (next_posting script.postings d number).event < length program.events
  pub spare : handler_bound program ≤ d.spare
  pub some : 0 < d.spare
  pub time : d.clock + d.spare < 2 ^ 32
  pub count : d.accepted + 1 < 2 ^ 32
  pub events : HoldsItsEvents program d
  pub waiting : HasRoomToWait d
  pub timed : IsTimed script.power d.clock d.boots d.until
  pub few_periods : length script.power ≤ 4096
