-- A device at work, as its pace is told.
use Rattle.serial_log.specs.declared.end.End.{End as Ending}
use Rattle.serial_log.specs.declared.mark.MarkKind.TheVariants.{End}
use Rattle.serial_log.specs.History.{with_mark}
use Rattle.serial_log.specs.Postings.{Terms}
use Rattle.coati_device.specs.declared.device.Device.{Device}
use Rattle.coati_pace.specs.Effort.{shape_of}
use Rattle.coati_pace.specs.Running.{KeepsPace, Running}
use Rattle.device_pace.specs.Effort.{effort_of}

abbrev pub running_of : Device → Running
running_of d = record { effort = effort_of d; clock = d.clock; marks = d.history.marks }

-- its history keeps pace with what there is to do
abbrev pub IsPaced : Terms → Device → Type 0
IsPaced terms d = KeepsPace terms.program (shape_of terms.program) terms.mode (running_of d)

-- the device whose run is closed
abbrev pub closed_by : Ending → Device → Device
closed_by end d = record d {
  history = with_mark d.history (record { at = d.clock; kind = End end });
}
