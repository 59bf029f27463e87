-- The time of a machine step: the clock goes on by one. Where a power period is over then, the
-- power is cut and comes back: what is volatile is lost, and a boot is told, behind the step's own
-- mark.
use Rattle.std.specs.Prelude.{ℕ, ◌+◌, ◌-◌, ◌==◌, List, slice_index, if◌then◌else◌}
use Rattle.serial_log.specs.declared.mark.MarkKind.TheVariants.{Boot}
use Rattle.serial_log.specs.History.{with_mark}
use Rattle.coati_device.specs.declared.device.Device.{Device}
use Rattle.coati_device.specs.declared.device.Phase.TheVariants.{Choose}

-- without a cut
abbrev pub passed : Device → Device
passed d = record d { clock = d.clock + 1; until = d.until - 1; spare = d.spare - 1 }

-- with a cut; behind the last period the power stays
abbrev pub cut : List ℕ → Device → Device
cut periods d = record d {
  clock = d.clock + 1;
  boots = d.boots + 1;
  until = slice_index periods (d.boots + 1);
  phase = Choose;
  history = with_mark d.history (record { at = d.clock + 1; kind = Boot (d.boots + 1) });
  spare = d.spare - 1;
}

abbrev pub ticked : List ℕ → Device → Device
ticked periods d = if d.until == 1 then cut periods d else passed d
