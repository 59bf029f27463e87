-- What the word of the marker stands for.
use Rattle.std.specs.Prelude.{ℕ}
use Rattle.commit_log.specs.declared.marker.Marker.{Marker}
use Rattle.commit_log.specs.declared.marker.Marker.TheVariants as marker

abbrev pub marker_value : Marker → ℕ
marker_value marker.Clear = 0
marker_value marker.IntoTx = 1
marker_value marker.Unit = 2
marker_value marker.Event = 3
