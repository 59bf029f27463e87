use Rattle.std.proofs.Common.{ℕ, ◌<◌, get_or}
use Rattle.serial_log.specs.declared.line.Line.{Line}
use Rattle.coati_replay.specs.Text.{IsLineOf}
use Rattle.coati_replay.proofs.fits.are_lines_of.Given as goal

abbrev pub invariant-loop-line : goal.invariant-loop-line
invariant-loop-line l = (k : ℕ) (d : Line) → k < l.line-index → IsLineOf l.checked l.readings (get_or l.lines k d)
