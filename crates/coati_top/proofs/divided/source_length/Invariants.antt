use Rattle.std.proofs.Common.{◌≡◌, ◌+◌, drop}
use Rattle.coati_top.specs.Divided.{source_length, source_length_from}
use Rattle.coati_top.proofs.divided.source_length.Given as goal

abbrev pub invariant-loop-place : goal.invariant-loop-place
invariant-loop-place l = source_length l.input ≡ l.place + source_length_from l.begins_line (drop l.place l.input)
