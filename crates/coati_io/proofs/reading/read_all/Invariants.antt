use Rattle.std.proofs.Common.{◌≡◌, ◌+◌, ◌-◌, ◌≤◌, vec_len}
use Rattle.std.specs.Io.KnownBytes.{Consumes}
use Rattle.coati_io.proofs.reading.read_all.Given as goal

-- what was kept is what the source gave, in at most as many reads, and none has failed
abbrev pub invariant-loop-bytes : goal.invariant-loop-bytes
invariant-loop-bytes g l = record {
  within : vec_len l.bytes ≤ l.max;
  consumed : Consumes (g.S.Source.left l.initial.src) (g.S.Source.left l.src) l.bytes.items;
  later : g.S.Source.faults l.initial.src ≤ g.S.Source.faults l.src;
  counted : g.S.Source.reads l.src ≤ g.S.Source.reads l.initial.src + vec_len l.bytes;
  steady : g.S.Source.sound l.initial.src → (g.S.Source.faults l.src ≡ g.S.Source.faults l.initial.src) × g.S.Source.sound l.src;
}

abbrev pub decreases-loop-bytes : goal.decreases-loop-bytes
decreases-loop-bytes g l = l.max - vec_len l.bytes
