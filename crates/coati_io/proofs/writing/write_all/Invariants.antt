use Rattle.std.proofs.Common.{◌≡◌, ◌+◌, ◌-◌, ◌≤◌, length, take}
use Rattle.std.specs.Io.KnownBytes.{Appends}
use Rattle.coati_io.proofs.writing.write_all.Given as goal

-- the first `sent` bytes were appended, in at most as many writes, and none has failed
abbrev pub invariant-loop-sent : goal.invariant-loop-sent
invariant-loop-sent g l = record {
  within : l.sent ≤ length l.bytes;
  appended : Appends (g.K.Sink.taken l.initial.sink) (g.K.Sink.taken l.sink) (take l.sent l.bytes);
  later : g.K.Sink.faults l.initial.sink ≤ g.K.Sink.faults l.sink;
  counted : g.K.Sink.writes l.sink ≤ g.K.Sink.writes l.initial.sink + l.sent;
  steady : length l.bytes ≤ g.K.Sink.spare l.initial.sink →
      (g.K.Sink.faults l.sink ≡ g.K.Sink.faults l.initial.sink) × (g.K.Sink.spare l.initial.sink ≤ g.K.Sink.spare l.sink + l.sent);
}

abbrev pub decreases-loop-sent : goal.decreases-loop-sent
decreases-loop-sent g l = length l.bytes - l.sent
