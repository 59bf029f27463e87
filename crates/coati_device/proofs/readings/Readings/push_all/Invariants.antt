use Rattle.std.proofs.Common.{◌≡◌, ◌+◌, ◌++◌, take, vec_len}
use Rattle.std.specs.Vec.{vec_capacity}
use Rattle.coati_device.proofs.readings.Readings.push_all.Given as goal

abbrev pub invariant-loop-reading : goal.invariant-loop-reading
invariant-loop-reading l = record {
  items : l.self-inside.items.items ≡ l.initial.self-inside.items.items ++ take l.reading-index l.more;
  count : vec_len l.self-inside.items ≡ vec_len l.initial.self-inside.items + l.reading-index;
  capacity : vec_capacity l.self-inside.items ≡ vec_capacity l.initial.self-inside.items;
}
