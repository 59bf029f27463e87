use Rattle.std.proofs.Common.{◌≡◌, ◌+◌, ◌++◌, take}
use Rattle.coati_board.proofs.commit.record_all.Given as goal

abbrev pub invariant-loop-reading : goal.invariant-loop-reading
invariant-loop-reading l = record {
  marks : l.history.marks ≡ l.initial.history.marks;
  mark_room : l.history.mark_room ≡ l.initial.history.mark_room;
  readings : l.history.readings ≡ l.initial.history.readings ++ take l.reading-index l.readings;
  room : l.history.reading_room + l.reading-index ≡ l.initial.history.reading_room;
}
