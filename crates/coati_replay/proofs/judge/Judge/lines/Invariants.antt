use Rattle.std.proofs.Common.{◌≡◌, ◌+◌, ◌++◌, drop, map}
use Rattle.coati_replay.specs.Shown.{IsProgressOf, shown_by}
use Rattle.coati_replay.specs.Stages.{HasCome}
use Rattle.coati_replay.specs.Text.{TextLine, last_lines}
use Rattle.coati_replay.proofs.judge.Judge.lines.Given as goal

abbrev pub invariant-loop-line : goal.invariant-loop-line
invariant-loop-line l = record {
  fits : IsProgressOf l.self.checked.now l.progress;
  number_is : l.number ≡ l.line-index + 3;
  come : HasCome l.self.checked.now l.self.mode l.printed (shown_by l.progress) l.number
      (map TextLine.shows (drop l.line-index l.printed.lines) ++ last_lines l.self.checked.now l.printed);
}
