use Rattle.std.proofs.Common.{◌≡◌, ◌+◌, ◌≤◌, ◌++◌, ◌∷◌, [], drop}
use Rattle.task_syntax.specs.Names.{word_count}
use Rattle.coati_replay.specs.Shown.{shown_by}
use Rattle.coati_replay.specs.Stages.{HasCome}
use Rattle.coati_replay.specs.Text.{TextLine, variable_lines}
use Rattle.coati_replay.proofs.judge.Judge.store.Given as goal

abbrev pub invariant-loop-var : goal.invariant-loop-var
invariant-loop-var l = record {
  number_is : l.number ≤ l.fn.number + l.first;
  words : l.first + word_count (drop l.var-index l.self.checked.now.vars) ≡ word_count l.self.checked.now.vars;
  come : HasCome l.self.checked.now l.self.mode l.printed (shown_by l.progress) l.number
      (variable_lines l.printed.values l.first (drop l.var-index l.self.checked.now.vars) ++ TextLine.held_are l.printed.held ∷ []);
}
