use Rattle.std.proofs.Common.{◌≡◌, take}
use Rattle.task_syntax.specs.Names.{opening_values}
use Rattle.worked_bodies.proofs.compiled.Compiled.opening.Given as goal

abbrev pub invariant-loop-word : goal.invariant-loop-word
invariant-loop-word l = l.words.items ≡ take l.word (opening_values l.self.checked)
