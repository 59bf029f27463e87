use Rattle.std.proofs.Common.{◌≡◌}
use Rattle.serial_run.specs.Runs.{marks_of}
use Rattle.serial_run.specs.Touched.{marked_below}
use Rattle.serial_run.proofs.words.Words.marked.Given as goal

abbrev pub invariant-loop-word : goal.invariant-loop-word
invariant-loop-word l = l.items.items ≡ marked_below l.word (marks_of l.marks)
