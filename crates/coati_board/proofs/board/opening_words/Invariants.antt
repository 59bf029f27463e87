use Rattle.std.proofs.Common.{◌≡◌, take}
use Rattle.task_syntax.specs.Names.{opening_values}
use Rattle.coati_board.proofs.board.opening_words.Given as goal

abbrev pub invariant-loop-word : goal.invariant-loop-word
invariant-loop-word l = l.words.items ≡ take l.word (opening_values l.checked)
