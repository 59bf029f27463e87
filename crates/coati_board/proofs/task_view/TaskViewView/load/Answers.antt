use Rattle.std.proofs.Common.{sym, ◌∙◌}
use Rattle.coati_board.proofs.Viewing.{word_at, word_below}
use Rattle.coati_board.proofs.task_view.TaskViewView.load.Goals as goal

pub load-requires-clause-word : goal.load-requires-clause-word
load-requires-clause-word c = word_below c.args.self.now.image.now c.args.word c.requires

pub invariant_of-self : goal.invariant_of-self
invariant_of-self c = record { range = c.load.ensures.range }

pub returns-clause-value : goal.returns-clause-value
returns-clause-value c =
    c.load.ensures.value ∙ sym (word_at c.args.self.now.image.now c.args.word c.requires)
