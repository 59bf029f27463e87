use Rattle.std.proofs.Common.{sym, ◌∙◌}
use Rattle.coati_board.proofs.BottomViewing.{word_at, word_below}
use Rattle.coati_board.proofs.bottom_view.BottomViewView.load.Goals as goal

pub load-requires-clause-word : goal.load-requires-clause-word
load-requires-clause-word c = word_below c.args.self.now.image.now c.args.word c.requires

pub returns-clause-value : goal.returns-clause-value
returns-clause-value c = c.load.ensures ∙ sym
    (word_at c.args.self.now.image.now c.args.word c.requires)
