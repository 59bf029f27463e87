use Rattle.std.proofs.Common.{sym, ◌∙◌}
use Rattle.coati_board.proofs.HandlerViewing.{word_at, word_below}
use Rattle.coati_board.proofs.handler_view.HandlerViewView.load.Goals as goal

pub event_view-requires-clause-word : goal.event_view-requires-clause-word
event_view-requires-clause-word c =
    word_below c.args.self.now.image.now c.args.word c.requires

pub returns-clause-value : goal.returns-clause-value
returns-clause-value c =
    c.event_view.ensures ∙ sym (word_at c.args.self.now.image.now c.args.word c.requires)
