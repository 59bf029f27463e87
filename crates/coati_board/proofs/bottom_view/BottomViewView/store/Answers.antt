use Rattle.coati_board.proofs.BottomViewing.{begun_kept, word_below, words_kept, words_stored}
use Rattle.coati_board.proofs.bottom_view.BottomViewView.store.Goals as goal

pub store-requires-clause-word : goal.store-requires-clause-word
store-requires-clause-word c = word_below c.args.self.now.image.now c.args.word c.requires.word

pub invariant_of-self : goal.invariant_of-self
invariant_of-self c = record { range = c.store.ensures.made.range }

pub returns-clause-last : goal.returns-clause-last
returns-clause-last c last =
    words_stored c.args.self.now.image.now c.store.new.image c.args.word c.args.value c.args.part
    c.store.result c.store.ensures.made last
    (word_below c.args.self.now.image.now c.args.word c.requires.word)

pub returns-clause-kept : goal.returns-clause-kept
returns-clause-kept c last =
    words_kept c.args.self.now.image.now c.store.new.image c.args.word c.args.value c.args.part
    c.store.result c.store.ensures.made last

pub returns-clause-begun : goal.returns-clause-begun
returns-clause-begun c last =
    begun_kept c.args.self.now.image.now c.store.new.image c.args.word c.args.value c.args.part
    c.store.result c.store.ensures.made last
