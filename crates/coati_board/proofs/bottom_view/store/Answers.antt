use Rattle.coati_board.proofs.BottomViewing.{made_at_head}
use Rattle.coati_board.proofs.bottom_view.store.Goals as goal

pub returns-clause-made : goal.returns-clause-made
returns-clause-made c =
    made_at_head c.args.image.now c.put.new.image _ c.args.word c.args.value c.args.part
    c.store_write-is_last.result.1 c.own_log.ensures.log c.requires.range c.requires.word
    c.requires.begun
    (c.put.ensures _ c.store_write-is_last.ensures.write).state c.store_write-is_last.ensures.ends
