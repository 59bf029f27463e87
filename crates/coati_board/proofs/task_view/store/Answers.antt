use Rattle.coati_board.proofs.Viewing.{made_by}
use Rattle.coati_board.proofs.task_view.store.Goals as goal

pub returns-clause-made : goal.returns-clause-made
returns-clause-made c =
    made_by c.args.image.now c.put.new.image c.args.word c.args.value c.args.part
    c.store_write-is_last.result.1 c.requires.range c.requires.word c.requires.begun
    (c.put.ensures _ c.store_write-is_last.ensures.write).state c.store_write-is_last.ensures.ends
