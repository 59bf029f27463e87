use Rattle.nv_memory.specs.State.{state}
use Rattle.task_buffer.specs.StoreLaws.{Stores}
use Rattle.coati_device.specs.HandlerView.{tail_log}
use Rattle.coati_board.proofs.HandlerViewing.{made_at_tail, room_stays, store_behind}
use Rattle.coati_board.proofs.handler_view.store.Goals as goal
use Rattle.coati_board.proofs.handler_view.store.Goals.{After-put}

made : (c : After-put) → Stores (tail_log (state c.args.image.now)) c.args.word c.args.value
    c.args.part c.store_write-is_last.result.1 (state c.args.image.now) (state c.put.new.image)
made c =
    made_at_tail c.args.image.now c.put.new.image _ c.args.word c.args.value c.args.part
    c.store_write-is_last.result.1 c.own_log.ensures.log c.requires.range c.requires.word
    c.requires.begun (c.put.ensures _ c.store_write-is_last.ensures.write).state
    c.store_write-is_last.ensures.ends

pub returns-clause-made : goal.returns-clause-made
returns-clause-made c = made (goal.at.returns-clause-made c).After-put

pub returns-clause-room : goal.returns-clause-room
returns-clause-room c =
    room_stays (state c.args.image.now) (state c.put.new.image) c.args.word c.args.value
    c.args.part c.store_write-is_last.result.1 c.requires.range c.requires.room
    (made (goal.at.returns-clause-room c).After-put)

pub returns-clause-behind : goal.returns-clause-behind
returns-clause-behind c =
    store_behind (state c.args.image.now) (state c.put.new.image) c.args.word c.args.value
    c.args.part c.store_write-is_last.result.1 c.requires.range c.requires.room
    (made (goal.at.returns-clause-behind c).After-put)
