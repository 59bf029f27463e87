use Rattle.std.proofs.Common.{◌∙◌, sym}
use Rattle.buffi_sets.specs.Undo.{doom_change}
use Rattle.coati_board.proofs.Draining.{after_doom, without_doom}
use Rattle.coati_board.proofs.drain_rows.doom.Goals as goal

pub put-requires : goal.put-requires
put-requires c = (doom_change, c.doom_write.ensures c.args.image.now)

pub returns-then-is_open : goal.returns-then-is_open
returns-then-is_open c =
    after_doom c.args.image.now c.put.new.image (sym c.is_open.ensures ∙ c.if-is_open.true)
    (c.put.ensures doom_change (c.doom_write.ensures c.args.image.now)).written

pub returns-else-is_open : goal.returns-else-is_open
returns-else-is_open c =
    without_doom c.args.image.now (sym c.is_open.ensures ∙ c.if-is_open.false)
