use Rattle.coati_board.proofs.rows.act.Goals as goal

pub returns-in-Apply : goal.returns-in-Apply
returns-in-Apply c = c.apply.ensures c.args.checked.now _

pub returns-in-Undo : goal.returns-in-Undo
returns-in-Undo c = c.undo.ensures c.args.checked.now _
