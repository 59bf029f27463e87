use Rattle.coati_board.proofs.step.advance.Goals as goal

pub returns : goal.returns
returns c = record {
  acted = c.act.new.device;
  row = rw (c.requires.code) c.act.ensures;
  time = c.tick.ensures;
}
