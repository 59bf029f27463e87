use Rattle.coati_replay.proofs.Texts.{serial-is-legal}
use Rattle.coati_replay.proofs.laws.serial_texts_are_legal.Goals as goal

pub returns : goal.returns
returns c = serial-is-legal
