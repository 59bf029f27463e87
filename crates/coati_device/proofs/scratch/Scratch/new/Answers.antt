use Rattle.std.proofs.lemmas.List.{take-replicate}
use Rattle.std.specs.Prelude.{ℕ}
use Rattle.coati_device.proofs.scratch.Scratch.new.Goals as goal

pub returns : goal.returns
returns c = take-replicate {X = ℕ} c.args.count 256 0 c.requires
