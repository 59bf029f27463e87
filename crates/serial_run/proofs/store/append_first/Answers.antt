use Rattle.std.proofs.Common.{◌≡◌, ◌∙◌, ◌++◌, [], ◌∷◌, rules}
use Rattle.serial_run.proofs.Zeros.{zeros-more}
use Rattle.serial_run.proofs.store.append_first.Goals as goal

pub loop-preserved : goal.loop-preserved
loop-preserved c =
    let pushed : c.push.new.self.items ≡ c.loop.words.items ++ 0 ∷ [] = search rules in
    rw pushed (zeros-more c.loop.words.items c.from-end.result c.loop.counter c.loop-test.true ∙ c.loop.invariant)
