use Rattle.std.proofs.Common.{◌∙◌, arith}
use Rattle.nv_memory.specs.Logs.{number_in, seats_of}
use Rattle.nv_memory.specs.State.{state}
use Rattle.nv_memory.proofs.Looks.{index_before}
use Rattle.nv_memory.proofs.image.Image.index.Goals as goal

pub loop-i-preserved : goal.loop-i-preserved
loop-i-preserved c = (
  (let low = c.loop-i.invariant.0 in omega (arith, low)),
  c.loop-i.invariant.1 ∙ index_before (number_in (state c.args.self.now) (seats_of c.args.log)) c.loop-i.i c.args.word (omega (arith, c.loop-i-test.true))
      (λ e. c.if-number-word.false (c.number.ensures ∙ e)),
)
