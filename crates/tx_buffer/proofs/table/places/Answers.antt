use Rattle.std.proofs.Common.{refl, ◌∙◌, length-set, None, arith, Some}
use Rattle.nv_memory.specs.Logs.{number_in, seats_of}
use Rattle.nv_memory.specs.State.{state}
use Rattle.tx_buffer.proofs.Tables.{table_more, table_start}
use Rattle.tx_buffer.proofs.table.places.Goals as goal

pub loop-i-init : goal.loop-i-init
loop-i-init c = (refl, λ word l. table_start 256 word None refl l)

pub loop-i-preserved : goal.loop-i-preserved
loop-i-preserved c = (
  length-set c.loop-i.places c.pair-word.result.0 (Some c.loop-i.i) ∙ c.loop-i.invariant.0,
  λ word l. table_more c.loop-i.places (number_in (state c.args.image.now) (seats_of c.args.log)) c.loop-i.i c.pair-word.result.0 word
      c.loop-i.invariant.0 (let few = c.requires.range.sizes.few_words in let low = c.pair-word.ensures.below in omega arith)
      c.pair-word.ensures.number l (c.loop-i.invariant.1 word l),
)
