use Rattle.std.proofs.Common.{arith, Some, None, sym, ◌∙◌}
use Rattle.nv_memory.specs.State.{state}
use Rattle.buffi_sets.specs.View.{word_below_entries}
use Rattle.buffi_sets.proofs.Viewing.{newest_is}
use Rattle.buffi_sets.proofs.view.word_behind_entries.Goals as goal

pub returns-in-Some : goal.returns-in-Some
returns-in-Some c =
    let s = state c.args.image.now in
    sym (c.loop-older.invariant.1
    ∙ newest_is s c.args.word c.loop-older.older (word_below_entries s c.args.word) c.slot-slot.result (Some c.in-Some.value)
    (omega (arith, c.loop-older-test.true)) (search arith) (sym c.find.ensures ∙ c.in-Some.is))

pub loop-older-preserved : goal.loop-older-preserved
loop-older-preserved c = (
  (let low = c.loop-older.invariant.0 in omega (arith, low)),
  (let s = state c.args.image.now in
      c.loop-older.invariant.1
      ∙ newest_is s c.args.word c.loop-older.older (word_below_entries s c.args.word) c.slot-slot.result None
      (omega (arith, c.loop-older-test.true)) (search arith) (sym c.find.ensures ∙ c.in_default.is)),
)
