use Rattle.std.proofs.Common.{refl, true≢false, sym}
use Rattle.coati_replay.proofs.Clashes.{lower, least-is}
use Rattle.coati_replay.proofs.least.is_least_common.Goals as goal

pub returns-then-has : goal.returns-then-has
returns-then-has c = (
  λ same. absurd (true≢false (sym same)),
  λ least. absurd (lower c.args.left.now c.args.right.now c.loop-other.other-index c.args.number c.loop-other-test.true c.if-other-number.true (c.if-has.ensures.0 refl) least),
)

pub returns : goal.returns
returns c = (
  λ same. least-is c.args.left.now c.args.right.now c.args.number c.loop-other.other-index (c.if-not-has.ensures.0 refl) (c.if-not-has-2.ensures.0 refl) c.loop-other-test.false c.loop-other.invariant,
  λ least. refl,
)
