use Rattle.std.proofs.Common.{arith}
use Rattle.coati_pace.proofs.Programs.{attempt_within}
use Rattle.coati_pace.proofs.shapes.shape_of.Goals as goal

pub returns-clause-limits : goal.returns-clause-limits
returns-clause-limits c = record {
  words = omega (arith, c.from.ensures, c.words.ensures.most);
  slots = omega (arith, c.from-2.ensures, c.buffer.ensures.most);
  attempt = rw c.bounds.ensures
      (attempt_within c.args.checked.now c.program-program.ensures.accepted);
}
