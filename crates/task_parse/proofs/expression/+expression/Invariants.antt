use Rattle.std.proofs.Common.{◌≡◌, ◌≤◌, ◌<◌, ◌+◌, ◌*◌, ◌∷◌, List, length}
use Rattle.task_parse.specs.Bars.{most_operators}
use Rattle.task_parse.specs.Machine.{Part, judge}
use Rattle.task_parse.proofs.Climbs.{Climbs}
use Rattle.task_parse.proofs.expression.+expression.Given as goal

abbrev pub decreases-expression : goal.decreases-expression
decreases-expression l = 6 * length l.cursor.now.rest + 4

abbrev pub decreases-level : goal.decreases-level
decreases-level l = 6 * length l.cursor.now.rest + 3

abbrev pub decreases-operand : goal.decreases-operand
decreases-operand l = 6 * length l.cursor.now.rest + 2

abbrev pub decreases-parentheses : goal.decreases-parentheses
decreases-parentheses l = 6 * length l.cursor.now.rest

abbrev pub decreases-place : goal.decreases-place
decreases-place l = 6 * length l.cursor.now.rest

abbrev pub decreases-primary : goal.decreases-primary
decreases-primary l = 6 * length l.cursor.now.rest + 1

abbrev pub invariant-level-loop-op : goal.invariant-level-loop-op
invariant-level-loop-op l = record {
  few : l.count ≤ most_operators;
  climbs : Climbs l.least l.left l.fn.cursor.rest l.cursor.rest;
  gives : (k : List Part)
      → judge l.fn.cursor (Part.Operand ∷ Part.Ops l.operators ∷ k) ≡ judge l.cursor (Part.Ops l.count ∷ k);
  shrinks : length l.cursor.rest < length l.fn.cursor.rest;
}

abbrev pub decreases-level-loop-op : goal.decreases-level-loop-op
decreases-level-loop-op l = length l.cursor.rest
