-- A walk over parts of a program, with the names in scope and what it has found.
use Rattle.task_check.specs.declared.walk.Walk.{Walk}
use Rattle.task_check.specs.Mentions.{Part}
use Rattle.task_check.specs.Found.{found_among, joined}

-- the walk behind a part
unfoldable pub behind : Part → Walk → Walk
behind part walk = record {
  scope = (part walk.scope).scope;
  found = joined walk.found (found_among (part walk.scope).mentions);
}
