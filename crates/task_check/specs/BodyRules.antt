-- The rules that are read in each body by itself.
use Rattle.std.specs.Prelude.{ℕ, List}
use Rattle.task_check.specs.declared.rules.body.Body.{Body}
use Rattle.task_check.specs.declared.rules.body_rule.BodyRule.{BodyRule}
use Rattle.task_check.specs.declared.rules.body_rule.BodyRule.TheVariants.{BadCount, NoEnding, EarlyEnding, LoopAssigned, TooManyLocals, TooDeepStack}
use Rattle.task_check.specs.Bodies.{BodyRead}
use Rattle.task_check.specs.Counts.{bad_turns}
use Rattle.task_check.specs.Endings.{no_ending, early_endings}
use Rattle.task_check.specs.Loops.{loop_assigned}
use Rattle.task_check.specs.Measures.{too_many_locals, too_deep_stack}

-- the body that is read
abbrev pub read : Body → BodyRead
read body = record {
  at = body.at;
  kind = body.kind;
  params = body.params.now;
  statements = body.statements.now;
}

-- where a body breaks the rule
abbrev pub broken_in : BodyRule → BodyRead → List ℕ
broken_in BadCount body = bad_turns body
broken_in NoEnding body = no_ending body
broken_in EarlyEnding body = early_endings body
broken_in LoopAssigned body = loop_assigned body
broken_in TooManyLocals body = too_many_locals body
broken_in TooDeepStack body = too_deep_stack body
