use Rattle.std.proofs.Common.{rules}
use Rattle.task_syntax.proofs.Named.{is_some-words_from}
use Rattle.task_check.proofs.rules.tops.is_variable.Goals as goal

pub returns : goal.returns
returns c = rw (is_some-words_from 0 c.args.program.now.vars c.args.name.now) (search rules)
