use Rattle.std.proofs.Common.{◌≡◌, arith}
use Rattle.coati_word.specs.Operator.{remainder}
use Rattle.task_syntax.specs.Names.{count_of}
use Rattle.task_syntax.proofs.VariableWords.{remainder-below}
use Rattle.serial_run.proofs.expression.item.Goals as goal

pub overflow_add-result : goal.overflow_add-result
overflow_add-result c =
    let value : c.apply.result ≡ remainder c.args.index (count_of c.in-Some.length) = cc in
    omega (arith, value, c.in-Some.ensures.most, remainder-below c.args.index (count_of c.in-Some.length) c.in-Some.ensures.some)

pub returns-in-Some-clause-within : goal.returns-in-Some-clause-within
returns-in-Some-clause-within c =
    let value : c.apply.result ≡ remainder c.args.index (count_of c.in-Some.length) = cc in
    omega (arith, value, c.in-Some.ensures.within, remainder-below c.args.index (count_of c.in-Some.length) c.in-Some.ensures.some)
