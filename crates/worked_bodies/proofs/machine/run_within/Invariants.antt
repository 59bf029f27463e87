use Rattle.std.proofs.Common.{List}
use Rattle.task_syntax.specs.Course.{Access}
use Rattle.word_cpu.specs.Reached.{Comes}
use Rattle.worked_bodies.proofs.machine.run_within.Given as goal

abbrev pub invariant-loop-spent : goal.invariant-loop-spent
invariant-loop-spent g l =
    (done : List Access) × Comes g.V.View.meaning l.code l.fn.body l.params l.fn.view l.spent done l.readings.items l.cpu l.view
