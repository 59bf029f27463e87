use Rattle.std.proofs.Common.{subst}
use Rattle.std.specs.Prelude.{ℕ, []}
use Rattle.task_syntax.specs.declared.body.BodyId.TheVariants.{Task}
use Rattle.word_cpu.specs.UnderWay.{IsAtStart}
use Rattle.coati_device.specs.Rows.IsRow.{starts}
use Rattle.coati_board.proofs.rows.start.Goals as goal

pub returns : goal.returns
returns c program most =
    starts c.start-cpu.result c.requires.chooses (λ e. c.requires.some (cc)) c.requires.empty
    c.requires.unflagged
    (subst (λ (task : ℕ). IsAtStart (Task task) [] c.start-cpu.result) c.requires.task c.start-cpu.ensures)
    (cc)
