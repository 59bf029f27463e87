use Rattle.std.proofs.Common.{subst}
use Rattle.std.specs.Prelude.{ℕ, List, take}
use Rattle.bottom_half.specs.declared.job.Job.{Job}
use Rattle.nv_memory.specs.State.{state}
use Rattle.task_syntax.specs.declared.body.BodyId.TheVariants.{Bottom}
use Rattle.word_cpu.specs.UnderWay.{IsAtStart}
use Rattle.coati_device.specs.Rows.{head_entry, head_message, params_of}
use Rattle.coati_device.specs.Rows.IsRow.{starts_bottom}
use Rattle.coati_board.proofs.bottom_rows.start.Goals as goal

pub returns : goal.returns
returns c =
    let s = state c.args.device.now.image in
    let program = c.args.checked.now in
    let starts : IsAtStart (Bottom (head_entry s).event) (head_message program s)
    c.start-cpu.result =
    subst (λ (job : Job). IsAtStart (Bottom job.event)
    (take (params_of program job.event) job.message) c.start-cpu.result) c.requires.job
    (subst (λ (words : List ℕ). IsAtStart (Bottom c.args.job.event) words c.start-cpu.result)
    c.message.ensures.words c.start-cpu.ensures) in
    let most = c.requires.most in
    starts_bottom c.start-cpu.result c.requires.chooses c.requires.empty starts (cc)
