use Rattle.std.proofs.Common.{◌∙◌, ap, refl}
use Rattle.std.specs.Prelude.{Some, None}
use Rattle.word_cpu.specs.declared.turn.Turn.TheVariants.{Went, Storing, Ended}
use Rattle.coati_device.specs.declared.device.Phase.TheVariants.{End, Run}
use Rattle.coati_board.proofs.Running.{runs_row}
use Rattle.coati_board.proofs.rows.run_task.Goals as goal

pub returns-in-Went-Some : goal.returns-in-Went-Some
returns-in-Went-Some c program =
    runs_row program c.args.code.now c.args.device.now c.in-Run.cpu c.step.new.self
    c.in-Run.left _ c.step.new.view c.step.result (Went (Some c.in-Went-Some.reading)) _ _
    c.step.ensures.step refl c.in-Run.is c.requires.runs c.requires.clear (cc)
    (ap (Run c.step.new.self) c.saturating_sub.ensures) c.push.ensures

pub returns-in-Went-None : goal.returns-in-Went-None
returns-in-Went-None c program =
    runs_row program c.args.code.now c.args.device.now c.in-Run.cpu c.step.new.self
    c.in-Run.left _ c.step.new.view c.step.result (Went None) _ _
    c.step.ensures.step refl c.in-Run.is c.requires.runs c.requires.clear (cc)
    (ap (Run c.step.new.self) c.saturating_sub.ensures) refl

pub returns-in-Storing : goal.returns-in-Storing
returns-in-Storing c program =
    runs_row program c.args.code.now c.args.device.now c.in-Run.cpu c.step.new.self
    c.in-Run.left _ c.step.new.view c.step.result Storing _ _
    c.step.ensures.step refl c.in-Run.is c.requires.runs c.requires.clear (cc)
    (ap (Run c.step.new.self) c.saturating_sub.ensures) refl

pub returns-in-Ended : goal.returns-in-Ended
returns-in-Ended c program =
    runs_row program c.args.code.now c.args.device.now c.in-Run.cpu c.step.new.self
    c.in-Run.left _ c.step.new.view c.step.result (Ended c.in-Ended.ending) _ _
    c.step.ensures.step refl c.in-Run.is c.requires.runs c.requires.clear (cc)
    (c.end_next.ensures ∙ ap End c.place_after.ensures) refl
