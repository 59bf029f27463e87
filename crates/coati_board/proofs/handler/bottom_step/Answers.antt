use Rattle.std.proofs.Common.{refl}
use Rattle.std.specs.Prelude.{Some, None}
use Rattle.word_cpu.specs.declared.turn.Turn.TheVariants.{Went, Storing, Ended}
use Rattle.coati_board.proofs.HandlerRunning.{bottom_stepped}
use Rattle.coati_board.proofs.handler.bottom_step.Goals as goal

pub returns-in-Went-Some : goal.returns-in-Went-Some
returns-in-Went-Some c =
    bottom_stepped c.args.code.now c.args.device.now c.args.cpu.now c.step.new.self _ c.step.new.view
    c.step.result (Went (Some c.in-Went-Some.reading)) _ _ c.step.ensures.step refl (cc)
    c.push.ensures refl

pub returns-in-Went-None : goal.returns-in-Went-None
returns-in-Went-None c =
    bottom_stepped c.args.code.now c.args.device.now c.args.cpu.now c.step.new.self _ c.step.new.view
    c.step.result (Went None) _ _ c.step.ensures.step refl (cc) refl refl

pub returns-in-Storing : goal.returns-in-Storing
returns-in-Storing c =
    bottom_stepped c.args.code.now c.args.device.now c.args.cpu.now c.step.new.self _ c.step.new.view
    c.step.result Storing _ _ c.step.ensures.step refl (cc) refl refl

pub returns-in-Ended : goal.returns-in-Ended
returns-in-Ended c =
    bottom_stepped c.args.code.now c.args.device.now c.args.cpu.now c.step.new.self _ c.step.new.view
    c.step.result (Ended c.in-Ended._ending) _ _ c.step.ensures.step refl (cc) refl refl
