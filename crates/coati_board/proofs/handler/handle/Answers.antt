use Rattle.std.proofs.Common.{subst, sym}
use Rattle.task_syntax.specs.declared.body.BodyId.TheVariants as body
use Rattle.word_code.specs.Code.{Bodies, HasBody}
use Rattle.coati_device.specs.declared.hand.Hand.{Hand}
use Rattle.coati_device.specs.Raises.{Handles}
use Rattle.coati_board.proofs.Handling.{first_is, has_top_half}
use Rattle.coati_board.proofs.handler.handle.Goals as goal

pub start-cpu-requires-clause-exists : goal.start-cpu-requires-clause-exists
start-cpu-requires-clause-exists c =
    subst (λ (code : Bodies). HasBody code (body.Top c.args.event)) (sym c.requires.code)
    (has_top_half c.bodies_stand_by_number.ensures c.args.checked.now c.args.event
    c.requires.can.known)

pub run-requires : goal.run-requires
run-requires c = record {
  program = c.args.checked.now;
  code_is = c.requires.code;
  argument = c.args.argument;
  cpu = c.start-cpu.result;
  start = c.start-cpu.ensures;
  first_is = first_is c.args.checked.now c.start-cpu.result c.new.result c.words.result
      c.new.ensures c.words.ensures.words;
  can = c.requires.can;
}

pub returns-clause-handles : goal.returns-clause-handles
returns-clause-handles c = (
  c.start-cpu.result,
  c.start-cpu.ensures,
  subst (λ (hand : Hand). Handles c.args.code.now c.args.event hand c.args.device.now
      c.run.new.device c.run.result)
      (first_is c.args.checked.now c.start-cpu.result c.new.result c.words.result c.new.ensures
      c.words.ensures.words) c.run.ensures.handles,
)
