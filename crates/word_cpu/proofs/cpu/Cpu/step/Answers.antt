use Rattle.std.proofs.Common.{ℕ, List, subst}
use Rattle.word_code.specs.Machine.{StartsAt}
use Rattle.word_cpu.specs.Turning.{Makes, state_of}
use Rattle.word_cpu.proofs.Begun.{begun_next, for_the_move}
use Rattle.word_cpu.proofs.cpu.Cpu.step.Goals as goal

pub returns-clause-step : goal.returns-clause-step
returns-clause-step g c = record {
  body = c.act.ensures.body;
  makes =
      for_the_move c.args.code.now c.args.self.now c.instruction_at-instr.result
      (Makes g.V.View.meaning c.args.self.now c.act.new.self c.args.view.now c.act.new.view c.act.result)
      (subst (λ (shown : List ℕ). StartsAt shown c.instruction_at-instr.result (state_of c.args.self.now)) c.body.ensures c.instruction_at-instr.ensures.starts)
      c.act.ensures.makes;
  is_begun =
      begun_next g.V.View.meaning c.args.code.now
      c.args.self.now c.act.new.self c.args.view.now c.act.new.view c.act.result
      c.body.result.now c.instruction_at-instr.result c.body.ensures c.act.ensures.body c.instruction_at-instr.ensures.starts c.act.ensures.makes;
}
