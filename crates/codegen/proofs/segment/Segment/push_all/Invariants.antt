use Rattle.std.proofs.Common.{◌≡◌, ◌+◌, ◌++◌, drop}
use Rattle.codegen.specs.Code.{size}
use Rattle.codegen.proofs.segment.Segment.push_all.Given as goal

abbrev pub invariant-loop-instr : goal.invariant-loop-instr
invariant-loop-instr l = record {
  instrs : l.self.instrs.items ++ drop l.instr-index l.instrs ≡ l.initial.self.instrs.items ++ l.instrs;
  end : l.self.end + size (drop l.instr-index l.instrs) ≡ l.initial.self.end + size l.instrs;
}
