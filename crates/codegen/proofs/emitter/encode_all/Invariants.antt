use Rattle.std.proofs.Common.{◌≡◌, ◌++◌, drop}
use Rattle.codegen.specs.Code.{AreEncodable, words_of}
use Rattle.codegen.proofs.emitter.encode_all.Given as goal

abbrev pub invariant-loop-instr : goal.invariant-loop-instr
invariant-loop-instr l = record {
  words : l.words.items ++ words_of (drop l.instr-index l.instrs) ≡ words_of l.instrs;
  encodable : AreEncodable (drop l.instr-index l.instrs);
}
