use Rattle.std.proofs.Common.{◌≡◌, ◌++◌, drop}
use Rattle.coati_explain.specs.Shown.{shown}
use Rattle.coati_explain.proofs.shown.put_shown.Given as goal

abbrev pub invariant-loop-byte : goal.invariant-loop-byte
invariant-loop-byte l = l.out.items ++ shown (drop l.byte-index l.bytes) ≡ l.initial.out.items ++ shown l.bytes
