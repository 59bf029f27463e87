use Rattle.std.proofs.Common.{◌≡◌, ◌++◌}
use Rattle.coati_gen.specs.Generated.{lines_up_to, power_line}
use Rattle.coati_gen.proofs.text.put_powers.Given as goal

abbrev pub invariant-loop-i : goal.invariant-loop-i
invariant-loop-i l = l.out.items ≡ l.fn.out.items ++ lines_up_to power_line l.i
