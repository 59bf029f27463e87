use Rattle.std.proofs.Common.{◌<◌, ◌++◌, ap, sym, ◌∙◌, arith, length}
use Rattle.codegen.proofs.LinesOfWords.{nothing}
use Rattle.codegen.proofs.line.put_lines.Goals as goal

pub loop-at-preserved : goal.loop-at-preserved
loop-at-preserved c =
    let within : c.loop-at.at < length c.args.words.now = omega arith in
    let same = nothing c.args.words.now c.loop-at.at within (sym c.in-None.ensures.value) in
    record { lines = ap (λ lines. c.loop-at.out.items ++ lines) (sym same) ∙ c.loop-at.invariant.lines; within = omega arith }
