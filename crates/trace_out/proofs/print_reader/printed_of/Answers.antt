use Rattle.std.proofs.Common.{◌≡◌, ℕ, List, length, ap, arith}
use Rattle.std.specs.List.{sum_by}
use Rattle.std.proofs.lemmas.Grind.{common_steps}
use Rattle.coati_text.specs.Line.{lines_of}
use Rattle.trace_out.specs.Reading.{lines_reading}
use Rattle.trace_out.specs.declared.stage.Stage.TheVariants.{Nothing}
use Rattle.trace_out.proofs.LineLengths.{lines_of-few}
use Rattle.trace_out.proofs.print_reader.printed_of.Goals as goal

pub loop-line-init : goal.loop-line-init
loop-line-init c =
    let text = c.args.text.now in
    let is : c.into_iter-line-iterator.result ≡ lines_of text = grind (arith, common_steps) in
    let few = lines_of-few text in
    record {
      left = ap (λ (lines : List (List ℕ)). lines_reading c.args.checked.now 1 Nothing lines) is;
      counted = omega (arith, ap length is);
      few = omega (arith, ap (sum_by length) is, few.bytes);
    }

pub overflow_add-number : goal.overflow_add-number
overflow_add-number c =
    let few = lines_of-few c.args.text.now in
    grind (arith, common_steps, few.count, c.in-Some.ensures.steps, c.loop-line.invariant.counted)
