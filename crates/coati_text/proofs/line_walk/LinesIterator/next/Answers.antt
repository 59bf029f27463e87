use Rattle.std.proofs.Common.{◌<◌, length, arith}
use Rattle.std.proofs.lemmas.Grind.{common_steps}
use Rattle.coati_text.specs.Line.{lines_of}
use Rattle.coati_text.proofs.LineEnds.{lines_of-first, fewer_lines}
use Rattle.coati_text.proofs.line_walk.LinesIterator.next.Goals as goal

pub returns-clause-steps : goal.returns-clause-steps
returns-clause-steps c =
    let some : 0 < length c.self.inside.text.now = grind (arith, common_steps) in
    rw (← c.self.view_is, c.behind-self-inside.ensures, c.line_len-len.ensures.exact) (lines_of-first c.self.inside.text.now some)

pub returns-clause-goes : goal.returns-clause-goes
returns-clause-goes c =
    let some : 0 < length c.self.inside.text.now = grind (arith, common_steps) in
    let less : length (lines_of c.behind-self-inside.result.now) < length c.args.self.now =
    rw (← c.self.view_is, c.behind-self-inside.ensures, c.line_len-len.ensures.exact) (fewer_lines c.self.inside.text.now some) in
    record { on = λ f. (tt, tt, less); keeps = tt; rests = λ f. tt }
