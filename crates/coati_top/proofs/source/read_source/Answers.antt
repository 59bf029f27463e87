use Rattle.coati_top.proofs.Accepting.{accepted_source}
use Rattle.coati_top.proofs.source.read_source.Goals as goal

pub returns-clause-program : goal.returns-clause-program
returns-clause-program c =
    accepted_source c.args.input.now c.source_part-source.result.now c.in_ok-tokens.tokens.items c.deref.result.now c.in_ok-program.program c.in_ok-accepted.accepted
    c.source_part-source.ensures c.deref.ensures.value c.in_ok-tokens.ensures.tokens c.in_ok-program.ensures.spelled c.in_ok-accepted.ensures.same c.in_ok-accepted.ensures.accepted
