use Rattle.std.proofs.Common.{arith}
use Rattle.coati_replay.specs.Shown.{shown_by}
use Rattle.coati_replay.proofs.Stepping.{line-on}
use Rattle.coati_replay.proofs.judge.Judge.lines.Goals as goal

pub loop-line-preserved : goal.loop-line-preserved
loop-line-preserved c =
    let leads = rw c.in-Some.is at c.in_ok-next.ensures.leads in
    let before = c.loop-line.invariant in
    record {
      fits = rw c.in-Some.is at c.in_ok-next.ensures.fits;
      number_is = omega (arith, before.number_is);
      come = line-on c.args.self.now.checked.now c.args.self.now.mode c.args.printed.now (shown_by c.loop-line.progress) c.loop-line.number c.loop-line.line-index c.as_slice-line-items.result.now _
          c.args.self.now.readings.now c.as_slice-line-items.ensures c.loop-line-test.true c.requires.readings before.come (shown_by c.in-Some.next) leads.0 leads.1;
    }
