use Rattle.coati_replay.specs.Shown.{shown_by}
use Rattle.coati_replay.proofs.Stepping.{behind-end}
use Rattle.coati_replay.proofs.judge.Judge.end.Goals as goal

pub store-requires-clause-come : goal.store-requires-clause-come
store-requires-clause-come c =
    let come = behind-end c.args.self.now.checked.now c.args.self.now.mode c.args.printed.now (shown_by c.args.progress.now) _ c.requires.come
    (c.is_timely.ensures.0 c.if-not-is_timely.false) (c.is_legal_end.ensures.0 c.if-not-is_legal_end.false) in
    rw c.len.ensures come
