use Rattle.std.proofs.Common.{◌-◌, length, arith}
use Rattle.trace_text.proofs.Limits.{last_time-get}
use Rattle.trace_text.proofs.script.last_time.Goals as goal

pub returns-in-len1-up : goal.returns-in-len1-up
returns-in-len1-up c =
    let postings = c.args.postings.now in
    last_time-get postings (length postings - 1) _ (omega (arith, c.in-len1-up.len_at_least))
