use Rattle.coati_text.proofs.DigitRuns.{AreDigits-digit_run}
use Rattle.coati_text.proofs.cursor.digit_run.Goals as goal

pub returns-clause-digits : goal.returns-clause-digits
returns-clause-digits c = rw c.digit_count-count.ensures.count (AreDigits-digit_run c.args.text.now)
