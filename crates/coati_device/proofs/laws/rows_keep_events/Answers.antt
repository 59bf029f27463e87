use Rattle.coati_device.proofs.EventsKept.{events_kept}
use Rattle.coati_device.proofs.laws.rows_keep_events.Goals as goal

pub returns : goal.returns
returns c = events_kept c.following_goes_on.ensures c.commits_take_the_oldest.ensures.mark
