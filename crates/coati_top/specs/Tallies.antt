-- Counts that go up with the marks.
use Rattle.std.specs.Prelude.{◌+◌, ◌<◌, ◌^◌, if◌then◌else◌}
use Rattle.serial_log.specs.declared.mark.MarkKind.{MarkKind}
use Rattle.coati_top.specs.declared.tally.Tally.{Tally}
use Rattle.coati_top.specs.Loaded.{is_abort, is_acceptance, is_answered, is_boot, is_commit, is_fullness, is_loss}

-- each count has room for one more
pub record CanCount (tally : Tally) : Type 0 where
  pub commits : tally.commits < 2 ^ 63
  pub aborts : tally.aborts < 2 ^ 63
  pub boots : tally.boots < 2 ^ 63
  pub accepted : tally.accepted < 2 ^ 63
  pub full : tally.full < 2 ^ 63
  pub lost : tally.lost < 2 ^ 63

-- the tally with a mark of this kind more
abbrev pub counted : MarkKind → Tally → Tally
counted kind tally = record {
  commits = tally.commits + (if is_commit kind then 1 else 0);
  aborts = tally.aborts + (if is_abort kind then 1 else 0);
  boots = tally.boots + (if is_boot kind then 1 else 0);
  accepted = tally.accepted + (if is_answered is_acceptance kind then 1 else 0);
  full = tally.full + (if is_answered is_fullness kind then 1 else 0);
  lost = tally.lost + (if is_answered is_loss kind then 1 else 0);
}
