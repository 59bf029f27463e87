use Rattle.coati_device.specs.Rows.IsRow.{applies, undoes, sleeps, empties, unflags, starts, runs, prepares, joins, commits, empties_entry, starts_bottom, runs_bottom, prepares_event, commits_event, aborts, prepares_drain, drains}
use Rattle.coati_device.proofs.AbortRows.{aborts_keep}
use Rattle.coati_device.proofs.DrainRows.{drains_keep, prepares_drain_keep}
use Rattle.coati_device.proofs.Attempts.{starts_keep}
use Rattle.coati_device.proofs.BottomStarts.{starts_bottom_keep}
use Rattle.coati_device.proofs.BottomSteps.{can_run, runs_bottom_keep}
use Rattle.coati_device.proofs.CommitRows.{applies_keep}
use Rattle.coati_device.proofs.Modes.{mode_kept}
use Rattle.coati_device.proofs.UndoRows.{undoes_keep}
use Rattle.coati_device.proofs.UnflagRows.{unflags_keep}
use Rattle.coati_device.proofs.EventCommits.{commits_event_keep}
use Rattle.coati_device.proofs.EventRows.{prepares_event_keep}
use Rattle.coati_device.proofs.LogRows.{empties_entry_keep, empties_keep, prepares_keep, sleeps_keep}
use Rattle.coati_device.proofs.Messages.{messages_fit}
use Rattle.coati_device.proofs.TaskCommits.{commits_keep, joins_keep}
use Rattle.coati_device.proofs.TaskSteps.{runs_keep}
use Rattle.coati_device.proofs.laws.rows_keep_fit.Goals as goal

pub returns-clause-fit : goal.returns-clause-fit
returns-clause-fit c = λ program old new accepted fits events counted row. elim row [
  | applies change image next wrote is ↦
      applies_keep program old new change image fits next wrote is
  | undoes change image clear next wrote is ↦
      undoes_keep program old new change image c.undo_writes_keep.ensures fits clear next wrote is
  | sleeps chooses halted is ↦ sleeps_keep program old new fits is
  | empties image chooses on some wrote is ↦
      empties_keep program old new image fits chooses wrote is
  | unflags change image chooses on none buffi next wrote is ↦
      unflags_keep program old new change image c.unflag_writes_take_one_back.ensures fits chooses
      next wrote is
  | starts cpu chooses on none unset start is ↦
      starts_keep program old new cpu c.accepted_programs_compute_their_courses.ensures.tasks
      accepted fits chooses on none unset start is
  | runs before after left image turn running body clear step is ↦
      runs_keep c.accesses_join_up.ensures c.written_words_are_told.ensures
      c.courses_under_way_go_on.ensures.bodies c.following_goes_on.ensures
      c.stores_set_the_value.ensures
      c.flag_writes_set_one_flag.ensures program old new before after left image turn fits running
      body step is
  | prepares place image ends other wrote is ↦
      prepares_keep program old new place image accepted fits ends wrote is
  | joins place image ends there inside wrote is ↦
      joins_keep c.accesses_join_up.ensures c.last_writes_tell_the_store.ensures
      c.written_words_are_told.ensures
      program old new place image fits ends there inside wrote is
  | commits place image ends there outside wrote is ↦
      commits_keep c.accesses_join_up.ensures c.last_writes_tell_the_store.ensures
      c.written_words_are_told.ensures program old new place image fits ends there accepted
      outside wrote is
  | empties_entry image chooses some wrote is ↦
      empties_entry_keep program old new image fits chooses wrote is
  | starts_bottom cpu chooses none start is ↦
      starts_bottom_keep c.accepted_programs_compute_their_courses.ensures.bottoms messages_fit
      program old new cpu accepted fits chooses none start is
  | runs_bottom before after left image turn running body clear events step is ↦
      runs_bottom_keep c.accesses_join_up.ensures c.courses_under_way_go_on.ensures.bodies
      c.following_goes_on.ensures c.stores_set_the_value.ensures program old new before after left
      image turn fits running body step is
  | prepares_event image ends other wrote is ↦
      prepares_event_keep program old new image fits ends wrote is
  | commits_event image ends follows wrote is ↦
      commits_event_keep c.commits_take_the_oldest.ensures.mark
      c.last_writes_tell_the_store.ensures program old new image fits counted ends follows wrote is
  | aborts word image draining conflict changed is ↦
      aborts_keep c.doom_writes_keep.ensures program old new word image fits draining changed is
  | prepares_drain image free other wrote is ↦
      prepares_drain_keep program old new image fits free wrote is
  | drains image free follows wrote is ↦
      drains_keep c.commits_take_the_oldest.ensures.mark c.last_writes_tell_the_store.ensures
      c.shared_reads_decide.ensures.bodies c.shared_reads_decide.ensures.units program old new
      image fits events counted free follows wrote is
]

pub returns-clause-runs : goal.returns-clause-runs
returns-clause-runs c = λ program d cpu left accepted.
    can_run c.following_goes_on.ensures c.bodies_stand_by_number.ensures program d cpu left

pub returns-clause-mode : goal.returns-clause-mode
returns-clause-mode c = λ program old new accepted fits row.
    mode_kept c.following_goes_on.ensures program old new fits row
