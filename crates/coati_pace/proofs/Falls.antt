-- Each step lowers the need, constructor by constructor.
use Rattle.std.proofs.Common.{◌≡◌, ◌≢◌, ℕ, zero, suc, ◌+◌, ◌<◌, ◌≤◌, Bool, true, false, arith}
use Rattle.coati_word.specs.declared.mode.Mode.{Mode}
use Rattle.coati_word.specs.declared.mode.Mode.TheVariants.{Split, Buffi}
use Rattle.coati_pace.specs.declared.effort.Shape.{Shape}
use Rattle.coati_pace.specs.declared.effort.Place.{Place}
use Rattle.coati_pace.specs.declared.effort.Place.TheVariants.{Halted, Outside, Inside}
use Rattle.coati_pace.specs.declared.effort.Stage.TheVariants.{Chooses, RunsTask, EndsTask, RunsBottom, EndsBottom}
use Rattle.coati_pace.specs.declared.effort.Effort.{Effort}
use Rattle.coati_pace.specs.Effort.{cleaning_writes, effort, event_writes, most_writes}
use Rattle.coati_pace.specs.Need.{behind_oldest, cleaning_left, event_steps, events_before_end, events_first, missing, need, queue_steps, seen, steps_ahead, steps_behind_bottom, steps_choosing, steps_ending, task_steps, undo_risk}
use Rattle.coati_pace.specs.Acts.{IsStep}
use Rattle.coati_pace.specs.Acts.IsStep.{applies, applies_below, cleans, starts, runs, ends, prepares, empties_entry, starts_bottom, runs_bottom, ends_bottom, prepares_event, commits_event, aborts, drops, prepares_drain, prepares_below, drains, drains_below}
use Rattle.coati_pace.proofs.Parts.{all_first, all_first_in_buffi, choosing_begun, choosing_most, choosing_under, cleaning_most, ending_begun, ending_most, ending_under, ending_within, missing_most, none_before_end, queue_most, queue_nearly, queue_whole, risk_grows, split_events, task_runs}

applies_falls : (s : Shape) (mode : Mode) (writes fewer held cleaning other : ℕ) (place : Place)
    (begun now : Bool) → fewer < writes → other ≤ cleaning_writes s →
    need s mode (effort fewer held place (Chooses other now))
    < need s mode (effort writes held place (Chooses cleaning begun))
unfolding steps_ahead
applies_falls s mode zero fewer held cleaning other place begun now less few = absurd (omega arith)
applies_falls s mode (suc writes) fewer held cleaning other place begun now less few =
    let events = events_first mode place held in
    omega (
      arith,
      choosing_under s mode place writes events cleaning begun,
      choosing_most s mode place fewer events other now few,
    )

applies_below_falls : (s : Shape) (mode : Mode) (writes fewer held : ℕ) (place : Place)
    (placed begun now : Bool) → fewer < writes →
    need s mode (effort fewer held place (EndsTask placed now))
    < need s mode (effort writes held place (EndsTask placed begun))
unfolding steps_ahead
applies_below_falls s mode zero fewer held place placed begun now less = absurd (omega arith)
applies_below_falls s mode (suc writes) fewer held place placed begun now less =
    omega (
      arith,
      ending_most s mode fewer (events_before_end mode held) placed now,
      ending_under s mode writes (events_before_end mode held) placed begun,
    )

cleans_falls : (s : Shape) (mode : Mode) (held cleaning less : ℕ) (place : Place)
    (begun now : Bool) → events_first mode place held ≡ 0 → place ≢ Halted → less < cleaning →
    need s mode (effort 0 held place (Chooses less now))
    < need s mode (effort 0 held place (Chooses cleaning begun))
unfolding steps_ahead steps_choosing queue_steps cleaning_left
cleans_falls s mode held cleaning less place begun now none there few =
    rw none (omega (arith, few, task_runs s place cleaning there, task_runs s place less there))

starts_falls : (s : Shape) (mode : Mode) (held cleaning left : ℕ) (place : Place) (begun : Bool) →
    events_first mode place held ≡ 0 → place ≢ Halted → left + 2 ≤ s.attempt →
    need s mode (effort 0 held place (RunsTask left))
    < need s mode (effort 0 held place (Chooses cleaning begun))
unfolding steps_ahead steps_choosing queue_steps cleaning_left steps_ending seen missing
starts_falls s mode held cleaning left place begun none there few =
    rw (none_before_end mode place held none, none)
    (omega (arith, few, task_runs s place cleaning there))

runs_falls : (s : Shape) (mode : Mode) (held left less : ℕ) (place : Place) → less < left →
    need s mode (effort 0 held place (RunsTask less))
    < need s mode (effort 0 held place (RunsTask left))
unfolding steps_ahead
runs_falls s mode held left less place few = omega (arith, few)

ends_falls : (s : Shape) (mode : Mode) (held left : ℕ) (place : Place) (placed begun : Bool) →
    need s mode (effort 0 held place (EndsTask placed begun))
    < need s mode (effort 0 held place (RunsTask left))
unfolding steps_ahead
ends_falls s mode held left place placed begun =
    omega (arith, ending_most s mode 0 (events_before_end mode held) placed begun)

prepares_falls : (s : Shape) (mode : Mode) (held : ℕ) (place : Place) (begun : Bool) →
    events_before_end mode held ≡ 0 →
    need s mode (effort 0 held place (EndsTask true begun))
    < need s mode (effort 0 held place (EndsTask false begun))
unfolding steps_ahead steps_ending seen missing
prepares_falls s mode held place begun none = rw none (omega arith)

-- the first write for the oldest event
begins_falls : (s : Shape) (mode : Mode) (place : Place) (held cleaning other : ℕ) →
    steps_choosing s mode place 0 (suc held) other true
    < steps_choosing s mode place 0 (suc held) cleaning false
unfolding steps_choosing queue_steps seen cleaning_left missing
begins_falls s mode place held cleaning other = omega arith

begun_falls : (s : Shape) (mode : Mode) (held cleaning other : ℕ) (place : Place) →
    events_first mode place (suc held) ≡ suc held →
    need s mode (effort 0 (suc held) place (Chooses other true))
    < need s mode (effort 0 (suc held) place (Chooses cleaning false))
unfolding steps_ahead
begun_falls s mode held cleaning other place all =
    rw all (omega (arith, begins_falls s mode place held cleaning other))

starts_bottom_falls : (s : Shape) (held cleaning left : ℕ) (place : Place) → place ≢ Inside →
    left + 2 ≤ s.attempt →
    need s Split (effort 0 (suc held) place (RunsBottom left))
    < need s Split (effort 0 (suc held) place (Chooses cleaning true))
unfolding steps_ahead steps_behind_bottom event_steps
starts_bottom_falls s held cleaning left place outside few =
    rw (all_first Split place (suc held) outside)
    (omega (arith, few, choosing_begun s Split place held cleaning))

runs_bottom_falls : (s : Shape) (mode : Mode) (held left less : ℕ) (place : Place) →
    less < left →
    need s mode (effort 0 held place (RunsBottom less))
    < need s mode (effort 0 held place (RunsBottom left))
unfolding steps_ahead
runs_bottom_falls s mode held left less place few = omega (arith, few)

ends_bottom_falls : (s : Shape) (mode : Mode) (held left : ℕ) (place : Place) (begun : Bool) →
    need s mode (effort 0 held place (EndsBottom begun))
    < need s mode (effort 0 held place (RunsBottom left))
unfolding steps_ahead
ends_bottom_falls s mode held left place begun = omega (arith, missing_most begun)

prepares_event_falls : (s : Shape) (mode : Mode) (held : ℕ) (place : Place) →
    need s mode (effort 0 held place (EndsBottom true))
    < need s mode (effort 0 held place (EndsBottom false))
unfolding steps_ahead missing
prepares_event_falls s mode held place = omega arith

commits_event_falls : (s : Shape) (held writes cleaning : ℕ) (place : Place) (begun : Bool) →
    writes ≤ event_writes s → cleaning ≤ cleaning_writes s →
    need s Split (effort writes held place (Chooses cleaning begun))
    < need s Split (effort 0 (suc held) place (EndsBottom true))
unfolding steps_ahead steps_behind_bottom behind_oldest missing
commits_event_falls s held writes cleaning place begun few clean =
    omega (
      arith,
      few,
      split_events s place held,
      choosing_most s Split place writes (events_first Split place held) cleaning begun clean,
    )

aborts_falls : (s : Shape) (held writes cleaning other : ℕ) (begun now : Bool) →
    writes ≤ most_writes s → other ≤ cleaning_writes s →
    need s Buffi (effort writes (suc held) Outside (Chooses other now))
    < need s Buffi (effort 0 (suc held) Inside (Chooses cleaning begun))
unfolding steps_ahead events_first steps_choosing cleaning_left seen undo_risk task_steps
aborts_falls s held writes cleaning other begun now few clean =
    omega (
      arith,
      few,
      queue_most (event_steps s Buffi) (suc held) (seen writes now),
      queue_nearly (event_steps s Buffi) (suc held) begun,
      cleaning_most s writes (suc held) other clean,
    )

drops_falls : (s : Shape) (held writes cleaning : ℕ) (place : Place) (placed begun now : Bool) →
    writes ≤ most_writes s → cleaning ≤ cleaning_writes s →
    need s Buffi (effort writes (suc held) Outside (Chooses cleaning now))
    < need s Buffi (effort 0 (suc held) place (EndsTask placed begun))
unfolding steps_ahead events_first steps_ending events_before_end seen undo_risk task_steps
drops_falls s held writes cleaning place placed begun now few clean =
    omega (
      arith,
      few,
      choosing_most s Buffi Outside writes (suc held) cleaning now clean,
      queue_nearly (event_steps s Buffi) (suc held) begun,
    )

prepares_below_falls : (s : Shape) (held : ℕ) (place : Place) (placed : Bool) →
    need s Buffi (effort 0 (suc held) place (EndsTask placed true))
    < need s Buffi (effort 0 (suc held) place (EndsTask placed false))
unfolding steps_ahead steps_ending events_before_end seen queue_steps missing
prepares_below_falls s held place placed = omega arith

drains_falls : (s : Shape) (held writes cleaning other : ℕ) (place : Place) (begun : Bool) →
    writes ≤ event_writes s → other ≤ cleaning_writes s →
    need s Buffi (effort writes held place (Chooses other begun))
    < need s Buffi (effort 0 (suc held) place (Chooses cleaning true))
unfolding steps_ahead events_first behind_oldest event_steps
drains_falls s held writes cleaning other place begun few clean =
    omega (
      arith,
      few,
      choosing_most s Buffi place writes held other begun clean,
      choosing_begun s Buffi place held cleaning,
      queue_whole (event_steps s Buffi) held,
      risk_grows s place held,
    )

drains_below_falls : (s : Shape) (held writes : ℕ) (place : Place) (placed begun : Bool) →
    writes ≤ event_writes s →
    need s Buffi (effort writes held place (EndsTask placed begun))
    < need s Buffi (effort 0 (suc held) place (EndsTask placed true))
unfolding steps_ahead events_before_end behind_oldest event_steps
drains_below_falls s held writes place placed begun few =
    omega (
      arith,
      few,
      ending_begun s Buffi held placed,
      ending_within s Buffi writes held placed begun,
    )

pub steps_fall : (s : Shape) (mode : Mode) (old new : Effort) → IsStep s mode old new →
    need s mode new < need s mode old
steps_fall s m old new (applies w f h c o p b n less few was is) =
    rw (was, is) (applies_falls s m w f h c o p b n less few)
steps_fall s m old new (applies_below w f h p d b n less was is) =
    rw (was, is) (applies_below_falls s m w f h p d b n less)
steps_fall s m old new (cleans h c l p b n none there less was is) =
    rw (was, is) (cleans_falls s m h c l p b n none there less)
steps_fall s m old new (starts h c l p b none there few was is) =
    rw (was, is) (starts_falls s m h c l p b none there few)
steps_fall s m old new (runs h l less p few was is) =
    rw (was, is) (runs_falls s m h l less p few)
steps_fall s m old new (ends h l p d b was is) = rw (was, is) (ends_falls s m h l p d b)
steps_fall s m old new (prepares h p b none was is) = rw (was, is) (prepares_falls s m h p b none)
steps_fall s m old new (empties_entry h c o p mode outside clean was is) =
    rw (was, is) (begun_falls s m h c o p (all_first m p (suc h) outside))
steps_fall s m old new (starts_bottom h c l p mode outside few was is) =
    rw (mode, was, is) (starts_bottom_falls s h c l p outside few)
steps_fall s m old new (runs_bottom h l less p few was is) =
    rw (was, is) (runs_bottom_falls s m h l less p few)
steps_fall s m old new (ends_bottom h l p b was is) = rw (was, is) (ends_bottom_falls s m h l p b)
steps_fall s m old new (prepares_event h p was is) = rw (was, is) (prepares_event_falls s m h p)
steps_fall s m old new (commits_event h w c p b mode few clean was is) =
    rw (mode, was, is) (commits_event_falls s h w c p b few clean)
steps_fall s m old new (aborts h w c o b n mode few clean was is) =
    rw (mode, was, is) (aborts_falls s h w c o b n few clean)
steps_fall s m old new (drops h w c p d b n mode few clean was is) =
    rw (mode, was, is) (drops_falls s h w c p d b n few clean)
steps_fall s m old new (prepares_drain h c o p mode clean was is) =
    rw (mode, was, is) (begun_falls s Buffi h c o p (all_first_in_buffi p (suc h)))
steps_fall s m old new (prepares_below h p d mode was is) =
    rw (mode, was, is) (prepares_below_falls s h p d)
steps_fall s m old new (drains h w c o p b mode few clean was is) =
    rw (mode, was, is) (drains_falls s h w c o p b few clean)
steps_fall s m old new (drains_below h w p d b mode few was is) =
    rw (mode, was, is) (drains_below_falls s h w p d b few)
