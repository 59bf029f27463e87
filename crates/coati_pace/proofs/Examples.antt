-- The need of small devices, computed: one word, one slot, an attempt of four steps.
use Rattle.std.proofs.Common.{◌≡◌, false, refl}
use Rattle.coati_word.specs.declared.mode.Mode.TheVariants.{Split, Buffi}
use Rattle.coati_pace.specs.declared.effort.Shape.{Shape}
use Rattle.coati_pace.specs.declared.effort.Place.TheVariants.{Outside}
use Rattle.coati_pace.specs.declared.effort.Stage.TheVariants.{Chooses}
use Rattle.coati_pace.specs.Effort.{bound, effort}
use Rattle.coati_pace.specs.Need.{behind_oldest, cleaning_left, event_steps, events_first, missing, need, queue_steps, seen, steps_ahead, steps_choosing, steps_ending, task_steps, undo_risk}

abbrev small : Shape
small = record { words = 1; slots = 1; attempt = 4 }

-- start, three steps of the body, the place behind it, the marker
task_needs : need small Split (effort 0 0 Outside (Chooses 0 false)) ≡ 6
unfolding steps_ahead steps_choosing queue_steps undo_risk task_steps cleaning_left events_first
task_needs = refl

-- a held event: its log emptied, start and body, position, marker, its three writes
event_needs : queue_steps (event_steps small Split) 1 false ≡ 10
unfolding queue_steps behind_oldest event_steps missing
event_needs = refl

-- in buffi an event may abort an ended task's unit: the event, an undo, the task anew
abort_needs : steps_ending small Buffi 0 1 false false ≡ 47
unfolding steps_ending queue_steps behind_oldest event_steps missing seen
abort_needs = refl

bound_suffices : bound small ≡ 128
bound_suffices = refl
