-- What the bound on progress reads of a device: memory and the phase tell how much is to be done
-- before the next task ends.
use Rattle.std.specs.Prelude.{ℕ, ◌+◌, ◌==◌, Bool, if◌then◌else◌}
use Rattle.task_syntax.specs.declared.body.BodyId.{BodyId}
use Rattle.task_syntax.specs.declared.body.BodyId.TheVariants.{Bottom, Task, Top}
use Rattle.task_syntax.specs.Units.{halt}
use Rattle.nv_memory.specs.declared.log.Log.TheVariants as log
use Rattle.nv_memory.specs.Logs.{log_length}
use Rattle.nv_memory.specs.Ring.{held_count, position_after}
use Rattle.nv_memory.specs.StandsFor.{place_of}
use Rattle.nv_memory.specs.State.{State, state}
use Rattle.nv_memory.specs.Words.{attempt_flag, head, head_next, mark, mode, next}
use Rattle.commit_log.specs.Left.{sum_below, writes_left}
use Rattle.buffi_sets.specs.Undo.{undo_left}
use Rattle.coati_device.specs.declared.device.Device.{Device}
use Rattle.coati_device.specs.declared.device.Phase.{Phase}
use Rattle.coati_device.specs.declared.device.Phase.TheVariants.{Choose, Run, End, EndBottom}
use Rattle.coati_device.specs.BottomView.{head_log}
use Rattle.coati_device.specs.OpenUnit.{has_unit}
use Rattle.coati_pace.specs.declared.effort.Effort.{Effort}
use Rattle.coati_pace.specs.declared.effort.Place.{Place}
use Rattle.coati_pace.specs.declared.effort.Place.TheVariants.{Halted, Outside, Inside}
use Rattle.coati_pace.specs.declared.effort.Stage.{Stage}
use Rattle.coati_pace.specs.declared.effort.Stage.TheVariants.{Chooses, RunsTask, EndsTask, RunsBottom, EndsBottom}
use Rattle.coati_pace.specs.Effort.{effort}

-- the writes that are left of the commit under way, else of the undo
abbrev pub writes_under_way : State → ℕ
writes_under_way s = if mark s == 0 then undo_left s else writes_left s

-- where the program stands once they are made
abbrev pub place_behind : State → Place
place_behind s =
    if has_unit s then Inside else (if place_of s == halt then Halted else Outside)

-- one write empties the log that an attempt before has left
abbrev pub log_writes : State → ℕ
log_writes s = if log_length s log.Task == 0 then 0 else 1

-- in buffi one takes back each flag that it has left
abbrev pub flag_left : State → ℕ → ℕ
flag_left s word = if attempt_flag s word then 1 else 0

abbrev pub flag_writes : State → ℕ
flag_writes s = if mode s == 1 then sum_below (flag_left s) s.n else 0

abbrev pub cleaning_of : State → ℕ
cleaning_of s = log_writes s + flag_writes s

-- the position behind the head is written
abbrev pub is_prepared : State → Bool
is_prepared s = head_next s == position_after s.k (head s)

-- the first write for the oldest held posting is made: in split the log of its entry is empty, in
-- buffi the position behind the head is written
abbrev pub is_begun : State → Bool
is_begun s = if mode s == 1 then is_prepared s else log_length s (head_log s) == 0

-- a body with so many steps left
abbrev pub stage_in : ℕ → BodyId → Stage
stage_in left (Task task) = RunsTask left
stage_in left (Top event) = RunsBottom left
stage_in left (Bottom event) = RunsBottom left

abbrev pub stage_of : State → Phase → Stage
stage_of s Choose = Chooses (cleaning_of s) (is_begun s)
stage_of s (Run cpu left) = stage_in left cpu.body
stage_of s (End place) = EndsTask (next s == place) (is_prepared s)
stage_of s EndBottom = EndsBottom (is_prepared s)

-- what there is to do, where memory and the phase stand so
abbrev pub effort_at : State → Phase → Effort
effort_at s phase =
    effort (writes_under_way s) (held_count s) (place_behind s) (stage_of s phase)

abbrev pub effort_of : Device → Effort
effort_of d = effort_at (state d.image) d.phase
