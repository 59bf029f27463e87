-- A board that was opened and made roomier can run, and how its run ends.
use Rattle.std.proofs.Common.{◌≡◌, ◌∙◌, ℕ, ◌+◌, ◌*◌, ◌≤◌, List, [], ◌∷◌, ◌++◌, length, ap, refl, subst, sym}
use Rattle.coati_word.specs.declared.mode.Mode.{Mode}
use Rattle.nv_memory.specs.Seats.{IsMemory}
use Rattle.nv_memory.specs.State.{state}
use Rattle.serial_log.specs.declared.end.End.{End}
use Rattle.serial_log.specs.declared.end.End.TheVariants.{Idle, Limit}
use Rattle.serial_log.specs.declared.mark.MarkKind.TheVariants as kind
use Rattle.serial_log.specs.declared.script.Script.{Script}
use Rattle.task_cost.specs.Limits.{handler_bound}
use Rattle.task_syntax.specs.declared.program.Program.{Program}
use Rattle.coati_device.specs.declared.device.Device.{Device}
use Rattle.coati_device.specs.Laws.{IsFresh}
use Rattle.coati_board.specs.Board.{CanBeRun, IsOpened, IsRoomier, IsSameRun, Whole}
use Rattle.executor.specs.Run.{HasMadeAllSteps, HasRun}
use Rattle.coati_top.specs.Runs.{HasRaisedAll, IsClosedBy, IsEndedBy}

-- a device with more room is still before its first step
pub fresh_with_room : (program : Program) (mode : Mode) (periods : List ℕ) (old new : Device) → IsFresh program mode periods old
    → IsRoomier old new → IsFresh program mode periods new
fresh_with_room program mode periods old new fresh roomier = record {
  image = ap (λ (d : Device). state d.image) roomier.same ∙ fresh.image;
  memory = subst (λ (d : Device). IsMemory d.image) (sym roomier.same) fresh.memory;
  phase = ap (λ (d : Device). d.phase) roomier.same ∙ fresh.phase;
  clock = ap (λ (d : Device). d.clock) roomier.same ∙ fresh.clock;
  steps = ap (λ (d : Device). d.steps) roomier.same ∙ fresh.steps;
  boots = ap (λ (d : Device). d.boots) roomier.same ∙ fresh.boots;
  until = ap (λ (d : Device). d.until) roomier.same ∙ fresh.until;
  marks = roomier.marks ∙ fresh.marks;
  readings = roomier.readings ∙ fresh.readings;
  attempt = roomier.attempt ∙ fresh.attempt;
  unit = roomier.unit ∙ fresh.unit;
  events = roomier.events ∙ fresh.events;
  made = roomier.made ∙ fresh.made;
  finished = ap (λ (d : Device). d.finished) roomier.same ∙ fresh.finished;
  accepted = ap (λ (d : Device). d.accepted) roomier.same ∙ fresh.accepted;
}

-- and its board is still the one that was opened
pub opened_with_room : (program : Program) (mode : Mode) (script : Script) (old new : Whole) → IsOpened program mode script old
    → IsSameRun old new → IsRoomier old.device new.device → IsOpened program mode script new
opened_with_room program mode script old new opened same roomier = record {
  program_is = same.program ∙ opened.program_is;
  mode_is = same.mode ∙ opened.mode_is;
  script_is = same.script ∙ opened.script_is;
  fresh = fresh_with_room program mode script.power old.device new.device opened.fresh roomier;
  cursors = ap (λ (d : Device). d.cursors) roomier.same ∙ opened.cursors;
}

-- with room for its run it can run
pub can_run : (program : Program) (mode : Mode) (script : Script) (board : Whole) → IsOpened program mode script board
    → script.limit + handler_bound program * length script.postings ≤ board.device.spare → CanBeRun board
can_run program mode script board opened room = record {
  opened = record {
    program_is = refl;
    mode_is = refl;
    script_is = refl;
    fresh = rw (opened.program_is, opened.mode_is, opened.script_is) opened.fresh;
    cursors = rw opened.script_is opened.cursors;
  };
  room = rw (opened.program_is, opened.script_is) room;
}

-- its End mark is the last, and the only one
pub closed_by : (start run : Whole) (end : End) → HasRun start end run → IsClosedBy end run
closed_by start run end ran = record {
  before = ran.last.device.history.marks;
  last = subst (λ (board : Whole). board.device.history.marks
      ≡ ran.last.device.history.marks ++ record { at = board.device.clock; kind = kind.End end } ∷ [])
      (sym ran.closed) refl;
  only = ran.still_open;
}

-- what is so at the end that it came to, from what is so at each
pub ended_by : (end : End) (run : Whole) → (end ≡ Idle → HasRaisedAll run) → (end ≡ Limit → HasMadeAllSteps run)
    → IsEndedBy end run
ended_by Idle run all limit = all refl
ended_by Limit run all limit = limit refl
