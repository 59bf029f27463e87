-- A board that has got more room.
use Rattle.std.proofs.Common.{◌≡◌, ℕ, ◌+◌, ◌^◌, ◌<◌, List, length, sym, ap, subst}
use Rattle.coati_word.specs.declared.mode.Mode.{Mode}
use Rattle.coati_word.specs.declared.reading.Reading.{Reading}
use Rattle.codegen.specs.Bodies.{program_code}
use Rattle.task_syntax.specs.declared.program.Program.{Program}
use Rattle.nv_memory.specs.State.{state}
use Rattle.serial_log.specs.declared.mark.Mark.{Mark}
use Rattle.serial_log.specs.declared.script.Script.{Script}
use Rattle.serial_log.specs.History.{Past}
use Rattle.serial_log.specs.Postings.{Terms}
use Rattle.coati_device.specs.declared.device.Device.{Device}
use Rattle.coati_device.specs.Kept.{Kept}
use Rattle.coati_device.specs.Cursors.{AreCursors}
use Rattle.coati_device.specs.HeldEvents.{EventsFit}
use Rattle.coati_device.specs.Points.{HasRoomFor, IsFit, IsSound, Reads, TakeTurns, uncommitted}
use Rattle.coati_device.specs.Waits.{Waits, waiting_count}
use Rattle.serial_log.specs.Standing.{standing_of}
use Rattle.coati_pace.specs.Effort.{shape_of}
use Rattle.coati_pace.specs.Running.{KeepsPace}
use Rattle.device_pace.specs.Effort.{effort_of}
use Rattle.coati_board.specs.Board.{IsBoard, IsRoomier, terms_of}

module _ (terms : Terms) (periods : List ℕ) (d : Device) (past : Past) (attempt unit : Kept)
    (waiting : Waits) (spare : ℕ)
    (marks : past.marks ≡ d.history.marks) (readings : past.readings ≡ d.history.readings)
    (items : attempt.items ≡ d.attempt.items)
    (kept : unit.items ≡ d.unit.items)
    (events : waiting.events ≡ d.waiting.events) where
  abbrev with_items : List Reading → List Reading → Reads
  with_items one other = record { attempt = one; unit = other; finished = d.finished }

  sound_with_room : IsSound terms (program_code terms.program) periods d →
      IsSound terms (program_code terms.program) periods
      (record d {
        history = past;
        attempt = attempt;
        unit = unit;
        waiting = waiting;
        spare = spare;
      })
  sound_with_room sound = record {
    fit =
        let code = program_code terms.program in
        subst (λ (ms : List Mark). IsFit terms.program code d.image
        (with_items attempt.items unit.items) d.phase (standing_of terms.program ms))
        (sym marks)
        (subst (λ (rs : List Reading). IsFit terms.program code d.image (with_items rs unit.items)
        d.phase (standing_of terms.program d.history.marks)) (sym items)
        (subst (λ (rs : List Reading). IsFit terms.program code d.image
        (with_items d.attempt.items rs) d.phase (standing_of terms.program d.history.marks))
        (sym kept) sound.fit));
    mode = sound.mode;
    events =
        subst (λ (ms : List Mark). EventsFit terms.program (state d.image)
        (standing_of terms.program ms) waiting.events) (sym marks)
        (subst (λ (reads : List (List Reading)). EventsFit terms.program (state d.image)
        (standing_of terms.program d.history.marks) reads) (sym events) sound.events);
    legal = record {
      records = rw (marks, readings) sound.legal.records;
      legal = rw (marks, readings) sound.legal.legal;
      booted = rw marks sound.legal.booted;
      latest = rw marks sound.legal.latest;
    };
    turns =
        subst (λ (ms : List Mark). TakeTurns terms.program (state d.image) d.phase ms) (sym marks)
        sound.turns;
    accepted = rw marks sound.accepted;
    timed = sound.timed;
    boots = record {
      times = rw marks sound.boots.times;
      counted = rw marks sound.boots.counted;
      last = rw marks sound.boots.last;
    };
  }

roomier_parts : (program : Program) (mode : Mode) (script : Script) (d : Device) (past : Past)
    (attempt unit : Kept) (waiting : Waits) (spare : ℕ) →
    past.marks ≡ d.history.marks → past.readings ≡ d.history.readings →
    attempt.items ≡ d.attempt.items → unit.items ≡ d.unit.items →
    waiting.events ≡ d.waiting.events →
    IsBoard program mode script d → d.clock + spare < 2 ^ 32 →
    length past.readings + (length unit.items + length attempt.items + waiting_count waiting)
    + spare < 2 ^ 32 →
    (HasRoomFor d.spare script.power d →
    HasRoomFor spare script.power
    (record d {
      history = past;
      attempt = attempt;
      unit = unit;
      waiting = waiting;
      spare = spare;
    })) →
    IsBoard program mode script
    (record d {
      history = past;
      attempt = attempt;
      unit = unit;
      waiting = waiting;
      spare = spare;
    })
roomier_parts program mode script d past attempt unit waiting spare marks readings items kept
    events
    board time few room = record {
      accepted = board.accepted;
      sizes = board.sizes;
      scripted = board.scripted;
      sound =
          sound_with_room (terms_of program mode) script.power d past attempt unit waiting spare
          marks readings items kept events board.sound;
      paced =
          subst (λ (ms : List Mark). KeepsPace program (shape_of program) mode
          (record { effort = effort_of d; clock = d.clock; marks = ms })) (sym marks) board.paced;
      cursors = subst (λ (ms : List Mark). AreCursors script.postings ms d.cursors) (sym marks)
          board.cursors;
      steps = board.steps;
      counted = board.counted;
      finished = board.finished;
      limit = board.limit;
      time = time;
      few = few;
      room = λ open_. room (board.room (rw marks at open_));
    }

-- it is sound
pub roomier_board : (program : Program) (mode : Mode) (script : Script) (d e : Device) →
    IsBoard program mode script d → IsRoomier d e →
    e.clock + e.spare < 2 ^ 32 →
    length e.history.readings + uncommitted e + e.spare < 2 ^ 32 →
    (HasRoomFor d.spare script.power d → HasRoomFor e.spare script.power e) →
    IsBoard program mode script e
roomier_board program mode script d e board roomier time few room =
    subst (IsBoard program mode script) (sym roomier.same)
    (roomier_parts program mode script d e.history e.attempt e.unit e.waiting e.spare
    roomier.marks roomier.readings roomier.attempt roomier.unit roomier.events board
    (subst (λ (n : ℕ). n + e.spare < 2 ^ 32) (ap (λ (f : Device). f.clock) roomier.same) time) few
    (λ had. subst (HasRoomFor e.spare script.power) roomier.same (room had)))
