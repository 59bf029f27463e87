-- A unit that is given up leaves that memory fits where the history leads: where a transaction is
-- open it is to be undone, and a lone attempt has left nothing.
use Rattle.std.proofs.Common.{◌≡◌, ◌==◌, ℕ, ◌+◌, [], Bool, true, false, Some, None, if◌then◌else◌, length, refl, sym, subst, inl, arith}
use Rattle.std.proofs.lemmas.Bool.Decides.{nat_tests}
use Rattle.task_syntax.specs.declared.program.Program.{Program}
use Rattle.task_syntax.specs.Names.{tasks}
use Rattle.task_syntax.specs.Units.{transaction_of}
use Rattle.nv_memory.specs.Seats.{Memory}
use Rattle.nv_memory.specs.State.{State, put, state}
use Rattle.nv_memory.specs.Words.{current, mark, opened}
use Rattle.buffi_sets.specs.Undo.{DoomWritesKeep, doom_change}
use Rattle.serial_log.specs.declared.abort.AbortOf.{AbortOf}
use Rattle.serial_log.specs.declared.mark.Mark.{Mark}
use Rattle.serial_log.specs.declared.mark.MarkKind.{MarkKind}
use Rattle.serial_log.specs.declared.mark.MarkKind.TheVariants.{Abort}
use Rattle.serial_log.specs.Standing.{Standing, after_mark, opening, standing_of}
use Rattle.serial_log.proofs.Walks.{walk_push}
use Rattle.word_code.specs.Code.{Bodies}
use Rattle.codegen.specs.Bodies.{program_code}
use Rattle.coati_device.specs.declared.device.Device.{Device}
use Rattle.coati_device.specs.declared.device.Phase.{Phase}
use Rattle.coati_device.specs.declared.device.Phase.TheVariants.{Choose}
use Rattle.coati_device.specs.Kept.{emptied, unit_of, with_abort}
use Rattle.coati_device.specs.Laws.{Fits}
use Rattle.coati_device.specs.OpenUnit.{OpenUnitFits, UnitFits, has_unit}
use Rattle.coati_device.specs.Points.{IsFit, Reads, StandsFor, reads_of}
use Rattle.coati_device.specs.Rows.{Drains, IsClear, abort_change, oldest_posting, tasks_given_up}
use Rattle.coati_device.specs.TaskView.{HasWritten, IsAfter}
use Rattle.coati_device.proofs.MemoryWrites.{memory_written, stands_still, state_written}

-- nothing of a unit is left
abbrev nothing : Reads
nothing = record { attempt = []; unit = []; finished = 0 }

-- where no unit is open
no_unit : (program : Program) (s : State) (standing : Standing) → has_unit s ≡ false →
    OpenUnitFits program s standing.run [] 0
no_unit program s standing none =
    subst (UnitFits program s standing.run [] 0) (sym none)
    (record { none = refl; nothing = refl })

none_doomed : (s : State) → mark s ≡ 0 → has_unit (put s doom_change) ≡ false
none_doomed s clear = rw clear refl

none_closed : (s : State) → IsClear s → (opened s == 1) ≡ false → has_unit s ≡ false
none_closed s clear shut = rw (clear.mark, clear.doomed, shut) refl

is_one : (word : ℕ) → (word == 1) ≡ true → word ≡ 1
is_one word is = grind (arith, nat_tests)

module _ (dooms : DoomWritesKeep) (program : Program) (code : Bodies) (m image : Memory)
    (reads : Reads) (phase : Phase) (standing : Standing) (clear : IsClear (state m))
    (fit : IsFit program code m reads phase standing) where
  abbrev GivenUp : Type 0
  GivenUp = IsFit program code image nothing Choose standing

  doomed_fits : opened (state m) ≡ 1 → HasWritten m doom_change image → GivenUp
  doomed_fits is_open wrote =
      let s = state m in
      let t = put s doom_change in
      let keeps = dooms s fit.memory.range fit.memory.closed clear.mark (inl is_open) in
      let after = state_written m image doom_change fit.memory.memory wrote in
      record {
        memory = memory_written program m image doom_change fit.memory wrote (record {
          range = keeps.range;
          places = keeps.places (length (tasks program)) fit.memory.places;
          closed = keeps.closed;
          mode = fit.memory.mode;
        });
        stands = subst (λ (x : State). StandsFor program x standing) (sym after)
            (stands_still program s t standing keeps.meaning fit.stands);
        waiting = fit.waiting;
        place = fit.place;
        unit = subst (λ (x : State). OpenUnitFits program x standing.run [] 0) (sym after)
            (no_unit program t standing (none_doomed s clear.mark));
        attempt = tt;
      }

  closed_fits : (opened (state m) == 1) ≡ false → image ≡ m → GivenUp
  closed_fits shut same =
      subst (λ (x : Memory). IsFit program code x nothing Choose standing) (sym same) (record {
        memory = fit.memory;
        stands = fit.stands;
        waiting = fit.waiting;
        place = fit.place;
        unit = no_unit program (state m) standing (none_closed (state m) clear shut);
        attempt = tt;
      })

  given_up : (is_open : Bool) → (opened (state m) == 1) ≡ is_open →
      IsAfter m (if is_open then Some doom_change else None) image → GivenUp
  given_up true is wrote = doomed_fits (is_one (opened (state m)) is) wrote
  given_up false is same = closed_fits is same

-- the mark of an abort leads nowhere
abort_told : (program : Program) (code : Bodies) (image : Memory) (standing : Standing)
    (told : Mark) (aborted : AbortOf) → told.kind ≡ Abort aborted →
    IsFit program code image nothing Choose standing →
    IsFit program code image nothing Choose (after_mark program standing told)
abort_told program code image standing told aborted is fit =
    subst (λ (kind : MarkKind). IsFit program code image nothing Choose
    (after_mark program standing (record { at = told.at; kind = kind }))) (sym is) (record {
      memory = fit.memory;
      stands = record {
        words = fit.stands.words;
        place = fit.stands.place;
        held = fit.stands.held;
      };
      waiting = record { few = fit.waiting.few; numbered = fit.waiting.numbered };
      place = fit.place;
      unit = fit.unit;
      attempt = tt;
    })

-- the row of a unit that is given up
pub aborts_keep : DoomWritesKeep → (program : Program) (old new : Device) (word : ℕ)
    (image : Memory) → Fits program old → Drains old →
    IsAfter old.image (abort_change (state old.image)) image →
    new ≡ record old {
      image = image;
      history = with_abort old.history (unit_of
          (transaction_of program (current (state old.image))) (current (state old.image)))
          (tasks_given_up old) (oldest_posting old) word (old.clock + 1);
      unit = emptied old.unit;
      finished = 0;
      attempt = emptied old.attempt;
      phase = Choose;
    } → Fits program new
aborts_keep dooms program old new word image fit drains changed is =
    let s = state old.image in
    let code = program_code program in
    let standing = standing_of program old.history.marks in
    let aborted : AbortOf = record {
      unit = unit_of (transaction_of program (current s)) (current s);
      tasks = tasks_given_up old;
      posting = oldest_posting old;
      word = word;
    } in
    let told : Mark = record { at = old.clock + 1; kind = Abort aborted } in
    subst (Fits program) (sym is)
    (subst (λ (later : Standing). IsFit program code image nothing Choose later)
    (sym (walk_push (after_mark program) (opening program) old.history.marks told))
    (abort_told program code image standing told aborted refl
    (given_up dooms program code old.image image (reads_of old) old.phase standing drains.clear fit
    (opened s == 1) refl changed)))
