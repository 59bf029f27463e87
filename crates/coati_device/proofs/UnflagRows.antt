-- A flag that an attempt before has left is taken back: memory fits where the history leads.
use Rattle.std.proofs.Common.{◌≡◌, refl, sym, subst, Some, length}
use Rattle.task_syntax.specs.declared.program.Program.{Program}
use Rattle.task_syntax.specs.Names.{tasks}
use Rattle.serial_log.specs.Standing.{Standing, standing_of}
use Rattle.nv_memory.specs.declared.log.Log.TheVariants as log
use Rattle.nv_memory.specs.Seats.{Memory}
use Rattle.nv_memory.specs.State.{Change, State, first_undone, put, state}
use Rattle.nv_memory.specs.Words.{mark}
use Rattle.buffi_sets.specs.Flags.{UnflagWritesTakeOneBack, Unflags, unflag_attempt_changes}
use Rattle.commit_log.specs.OpenUnit.{KeepsUnit}
use Rattle.word_code.specs.Code.{Bodies}
use Rattle.codegen.specs.Bodies.{program_code}
use Rattle.coati_device.specs.declared.device.Device.{Device}
use Rattle.coati_device.specs.declared.device.Phase.{Phase}
use Rattle.coati_device.specs.declared.device.Phase.TheVariants.{Choose}
use Rattle.coati_device.specs.Laws.{Fits}
use Rattle.coati_device.specs.Points.{IsFit, Reads, reads_of}
use Rattle.coati_device.specs.Rows.{Chooses}
use Rattle.coati_device.specs.TaskView.{HasWritten}
use Rattle.coati_device.proofs.LogRows.{attempt_chosen}
use Rattle.coati_device.proofs.MemoryWrites.{fit_written}
use Rattle.coati_device.proofs.OpenUnits.{open_unit_kept}

unflagged_unit : (s t : State) → mark s ≡ 0 → Unflags s t → KeepsUnit s t
unflagged_unit s t clear unflags = record {
  log = λ word. rw (unflags.same_mark, clear) (unflags.logs log.Tx word);
  flags = λ word low. rw (unflags.same_mark, clear) (unflags.tx_flags word);
  next = rw (unflags.same_mark, clear) unflags.same_current;
}

unflag_fits : (program : Program) (code : Bodies) (m n : Memory) (change : Change) (reads : Reads)
    (phase : Phase) (standing : Standing) → UnflagWritesTakeOneBack → phase ≡ Choose →
    mark (state m) ≡ 0 →
    first_undone (state m) (unflag_attempt_changes (state m)) ≡ Some change →
    HasWritten m change n →
    IsFit program code m reads phase standing → IsFit program code n reads phase standing
unflag_fits program code m n change reads phase standing law chooses clear next writes fit =
    let s = state m in
    let unflags = law s change fit.memory.range fit.memory.closed next in
    fit_written program code m n change reads phase standing writes
    (record {
      ranges = record {
        range = unflags.keeps.range;
        places = unflags.keeps.places (length (tasks program)) fit.memory.places;
        closed = unflags.keeps.closed;
        mode = rw unflags.same_mode fit.memory.mode;
      };
      same = unflags.keeps.meaning;
    })
    (open_unit_kept program s (put s change) standing.run reads.unit reads.finished
    (record {
      unit = unflagged_unit s (put s change) clear unflags;
      open_same = rw (unflags.same_mark, unflags.same_opened, unflags.same_doomed) refl;
      mode_same = unflags.same_mode;
      words_same = refl;
    }) fit.unit)
    (attempt_chosen program code n standing.rest reads.attempt phase chooses)
    fit

pub unflags_keep : (program : Program) (old new : Device) (change : Change) (image : Memory) →
    UnflagWritesTakeOneBack → Fits program old → Chooses old →
    first_undone (state old.image) (unflag_attempt_changes (state old.image)) ≡ Some change →
    HasWritten old.image change image → new ≡ record old { image = image } → Fits program new
unflags_keep program old new change image law fit chooses next writes is =
    subst (Fits program) (sym is)
    (unflag_fits program (program_code program) old.image image change (reads_of old) old.phase
    (standing_of program old.history.marks) law chooses.phase chooses.clear.mark next writes fit)
