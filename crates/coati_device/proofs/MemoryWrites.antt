-- What a write of one word leaves of a memory, and of what it fits, told of its state alone.
use Rattle.std.proofs.Common.{◌≡◌, ◌<◌, sym, subst, ◌∙◌, length, ap}
use Rattle.std.specs.Prelude.{List}
use Rattle.std.proofs.lemmas.List.{length-set}
use Rattle.task_syntax.specs.declared.program.Program.{Program}
use Rattle.task_syntax.specs.Names.{tasks}
use Rattle.serial_log.specs.Standing.{Standing}
use Rattle.nv_memory.specs.Frames.{StandsForTheSame}
use Rattle.nv_memory.specs.InRange.{ArePlacesInRange, InRange, IsClosed}
use Rattle.nv_memory.specs.Ring.{Entry}
use Rattle.nv_memory.specs.Seats.{IsMemory, Memory}
use Rattle.nv_memory.specs.State.{Change, State, put, state}
use Rattle.nv_memory.specs.Words.{mode}
use Rattle.nv_memory.proofs.Puts.{puts_one_word}
use Rattle.word_code.specs.Code.{Bodies}
use Rattle.coati_device.specs.declared.device.Phase.{Phase}
use Rattle.coati_device.specs.Attempt.{IsAttempt}
use Rattle.coati_device.specs.OpenUnit.{OpenUnitFits}
use Rattle.coati_device.specs.Points.{AreHeld, IsFit, IsMemoryOf, Reads, StandsFor}
use Rattle.coati_device.specs.TaskView.{HasWritten}

-- what stands is what stood, with the one change
pub state_written : (m n : Memory) (change : Change) → IsMemory m → HasWritten m change n →
    state n ≡ put (state m) change
state_written m n change is w =
    ap state w.memory ∙ (puts_one_word m change w.write is w.writes).state

-- the ranges hold
pub record HasRanges (program : Program) (s : State) : Type 0 where
  pub range : InRange s
  pub places : ArePlacesInRange (length (tasks program)) s
  pub closed : IsClosed s
  pub mode : mode s < 2

pub memory_written : (program : Program) (m n : Memory) (change : Change) → IsMemoryOf program m →
    HasWritten m change n → HasRanges program (put (state m) change) → IsMemoryOf program n
memory_written program m n change is w ranges =
    let after = sym (state_written m n change is.memory w) in
    let there = subst (HasRanges program) after ranges in
    let whole = length-set m.words w.write.at w.write.word ∙ is.memory.whole in
    record {
      memory = rw w.memory (record { sizes = is.memory.sizes; whole = whole });
      words = rw w.memory is.words;
      slots = rw w.memory is.slots;
      range = there.range;
      places = there.places;
      closed = there.closed;
      mode = there.mode;
    }

pub stands_still : (program : Program) (s t : State) (standing : Standing) → StandsForTheSame s t →
    StandsFor program s standing → StandsFor program t standing
stands_still program s t standing same stands = record {
  words = λ word. same.words word ∙ stands.words word;
  place = same.place ∙ stands.place;
  held = subst (λ (entries : List Entry). AreHeld program entries standing.rest)
      (sym same.held) stands.held;
}

-- memory stays in range and stands for the same
pub record LeavesAll (program : Program) (s t : State) : Type 0 where
  pub ranges : HasRanges program t
  pub same : StandsForTheSame s t

-- so it fits, where the open unit and the attempt do
pub fit_written : (program : Program) (code : Bodies) (m n : Memory) (change : Change)
    (reads : Reads) (phase : Phase) (standing : Standing) → HasWritten m change n →
    LeavesAll program (state m) (put (state m) change) →
    OpenUnitFits program (put (state m) change) standing.run reads.unit reads.finished →
    IsAttempt program code n standing.rest reads.attempt phase →
    IsFit program code m reads phase standing → IsFit program code n reads phase standing
fit_written program code m n change reads phase standing writes leaves open_fits attempt fit =
    let after = sym (state_written m n change fit.memory.memory writes) in
    let left = subst (LeavesAll program (state m)) after leaves in
    record {
      memory = memory_written program m n change fit.memory writes leaves.ranges;
      stands = stands_still program (state m) (state n) standing left.same fit.stands;
      waiting = fit.waiting;
      place = fit.place;
      unit = subst (λ (s : State). OpenUnitFits program s standing.run reads.unit reads.finished)
          after open_fits;
      attempt = attempt;
    }
