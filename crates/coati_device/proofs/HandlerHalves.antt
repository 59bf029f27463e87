-- The bottom half in a handler, in mode buffi: its own log and the readings kept for it are what
-- it has done on what the held events leave, and all else that memory stands for stays.
use Rattle.std.proofs.Common.{◌≡◌, ℕ, zero, suc, ◌+◌, ◌<◌, ◌≤◌, ◌==◌, List, [], ◌∷◌, ◌++◌, length, Bool, true, false, Option, Some, None, if◌then◌else◌, refl, sym, ap, subst, ◌∙◌, append-nil, arith}
use Rattle.std.specs.Prelude.{◌&&◌, slice_get, slice_index}
use Rattle.std.specs.Option.{option_or}
use Rattle.coati_word.specs.declared.ending.Ending.{Ending}
use Rattle.coati_word.specs.declared.reading.Reading.{Reading}
use Rattle.task_syntax.specs.declared.body.BodyId.TheVariants.{Bottom}
use Rattle.task_syntax.specs.declared.program.Event.{Event}
use Rattle.task_syntax.specs.declared.program.Program.{Program}
use Rattle.task_syntax.specs.Course.{Access, Course, Store, readings}
use Rattle.task_syntax.specs.CourseLaws.{AccessesJoinUp, CoursesUnderWayGoOn}
use Rattle.task_syntax.specs.Events.{bottom_course, course_of, event_course, event_effect, message}
use Rattle.task_syntax.specs.Names.{word_count}
use Rattle.task_syntax.specs.Written.{last_written}
use Rattle.task_check.specs.Accepted.{IsAccepted}
use Rattle.task_cost.specs.Bodies.{bottom_cost}
use Rattle.nv_memory.specs.declared.log.Log.{Log}
use Rattle.nv_memory.specs.declared.log.Log.TheVariants as log
use Rattle.nv_memory.specs.Frames.{KeepsBeside}
use Rattle.nv_memory.specs.InRange.{InRange, IsClosed}
use Rattle.nv_memory.specs.Logs.{IsEmpty, log_value}
use Rattle.nv_memory.specs.Ring.{entry_at}
use Rattle.nv_memory.specs.Seats.{IsMemory, Memory}
use Rattle.nv_memory.specs.State.{State, put, state}
use Rattle.nv_memory.specs.Words.{tail}
use Rattle.nv_memory.proofs.Turns.{slot_low}
use Rattle.task_buffer.specs.Stores.{IsBegun, store_change}
use Rattle.task_buffer.specs.StoreLaws.{Stores, StoresSetTheValue}
use Rattle.event_buffer.specs.Fill.{is_full, tail_slot}
use Rattle.event_buffer.specs.FillLaws.{LogsAreInTheirEntries, TailEntryIsFree}
use Rattle.event_buffer.specs.Keeps.{KeepsSound}
use Rattle.codegen.specs.Bodies.{program_code}
use Rattle.codegen.specs.ProgramLaws.{BottomHalvesComputeTheirCourse}
use Rattle.word_code.specs.Code.{body_words}
use Rattle.word_code.specs.Following.{Computes}
use Rattle.word_code.specs.FollowingLaws.{FollowingGoesOn}
use Rattle.word_code.specs.declared.instruction.Instr.{Instr}
use Rattle.word_code.specs.Machine.{IsWithin, Move, StartsAt, move_of}
use Rattle.word_cpu.specs.declared.cpu.Cpu.{Cpu}
use Rattle.word_cpu.specs.declared.turn.Turn.{Turn}
use Rattle.word_cpu.specs.declared.turn.Turn.TheVariants.{Went, Storing, Ended}
use Rattle.word_cpu.specs.OnCourse.{done_by, read_by}
use Rattle.word_cpu.specs.Turning.{IsStep, Makes, state_of}
use Rattle.word_cpu.specs.Turning as turning
use Rattle.word_cpu.specs.UnderWay.{CameFurther, ComesOn, IsAtStart, IsUnderWay}
use Rattle.word_cpu.proofs.OnCourse.{can_step, steps_along}
use Rattle.word_cpu.proofs.UnderWay.{starts_under_way, steps_under_way}
use Rattle.coati_device.specs.HandlerView.{handler_view, handler_words, tail_log}
use Rattle.coati_device.specs.TaskView.{HasStoredIn}
use Rattle.coati_device.proofs.HandlerWords.{handler_length}
use Rattle.coati_device.proofs.HandlerWrites.{TouchesTail, store_of_entry, tail_stays, touches_by, touches_none}
use Rattle.coati_device.proofs.HeadEntry.{MessagesFit}
use Rattle.coati_device.proofs.TaskWrites.{put_by, written_by_part}

-- the machine is under way in the bottom half of an event on its argument, on a store, with so
-- many steps left at most
pub record IsInHandler (program : Program) (event argument : ℕ) (base : Store) (cpu : Cpu)
    (left : ℕ) (m : Memory) (made : List Reading) : Type 0 where
  pub done : List Access
  pub log : (word : ℕ) → log_value (state m) (tail_log (state m)) word ≡ last_written done word
  pub reads : made ≡ readings done
  pub under_way : IsUnderWay handler_view (program_code program) cpu m left
      (event_course program event argument) base done

-- it has ended: its log and these readings are what the event does on the store
pub record HasRunIn (program : Program) (event argument : ℕ) (base : Store) (m : Memory)
    (made : List Reading) : Type 0 where
  pub log : (word : ℕ) → log_value (state m) (tail_log (state m)) word
      ≡ last_written (event_effect program event argument base) word
  pub reads : made ≡ readings (event_effect program event argument base)

-- the code of a bottom half computes a course on a message, on so many words
abbrev ComputesBottom : Program → (number count cost : ℕ) → List ℕ → Course Ending → Type 0
ComputesBottom program number count cost words course =
    Computes (body_words (program_code program) (Bottom number)) count cost words course

course_there : (program : Program) (number argument : ℕ) (event : Event)
    → slice_get program.events number ≡ Some event
    → event_course program number argument
    ≡ bottom_course program event (message program event argument)
course_there program number argument event there =
    ap (λ (found : Option Event). course_of program found argument) there

-- it starts on its message, with an empty log
pub starts_in_handler : BottomHalvesComputeTheirCourse → MessagesFit → (program : Program)
    (number argument : ℕ) (event : Event) (base : Store) (cpu : Cpu) (m : Memory)
    → IsAccepted program → slice_get program.events number ≡ Some event
    → m.n ≡ word_count program.vars
    → IsAtStart (Bottom number) (message program event argument) cpu
    → IsEmpty (state m) (tail_log (state m)) → slice_index (handler_words m) ≡ base
    → IsInHandler program number argument base cpu (bottom_cost program event) m []
starts_in_handler law fit program number argument event base cpu m accepted there count start empty
    sees =
    let words = message program event argument in
    let cost = bottom_cost program event in
    let runs : ComputesBottom program number (length (handler_view.words m)) cost words
    (event_course program number argument) =
    subst (ComputesBottom program number (length (handler_view.words m)) cost words)
    (sym (course_there program number argument event there))
    (subst (λ (n : ℕ). ComputesBottom program number n cost words
    (bottom_course program event words)) (sym (handler_length m ∙ count))
    (law program accepted number event there words
    (fit program accepted number argument event there))) in
    record {
      done = [];
      log = empty;
      reads = refl;
      under_way =
          subst (λ (store : Store). IsUnderWay handler_view (program_code program) cpu m cost
          (event_course program number argument) store [])
          sees
          (starts_under_way handler_view (program_code program) cpu m (Bottom number) words cost
          cost (event_course program number argument) runs start (omega arith));
    }

-- what a step of the bottom half makes of memory: its log has more accesses, and nothing beside it
-- is another
pub record MakesAtTail (m new : Memory) (more : List Access) : Type 0 where
  pub touches : TouchesTail m new
  pub entry : entry_at (state new) (tail_slot (state m)) ≡ entry_at (state m) (tail_slot (state m))
  pub log : (word : ℕ) → log_value (state new) (tail_log (state m)) word
      ≡ option_or (last_written more word) (log_value (state m) (tail_log (state m)) word)

-- a write to the log leaves the ranges
sound_by : (s t : State) (own : Log) → KeepsBeside own s t → InRange t
    → (IsClosed s → IsClosed t) → KeepsSound s t
sound_by s t own beside range closed = record {
  range = range;
  places = λ tasks places. record {
    current = rw beside.same_current places.current;
    next = rw beside.same_next places.next;
    first = rw beside.same_first places.first;
  };
  closed = closed;
}

-- before the first part nothing is written
begun_so : (s : State) (own : Log) (word value part : ℕ)
    → (0 < part → IsBegun s own word value part) → IsBegun s own word value part
begun_so s own word value zero begun = tt
begun_so s own word value (suc part) begun = begun (omega arith)

-- a part that isn't the last writes nothing yet, and the last one the value
logged_by : (value : ℕ) (old : Option ℕ) (same : Bool)
    → (if same then Some value else old) ≡ option_or (if same then Some value else None) old
logged_by value old true = refl
logged_by value old false = refl

written_so : (word value other : ℕ) (old : Option ℕ) (done : Bool)
    → (if done && (word == other) then Some value else old)
    ≡ option_or (last_written (written_by_part word value done) other) old
written_so word value other old true = logged_by value old (word == other)
written_so word value other old false = refl

-- what memory has to be for these steps
pub record IsReadyAtTail (m : Memory) : Type 0 where
  pub memory : IsMemory m
  pub range : InRange (state m)
  pub room : is_full (state m) ≡ false

module _ (law : StoresSetTheValue) (logs : LogsAreInTheirEntries) (free : TailEntryIsFree)
    (m new : Memory) (ready : IsReadyAtTail m) where
  tail_none : new ≡ m → MakesAtTail m new []
  tail_none same = subst (λ (x : Memory). MakesAtTail m x []) (sym same) (record {
    touches = touches_none m ready.memory ready.range;
    entry = refl;
    log = λ word. refl;
  })

  tail_part : (word value part : ℕ) (is_last : Bool) → word < length (handler_words m)
      → (0 < part → IsBegun (state m) (tail_log (state m)) word value part)
      → HasStoredIn (tail_log (state m)) m word value part new is_last
      → MakesAtTail m new (written_by_part word value is_last)
  tail_part word value part is_last low begun stored =
      let s = state m in
      let own = tail_log s in
      let slot = tail_slot s in
      let change = store_change s own word value part in
      let count = handler_length m in
      let stores =
      subst (λ (done : Bool). Stores own word value part done s (put s change)) (sym stored.last)
      (law s own word value part ready.range (slot_low s.k (tail s)) (omega (arith, count, low))
      (begun_so s own word value part begun)) in
      let wrote = put_by m new change ready.memory stored.wrote in
      let back = sym wrote.state in
      record {
        touches =
            touches_by free m new change ready.range ready.room
            (store_of_entry s slot word value part) wrote
            (logs slot s (put s change) stores.beside)
            (sound_by s (put s change) own stores.beside stores.range
            (stores.closed (λ e. absurd cc)));
        entry =
            subst (λ (t : State). entry_at t slot ≡ entry_at s slot) back
            (stores.beside.entries slot);
        log = λ other.
            subst (λ (t : State). log_value t own other
            ≡ option_or (last_written (written_by_part word value is_last) other)
            (log_value s own other)) back
            (stores.log_after other
            ∙ written_so word value other (log_value s own other) is_last);
      }

  -- a reading leaves the log
  tail_reading : (word value : ℕ) → MakesAtTail m new []
      → MakesAtTail m new (Access.read word value ∷ [])
  tail_reading word value made =
      record { touches = made.touches; entry = made.entry; log = made.log }

  -- each step that makes a move, or a part of it
  makes_at_tail : (before after : Cpu) (turn : Turn) (move : Move)
      → IsWithin (length (handler_words m)) move
      → turning.IsBegun (handler_view.begun m) before.part move
      → Makes handler_view before after m new turn move → MakesAtTail m new (done_by turn move)
  makes_at_tail before after turn (Move.goes next) within begun made = tail_none made.view
  makes_at_tail before after turn (Move.loads word next) within begun made =
      subst (λ (t : Turn). MakesAtTail m new (done_by t (Move.loads word next))) (sym made.answer)
      (tail_reading word (slice_index (handler_words m) word) (tail_none made.view))
  makes_at_tail before after (Went None) (Move.stores word value next) within begun made =
      tail_part word value before.part true within begun made.view
  makes_at_tail before after (Went (Some read)) (Move.stores word value next) within begun made =
      absurd made
  makes_at_tail before after Storing (Move.stores word value next) within begun made =
      tail_part word value before.part false within begun made.view
  makes_at_tail before after (Ended ending) (Move.stores word value next) within begun made =
      absurd made
  makes_at_tail before after turn (Move.ends ending) within begun made = tail_none made.view

-- where a step leads
abbrev pub LeadsIn : Program → (event argument : ℕ) → Store → ℕ → Memory → Memory →
    List Reading → Cpu → Turn → Type 0
LeadsIn program event argument base left m new made cpu (Went reading) =
    (less : ℕ) × (less + 1 ≤ left)
    × IsInHandler program event argument base cpu less new (made ++ read_by (Went reading))
LeadsIn program event argument base left m new made cpu Storing =
    (less : ℕ) × (less + 1 ≤ left)
    × IsInHandler program event argument base cpu less new (made ++ read_by Storing)
LeadsIn program event argument base left m new made cpu (Ended ending) =
    HasRunIn program event argument base new (made ++ read_by (Ended ending))

module _ (joins : AccessesJoinUp) (goes_on : CoursesUnderWayGoOn Ending)
    (follows : FollowingGoesOn) (law : StoresSetTheValue) (logs : LogsAreInTheirEntries)
    (free : TailEntryIsFree)
    (program : Program) (event argument : ℕ) (base : Store) (before after : Cpu) (left : ℕ)
    (m new : Memory) (made : List Reading) (ready : IsReadyAtTail m)
    (here : IsInHandler program event argument base before left m made) where
  abbrev course : Course Ending
  course = event_course program event argument

  -- the log and the readings with more accesses
  runs_further : (turn : Turn)
      → (came : CameFurther handler_view (program_code program) left course base here.done before
      after m new turn)
      → MakesAtTail m new came.more
      → IsInHandler program event argument base after came.remaining new (made ++ read_by turn)
  runs_further turn came makes = record {
    done = here.done ++ came.more;
    log = λ word.
        ap (λ (slot : ℕ). log_value (state new) (log.Entry slot) word)
        (tail_stays (tail_slot (state m)) (state m) (state new) makes.touches.beside)
        ∙ makes.log word
        ∙ ap (option_or (last_written came.more word)) (here.log word)
        ∙ sym ((joins here.done came.more).last word);
    reads =
        ap (λ (read : List Reading). read ++ read_by turn) here.reads
        ∙ ap (λ (read : List Reading). readings here.done ++ read) (sym came.reads)
        ∙ sym (joins here.done came.more).read;
    under_way = came.under_way;
  }

  comes : (turn : Turn) → IsStep handler_view (program_code program) before after m new turn
      → ComesOn handler_view (program_code program) left course base here.done before after m new
      turn
  comes turn step =
      steps_under_way handler_view joins goes_on (steps_along handler_view follows)
      (program_code program) before after m new left course base here.done here.under_way turn step

  made_by : (turn : Turn) → IsStep handler_view (program_code program) before after m new turn
      → (instr : Instr) × StartsAt (body_words (program_code program) before.body) instr
      (state_of before) × MakesAtTail m new (done_by turn (move_of instr (state_of before)))
  made_by turn step =
      let on_course = here.under_way.on_course in
      let can = can_step handler_view follows (program_code program) before m left
      here.under_way.rest on_course in (
        can.0,
        can.1.starts,
        makes_at_tail law logs free m new ready before after turn
            (move_of can.0 (state_of before)) can.1.can_run.word
            (on_course.is_begun can.0 can.1.starts) (step.makes can.0 can.1.starts),
      )

  -- all beside the entry stays
  pub step_touches : (turn : Turn)
      → IsStep handler_view (program_code program) before after m new turn
      → TouchesTail m new × (entry_at (state new) (tail_slot (state m))
      ≡ entry_at (state m) (tail_slot (state m)))
  step_touches turn step = let makes = made_by turn step in
      (makes.2.touches, makes.2.entry)

  pub bottom_leads_on : (turn : Turn)
      → IsStep handler_view (program_code program) before after m new turn
      → LeadsIn program event argument base left m new made after turn
  bottom_leads_on (Went reading) step =
      let came = comes (Went reading) step in
      let makes = made_by (Went reading) step in (
        came.remaining,
        came.in_time,
        runs_further (Went reading) came
            (subst (MakesAtTail m new) (came.more_is makes.0 makes.1) makes.2),
      )
  bottom_leads_on Storing step =
      let came = comes Storing step in
      let makes = made_by Storing step in (
        came.remaining,
        came.in_time,
        runs_further Storing came
            (subst (MakesAtTail m new) (came.more_is makes.0 makes.1) makes.2),
      )
  bottom_leads_on (Ended ending) step =
      let end = comes (Ended ending) step in
      subst (λ (x : Memory). HasRunIn program event argument base x (made ++ []))
      (sym end.view)
      (subst (HasRunIn program event argument base m) (sym (append-nil made))
      (record {
        log = λ word. here.log word ∙ ap (λ (done : List Access). last_written done word) end.all;
        reads = here.reads ∙ ap readings end.all;
      }))
