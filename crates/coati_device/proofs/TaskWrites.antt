-- What a step of a task or of a bottom half makes of memory: its own log has what its accesses
-- write there, and all else stays but for flags.
use Rattle.std.proofs.Common.{◌≡◌, ◌≢◌, ◌==◌, ℕ, zero, suc, ◌<◌, List, [], ◌∷◌, Bool, true, false, Option, Some, None, if◌then◌else◌, length, refl, sym, ap, subst, ◌∙◌, arith, length-set}
use Rattle.std.specs.Prelude.{slice_index}
use Rattle.std.specs.Option.{option_or, unwrap_or}
use Rattle.nv_memory.specs.declared.log.Log.{Log}
use Rattle.nv_memory.specs.declared.log.Log.TheVariants as log
use Rattle.nv_memory.specs.Frames.{KeepsBeside}
use Rattle.nv_memory.specs.InRange.{InRange, IsClosed}
use Rattle.nv_memory.specs.Logs.{HasLog, log_value}
use Rattle.nv_memory.specs.Seats.{IsMemory, Memory}
use Rattle.nv_memory.specs.StandsFor.{committed_word}
use Rattle.nv_memory.specs.State.{Change, State, put, state}
use Rattle.nv_memory.specs.Words.{attempt_flag, current, doomed, head, mark, mode, opened, tx_flag}
use Rattle.nv_memory.specs.Ring.{held_count, is_taking}
use Rattle.nv_memory.proofs.Frames.{same_beside}
use Rattle.nv_memory.proofs.Puts.{puts_one_word}
use Rattle.buffi_sets.specs.Flags.{FlagWritesSetOneFlag, flag_change}
use Rattle.buffi_sets.specs.Keeps.{Keeps}
use Rattle.task_buffer.specs.Stores.{IsBegun, store_change}
use Rattle.task_buffer.specs.StoreLaws.{Stores, StoresSetTheValue}
use Rattle.task_syntax.specs.Course.{Access}
use Rattle.task_syntax.specs.Written.{last_written}
use Rattle.word_code.specs.Machine.{IsWithin, Move}
use Rattle.word_cpu.specs.declared.cpu.Cpu.{Cpu}
use Rattle.word_cpu.specs.declared.turn.Turn.{Turn}
use Rattle.word_cpu.specs.declared.turn.Turn.TheVariants.{Went, Storing, Ended}
use Rattle.word_cpu.specs.OnCourse.{done_by}
use Rattle.word_cpu.specs.Turning.{Makes}
use Rattle.word_cpu.specs.Turning as turning
use Rattle.coati_device.specs.Attempt.{base_word}
use Rattle.coati_device.specs.TaskView.{HasStored, HasStoredIn, HasWritten, IsAfter, needs_flag, task_view, task_words}
use Rattle.coati_device.proofs.TaskWords.{words_length}
use Rattle.coati_device.proofs.UnitGrows.{pointwise}

-- memory after a change
pub record IsPut (m : Memory) (change : Change) (new : Memory) : Type 0 where
  pub memory : IsMemory new
  pub words : new.n ≡ m.n
  pub slots : new.k ≡ m.k
  pub state : state new ≡ put (state m) change

pub put_by : (m new : Memory) (change : Change) → IsMemory m → HasWritten m change new
    → IsPut m change new
put_by m new change memory wrote =
    subst (λ (x : Memory). IsPut m change x) (sym wrote.memory) (record {
      memory = record {
        sizes = memory.sizes;
        whole = length-set m.words wrote.write.at wrote.write.word ∙ memory.whole;
      };
      words = refl;
      slots = refl;
      state = (puts_one_word m change wrote.write memory wrote.writes).state;
    })

-- all stays but one log, which isn't the transaction's, and flags
pub record LeavesAllElse (s t : State) : Type 0 where
  pub same_words : t.n ≡ s.n
  pub same_slots : t.k ≡ s.k
  pub same_mark : mark t ≡ mark s
  pub same_current : current t ≡ current s
  pub same_opened : opened t ≡ opened s
  pub same_doomed : doomed t ≡ doomed s
  pub same_mode : mode t ≡ mode s
  pub same_head : head t ≡ head s
  pub same_held : held_count t ≡ held_count s
  pub transaction : (word : ℕ) → log_value t log.Tx word ≡ log_value s log.Tx word
  pub tx_flags : (word : ℕ) → tx_flag t word ≡ tx_flag s word
  pub keeps : Keeps s t

-- a log has more accesses, and all else stays
pub record LogsMore (own : Log) (s t : State) (more : List Access) : Type 0 where
  pub else_stays : LeavesAllElse s t
  pub log : (word : ℕ)
      → log_value t own word ≡ option_or (last_written more word) (log_value s own word)

-- a step of what stores into a log
pub record MakesMore (own : Log) (m new : Memory) (more : List Access) : Type 0 where
  pub memory : IsMemory new
  pub words : new.n ≡ m.n
  pub slots : new.k ≡ m.k
  pub logs : LogsMore own (state m) (state new) more

-- no entry is being taken
taking_none : (s : State) → mark s ≡ 0 → is_taking s ≢ true
taking_none s clear taken =
    let none : is_taking s ≡ false = rw clear refl in absurd cc

-- what a task runs on stays
pub base_stays : (s t : State) → LeavesAllElse s t → base_word t ≡ base_word s
base_stays s t stays =
    pointwise (base_word t) (base_word s)
    (λ word. ap (λ (o : Option ℕ). unwrap_or o (committed_word t word)) (stays.transaction word)
    ∙ ap (unwrap_or (log_value s log.Tx word)) (stays.keeps.meaning.words word))

-- a reading leaves the log
pub logs_no_reading : (own : Log) (m new : Memory) (word value : ℕ) → MakesMore own m new []
    → MakesMore own m new (Access.read word value ∷ [])
logs_no_reading own m new word value made = record {
  memory = made.memory;
  words = made.words;
  slots = made.slots;
  logs = record { else_stays = made.logs.else_stays; log = made.logs.log };
}

-- nothing is changed
keeps_all : (s : State) → InRange s → IsClosed s → Keeps s s
keeps_all s range closed = record {
  meaning = record { words = λ word. refl; place = refl; held = refl };
  range = range;
  places = λ tasks places. places;
  closed = closed;
}

logs_none : (own : Log) (s : State) → InRange s → IsClosed s → LogsMore own s s []
logs_none own s range closed = record {
  else_stays = record {
    same_words = refl;
    same_slots = refl;
    same_mark = refl;
    same_current = refl;
    same_opened = refl;
    same_doomed = refl;
    same_mode = refl;
    same_head = refl;
    same_held = refl;
    transaction = λ word. refl;
    tx_flags = λ word. refl;
    keeps = keeps_all s range closed;
  };
  log = λ word. refl;
}

-- a flag is set
logs_none_by_flag : FlagWritesSetOneFlag → (s : State) (word : ℕ) → InRange s → IsClosed s
    → LogsMore log.Task s (put s (flag_change word)) []
logs_none_by_flag flags s word range closed = record {
  else_stays = record {
    same_words = refl;
    same_slots = refl;
    same_mark = refl;
    same_current = refl;
    same_opened = refl;
    same_doomed = refl;
    same_mode = refl;
    same_head = refl;
    same_held = refl;
    transaction = λ other. refl;
    tx_flags = λ other. refl;
    keeps = (flags s word range closed).keeps;
  };
  log = λ other. refl;
}

-- a log's own words are changed
beside_stays : (own : Log) (s t : State) → own ≢ log.Tx → mark s ≡ 0 → KeepsBeside own s t
    → InRange t → IsClosed t → LeavesAllElse s t
beside_stays own s t other clear beside range closed = record {
  same_words = beside.words;
  same_slots = beside.slots;
  same_mark = beside.same_mark;
  same_current = beside.same_current;
  same_opened = beside.same_opened;
  same_doomed = beside.same_doomed;
  same_mode = beside.same_mode;
  same_head = beside.same_head;
  same_held =
      rw (
        beside.same_mark,
        beside.same_head,
        beside.same_head_next,
        beside.same_tail,
        beside.slots,
      ) refl;
  transaction = beside.logs log.Tx (λ e. other (sym e));
  tx_flags = λ word. ap (λ (flag : ℕ). flag == 1) (beside.tx_flags word);
  keeps = record {
    meaning =
        same_beside s t own beside (λ unit. absurd (omega (arith, unit, clear)))
        (λ taken. absurd (taking_none s clear taken));
    range = range;
    places = λ tasks places. record {
      current = rw beside.same_current places.current;
      next = rw beside.same_next places.next;
      first = rw beside.same_first places.first;
    };
    closed = closed;
  };
}

-- a part of a store that isn't the last writes nothing yet, and the last one the value
abbrev pub written_by_part : ℕ → ℕ → Bool → List Access
written_by_part word value false = []
written_by_part word value true = Access.wrote word value ∷ []

log_by_part : (old : Option ℕ) (value : ℕ) (is : Bool)
    → (if is then Some value else old) ≡ option_or (if is then Some value else None) old
log_by_part old value true = refl
log_by_part old value false = refl

logs_part : (own : Log) (s t : State) (word value part : ℕ) (done : Bool) → own ≢ log.Tx
    → mark s ≡ 0 → IsClosed s → Stores own word value part done s t
    → LogsMore own s t (written_by_part word value done)
logs_part own s t word value part false other clear closed stores = record {
  else_stays =
      beside_stays own s t other clear stores.beside stores.range (stores.closed other closed);
  log = stores.log_after;
}
logs_part own s t word value part true other clear closed stores = record {
  else_stays =
      beside_stays own s t other clear stores.beside stores.range (stores.closed other closed);
  log = λ at. stores.log_after at ∙ log_by_part (log_value s own at) value (word == at);
}

-- before the first part nothing is written
begun_by : (own : Log) (s : State) (word value part : ℕ)
    → (0 < part → IsBegun s own word value part) → IsBegun s own word value part
begun_by own s word value zero begun = tt
begun_by own s word value (suc part) begun = begun (omega arith)

-- what memory has to be for steps that store into a log
pub record IsReadyForSteps (own : Log) (m : Memory) : Type 0 where
  pub memory : IsMemory m
  pub range : InRange (state m)
  pub closed : IsClosed (state m)
  pub clear : mark (state m) ≡ 0
  pub has : HasLog m.k own
  pub other : own ≢ log.Tx

module _ (own : Log) (m new : Memory) (ready : IsReadyForSteps own m) where
  pub makes_none : new ≡ m → MakesMore own m new []
  makes_none same =
      subst (λ (x : Memory). MakesMore own m x []) (sym same)
      (record {
        memory = ready.memory;
        words = refl;
        slots = refl;
        logs = logs_none own (state m) ready.range ready.closed;
      })

  makes_by : (change : Change) (more : List Access) → HasWritten m change new
      → LogsMore own (state m) (put (state m) change) more → MakesMore own m new more
  makes_by change more wrote logs =
      let here = put_by m new change ready.memory wrote in
      record {
        memory = here.memory;
        words = here.words;
        slots = here.slots;
        logs = subst (λ (t : State). LogsMore own (state m) t more) (sym here.state) logs;
      }

  pub makes_part : StoresSetTheValue → (word value part : ℕ) (is_last : Bool) → word < m.n
      → (0 < part → IsBegun (state m) own word value part)
      → HasStoredIn own m word value part new is_last
      → MakesMore own m new (written_by_part word value is_last)
  makes_part law word value part is_last low begun stored =
      let s = state m in
      let change = store_change s own word value part in
      let stores =
      law s own word value part ready.range ready.has low
      (begun_by own s word value part begun) in
      makes_by change (written_by_part word value is_last) stored.wrote
      (logs_part own s (put s change) word value part is_last ready.other ready.clear ready.closed
      (subst (λ (done : Bool). Stores own word value part done s (put s change))
      (sym stored.last) stores))

  -- such a part leaves the attempt's flags
  pub part_leaves_flags : StoresSetTheValue → (word value part : ℕ) (is_last : Bool) → word < m.n
      → (0 < part → IsBegun (state m) own word value part)
      → HasStoredIn own m word value part new is_last
      → (other : ℕ) → attempt_flag (state new) other ≡ attempt_flag (state m) other
  part_leaves_flags law word value part is_last low begun stored other =
      let s = state m in
      let here = put_by m new (store_change s own word value part) ready.memory stored.wrote in
      let stores =
      law s own word value part ready.range ready.has low
      (begun_by own s word value part begun) in
      ap (λ (t : State). attempt_flag t other) here.state
      ∙ ap (λ (flag : ℕ). flag == 1) (stores.beside.attempt_flags other)

module _ (m new : Memory) (ready : IsReadyForSteps log.Task m) where
  makes_load : FlagWritesSetOneFlag → (word : ℕ) (is : Bool)
      → IsAfter m (if is then Some (flag_change word) else None) new
      → MakesMore log.Task m new []
  makes_load flags word true wrote =
      makes_by log.Task m new ready (flag_change word) [] wrote
      (logs_none_by_flag flags (state m) word ready.range ready.closed)
  makes_load flags word false same = makes_none log.Task m new ready same

  task_part : StoresSetTheValue → (word value part : ℕ) (is_last : Bool)
      → word < length (task_words m)
      → (0 < part → IsBegun (state m) log.Task word value part)
      → HasStored m word value part new is_last
      → MakesMore log.Task m new (written_by_part word value is_last)
  task_part law word value part is_last low =
      let count = words_length m in
      makes_part log.Task m new ready law word value part is_last (omega (arith, count, low))

  -- each step that makes a move, or a part of it
  pub makes_more : StoresSetTheValue → FlagWritesSetOneFlag → (before after : Cpu) (turn : Turn)
      (move : Move)
      → IsWithin (length (task_words m)) move
      → turning.IsBegun (task_view.begun m) before.part move
      → Makes task_view before after m new turn move
      → MakesMore log.Task m new (done_by turn move)
  makes_more law flags before after turn (Move.goes next) within begun made =
      makes_none log.Task m new ready made.view
  makes_more law flags before after turn (Move.loads word next) within begun made =
      subst (λ (t : Turn). MakesMore log.Task m new (done_by t (Move.loads word next)))
      (sym made.answer)
      (logs_no_reading log.Task m new word (slice_index (task_words m) word)
      (makes_load flags word (needs_flag (state m) word) made.view))
  makes_more law flags before after (Went None) (Move.stores word value next) within begun made =
      task_part law word value before.part true within begun made.view
  makes_more law flags before after (Went (Some read)) (Move.stores word value next) within begun
      made = absurd made
  makes_more law flags before after Storing (Move.stores word value next) within begun made =
      task_part law word value before.part false within begun made.view
  makes_more law flags before after (Ended ending) (Move.stores word value next) within begun
      made = absurd made
  makes_more law flags before after turn (Move.ends ending) within begun made =
      makes_none log.Task m new ready made.view
