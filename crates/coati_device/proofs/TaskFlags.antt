-- The attempt's flags, in mode buffi: of the words that the task has read from the variables. A
-- read sets its flag in the same step, and a merge joins the flags of what a unit's tasks share.
use Rattle.std.proofs.Common.{◌≡◌, ◌==◌, ℕ, ◌<◌, List, [], ◌∷◌, ◌++◌, Bool, true, false, Some, None, Option, if◌then◌else◌, length, refl, sym, ap, subst, ◌∙◌, arith}
use Rattle.std.specs.Prelude.{◌&&◌, ◌||◌, is_some, not, slice_index}
use Rattle.std.proofs.lemmas.Bool.Decides.{nat_tests}
use Rattle.task_syntax.specs.Course.{Access}
use Rattle.task_syntax.specs.CourseLaws.{AccessesJoinUp, WrittenWordsAreTold}
use Rattle.task_syntax.specs.Written.{is_shared, is_written, last_written}
use Rattle.nv_memory.specs.declared.log.Log.TheVariants as log
use Rattle.nv_memory.specs.Logs.{log_value}
use Rattle.nv_memory.specs.Seats.{Memory}
use Rattle.nv_memory.specs.StandsFor.{first_value, unit_value}
use Rattle.nv_memory.specs.State.{State, state}
use Rattle.nv_memory.specs.Words.{attempt_flag, mode, tx_flag}
use Rattle.nv_memory.proofs.Looks.{test_same}
use Rattle.tx_buffer.specs.Keeps.{joined_flag}
use Rattle.buffi_sets.specs.Flags.{FlagWritesSetOneFlag, flag_change}
use Rattle.task_buffer.specs.StoreLaws.{StoresSetTheValue}
use Rattle.word_code.specs.Machine.{IsWithin, Move}
use Rattle.word_cpu.specs.declared.cpu.Cpu.{Cpu}
use Rattle.word_cpu.specs.declared.turn.Turn.{Turn}
use Rattle.word_cpu.specs.declared.turn.Turn.TheVariants.{Went, Storing, Ended}
use Rattle.word_cpu.specs.OnCourse.{done_by}
use Rattle.word_cpu.specs.Turning.{Makes}
use Rattle.word_cpu.specs.Turning as turning
use Rattle.coati_device.specs.Attempt.{is_read_below}
use Rattle.coati_device.specs.TaskView.{IsAfter, needs_flag, task_view, task_words}
use Rattle.coati_device.proofs.TaskWords.{words_length}
use Rattle.coati_device.proofs.TaskWrites.{IsReadyForSteps, LeavesAllElse, part_leaves_flags, put_by}

-- the attempt's flags are those before, and of the words that more accesses read from the
-- variables
abbrev pub FlagsMore : State → State → List Access → Type 0
FlagsMore s t more = mode s ≡ 1 → (word : ℕ) → attempt_flag t word
    ≡ (attempt_flag s word || (not (is_some (unit_value s word)) && is_shared more word))

-- where no access reads, no flag is to be set
none_more : (flag has : Bool) → flag ≡ (flag || (not has && false))
none_more true has = refl
none_more false true = refl
none_more false false = refl

flags_stay : (s t : State) (more : List Access) → ((word : ℕ) → is_shared more word ≡ false)
    → ((word : ℕ) → attempt_flag t word ≡ attempt_flag s word) → FlagsMore s t more
flags_stay s t more none same buffi word =
    same word
    ∙ none_more (attempt_flag s word) (is_some (unit_value s word))
    ∙ ap (λ (shared : Bool). attempt_flag s word
    || (not (is_some (unit_value s word)) && shared)) (sym (none word))

-- what is written isn't read
wrote_none : (one : Bool) → (if one then false else false) ≡ false
wrote_none true = refl
wrote_none false = refl

-- a read needs its flag where it is from the variables and the flag isn't set
flag_needed : (buffi has flag : Bool) → (buffi && not (has || flag)) ≡ true
    → true ≡ (flag || (not has && true))
flag_needed true false false needs = refl
flag_needed true true flag needs = absurd cc
flag_needed true false true needs = absurd cc
flag_needed false has flag needs = absurd cc

flag_there : (buffi has flag : Bool) → buffi ≡ true → (buffi && not (has || flag)) ≡ false
    → flag ≡ (flag || (not has && true))
flag_there true true true is needs = refl
flag_there true true false is needs = refl
flag_there true false true is needs = refl
flag_there true false false is needs = absurd cc
flag_there false has flag is needs = absurd cc

module _ (s : State) (word : ℕ) where
  -- the flag of the word is set
  flag_is_set : (other : ℕ) (one : Bool) → (word == other) ≡ one → needs_flag s word ≡ true
      → (other == word || attempt_flag s other)
      ≡ (attempt_flag s other || (not (is_some (unit_value s other))
      && (if one then true else false)))
  flag_is_set other true is needs =
      let same : word ≡ other = grind (arith, nat_tests) in
      ap (λ (test : Bool). test || attempt_flag s other) (test_same other word (sym same))
      ∙ flag_needed (mode s == 1) (is_some (unit_value s other)) (attempt_flag s other)
      (subst (λ (at : ℕ). needs_flag s at ≡ true) same needs)
  flag_is_set other false is needs =
      let apart : (other == word) ≡ false = grind (arith, nat_tests) in
      ap (λ (test : Bool). test || attempt_flag s other) apart
      ∙ none_more (attempt_flag s other) (is_some (unit_value s other))

  -- it is set already, or a log of the unit has the word
  flag_is_kept : (other : ℕ) (one : Bool) → (word == other) ≡ one → mode s ≡ 1
      → needs_flag s word ≡ false
      → attempt_flag s other
      ≡ (attempt_flag s other || (not (is_some (unit_value s other))
      && (if one then true else false)))
  flag_is_kept other true is buffi needs =
      let same : word ≡ other = grind (arith, nat_tests) in
      flag_there (mode s == 1) (is_some (unit_value s other)) (attempt_flag s other)
      (test_same (mode s) 1 buffi) (subst (λ (at : ℕ). needs_flag s at ≡ false) same needs)
  flag_is_kept other false is buffi needs =
      none_more (attempt_flag s other) (is_some (unit_value s other))

module _ (m new : Memory) (ready : IsReadyForSteps log.Task m) where
  -- a load sets the flag of its word in the same step
  load_flags : FlagWritesSetOneFlag → (word value : ℕ) (is : Bool)
      → needs_flag (state m) word ≡ is
      → IsAfter m (if is then Some (flag_change word) else None) new
      → FlagsMore (state m) (state new) (Access.read word value ∷ [])
  load_flags law word value true needs wrote buffi other =
      let here = put_by m new (flag_change word) ready.memory wrote in
      ap (λ (t : State). attempt_flag t other) here.state
      ∙ (law (state m) word ready.range ready.closed).attempt_flags other
      ∙ flag_is_set (state m) word other (word == other) refl needs
  load_flags law word value false needs same buffi other =
      ap (λ (x : Memory). attempt_flag (state x) other) same
      ∙ flag_is_kept (state m) word other (word == other) refl buffi needs

  -- a step that reads nothing and leaves memory
  no_flags : new ≡ m → FlagsMore (state m) (state new) []
  no_flags same =
      flags_stay (state m) (state new) [] (λ word. refl)
      (λ word. ap (λ (x : Memory). attempt_flag (state x) word) same)

  low_word : (word : ℕ) → word < length (task_words m) → word < m.n
  low_word word low = let count = words_length m in omega (arith, count, low)

  -- each step that makes a move, or a part of it
  pub flags_more : StoresSetTheValue → FlagWritesSetOneFlag → (before after : Cpu) (turn : Turn)
      (move : Move)
      → IsWithin (length (task_words m)) move
      → turning.IsBegun (task_view.begun m) before.part move
      → Makes task_view before after m new turn move
      → FlagsMore (state m) (state new) (done_by turn move)
  flags_more law flags before after turn (Move.goes next) within begun made = no_flags made.view
  flags_more law flags before after turn (Move.loads word next) within begun made =
      subst (λ (t : Turn). FlagsMore (state m) (state new) (done_by t (Move.loads word next)))
      (sym made.answer)
      (load_flags flags word (slice_index (task_words m) word) (needs_flag (state m) word) refl
      made.view)
  flags_more law flags before after (Went None) (Move.stores word value next) within begun made =
      flags_stay (state m) (state new) (Access.wrote word value ∷ [])
      (λ other. wrote_none (word == other))
      (part_leaves_flags log.Task m new ready law word value before.part true
      (low_word word within) begun made.view)
  flags_more law flags before after (Went (Some read)) (Move.stores word value next) within begun
      made = absurd made
  flags_more law flags before after Storing (Move.stores word value next) within begun made =
      flags_stay (state m) (state new) [] (λ other. refl)
      (part_leaves_flags log.Task m new ready law word value before.part false
      (low_word word within) begun made.view)
  flags_more law flags before after (Ended ending) (Move.stores word value next) within begun
      made = absurd made
  flags_more law flags before after turn (Move.ends ending) within begun made =
      no_flags made.view

-- a log of the unit has a word where one of the two logs has it
either_has : (one other : Option ℕ)
    → is_some (first_value one other) ≡ (is_some one || is_some other)
either_has (Some value) other = refl
either_has None other = refl

-- what is read below the transaction, by what was before and by what is more
reads_join : (below shared wrote more : Bool)
    → ((not below && shared) || (not (wrote || below) && more))
    ≡ (not below && (shared || (not wrote && more)))
reads_join true true true more = refl
reads_join true true false more = refl
reads_join true false true more = refl
reads_join true false false more = refl
reads_join false true wrote more = refl
reads_join false false true more = refl
reads_join false false false more = refl

-- the attempt's flags after more accesses
pub flags_joined : AccessesJoinUp → WrittenWordsAreTold → (s t : State) (done more : List Access)
    → LeavesAllElse s t → FlagsMore s t more
    → ((word : ℕ) → log_value s log.Task word ≡ last_written done word)
    → (mode s ≡ 1 → (word : ℕ) → word < s.n → attempt_flag s word ≡ is_read_below s done word)
    → mode t ≡ 1 → (word : ℕ) → word < t.n
    → attempt_flag t word ≡ is_read_below t (done ++ more) word
flags_joined joins told s t done more stays flags own before buffi word low =
    let is : mode s ≡ 1 = sym stays.same_mode ∙ buffi in
    let within : word < s.n = subst (λ (n : ℕ). word < n) stays.same_words low in
    let below : Bool = is_some (log_value s log.Tx word) in
    let shared : Bool = is_shared done word in
    let has : is_some (unit_value s word) ≡ (is_written done word || below) =
    either_has (log_value s log.Task word) (log_value s log.Tx word)
    ∙ ap (λ (b : Bool). b || below)
    (ap (λ (o : Option ℕ). is_some o) (own word) ∙ (told done word).last) in
    flags is word
    ∙ ap (λ (b : Bool). b || (not (is_some (unit_value s word)) && is_shared more word))
    (before is word within)
    ∙ ap (λ (b : Bool). (not below && shared) || (not b && is_shared more word)) has
    ∙ reads_join below shared (is_written done word) (is_shared more word)
    ∙ ap (λ (b : Bool). not below && b) (sym ((joins done more).shares word))
    ∙ ap (λ (o : Option ℕ). not (is_some o) && is_shared (done ++ more) word)
    (sym (stays.transaction word))

-- in buffi the flags that a merge joins are of the words that these accesses share
abbrev pub SharesJoined : State → List Access → Type 0
SharesJoined s done = mode s ≡ 1 → (word : ℕ) → word < s.n
    → joined_flag s word ≡ is_shared done word

-- those of the tasks before and of the last one
pub joined_shares : AccessesJoinUp → WrittenWordsAreTold → (s : State) (done more : List Access)
    → ((word : ℕ) → log_value s log.Tx word ≡ last_written done word)
    → (mode s ≡ 1 → (word : ℕ) → word < s.n → tx_flag s word ≡ is_shared done word)
    → (mode s ≡ 1 → (word : ℕ) → word < s.n → attempt_flag s word ≡ is_read_below s more word)
    → SharesJoined s (done ++ more)
joined_shares joins told s done more own before last buffi word low =
    let wrote : is_some (log_value s log.Tx word) ≡ is_written done word =
    ap (λ (o : Option ℕ). is_some o) (own word) ∙ (told done word).last in
    ap (λ (b : Bool). b || attempt_flag s word) (before buffi word low)
    ∙ ap (λ (b : Bool). is_shared done word || b) (last buffi word low)
    ∙ ap (λ (b : Bool). is_shared done word || (not b && is_shared more word)) wrote
    ∙ sym ((joins done more).shares word)

-- those of the first task alone, where nothing is open
pub first_shares : (s : State) (done : List Access)
    → ((word : ℕ) → log_value s log.Tx word ≡ None)
    → ((word : ℕ) → word < s.n → tx_flag s word ≡ false)
    → (mode s ≡ 1 → (word : ℕ) → word < s.n → attempt_flag s word ≡ is_read_below s done word)
    → SharesJoined s done
first_shares s done empty none last buffi word low =
    ap (λ (b : Bool). b || attempt_flag s word) (none word low)
    ∙ last buffi word low
    ∙ ap (λ (o : Option ℕ). not (is_some o) && is_shared done word) (empty word)
