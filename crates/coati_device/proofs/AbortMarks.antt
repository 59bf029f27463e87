-- Where the oldest held event writes what the tasks of the unit have read, the unit's abort is
-- legal: so many of its tasks have run, and the word is the least on which they clash.
use Rattle.std.proofs.Common.{◌≡◌, ◌≢◌, ℕ, ◌+◌, ◌<◌, ◌==◌, ◌&&◌, ◌||◌, Option, Some, None, Bool, true, false, not, is_some, List, length, refl, sym, ap, subst, ◌∙◌, arith, inl, inr, if◌then◌else◌}
use Rattle.std.proofs.lemmas.Bool.{cases_lt}
use Rattle.std.proofs.lemmas.Bool.Decides.{nat_tests}
use Rattle.coati_word.specs.declared.mode.Mode.{Mode}
use Rattle.coati_word.specs.declared.mode.Mode.TheVariants as mode
use Rattle.coati_word.specs.declared.reading.Reading.{Reading}
use Rattle.task_syntax.specs.declared.program.Program.{Program}
use Rattle.task_syntax.specs.Course.{Access, Store, accesses, after}
use Rattle.task_syntax.specs.CourseLaws.{AccessesJoinUp, LastWritesTellTheStore, WrittenWordsAreTold}
use Rattle.task_syntax.specs.Names.{tasks}
use Rattle.task_syntax.specs.Units.{Reached, first_task, followed_by, is_same, task_course, task_effect, tasks_effect, transaction_of}
use Rattle.task_syntax.specs.Written.{is_shared, is_written, last_written}
use Rattle.task_check.specs.Accepted.{IsAccepted}
use Rattle.nv_memory.specs.Blank.{mode_word}
use Rattle.nv_memory.specs.declared.log.Log.TheVariants as log
use Rattle.nv_memory.specs.InRange.{InRange}
use Rattle.nv_memory.specs.Logs.{entry_log, log_value}
use Rattle.nv_memory.specs.Ring.{held_count}
use Rattle.nv_memory.specs.Seats.{Memory}
use Rattle.nv_memory.specs.StandsFor.{head_slot}
use Rattle.nv_memory.specs.State.{State, state}
use Rattle.nv_memory.specs.Words.{attempt_flag, current, head, mark, mode as mode_of, opened, tx_flag}
use Rattle.nv_memory.proofs.LogWrites.{none_beyond}
use Rattle.nv_memory.proofs.Turns.{slot_low}
use Rattle.buffi_sets.specs.Conflict.{Clashes, IsConflict, head_value, is_shared_read}
use Rattle.commit_log.specs.OpenUnit.{unit_flag}
use Rattle.codegen.specs.Bodies.{program_code}
use Rattle.serial_log.specs.Aborts.{IsAbortLegal, IsClash, IsClashWord, IsUnitAt}
use Rattle.serial_log.specs.Postings.{Terms}
use Rattle.serial_log.specs.SerialRun.{Stand}
use Rattle.serial_log.specs.Standing.{Standing}
use Rattle.serial_log.specs.declared.held.Held.{Held}
use Rattle.coati_device.specs.declared.device.Phase.{Phase}
use Rattle.coati_device.specs.declared.device.Phase.TheVariants.{Choose, Run, End, EndBottom}
use Rattle.coati_device.specs.Attempt.{base_word}
use Rattle.coati_device.specs.HeldEvents.{EventsFit, HoldsEvent, effect_on}
use Rattle.coati_device.specs.Kept.{unit_of}
use Rattle.coati_device.specs.OpenUnit.{HasFinished, HasNoneFinished, IsUnitPlace, UnitFits}
use Rattle.coati_device.specs.Points.{IsFit, Reads}
use Rattle.coati_device.specs.Rows.{IsBetween, IsClear, has_attempt}
use Rattle.coati_device.specs.Waits.{first_read}
use Rattle.coati_device.proofs.AwaitedEvents.{IsFirst, first_due, head_holds}
use Rattle.coati_device.proofs.Grown.{more_tasks}
use Rattle.coati_device.proofs.Members.{first_of_own, none_behind}
use Rattle.coati_device.proofs.UnitGrows.{base_alone, base_of_unit, next_at_clear, open_at_clear, place_closed, tx_at_clear}

-- so many tasks of the unit at the stand's place have run, the task to run is of it, and the
-- shared reads that memory tells are theirs
pub record HasRun (program : Program) (s : State) (stand : Stand) (attempt : Bool) (count : ℕ)
    : Type 0 where
  pub reached : Reached
  pub tasks : tasks_effect program stand.place stand.store count ≡ Some reached
  pub unit : IsUnitAt program stand.place
      (unit_of (transaction_of program (current s)) (current s))
  pub shares : (word : ℕ) → word < s.n →
      is_shared_read s attempt word ≡ is_shared reached.done word

-- the shared reads of memory, by whether a transaction is open and an attempt has ended
shared_alone : (open_now flag own : Bool) → open_now ≡ true →
    (open_now && flag || false && own) ≡ flag
shared_alone true true own is = refl
shared_alone true false own is = refl
shared_alone false flag own is = absurd cc

shared_both : (open_now flag own : Bool) → open_now ≡ true →
    (open_now && flag || true && own) ≡ (flag || own)
shared_both true flag own is = refl
shared_both false flag own is = absurd cc

shared_closed : (open_now flag own : Bool) → open_now ≡ false →
    (open_now && flag || true && own) ≡ own
shared_closed true flag own is = absurd cc
shared_closed false flag own is = refl

pub shared_none : (open_now flag own : Bool) → open_now ≡ false →
    (open_now && flag || false && own) ≡ false
shared_none true flag own is = absurd cc
shared_none false flag own is = refl

flag_at_clear : (s : State) (word : ℕ) → mark s ≡ 0 → tx_flag s word ≡ unit_flag s word
flag_at_clear s word clear = rw clear refl

module _ (program : Program) (rules : IsAccepted program) (place : ℕ)
    (begins : IsUnitPlace program place) where
  -- the transaction of a place where a unit may begin starts there
  first_there : (tx : ℕ) → transaction_of program place ≡ Some tx →
      first_task program tx ≡ Some place
  first_there tx member = elim begins [
    | inl halted ↦
        let none : transaction_of program place ≡ None =
        ap (transaction_of program) halted ∙ none_behind program rules in
        absurd (let no : Some tx ≡ None = sym member ∙ none in cc)
    | inr first ↦ first_of_own program tx place member first.1
  ]

  -- the unit of a task inside that transaction
  unit_inside : (task : ℕ) (own first : Option ℕ) → transaction_of program place ≡ first →
      is_same first own ≡ true → IsUnitAt program place (unit_of own task)
  unit_inside task own None is same = absurd cc
  unit_inside task None (Some tx) is same = absurd cc
  unit_inside task (Some tx) (Some first) is same =
      let one : first ≡ tx = grind (arith, nat_tests) in
      first_there tx (is ∙ ap (λ (t : ℕ). Some t) one)

  -- that of the task at the place
  unit_first : (own : Option ℕ) → place < length (tasks program) →
      transaction_of program place ≡ own → IsUnitAt program place (unit_of own place)
  unit_first None there is = (refl, record { there = there; alone = is })
  unit_first (Some tx) there is = first_there tx is

module _ (program : Program) (m : Memory) (reads : Reads) (standing : Standing)
    (rules : IsAccepted program) (clear : IsClear (state m)) (buffi : mode_of (state m) ≡ 1)
    (joins : AccessesJoinUp) (lasts : LastWritesTellTheStore) (tells : WrittenWordsAreTold) where
  abbrev s : State
  s = state m

  abbrev stand : Stand
  stand = standing.run

  abbrev UnitIs : Bool → Type 0
  UnitIs is = UnitFits program s stand reads.unit reads.finished is

  -- the open unit's tasks, and the task to run inside it
  module _ (begins : IsUnitPlace program stand.place)
      (fits : HasFinished program s stand reads.unit reads.finished) where
    here : current s ≡ fits.reached.place
    here = next_at_clear s clear.mark ∙ fits.next

    unit_open : IsUnitAt program stand.place
        (unit_of (transaction_of program (current s)) (current s))
    unit_open =
        unit_inside program rules stand.place begins (current s)
        (transaction_of program (current s)) (transaction_of program stand.place) refl
        (ap (λ (p : ℕ). is_same (transaction_of program stand.place) (transaction_of program p))
        here ∙ fits.inside)

    flags_open : (word : ℕ) → word < s.n → tx_flag s word ≡ is_shared fits.reached.done word
    flags_open word low = flag_at_clear s word clear.mark ∙ fits.flags buffi word low

  -- no attempt has ended
  chosen_run : (is : Bool) → (opened s == 1) ≡ is → UnitIs is → IsUnitPlace program stand.place →
      (word : ℕ) → is_shared_read s false word ≡ true →
      HasRun program s stand false reads.finished
  chosen_run true is unit begins word shared = record {
    reached = unit.reached;
    tasks = unit.tasks;
    unit = unit_open begins unit;
    shares = λ other low.
        shared_alone (opened s == 1) (tx_flag s other) (attempt_flag s other) is
        ∙ flags_open begins unit other low;
  }
  chosen_run false is unit begins word shared =
      absurd (let no : true ≡ false =
      sym shared ∙ shared_none (opened s == 1) (tx_flag s word) (attempt_flag s word) is in cc)

  module _ (place : ℕ)
      (fit : IsFit program (program_code program) m reads (End place) standing) where
    -- what the task that has ended did
    abbrev done_by : ℕ → Store → List Access
    done_by task base = accesses (task_course program task) base

    own_flags : (word : ℕ) → word < s.n → attempt_flag s word
        ≡ (not (is_some (log_value s log.Tx word))
        && is_shared (done_by (current s) (base_word s)) word)
    own_flags word low = fit.attempt.made.flags buffi word low

    done_is : (task : ℕ) (base : Store) → current s ≡ task → base_word s ≡ base →
        done_by (current s) (base_word s) ≡ done_by task base
    done_is task base at on =
        ap (λ (t : ℕ). done_by t (base_word s)) at ∙ ap (done_by task) on

    -- behind the tasks of an open transaction
    module _ (is : (opened s == 1) ≡ true)
        (unit : HasFinished program s stand reads.unit reads.finished) where
      abbrev before : List Access
      before = unit.reached.done

      abbrev task : Reached
      task = task_effect program unit.reached.place (after before stand.store)

      written : (word : ℕ) → is_some (log_value s log.Tx word) ≡ is_written before word
      written word =
          ap (λ (o : Option ℕ). is_some o) (tx_at_clear s word clear.mark ∙ unit.log word)
          ∙ (tells before word).last

      own_shares : (word : ℕ) → word < s.n → attempt_flag s word
          ≡ (not (is_written before word) && is_shared task.done word)
      own_shares word low =
          let base = base_of_unit program s standing reads.unit reads.finished lasts clear.mark
          fit.stands unit in
          let done = done_by (current s) (base_word s) in
          own_flags word low
          ∙ ap (λ (b : Bool). not b && is_shared done word) (written word)
          ∙ ap (λ (d : List Access). not (is_written before word) && is_shared d word)
          (done_is unit.reached.place (after before stand.store) (here fit.place unit) base)

      ended_open : HasRun program s stand true (reads.finished + 1)
      ended_open = record {
        reached = followed_by unit.reached task;
        tasks = more_tasks program stand reads.finished unit.reached unit.tasks unit.inside;
        unit = unit_open fit.place unit;
        shares = λ word low.
            shared_both (opened s == 1) (tx_flag s word) (attempt_flag s word) is
            ∙ ap (λ (b : Bool). b || attempt_flag s word) (flags_open fit.place unit word low)
            ∙ ap (λ (b : Bool). is_shared before word || b) (own_shares word low)
            ∙ sym ((joins before task.done).shares word);
      }

    -- as the first of its unit
    ended_first : (opened s == 1) ≡ false → HasNoneFinished reads.unit reads.finished →
        HasRun program s stand true (reads.finished + 1)
    ended_first is none =
        let at : current s ≡ stand.place =
        sym (place_closed s clear.mark is) ∙ fit.stands.place in
        let two : opened s < 2 = fit.memory.range.opened in
        let shut : opened s ≡ 0 = grind (arith, nat_tests) in
        let empty : (word : ℕ) → log_value s log.Tx word ≡ None =
        fit.memory.closed.empty shut (λ one. omega (arith, one, clear.mark)) in
        let base = base_alone program s standing empty fit.stands in
        let done = done_by (current s) (base_word s) in
        let there : stand.place < length (tasks program) =
        subst (λ (t : ℕ). t < length (tasks program)) at fit.attempt.at.task in
        record {
          reached = task_effect program stand.place stand.store;
          tasks = ap (λ (n : ℕ). tasks_effect program stand.place stand.store (n + 1)) none.none;
          unit = subst (λ (t : ℕ).
              IsUnitAt program stand.place (unit_of (transaction_of program t) t)) (sym at)
              (unit_first program rules stand.place fit.place
              (transaction_of program stand.place) there refl);
          shares = λ word low.
              shared_closed (opened s == 1) (tx_flag s word) (attempt_flag s word) is
              ∙ own_flags word low
              ∙ ap (λ (o : Option ℕ). not (is_some o) && is_shared done word) (empty word)
              ∙ ap (λ (d : List Access). is_shared d word)
              (done_is stand.place stand.store at base);
        }

    ended_run : (is : Bool) → (opened s == 1) ≡ is → UnitIs is →
        HasRun program s stand true (reads.finished + 1)
    ended_run true is unit = ended_open is unit
    ended_run false is unit = ended_first is unit

  -- so many tasks have run, where a word is a shared read
  pub has_run : (phase : Phase) → IsBetween phase →
      IsFit program (program_code program) m reads phase standing → (word : ℕ) →
      is_shared_read s (has_attempt phase) word ≡ true →
      HasRun program s stand (has_attempt phase)
      (if has_attempt phase then reads.finished + 1 else reads.finished)
  has_run Choose between fit word shared =
      chosen_run (opened s == 1) refl
      (subst UnitIs (open_at_clear s (opened s == 1) clear refl) fit.unit) fit.place word shared
  has_run (Run cpu left) between fit word shared = absurd between
  has_run (End place) between fit word shared =
      ended_run place fit (opened s == 1) refl
      (subst UnitIs (open_at_clear s (opened s == 1) clear refl) fit.unit)
  has_run EndBottom between fit word shared = absurd between

-- a value is there
value_there : (o : Option ℕ) → o ≢ None → is_some o ≡ true
value_there None some = absurd (some refl)
value_there (Some value) some = refl

-- the least clash that memory tells is that of the event with the tasks that have run
module _ (program : Program) (s : State) (stand : Stand) (attempt : Bool) (count : ℕ) (held : Held)
    (read : List Reading) (range : InRange s) (tells : WrittenWordsAreTold)
    (run : HasRun program s stand attempt count)
    (holds : HoldsEvent program s (head_slot s) held read stand.store) where
  abbrev effect : List Access
  effect = effect_on program held stand.store

  low_at_head : (word : ℕ) → head_value s word ≢ None → word < s.n
  low_at_head word has = elim (cases_lt word s.n) [
    | inl low ↦ low
    | inr beyond ↦
        let there = range.logs (log.Entry (head_slot s)) (slot_low s.k (head s)) in
        absurd (has (none_beyond s (entry_log (head_slot s)) word there beyond))
  ]

  clash_told : (word : ℕ) → Clashes s attempt word → IsClash effect run.reached.done word
  clash_told word clash =
      let some : last_written effect word ≢ None = λ none. clash.written (holds.log word ∙ none) in
      record {
        written = (tells effect word).contained.1 (sym (tells effect word).last
            ∙ value_there (last_written effect word) some);
        shared = sym (run.shares word (low_at_head word clash.written)) ∙ clash.read;
      }

  told_clash : (word : ℕ) → IsClash effect run.reached.done word → Clashes s attempt word
  told_clash word is =
      let some : is_some (last_written effect word) ≡ true =
      (tells effect word).last ∙ (tells effect word).contained.0 is.written in
      let has : head_value s word ≢ None = λ none.
      let empty : last_written effect word ≡ None = sym (holds.log word) ∙ none in
      let no : false ≡ true = ap (λ (o : Option ℕ). is_some o) (sym empty) ∙ some in cc in
      record { written = has; read = run.shares word (low_at_head word has) ∙ is.shared }

  clash_word : (word : ℕ) → IsConflict s attempt word →
      IsClashWord program stand count held word
  clash_word word conflict = record {
    reached = run.reached;
    tasks = run.tasks;
    least = record {
      clash = clash_told word conflict.clashes;
      least = λ other is. elim (cases_lt other word) [
        | inl below ↦ absurd (conflict.least other below (told_clash other is))
        | inr above ↦ above
      ];
    };
  }

-- the mode, by its word
buffi_of : (of : Mode) → mode_word of ≡ 1 → of ≡ mode.Buffi
buffi_of mode.Split is = absurd (omega (arith, is))
buffi_of mode.Buffi is = refl

-- the abort is legal
pub abort_legal : (terms : Terms) (m : Memory) (reads : Reads) (phase : Phase)
    (standing : Standing) (number word : ℕ) (kept : List (List Reading)) → AccessesJoinUp →
    LastWritesTellTheStore → WrittenWordsAreTold → IsAccepted terms.program →
    IsFit terms.program (program_code terms.program) m reads phase standing →
    EventsFit terms.program (state m) standing kept → IsBetween phase → IsClear (state m) →
    mode_of (state m) ≡ 1 → mode_of (state m) ≡ mode_word terms.mode →
    IsFirst terms.program (state m) standing number → 0 < held_count (state m) →
    IsConflict (state m) (has_attempt phase) word →
    IsAbortLegal terms standing (record {
      unit = unit_of (transaction_of terms.program (current (state m))) (current (state m));
      tasks = if has_attempt phase then reads.finished + 1 else reads.finished;
      posting = number;
      word = word;
    })
abort_legal terms m reads phase standing number word kept joins lasts tells rules fit events
    between clear buffi is_mode first some conflict =
    let program = terms.program in
    let s = state m in
    let run =
    has_run program m reads standing rules clear buffi joins lasts tells phase between fit word
    conflict.clashes.read in
    let holds =
    head_holds program s standing kept first.held first.more events buffi clear.mark some
    first.first in
    record {
      mode = buffi_of terms.mode (sym is_mode ∙ buffi);
      unit = run.unit;
      held = first.held;
      due = first_due standing.rest first.more first.held first.first;
      posting = first.numbered;
      word = clash_word program s standing.run (has_attempt phase)
          (if has_attempt phase then reads.finished + 1 else reads.finished) first.held
          (first_read kept) fit.memory.range tells run holds word conflict;
    }
