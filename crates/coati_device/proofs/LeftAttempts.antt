-- An attempt under way stays while memory changes in words that it doesn't see.
use Rattle.std.proofs.Common.{◌≡◌, ℕ, zero, suc, ◌<◌, ◌≤◌, ◌==◌, List, [], ◌∷◌, ◌++◌, Option, Some, refl, sym, ap, subst, ◌∙◌, arith}
use Rattle.std.specs.Prelude.{◌&&◌, is_some, not}
use Rattle.std.specs.Option.{unwrap_or}
use Rattle.coati_word.specs.declared.reading.Reading.{Reading}
use Rattle.task_syntax.specs.declared.body.BodyId.{BodyId}
use Rattle.task_syntax.specs.declared.body.BodyId.TheVariants.{Bottom, Task, Top}
use Rattle.task_syntax.specs.declared.program.Program.{Program}
use Rattle.coati_word.specs.declared.ending.Ending.{Ending}
use Rattle.task_syntax.specs.Course.{Access, Store, accesses, answer}
use Rattle.task_syntax.specs.CourseLaws.{CoursesUnderWayGoOn}
use Rattle.task_syntax.specs.Units.{place_after, task_course}
use Rattle.task_syntax.specs.Written.{is_shared}
use Rattle.nv_memory.specs.declared.log.Log.{Log}
use Rattle.nv_memory.specs.declared.log.Log.TheVariants as log
use Rattle.nv_memory.specs.Logs.{log_value}
use Rattle.nv_memory.specs.Ring.{held_count, slot_of}
use Rattle.nv_memory.specs.Seats.{Memory}
use Rattle.nv_memory.specs.StandsFor.{committed_word}
use Rattle.nv_memory.specs.State.{State, state}
use Rattle.nv_memory.specs.Words.{attempt_flag, attempt_flag_seat, current, doomed, head, mark, mode, next, opened, tx_flag_seat, variable}
use Rattle.task_buffer.specs.Stores.{IsBegun}
use Rattle.serial_log.specs.declared.held.Held.{Held}
use Rattle.serial_log.specs.Postings.{due_posting}
use Rattle.word_code.specs.Code.{Bodies}
use Rattle.word_cpu.specs.declared.cpu.Cpu.{Cpu}
use Rattle.word_cpu.specs.UnderWay.{IsUnderWay}
use Rattle.word_cpu.proofs.UnderWay.{stays_under_way}
use Rattle.coati_device.specs.declared.device.Phase.{Phase}
use Rattle.coati_device.specs.declared.device.Phase.TheVariants.{Choose, Run, End, EndBottom}
use Rattle.coati_device.specs.Attempt.{HasEnded, HasEndedBottom, HasMade, HasMadeAtHead, IsAtPosting, IsAtTask, IsAttempt, IsBehindTask, IsInBottom, IsRunning, IsRunningIn, base_word, course_at, is_read_below}
use Rattle.coati_device.specs.BottomView.{bottom_view, bottom_word, bottom_words, head_log}
use Rattle.coati_device.specs.Rows.{ComesToEvents, IsClear}
use Rattle.coati_device.specs.TaskView.{task_view, task_word, task_words, values_from}

-- a log with the store under way in it
pub record SameLog (s t : State) (own : Log) : Type 0 where
  pub values : (word : ℕ) → log_value t own word ≡ log_value s own word
  pub begun : (word value part : ℕ) → IsBegun s own word value part → IsBegun t own word value part

-- all that an attempt sees, and the open unit
pub record LeavesAttempts (s t : State) : Type 0 where
  pub words : t.n ≡ s.n
  pub slots : t.k ≡ s.k
  pub same_mark : mark t ≡ mark s
  pub same_current : current t ≡ current s
  pub same_next : next t ≡ next s
  pub same_opened : opened t ≡ opened s
  pub same_head : head t ≡ head s
  pub same_doomed : doomed t ≡ doomed s
  pub same_mode : mode t ≡ mode s
  pub variables : (word : ℕ) → variable t word ≡ variable s word
  pub attempt_flags : (word : ℕ) → t.at (attempt_flag_seat word) ≡ s.at (attempt_flag_seat word)
  pub tx_flags : (word : ℕ) → t.at (tx_flag_seat word) ≡ s.at (tx_flag_seat word)
  pub committed : (word : ℕ) → committed_word t word ≡ committed_word s word
  pub task_log : SameLog s t log.Task
  pub tx_log : SameLog s t log.Tx
  pub oldest_log : mark s ≡ 0 → 0 < held_count s → SameLog s t (head_log s)
  pub held : held_count s ≤ held_count t

-- values word by word
values_same : (one other : ℕ → ℕ) (at count : ℕ) → ((word : ℕ) → one word ≡ other word)
    → values_from one at count ≡ values_from other at count
values_same one other at zero same = refl
values_same one other at (suc count) same =
    ap (λ (word : ℕ). word ∷ values_from one (suc at) count) (same at)
    ∙ ap (λ (more : List ℕ). other at ∷ more) (values_same one other (suc at) count same)

store_same : (one other : Store) → ((word : ℕ) → one word ≡ other word) → one ≡ other
store_same one other same = λ i. λ word. same word i

-- the oldest posting that waits stays the oldest
pub due_stays : (rest more : List Held) (held : Held) → due_posting rest ≡ Some held
    → due_posting (rest ++ more) ≡ Some held
due_stays [] more held due = absurd cc
due_stays (first ∷ rest) more held due = due

module _ (s t : State) (leaves : LeavesAttempts s t) where
  clear_left : IsClear s → IsClear t
  clear_left clear =
      record { mark = leaves.same_mark ∙ clear.mark; doomed = leaves.same_doomed ∙ clear.doomed }

  task_word_left : (word : ℕ) → task_word t word ≡ task_word s word
  task_word_left word =
      rw (leaves.task_log.values word, leaves.tx_log.values word, leaves.variables word) refl

  base_left : base_word t ≡ base_word s
  base_left = store_same (base_word t) (base_word s) (λ word.
      ap (λ (found : Option ℕ). unwrap_or found (committed_word t word))
      (leaves.tx_log.values word)
      ∙ ap (unwrap_or (log_value s log.Tx word)) (leaves.committed word))

  committed_left : committed_word t ≡ committed_word s
  committed_left = store_same (committed_word t) (committed_word s) leaves.committed

  head_left : head_log t ≡ head_log s
  head_left =
      ap (λ (k : ℕ). log.Entry (slot_of k (head t))) leaves.slots
      ∙ ap (λ (position : ℕ). log.Entry (slot_of s.k position)) leaves.same_head

  at_task_left : (program : Program) → IsAtTask program s → IsAtTask program t
  at_task_left program at =
      record { clear = clear_left at.clear; task = rw leaves.same_current at.task }

  behind_left : (program : Program) → IsBehindTask program s → IsBehindTask program t
  behind_left program at = record {
    mark = rw leaves.same_mark at.mark;
    doomed = leaves.same_doomed ∙ at.doomed;
    task = rw leaves.same_current at.task;
  }

  below_left : (done : List Access) (word : ℕ)
      → is_read_below t done word ≡ is_read_below s done word
  below_left done word =
      ap (λ (found : Option ℕ). not (is_some found) && is_shared done word)
      (leaves.tx_log.values word)

  flag_left : (word : ℕ) → attempt_flag t word ≡ attempt_flag s word
  flag_left word = ap (λ (flag : ℕ). flag == 1) (leaves.attempt_flags word)

  made_left : (read : List Reading) (done : List Access) → HasMade s read done
      → HasMade t read done
  made_left read done made = record {
    log = λ word. leaves.task_log.values word ∙ made.log word;
    reads = made.reads;
    flags = λ buffi word low.
        flag_left word
        ∙ made.flags (sym leaves.same_mode ∙ buffi) word
        (subst (λ (count : ℕ). word < count) leaves.words low)
        ∙ sym (below_left done word);
  }

  events_left : ComesToEvents s → ComesToEvents t
  events_left events = record {
    mode = leaves.same_mode ∙ events.mode;
    closed = leaves.same_opened ∙ events.closed;
    held = let held = leaves.held in omega (arith, held, events.held);
  }

  abbrev at_posting_left : (rest more : List Held) → IsAtPosting s rest
      → IsAtPosting t (rest ++ more)
  at_posting_left rest more at = record {
    clear = clear_left at.clear;
    events = events_left at.events;
    held = at.held;
    due = due_stays rest more at.held at.due;
  }

  made_at_head_left : (read : List Reading) (done : List Access) → mark s ≡ 0 → 0 < held_count s
      → HasMadeAtHead s read done → HasMadeAtHead t read done
  made_at_head_left read done clear some made = record {
    log = λ word.
        ap (λ (own : Log). log_value t own word) head_left
        ∙ (leaves.oldest_log clear some).values word
        ∙ made.log word;
    reads = made.reads;
  }

  bottom_word_left : (word : ℕ) → mark s ≡ 0 → 0 < held_count s
      → bottom_word t word ≡ bottom_word s word
  bottom_word_left word clear some =
      ap (λ (own : Log). unwrap_or (log_value t own word) (variable t word)) head_left
      ∙ ap (λ (found : Option ℕ). unwrap_or found (variable t word))
      ((leaves.oldest_log clear some).values word)
      ∙ ap (unwrap_or (log_value s (head_log s) word)) (leaves.variables word)

module _ (goes_on : CoursesUnderWayGoOn Ending) (program : Program) (code : Bodies)
    (m new : Memory) (leaves : LeavesAttempts (state m) (state new)) where
  task_words_left : task_words new ≡ task_words m
  task_words_left =
      ap (values_from (task_word (state new)) 0) leaves.words
      ∙ values_same (task_word (state new)) (task_word (state m)) 0 m.n
      (task_word_left (state m) (state new) leaves)

  bottom_words_left : mark (state m) ≡ 0 → 0 < held_count (state m)
      → bottom_words new ≡ bottom_words m
  bottom_words_left clear some =
      ap (values_from (bottom_word (state new)) 0) leaves.words
      ∙ values_same (bottom_word (state new)) (bottom_word (state m)) 0 m.n
      (λ word. bottom_word_left (state m) (state new) leaves word clear some)

  running_left : (read : List Reading) (cpu : Cpu) (most : ℕ)
      → IsRunning program code m read cpu most → IsRunning program code new read cpu most
  running_left read cpu most runs =
      let here =
      (stays_under_way task_view goes_on code cpu m runs.left
      (task_course program (current (state m)))
      (base_word (state m)) runs.done runs.under_way).on_these_words new
      (λ word value part begun. leaves.task_log.begun word value cpu.part begun) task_words_left in
      record {
        at = at_task_left (state m) (state new) leaves program runs.at;
        body = runs.body ∙ ap Task (sym leaves.same_current);
        done = runs.done;
        made = made_left (state m) (state new) leaves read runs.done runs.made;
        left = runs.left;
        in_time = runs.in_time;
        under_way =
            subst (λ (base : Store).
            IsUnderWay task_view code cpu new runs.left (task_course program (current (state new)))
            base runs.done)
            (sym (base_left (state m) (state new) leaves))
            (subst (λ (task : ℕ).
            IsUnderWay task_view code cpu new runs.left (task_course program task)
            (base_word (state m)) runs.done)
            (sym leaves.same_current) here);
      }

  bottom_left : (rest more : List Held) (read : List Reading) (cpu : Cpu) (most : ℕ)
      → IsInBottom program code m rest read cpu most
      → IsInBottom program code new (rest ++ more) read cpu most
  bottom_left rest more read cpu most runs =
      let clear = runs.at.clear.mark in
      let some = runs.at.events.held in
      let begun : (word value part : ℕ) → IsBegun (state m) (head_log (state m)) word value part
      → IsBegun (state new) (head_log (state new)) word value part =
      λ word value part begun.
      subst (λ (own : Log). IsBegun (state new) own word value part)
      (sym (head_left (state m) (state new) leaves))
      ((leaves.oldest_log clear some).begun word value part begun) in
      let here =
      (stays_under_way bottom_view goes_on code cpu m runs.left (course_at program runs.at.held)
      (committed_word (state m)) runs.done runs.under_way).on_these_words new
      (λ word value part is. begun word value cpu.part is) (bottom_words_left clear some) in
      record {
        at = at_posting_left (state m) (state new) leaves rest more runs.at;
        body = runs.body;
        done = runs.done;
        made = made_at_head_left (state m) (state new) leaves read runs.done clear some runs.made;
        left = runs.left;
        in_time = runs.in_time;
        under_way =
            subst (λ (base : Store).
            IsUnderWay bottom_view code cpu new runs.left (course_at program runs.at.held) base
            runs.done)
            (sym (committed_left (state m) (state new) leaves)) here;
      }

  ended_left : (read : List Reading) (place : ℕ) → HasEnded program m read place
      → HasEnded program new read place
  ended_left read place ended =
      let base = base_left (state m) (state new) leaves in
      record {
        at = behind_left (state m) (state new) leaves program ended.at;
        made =
            subst (λ (done : List Access). HasMade (state new) read done)
            (ap (λ (task : ℕ). accesses (task_course program task) (base_word (state m)))
            (sym leaves.same_current)
            ∙ ap (λ (store : Store). accesses (task_course program (current (state new))) store)
            (sym base))
            (made_left (state m) (state new) leaves read _ ended.made);
        leads =
            ended.leads
            ∙ ap (λ (task : ℕ). place_after
            (answer (task_course program task) (base_word (state m)))) (sym leaves.same_current)
            ∙ ap (λ (store : Store). place_after
            (answer (task_course program (current (state new))) store)) (sym base);
      }

  ended_bottom_left : (rest more : List Held) (read : List Reading)
      → HasEndedBottom program m rest read
      → HasEndedBottom program new (rest ++ more) read
  ended_bottom_left rest more read ended = record {
    at = at_posting_left (state m) (state new) leaves rest more ended.at;
    made =
        subst (λ (store : Store). HasMadeAtHead (state new) read
        (accesses (course_at program ended.at.held) store))
        (sym (committed_left (state m) (state new) leaves))
        (made_at_head_left (state m) (state new) leaves read _ ended.at.clear.mark
        ended.at.events.held ended.made);
  }

  in_left : (rest more : List Held) (read : List Reading) (cpu : Cpu) (most : ℕ) (body : BodyId)
      → IsRunningIn program code m rest read cpu most body
      → IsRunningIn program code new (rest ++ more) read cpu most body
  in_left rest more read cpu most (Task task) runs = running_left read cpu most runs
  in_left rest more read cpu most (Top event) runs = absurd runs
  in_left rest more read cpu most (Bottom event) runs = bottom_left rest more read cpu most runs

  -- so it is in each phase, also where more postings wait
  pub attempt_left : (rest more : List Held) (read : List Reading) (phase : Phase)
      → IsAttempt program code m rest read phase
      → IsAttempt program code new (rest ++ more) read phase
  attempt_left rest more read Choose attempt = tt
  attempt_left rest more read (Run cpu most) attempt =
      in_left rest more read cpu most cpu.body attempt
  attempt_left rest more read (End place) attempt = ended_left read place attempt
  attempt_left rest more read EndBottom attempt = ended_bottom_left rest more read attempt
