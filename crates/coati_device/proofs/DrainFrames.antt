-- An event that clashes with nothing that the tasks have read leaves what they did: its log has no
-- word that the open transaction or the attempt has read before it wrote it.
use Rattle.std.proofs.Common.{◌≡◌, ◌≢◌, ◌==◌, ◌||◌, ◌&&◌, ℕ, ◌<◌, List, Bool, true, false, Option, Some, None, not, refl, sym, ap, subst, ◌∙◌, inl, inr}
use Rattle.std.specs.Prelude.{is_some}
use Rattle.std.specs.Option.{unwrap_or}
use Rattle.std.proofs.lemmas.Bool.{cases_lt}
use Rattle.coati_word.specs.declared.ending.Ending.{Ending}
use Rattle.coati_word.specs.declared.reading.Reading.{Reading}
use Rattle.task_syntax.specs.declared.program.Program.{Program}
use Rattle.task_syntax.specs.Course.{Access, Store, accesses, after, answer}
use Rattle.task_syntax.specs.CourseLaws.{AgreeOnShared, LastWritesTellTheStore, SharedReadsDecide}
use Rattle.task_syntax.specs.ProgramLaws.{SharedReadsDecideUnits}
use Rattle.task_syntax.specs.Units.{place_after, task_course}
use Rattle.task_syntax.specs.Written.{is_shared, last_written}
use Rattle.nv_memory.specs.declared.log.Log.TheVariants as log
use Rattle.nv_memory.specs.InRange.{InRange}
use Rattle.nv_memory.specs.Logs.{entry_log, log_value}
use Rattle.nv_memory.specs.StandsFor.{committed_word, head_slot}
use Rattle.nv_memory.specs.State.{State}
use Rattle.nv_memory.specs.Words.{attempt_flag, current, head, opened, tx_flag}
use Rattle.nv_memory.proofs.LogWrites.{none_beyond}
use Rattle.nv_memory.proofs.Turns.{slot_low}
use Rattle.buffi_sets.specs.Conflict.{HasNoConflict, head_value}
use Rattle.serial_log.specs.SerialRun.{Stand}
use Rattle.coati_device.specs.Attempt.{HasMade, base_word, is_read_below}
use Rattle.coati_device.specs.OpenUnit.{HasFinished, UnitFits}

-- a word of the log at the head is one of the variables
head_below : (s : State) (word : ℕ) → InRange s → head_value s word ≢ None → word < s.n
head_below s word range some = elim (cases_lt word s.n) [
  | inl low ↦ low
  | inr beyond ↦ absurd (some (none_beyond s (entry_log (head_slot s)) word
      (range.logs (log.Entry (head_slot s)) (slot_low s.k (head s))) beyond))
]

-- a value that can't be there is none
is_none : (o : Option ℕ) → (o ≢ None → ⊥) → o ≡ None
is_none None never = refl
is_none (Some value) never = absurd (never (λ e. absurd cc))

-- behind accesses that don't write it a word holds what it held
unwritten : LastWritesTellTheStore → (done : List Access) (store : Store) (word : ℕ) →
    last_written done word ≡ None → store word ≡ after done store word
unwritten lasts done store word none =
    sym (lasts done store word ∙ ap (λ (o : Option ℕ). unwrap_or o (store word)) none)

either_false : (one other : Bool) → (one || other) ≡ false → (one ≡ false) × (other ≡ false)
either_false true other none = absurd cc
either_false false other none = (refl, none)

both_false : (one other : Bool) → one ≡ true → (one && other) ≡ false → other ≡ false
both_false true other is none = none
both_false false other is none = absurd cc

module _ (s : State) (attempt : Bool) (range : InRange s) (free : HasNoConflict s attempt) where
  -- a word that the event writes is flagged by neither
  flags_off : (word : ℕ) → head_value s word ≢ None →
      ((opened s == 1 && tx_flag s word) ≡ false) × ((attempt && attempt_flag s word) ≡ false)
  flags_off word some =
      either_false (opened s == 1 && tx_flag s word) (attempt && attempt_flag s word)
      (free word some)

  -- so it has none that the open unit has read below itself
  pub unit_missed : (opened s == 1) ≡ true → (done : List Access) →
      ((word : ℕ) → word < s.n → tx_flag s word ≡ is_shared done word) →
      (word : ℕ) → is_shared done word ≡ true → head_value s word ≡ None
  unit_missed is_open done flags word shared = is_none (head_value s word) (λ some.
      let off = both_false (opened s == 1) (tx_flag s word) is_open (flags_off word some).0 in
      let on : tx_flag s word ≡ true = flags word (head_below s word range some) ∙ shared in
      absurd cc)

  -- and none that the attempt has
  pub attempt_missed : attempt ≡ true → (done : List Access) →
      ((word : ℕ) → word < s.n → attempt_flag s word ≡ is_read_below s done word) →
      (word : ℕ) → is_read_below s done word ≡ true → head_value s word ≡ None
  attempt_missed is_one done flags word shared = is_none (head_value s word) (λ some.
      let off = both_false attempt (attempt_flag s word) is_one (flags_off word some).1 in
      let on : attempt_flag s word ≡ true = flags word (head_below s word range some) ∙ shared in
      absurd cc)

-- what finished tasks did on a store they do on another that agrees with it on what they share
pub unit_on : SharedReadsDecideUnits → (program : Program) (s : State) (stand : Stand)
    (other : Store) (read : List Reading) (finished : ℕ) (is : Bool) →
    ((fits : HasFinished program s stand read finished) →
    AgreeOnShared fits.reached.done stand.store other) →
    UnitFits program s stand read finished is →
    UnitFits program s (record stand { store = other }) read finished is
unit_on decides program s stand other read finished true agree fits = record {
  reached = fits.reached;
  tasks =
      (decides program stand.place stand.store other finished fits.reached fits.tasks
      (agree fits)).tasks;
  log = fits.log;
  flags = fits.flags;
  next = fits.next;
  inside = fits.inside;
  reads = fits.reads;
}
unit_on decides program s stand other read finished false agree fits = fits

-- what an attempt that has ended did, told of a state and of the words that it ran on
pub record HasDone (program : Program) (s : State) (base : Store) (read : List Reading)
    (place : ℕ) : Type 0 where
  pub made : HasMade s read (accesses (task_course program (current s)) base)
  pub leads : place ≡ place_after (answer (task_course program (current s)) base)

-- it does the same on words that agree on what it shares
pub done_on : SharedReadsDecide Ending → (program : Program) (s : State) (base other : Store)
    (read : List Reading) (place : ℕ) →
    AgreeOnShared (accesses (task_course program (current s)) base) base other →
    HasDone program s base read place → HasDone program s other read place
done_on decides program s base other read place agree has =
    let same = decides (task_course program (current s)) base other agree in
    record {
      made = subst (HasMade s read) (sym same.done) has.made;
      leads = has.leads ∙ ap place_after (sym same.result);
    }

-- the words that an attempt runs on, where the committed ones are changed by the event at the head
base_step : (s : State) (committed : Store) (done : List Access) (word : ℕ) (tx : Option ℕ) →
    log_value s log.Tx word ≡ tx → is_shared done word ≡ true →
    (is_read_below s done word ≡ true → head_value s word ≡ None) →
    (committed word ≡ unwrap_or (head_value s word) (committed_word s word)) →
    base_word s word ≡ unwrap_or (log_value s log.Tx word) (committed word)
base_step s committed done word (Some value) is shared missed changed =
    ap (λ (o : Option ℕ). unwrap_or o (committed_word s word)) is
    ∙ sym (ap (λ (o : Option ℕ). unwrap_or o (committed word)) is)
base_step s committed done word None is shared missed changed =
    let below : is_read_below s done word ≡ true =
    ap (λ (o : Option ℕ). not (is_some o) && is_shared done word) is ∙ shared in
    ap (λ (o : Option ℕ). unwrap_or o (committed_word s word)) is
    ∙ sym (changed
    ∙ ap (λ (o : Option ℕ). unwrap_or o (committed_word s word)) (missed below))
    ∙ sym (ap (λ (o : Option ℕ). unwrap_or o (committed word)) is)

pub base_agrees : (s : State) (committed : Store) (done : List Access) →
    ((word : ℕ) → is_read_below s done word ≡ true → head_value s word ≡ None) →
    ((word : ℕ) → committed word ≡ unwrap_or (head_value s word) (committed_word s word)) →
    AgreeOnShared done (base_word s)
    (λ word. unwrap_or (log_value s log.Tx word) (committed word))
base_agrees s committed done missed changed word shared =
    base_step s committed done word (log_value s log.Tx word) refl shared (missed word)
    (changed word)

-- and a store that the event changed holds what it held in each word that its log has not
pub store_agrees : LastWritesTellTheStore → (s : State) (event done : List Access)
    (store : Store) → ((word : ℕ) → head_value s word ≡ last_written event word) →
    ((word : ℕ) → is_shared done word ≡ true → head_value s word ≡ None) →
    AgreeOnShared done store (after event store)
store_agrees lasts s event done store logged missed word shared =
    unwritten lasts event store word (sym (logged word) ∙ missed word shared)
