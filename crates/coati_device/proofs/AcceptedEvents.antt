-- The held events where one more is accepted, in mode buffi: those held before stay what they are,
-- and the new one has run on the store behind them.
use Rattle.std.proofs.Common.{◌≡◌, ℕ, suc, ◌<◌, ◌==◌, List, [], ◌∷◌, ◌++◌, length, Bool, true, false, Option, if◌then◌else◌, refl, sym, ap, subst, ◌∙◌, arith}
use Rattle.std.specs.Prelude.{slice_index}
use Rattle.std.specs.Option.{unwrap_or}
use Rattle.coati_word.specs.declared.reading.Reading.{Reading}
use Rattle.task_syntax.specs.declared.program.Program.{Program}
use Rattle.task_syntax.specs.Course.{Store, after}
use Rattle.task_syntax.specs.CourseLaws.{LastWritesTellTheStore}
use Rattle.task_syntax.specs.Written.{last_written}
use Rattle.nv_memory.specs.Ring.{held_count, held_slots, oldest}
use Rattle.nv_memory.specs.State.{State}
use Rattle.nv_memory.specs.Words.{mode}
use Rattle.nv_memory.proofs.Held.{slots_length}
use Rattle.buffi_sets.specs.View.{changed_by, entry_value}
use Rattle.event_buffer.specs.Keeps.{KeepsHeld}
use Rattle.serial_log.specs.SerialRun.{Stand}
use Rattle.serial_log.specs.Standing.{Standing}
use Rattle.serial_log.specs.declared.held.Held.{Held}
use Rattle.coati_device.specs.HeldEvents.{EventsFit, HoldEvents, HoldsEvent, effect_on}
use Rattle.coati_device.specs.Waits.{Waits, with_made}
use Rattle.coati_device.proofs.Tests.{other_by_test}

-- the store that events leave one after another
abbrev pub behind_events : Program → List Held → Store → Store
behind_events program [] store = store
behind_events program (held ∷ rest) store =
    behind_events program rest (after (effect_on program held store) store)

-- these slots' logs are the same
abbrev pub HaveSameLogs : State → State → List ℕ → Type 0
HaveSameLogs s t slots = (i : ℕ) → i < length slots → (word : ℕ) →
    entry_value t (slice_index slots i) word ≡ entry_value s (slice_index slots i) word

holds_kept : (program : Program) (s t : State) (slot : ℕ) (held : Held) (read : List Reading)
    (store : Store) → ((word : ℕ) → entry_value t slot word ≡ entry_value s slot word)
    → HoldsEvent program s slot held read store → HoldsEvent program t slot held read store
holds_kept program s t slot held read store same holds =
    record { log = λ word. same word ∙ holds.log word; reads = holds.reads }

pub all_kept : (program : Program) (s t : State) (slots : List ℕ) (rest : List Held)
    (reads : List (List Reading)) (store : Store) → HaveSameLogs s t slots
    → HoldEvents program s slots rest reads store → HoldEvents program t slots rest reads store
all_kept program s t [] [] [] store same hold = tt
all_kept program s t [] [] (read ∷ reads) store same hold = absurd hold
all_kept program s t [] (held ∷ rest) reads store same hold = absurd hold
all_kept program s t (slot ∷ slots) [] reads store same hold = absurd hold
all_kept program s t (slot ∷ slots) (held ∷ rest) [] store same hold = absurd hold
all_kept program s t (slot ∷ slots) (held ∷ rest) (read ∷ reads) store same hold = (
  holds_kept program s t slot held read store (λ word. same 0 (omega arith) word) hold.0,
  all_kept program s t slots rest reads (after (effect_on program held store) store)
      (λ i low word. same (suc i) (omega (arith, low)) word) hold.1,
)

-- one more, on what those before it left
one_more : (program : Program) (s : State) (slots : List ℕ) (rest : List Held)
    (reads : List (List Reading)) (store : Store) (slot : ℕ) (held : Held) (read : List Reading)
    → HoldEvents program s slots rest reads store
    → HoldsEvent program s slot held read (behind_events program rest store)
    → HoldEvents program s (slots ++ slot ∷ []) (rest ++ held ∷ []) (reads ++ read ∷ []) store
one_more program s [] [] [] store slot held read hold more = (more, tt)
one_more program s [] [] (first ∷ reads) store slot held read hold more = absurd hold
one_more program s [] (first ∷ rest) reads store slot held read hold more = absurd hold
one_more program s (first ∷ slots) [] reads store slot held read hold more = absurd hold
one_more program s (first ∷ slots) (oldest ∷ rest) [] store slot held read hold more =
    absurd hold
one_more program s (first ∷ slots) (oldest ∷ rest) (made ∷ reads) store slot held read hold
    more = (
      hold.0,
      one_more program s slots rest reads (after (effect_on program oldest store) store) slot held
          read hold.1 more,
    )

-- the logs of the entries make of the store what the events do
pub store_behind : LastWritesTellTheStore → (program : Program) (s : State) (slots : List ℕ)
    (rest : List Held) (reads : List (List Reading)) (store : Store) (word value : ℕ)
    → value ≡ store word → HoldEvents program s slots rest reads store
    → changed_by s word slots value ≡ behind_events program rest store word
store_behind lasts program s [] [] [] store word value is hold = is
store_behind lasts program s [] [] (read ∷ reads) store word value is hold = absurd hold
store_behind lasts program s [] (held ∷ rest) reads store word value is hold = absurd hold
store_behind lasts program s (slot ∷ slots) [] reads store word value is hold = absurd hold
store_behind lasts program s (slot ∷ slots) (held ∷ rest) [] store word value is hold =
    absurd hold
store_behind lasts program s (slot ∷ slots) (held ∷ rest) (read ∷ reads) store word value is hold =
    let done = effect_on program held store in
    let here : unwrap_or (entry_value s slot word) value ≡ after done store word =
    ap (λ (found : Option ℕ). unwrap_or found value) (hold.0.log word)
    ∙ ap (unwrap_or (last_written done word)) is
    ∙ sym (lasts done store word) in
    store_behind lasts program s slots rest reads (after done store) word
    (unwrap_or (entry_value s slot word) value) here hold.1

-- a write that leaves the held entries and their logs leaves the events
pub events_left : (program : Program) (s t : State) (standing : Standing)
    (events : List (List Reading)) → mode t ≡ mode s → KeepsHeld s t
    → EventsFit program s standing events → EventsFit program t standing events
events_left program s t standing events same keeps fits buffi =
    let count : length (held_slots s) ≡ held_count s =
    slots_length s.k (oldest s) (held_count s) in
    subst (λ (slots : List ℕ). HoldEvents program t slots standing.rest events standing.run.store)
    (sym keeps.slots)
    (all_kept program s t (held_slots s) standing.rest events standing.run.store
    (λ i low word. keeps.logs i (omega (arith, low, count)) word) (fits (sym same ∙ buffi)))

-- where the write that accepts was made, the events are those before it and the new one
module _ (program : Program) (s t : State) (standing later : Standing) (held : Held) (slot : ℕ)
    (same : mode t ≡ mode s) (slots : held_slots t ≡ held_slots s ++ slot ∷ [])
    (logs : (one word : ℕ) → entry_value t one word ≡ entry_value s one word)
    (run : later.run ≡ standing.run) (rest : later.rest ≡ standing.rest ++ held ∷ []) where
  events_more : (events : List (List Reading)) (read : List Reading)
      → EventsFit program s standing events
      → (mode s ≡ 1 → HoldsEvent program s slot held read
      (behind_events program standing.rest standing.run.store))
      → EventsFit program t later (events ++ read ∷ [])
  events_more events read fits new buffi =
      let before : mode s ≡ 1 = sym same ∙ buffi in
      let all = events ++ read ∷ [] in
      let there : HoldEvents program t (held_slots s ++ slot ∷ []) (standing.rest ++ held ∷ []) all
      standing.run.store =
      all_kept program s t (held_slots s ++ slot ∷ []) (standing.rest ++ held ∷ []) all
      standing.run.store
      (λ i low word. logs (slice_index (held_slots s ++ slot ∷ []) i) word)
      (one_more program s (held_slots s) standing.rest events standing.run.store slot held read
      (fits before) (new before)) in
      subst (λ (stand : Stand). HoldEvents program t (held_slots t) later.rest all stand.store)
      (sym run)
      (subst (λ (waiting : List Held).
      HoldEvents program t (held_slots t) waiting all standing.run.store) (sym rest)
      (subst (λ (held_by : List ℕ).
      HoldEvents program t held_by (standing.rest ++ held ∷ []) all standing.run.store)
      (sym slots) there))

  held_by : (waits : Waits) (buffi : Bool) → (mode s == 1) ≡ buffi
      → EventsFit program s standing waits.events
      → (mode s ≡ 1 → HoldsEvent program s slot held waits.made
      (behind_events program standing.rest standing.run.store))
      → EventsFit program t later (if buffi then with_made waits else waits).events
  held_by waits true is fits new = events_more waits.events waits.made fits new
  held_by waits false is fits new = λ other.
      absurd (other_by_test (mode s) 1 is (sym same ∙ other))

  -- by the mode they are kept or not
  pub events_held : (waits : Waits) → EventsFit program s standing waits.events
      → (mode s ≡ 1 → HoldsEvent program s slot held waits.made
      (behind_events program standing.rest standing.run.store))
      → EventsFit program t later (if mode s == 1 then with_made waits else waits).events
  events_held waits fits new = held_by waits (mode s == 1) refl fits new
