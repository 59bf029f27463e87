-- The entry at the head is that of the oldest posting that waits.
use Rattle.std.proofs.Common.{◌≡◌, ℕ, zero, suc, ◌<◌, List, [], ◌∷◌, map, length, refl, sym, ap, subst, ◌∙◌, arith, inl, inr}
use Rattle.std.specs.Prelude.{Some, Option, slice_get, take}
use Rattle.std.specs.Option.{option_map_or}
use Rattle.std.proofs.lemmas.Option.{slice_get_cases}
use Rattle.task_syntax.specs.declared.program.Event.{Event}
use Rattle.task_syntax.specs.declared.program.Program.{Program}
use Rattle.task_syntax.specs.Events.{bottom_course, course_of, message}
use Rattle.task_check.specs.Accepted.{IsAccepted}
use Rattle.nv_memory.specs.Ring.{Entry, entry_at, held_count, held_entries, oldest, position_after, slot_of, slots_from}
use Rattle.nv_memory.specs.State.{State}
use Rattle.nv_memory.specs.Words.{head, mark}
use Rattle.serial_log.specs.declared.held.Held.{Held}
use Rattle.coati_device.specs.Attempt.{course_at}
use Rattle.coati_device.specs.Points.{AreHeld, IsEntryOf, message_to}
use Rattle.coati_device.specs.Rows.{head_entry, head_message, params_of}

-- what the top half of an event gives has a word for each parameter of the bottom half
abbrev pub MessagesFit : Type 0
MessagesFit = (program : Program) → IsAccepted program → (number argument : ℕ) (event : Event)
    → slice_get program.events number ≡ Some event
    → length (message program event argument) ≡ length event.params

-- a posting is the oldest, and an entry is its
pub record IsOldest (program : Program) (entry : Entry) (rest : List Held) : Type 0 where
  pub held : Held
  pub more : List Held
  pub first : rest ≡ held ∷ more
  pub is : IsEntryOf program entry held

oldest_of : (program : Program) (entry : Entry) (entries : List Entry) (rest : List Held)
    → AreHeld program (entry ∷ entries) rest → IsOldest program entry rest
oldest_of program entry entries [] are = absurd are
oldest_of program entry entries (held ∷ more) are =
    record { held = held; more = more; first = refl; is = are.0 }

entries_from : (s : State) (from count : ℕ) → 0 < count
    → (more : List Entry) × (map (entry_at s) (slots_from s.k from count) ≡ entry_at s
    (slot_of s.k from) ∷ more)
entries_from s from zero some = absurd (omega (arith, some))
entries_from s from (suc count) some =
    (map (entry_at s) (slots_from s.k (position_after s.k from) count), refl)

oldest_is : (s : State) → mark s ≡ 0 → oldest s ≡ head s
oldest_is s clear = rw clear refl

-- the entry at the head is that of the oldest
pub oldest_at_head : (program : Program) (s : State) (rest : List Held) → mark s ≡ 0
    → 0 < held_count s
    → AreHeld program (held_entries s) rest → IsOldest program (head_entry s) rest
oldest_at_head program s rest clear some held =
    let here = entries_from s (oldest s) (held_count s) some in
    let entry = entry_at s (slot_of s.k (oldest s)) in
    subst (λ (position : ℕ). IsOldest program (entry_at s (slot_of s.k position)) rest)
    (oldest_is s clear)
    (oldest_of program entry here.0 rest (subst
    (λ (entries : List Entry). AreHeld program entries rest) here.1 held))

-- an event of the program
pub event_there : (program : Program) (number : ℕ) → number < length program.events
    → (event : Event) × (slice_get program.events number ≡ Some event)
event_there program number low = elim (slice_get_cases program.events number).1 [
  | inl there ↦ (there.0, there.2)
  | inr past ↦ absurd (omega (arith, past.0))
]

module _ (program : Program) (s : State) (held : Held) (event : Event)
    (there : slice_get program.events held.event ≡ Some event) where
  message_there : message_to program held ≡ message program event held.argument
  message_there = ap (λ (o : Option Event).
      option_map_or (λ (e : Event). message program e held.argument) o []) there

  -- the message at the head is what the event's top half gave
  pub message_at_head : MessagesFit → IsAccepted program → IsEntryOf program (head_entry s) held
      → head_message program s ≡ message program event held.argument
  message_at_head fit accepted is =
      let long : params_of program (head_entry s).event ≡ length (message_to program held) =
      ap (params_of program) is.event
      ∙ ap (λ (o : Option Event). option_map_or (λ (declared : Event). length declared.params) o 0)
      there
      ∙ sym (fit program accepted held.event held.argument event there)
      ∙ ap length (sym message_there) in
      ap (λ (count : ℕ). take count (head_entry s).message) long ∙ is.message ∙ message_there

  -- and on it the bottom half runs
  pub course_there : course_at program held ≡ bottom_course program event
      (message program event held.argument)
  course_there = ap (λ (o : Option Event). course_of program o held.argument) there
