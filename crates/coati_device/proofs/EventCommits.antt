-- Where the bottom half of the oldest posting has ended, its event is committed: the mark takes
-- its entry, whose log stands in the committed words from then on, and the history goes on behind
-- its posting.
use Rattle.std.proofs.Common.{◌≡◌, ◌==◌, ℕ, ◌+◌, ◌-◌, ◌≤◌, List, [], ◌∷◌, true, false, Option, Some, length, refl, sym, ap, subst, ◌∙◌, arith}
use Rattle.std.proofs.lemmas.Bool.Decides.{nat_tests}
use Rattle.std.specs.Option.{option_map_or, unwrap_or}
use Rattle.task_syntax.specs.declared.program.Program.{Program}
use Rattle.task_syntax.specs.Course.{Access, Store, accesses, after}
use Rattle.task_syntax.specs.CourseLaws.{LastWritesTellTheStore}
use Rattle.task_syntax.specs.Events.{event_effect}
use Rattle.task_syntax.specs.Names.{tasks}
use Rattle.nv_memory.specs.InRange.{ArePlacesInRange, InRange, IsClosed}
use Rattle.nv_memory.specs.Ring.{Entry, held_count, held_entries, position_after}
use Rattle.nv_memory.specs.Seats.{Memory}
use Rattle.nv_memory.specs.StandsFor.{committed_word}
use Rattle.nv_memory.specs.State.{State, set_to, state}
use Rattle.nv_memory.specs.Words.{head, head_next, mark_seat, mode, opened}
use Rattle.event_buffer.specs.TurnLaws.{MarksTakeTheOldest, Takes}
use Rattle.event_buffer.proofs.Slots.{held_length}
use Rattle.serial_log.specs.declared.held.Held.{Held}
use Rattle.serial_log.specs.declared.mark.Mark.{Mark}
use Rattle.serial_log.specs.declared.mark.MarkKind.TheVariants.{Commit}
use Rattle.serial_log.specs.Postings.{due_posting}
use Rattle.serial_log.specs.SerialRun.{Stand, behind_event, posting_numbered}
use Rattle.serial_log.specs.Standing.{Standing, after_mark, opening, standing_of, without}
use Rattle.serial_log.proofs.Walks.{walk_push}
use Rattle.codegen.specs.Bodies.{program_code}
use Rattle.coati_device.specs.declared.device.Device.{Device}
use Rattle.coati_device.specs.declared.device.Phase.{Phase}
use Rattle.coati_device.specs.declared.device.Phase.TheVariants.{Choose, EndBottom}
use Rattle.coati_device.specs.Attempt.{course_at}
use Rattle.coati_device.specs.Kept.{emptied, record_of_event, with_event}
use Rattle.coati_device.specs.Laws.{Fits}
use Rattle.coati_device.specs.OpenUnit.{HasNoneFinished, IsUnitPlace, OpenUnitFits, UnitFits, has_unit}
use Rattle.coati_device.specs.Points.{AreHeld, AreLastAccepted, AreNumberedFrom, IsFit, Reads, StandsFor, reads_of}
use Rattle.coati_device.specs.Rows.{EndsBottom, IsClear, head_entry}
use Rattle.coati_device.specs.TaskView.{HasWritten}
use Rattle.coati_device.proofs.MarkedMemory.{marked}
use Rattle.coati_device.proofs.TaskWrites.{IsPut, put_by}
use Rattle.coati_device.proofs.UnitGrows.{pointwise}

-- the posting that is due is the first
pub first_of : (rest : List Held) (held : Held) → due_posting rest ≡ Some held
    → (more : List Held) × (rest ≡ held ∷ more)
first_of [] held due = absurd cc
first_of (first ∷ more) held due = let same : first ≡ held =
    cc in (more, ap (λ (h : Held). h ∷ more) same)

-- its number finds it
pub numbered_first : (held : Held) (more : List Held) (number : ℕ) → held.number ≡ number
    → posting_numbered number (held ∷ more) ≡ Some held
numbered_first held more number is = let same : (held.number == number) ≡ true =
    grind (arith, nat_tests) in rw same refl

-- and leaves those behind it
left_behind : (held : Held) (more : List Held) (number : ℕ) → held.number ≡ number
    → without number (held ∷ more) ≡ more
left_behind held more number is = let same : (held.number == number) ≡ true =
    grind (arith, nat_tests) in rw same refl

-- as many postings wait as entries are held
pub held_as_many : (program : Program) (entries : List Entry) (rest : List Held)
    → AreHeld program entries rest
    → length entries ≡ length rest
held_as_many program [] [] are = refl
held_as_many program [] (held ∷ more) are = absurd are
held_as_many program (entry ∷ entries) [] are = absurd are
held_as_many program (entry ∷ entries) (held ∷ more) are =
    let same = held_as_many program entries more are.1 in omega (arith, same)

-- the first is as far behind the last accepted one as postings wait
number_of_first : (held : Held) (more : List Held) (standing : Standing)
    → standing.rest ≡ held ∷ more
    → AreLastAccepted standing → held.number ≡ standing.accepted + 1 - length standing.rest
number_of_first held more standing first are =
    (subst (AreNumberedFrom (standing.accepted + 1 - length standing.rest)) first are.numbered).0

-- those behind it are the last accepted ones too
last_behind : (held : Held) (more : List Held) (accepted : ℕ) → length (held ∷ more) ≤ accepted
    → AreNumberedFrom (accepted + 1 - length (held ∷ more)) (held ∷ more)
    → AreNumberedFrom (accepted + 1 - length more) more
last_behind held more accepted few are =
    let same : accepted + 1 - length (held ∷ more) + 1 ≡ accepted + 1 - length more =
    omega (arith, few) in
    subst (λ (number : ℕ). AreNumberedFrom number more) same are.1

-- no unit is open before the mark, and none is behind it
none_before : (s : State) → IsClear s → opened s ≡ 0 → has_unit s ≡ false
none_before s clear closed = rw (clear.mark, clear.doomed, closed) refl

none_behind_mark : (s : State) → IsClear s → opened s ≡ 0 → has_unit (marked s 3) ≡ false
none_behind_mark s clear closed = rw (clear.doomed, closed) refl

module _ (program : Program) (m : Memory) (reads : Reads) (standing : Standing)
    (fit : IsFit program (program_code program) m reads EndBottom standing)
    (event from count number at : ℕ)
    (numbered : number ≡ standing.accepted + 1 - held_count (state m)) where
  abbrev served : Standing
  served = after_mark program standing (record
      { at = at; kind = Commit (record_of_event event number from count) })

  abbrev due : Held
  due = fit.attempt.at.held

  first : (more : List Held) × (standing.rest ≡ due ∷ more)
  first = first_of standing.rest due fit.attempt.at.due

  pub its_number : due.number ≡ number
  its_number =
      let many = held_as_many program (held_entries (state m)) standing.rest fit.stands.held in
      let counted : held_count (state m) ≡ length standing.rest = sym (held_length (state m))
      ∙ many in
      number_of_first due first.0 standing first.1 fit.waiting
      ∙ ap (λ (c : ℕ). standing.accepted + 1 - c) (sym counted)
      ∙ sym numbered

  run_is : served.run ≡ behind_event program standing.run due
  run_is =
      ap (λ (o : Option Held). option_map_or (behind_event program standing.run) o standing.run)
      (ap (posting_numbered number) first.1 ∙ numbered_first due first.0 number its_number)

  rest_is : served.rest ≡ first.0
  rest_is = ap (without number) first.1 ∙ left_behind due first.0 number its_number

  waiting_served : AreLastAccepted served
  waiting_served =
      let few : length (due ∷ first.0) ≤ standing.accepted =
      subst (λ (rest : List Held). length rest ≤ standing.accepted) first.1 fit.waiting.few in
      let are : AreNumberedFrom (standing.accepted + 1 - length (due ∷ first.0)) (due ∷ first.0) =
      subst (λ (rest : List Held). AreNumberedFrom (standing.accepted + 1 - length rest) rest)
      first.1 fit.waiting.numbered in
      subst (λ (rest : List Held). AreLastAccepted (record served { rest = rest })) (sym rest_is)
      (record {
        few = omega (arith, few);
        numbered =
            last_behind due first.0 standing.accepted few are;
      })

  unit_served : OpenUnitFits program (marked (state m) 3) served.run reads.unit reads.finished
  unit_served =
      let clear = fit.attempt.at.clear in
      let events = fit.attempt.at.events in
      let none : HasNoneFinished reads.unit reads.finished =
      subst (UnitFits program (state m) standing.run reads.unit reads.finished)
      (none_before (state m) clear events.closed) fit.unit in
      subst (UnitFits program (marked (state m) 3) served.run reads.unit reads.finished)
      (sym (none_behind_mark (state m) clear events.closed)) none

  module _ (lasts : LastWritesTellTheStore) (takes : Takes (state m) (marked (state m) 3)) where
    abbrev done : List Access
    done = accesses (course_at program due) (committed_word (state m))

    store_is : committed_word (state m) ≡ standing.run.store
    store_is = pointwise (committed_word (state m)) standing.run.store fit.stands.words

    stands_served : StandsFor program (marked (state m) 3) served
    stands_served = record {
      words = λ word.
          takes.words word
          ∙ ap (λ (o : Option ℕ). unwrap_or o (committed_word (state m) word))
          (fit.attempt.made.log word)
          ∙ sym (lasts done (committed_word (state m)) word)
          ∙ ap (λ (store : Store). after (event_effect program due.event due.argument store) store
          word) store_is
          ∙ ap (λ (stand : Stand). stand.store word) (sym run_is);
      place = takes.place ∙ fit.stands.place ∙ ap (λ (stand : Stand). stand.place) (sym run_is);
      held =
          let both : AreHeld program (head_entry (state m) ∷ held_entries (marked (state m) 3))
          (due ∷ first.0) =
          subst (AreHeld program (head_entry (state m) ∷ held_entries (marked (state m) 3)))
          first.1
          (subst (λ (entries : List Entry). AreHeld program entries standing.rest) takes.held
          fit.stands.held) in
          subst (AreHeld program (held_entries (marked (state m) 3))) (sym rest_is) both.1;
    }

    fit_served : (image : Memory) → IsPut m (set_to mark_seat 3) image
        → IsFit program (program_code program) image (record reads { attempt = [] }) Choose served
    fit_served image wrote =
        let back = sym wrote.state in
        record {
          memory = record {
            memory = wrote.memory;
            words = wrote.words ∙ fit.memory.words;
            slots = wrote.slots ∙ fit.memory.slots;
            range = subst InRange back takes.sound.range;
            places =
                subst (ArePlacesInRange (length (tasks program))) back
                (takes.sound.places (length (tasks program)) fit.memory.places);
            closed = subst IsClosed back (takes.sound.closed fit.memory.closed);
            mode = rw (ap mode wrote.state) fit.memory.mode;
          };
          stands = subst (λ (t : State). StandsFor program t served) back stands_served;
          waiting = waiting_served;
          place = subst (IsUnitPlace program) (ap (λ (stand : Stand). stand.place) (sym run_is))
              fit.place;
          unit = subst (λ (t : State). OpenUnitFits program t served.run reads.unit reads.finished)
              back unit_served;
          attempt = tt;
        }

-- the row of an event's commit
pub commits_event_keep : MarksTakeTheOldest → LastWritesTellTheStore
    → (program : Program) (old new : Device) (image : Memory)
    → Fits program old → (standing_of program old.history.marks).accepted ≡ old.accepted
    → EndsBottom old
    → head_next (state old.image) ≡ position_after old.image.k (head (state old.image))
    → HasWritten old.image (set_to mark_seat 3) image
    → new ≡ record old {
      image = image;
      history =
          with_event old.history (head_entry (state old.image)).event
          (old.accepted + 1 - held_count (state old.image)) old.attempt.items (old.clock + 1);
      attempt = emptied old.attempt;
      phase = Choose;
    } → Fits program new
commits_event_keep law lasts program old new image fits counted ends follows wrote is =
    let m = old.image in
    let s = state m in
    let standing = standing_of program old.history.marks in
    let event = (head_entry s).event in
    let number = old.accepted + 1 - held_count s in
    let from = length old.history.readings in
    let count = length old.attempt.items in
    let at = old.clock + 1 in
    let told : Mark =
    record { at = at; kind = Commit (record_of_event event number from count) } in
    let ended : IsFit program (program_code program) m (reads_of old) EndBottom standing =
    subst (λ (phase : Phase). IsFit program (program_code program) m (reads_of old) phase standing)
    ends.phase fits in
    let numbered : number ≡ standing.accepted + 1 - held_count s =
    ap (λ (accepted : ℕ). accepted + 1 - held_count s) (sym counted) in
    let takes = law s ended.memory.range ends.clear.mark ends.clear.doomed ends.events.held
    follows in
    let put = put_by m image (set_to mark_seat 3) ended.memory.memory wrote in
    subst (λ (d : Device). Fits program d) (sym is)
    (subst
    (λ (behind : Standing). IsFit program (program_code program) image
    (record (reads_of old) { attempt = [] }) Choose behind)
    (sym (walk_push (after_mark program) (opening program) old.history.marks told))
    (fit_served program m (reads_of old) standing ended event from count number at numbered lasts
    takes image put))
