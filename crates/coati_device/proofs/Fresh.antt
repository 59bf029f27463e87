-- A device before its first step.
use Rattle.std.proofs.Common.{◌≡◌, ℕ, inr, ◌≤◌, ◌<◌, List, [], ◌∷◌, length, map, refl, ap, sym, subst, ◌∙◌, arith, length-append}
use Rattle.std.specs.Prelude.{All, flat_map}
use Rattle.std.proofs.lemmas.List.{length-replicate}
use Rattle.std.proofs.lemmas.List.Elements.{All-head, All-nil, All-tail}
use Rattle.coati_word.specs.declared.mode.Mode.{Mode}
use Rattle.coati_word.specs.declared.mode.Mode.TheVariants.{Buffi, Split}
use Rattle.coati_word.specs.declared.reading.Reading.{Reading}
use Rattle.task_syntax.specs.declared.program.Program.{Program}
use Rattle.task_syntax.specs.declared.program.Var.{Var}
use Rattle.task_syntax.specs.Names.{count_of, first_values, given_values, opening_values, tasks, word_count}
use Rattle.task_check.specs.Numbers.{buffer_size}
use Rattle.task_check.specs.Sizes.{GivenFits, HasSizes}
use Rattle.nv_memory.specs.Blank.{blank, mode_word}
use Rattle.nv_memory.specs.BlankLaws.{BlankImagesAreSound, IsBlankSound}
use Rattle.nv_memory.specs.InRange.{ArePlacesInRange, InRange, IsClosed}
use Rattle.nv_memory.specs.Ring.{Entry, entry_at, held_entries, held_slots}
use Rattle.nv_memory.specs.Seats.{IsMemory, IsSized, Memory}
use Rattle.nv_memory.specs.State.{State, state}
use Rattle.nv_memory.specs.Words.{mode as word_of_mode}
use Rattle.word_code.specs.Code.{Bodies}
use Rattle.serial_log.specs.declared.held.Held.{Held}
use Rattle.serial_log.specs.declared.mark.Mark.{Mark}
use Rattle.serial_log.specs.History.{AreRecordsIn, Past}
use Rattle.serial_log.specs.Legal.{AreMarksLegal}
use Rattle.serial_log.specs.Postings.{Terms}
use Rattle.serial_log.specs.Standing.{opening, standing_of}
use Rattle.coati_device.specs.declared.device.Device.{Device}
use Rattle.coati_device.specs.declared.device.Phase.{Phase}
use Rattle.coati_device.specs.declared.device.Phase.TheVariants.{Choose}
use Rattle.coati_device.specs.Laws.{ArePeriods, IsFresh}
use Rattle.coati_device.specs.HeldEvents.{EventsFit}
use Rattle.coati_device.specs.Points.{AreBootsTold, AreHeld, IsFit, IsLegalBy, IsSound, Reads, StandsFor, TakeTurns, reads_of}
use Rattle.coati_device.specs.OpenUnit.{OpenUnitFits}
use Rattle.coati_device.proofs.Members.{none_midst_first}
use Rattle.coati_device.proofs.Times.{is_timed_first}

-- how many opening values there are
opening_count : (vars : List Var) → All GivenFits vars →
    length (flat_map first_values vars) ≡ word_count vars
opening_count [] all = refl
opening_count (var ∷ vars) all =
    let here : length (given_values var.init) ≤ count_of var.length =
    All-head GivenFits var vars all in
    let rest = opening_count vars (All-tail GivenFits var vars all) in
    simp (length-append, length-replicate) (omega (arith, here, rest))

-- there are two modes
two_modes : (mode : Mode) → mode_word mode < 2
two_modes Split = omega arith
two_modes Buffi = omega arith

-- none is held
no_slots : (s : State) → held_entries s ≡ [] → held_slots s ≡ []
no_slots s none = by (held_slots s) refl
  where
    by : (slots : List ℕ) → held_slots s ≡ slots → slots ≡ []
    by [] is = refl
    by (slot ∷ slots) is = absurd (let no = ap (map (entry_at s)) is in cc)

module _ (program : Program) (mode : Mode) (sizes : HasSizes program) where
  abbrev blank_of : State
  blank_of = blank (opening_values program) (buffer_size program) mode

  sized : IsSized (length (opening_values program)) (buffer_size program)
  sized =
      let count = opening_count program.vars sizes.given in
      record {
        some_words = omega (arith, count, sizes.words_least);
        few_words = omega (arith, count, sizes.words_most);
        some_entries = omega (arith, sizes.buffer_least);
        few_entries = sizes.buffer_most;
      }

  stands_first : IsBlankSound (opening_values program) (buffer_size program) mode →
      StandsFor program blank_of (opening program)
  stands_first b = record {
    words = b.words;
    place = b.place;
    held = subst (λ (entries : List Entry). AreHeld program entries []) (sym b.held) tt;
  }

  none_finished : (reads : Reads) → reads.unit ≡ [] → reads.finished ≡ 0 →
      OpenUnitFits program blank_of (opening program).run reads.unit reads.finished
  none_finished reads nothing none = record { none = none; nothing = nothing }

  fit_first : BlankImagesAreSound → (code : Bodies) (m : Memory) (reads : Reads) → IsMemory m →
      state m ≡ blank_of → reads.unit ≡ [] → reads.finished ≡ 0 →
      IsFit program code m reads Choose (opening program)
  fit_first sound code m reads memory is nothing none =
      let b = sound (opening_values program) (buffer_size program) mode sized in
      let count = length (tasks program) in
      record {
        memory = record {
          memory = memory;
          words = ap (λ (s : State). s.n) is ∙ opening_count program.vars sizes.given;
          slots = ap (λ (s : State). s.k) is;
          range = subst InRange (sym is) b.range;
          places = subst (ArePlacesInRange count) (sym is) (b.places count sizes.tasks_least);
          closed = subst IsClosed (sym is) b.closed;
          mode = subst (λ (s : State). word_of_mode s < 2) (sym is) (two_modes mode);
        };
        stands = subst (λ (s : State). StandsFor program s (opening program)) (sym is)
            (stands_first b);
        waiting = record { few = omega arith; numbered = tt };
        place = inr (sizes.tasks_least, none_midst_first program);
        unit =
            subst (λ (s : State).
            OpenUnitFits program s (opening program).run reads.unit reads.finished) (sym is)
            (none_finished reads nothing none);
        attempt = tt;
      }

  -- no event is held
  events_first : BlankImagesAreSound → (s : State) (reads : List (List Reading)) →
      s ≡ blank_of → reads ≡ [] → EventsFit program s (opening program) reads
  events_first sound s reads is none buffi =
      let b = sound (opening_values program) (buffer_size program) mode sized in
      let slots : held_slots s ≡ [] =
      no_slots s (ap held_entries is ∙ b.held) in
      rw (slots, none) tt

-- no mark is legal, and tells no boot
legal_first : (terms : Terms) (past : Past) → past.marks ≡ [] → IsLegalBy terms past 0
legal_first terms past none = record {
  records = subst (AreRecordsIn (length past.readings)) (sym none) tt;
  legal = subst (AreMarksLegal terms past.readings) (sym none) tt;
  booted = ap (λ (marks : List Mark). (standing_of terms.program marks).lost) none;
  latest = omega
      (arith, ap (λ (marks : List Mark). (standing_of terms.program marks).latest) none);
}

-- and nothing waits or is awaited
turns_first : (program : Program) (s : State) (phase : Phase) (marks : List Mark) → marks ≡ [] →
    TakeTurns program s phase marks
turns_first program s phase marks none = subst (TakeTurns program s phase) (sym none) (record {
  split = λ split. record {
    serves = tt;
    same = refl;
    settled = omega arith;
    later = λ under. All-nil (λ (held : Held). 0 < held.number);
  };
  buffi = λ buffi. tt;
  aborts = tt;
  awaits = λ posting is. absurd cc;
})

told_first : (periods : List ℕ) (program : Program) (past : Past) → past.marks ≡ [] →
    AreBootsTold periods 0 program past
told_first periods program past none =
    rw none (record { times = refl; counted = refl; last = refl })

-- so a device before its first step keeps all of it
pub sound_first : BlankImagesAreSound → (terms : Terms) (code : Bodies) (periods : List ℕ)
    (d : Device) → ArePeriods periods → HasSizes terms.program →
    IsFresh terms.program terms.mode periods d → IsSound terms code periods d
sound_first blank_sound terms code periods d some sizes fresh = record {
  fit = rw (fresh.phase, fresh.marks)
      (fit_first terms.program terms.mode sizes blank_sound code d.image (reads_of d)
      fresh.memory fresh.image fresh.unit fresh.finished);
  mode = ap word_of_mode fresh.image;
  events = rw fresh.marks
      (events_first terms.program terms.mode sizes blank_sound (state d.image) d.waiting.events
      fresh.image fresh.events);
  legal = rw (fresh.clock) (legal_first terms d.history fresh.marks);
  turns = turns_first terms.program (state d.image) d.phase d.history.marks fresh.marks;
  accepted =
      ap (λ (marks : List Mark). (standing_of terms.program marks).accepted) fresh.marks
      ∙ sym fresh.accepted;
  timed = rw (fresh.clock, fresh.boots, fresh.until) (is_timed_first periods some);
  boots = rw (fresh.boots) (told_first periods terms.program d.history fresh.marks);
}
