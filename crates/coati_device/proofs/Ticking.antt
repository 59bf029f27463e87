-- The time behind a step keeps what a device keeps: a cut of power tells its boot and loses what
-- is volatile, of which nothing is asked then.
use Rattle.std.proofs.Common.{◌≡◌, ◌≢◌, ℕ, ◌+◌, ◌<◌, ◌≤◌, ◌==◌, List, [], ◌∷◌, ◌++◌, length, take, refl, ap, sym, subst, ◌∙◌, arith, inl, inr, Option, Some, None, Bool, true, false, if◌then◌else◌}
use Rattle.std.specs.Prelude.{sum}
use Rattle.std.proofs.lemmas.Bool.Decides.{nat_tests}
use Rattle.coati_word.specs.declared.reading.Reading.{Reading}
use Rattle.nv_memory.specs.Blank.{mode_word}
use Rattle.nv_memory.specs.Seats.{Memory}
use Rattle.nv_memory.specs.State.{State, state}
use Rattle.nv_memory.specs.Words.{mode}
use Rattle.word_code.specs.Code.{Bodies}
use Rattle.serial_log.specs.declared.mark.Mark.{Mark}
use Rattle.serial_log.specs.declared.mark.MarkKind.TheVariants.{Boot}
use Rattle.serial_log.specs.History.{AreRecordsIn, Past, with_mark}
use Rattle.serial_log.specs.Laws.{HistoriesGoOn, MarksJoinUp, TurnsGoOn}
use Rattle.serial_log.specs.Legal.{AreMarksLegal, IsLegalMark}
use Rattle.serial_log.specs.Postings.{FollowsLost, Terms}
use Rattle.serial_log.specs.Progresses.{IsServedFirst, awaited_of}
use Rattle.serial_log.specs.Scripted.{ends_from}
use Rattle.serial_log.specs.Standing.{Standing, after_mark, standing_of}
use Rattle.coati_device.specs.declared.device.Device.{Device}
use Rattle.coati_device.specs.declared.device.Phase.{Phase}
use Rattle.coati_device.specs.declared.device.Phase.TheVariants.{Choose}
use Rattle.coati_device.specs.HeldEvents.{EventsFit}
use Rattle.coati_device.specs.Laws.{ArePeriods}
use Rattle.coati_device.specs.Points.{AreBootsTold, IsFit, IsLegalBy, IsSound, IsSoundBy, IsTimed, Reads, TakeTurns, reads_of}
use Rattle.coati_device.specs.Ticks.{cut, passed, ticked}
use Rattle.coati_device.proofs.TurnMarks.{turns_by}
use Rattle.coati_device.proofs.Times.{boots_low, ends_now, is_cut, is_later, passes, take_ends}

-- the mark of a boot
abbrev pub boot_at : ℕ → ℕ → Mark
boot_at at number = record { at = at; kind = Boot number }

-- marks are legal up to a time; a lost posting among them may lack its boot yet
pub record AreMarksBy (terms : Terms) (past : Past) (at : ℕ) : Type 0 where
  pub records : AreRecordsIn (length past.readings) past.marks
  pub legal : AreMarksLegal terms past.readings past.marks
  pub latest : (standing_of terms.program past.marks).latest ≤ at

-- the boot of a cut follows, where this is lost
abbrev pub FollowsBoot : Terms → Device → Option ℕ → Type 0
FollowsBoot terms d lost =
    FollowsLost (standing_of terms.program d.history.marks) lost
    (boot_at (d.clock + 1) (d.boots + 1))

-- what a device keeps where a cut comes next: its marks may end with the posting that is lost by
-- it
pub record IsSoundAtCut (terms : Terms) (code : Bodies) (periods : List ℕ) (d : Device)
    : Type 0 where
  pub fit : IsFit terms.program code d.image (reads_of d) d.phase
      (standing_of terms.program d.history.marks)
  pub mode : mode (state d.image) ≡ mode_word terms.mode
  pub events : EventsFit terms.program (state d.image)
      (standing_of terms.program d.history.marks) d.waiting.events
  pub marks : AreMarksBy terms d.history (d.clock + 1)
  pub follows : FollowsBoot terms d (standing_of terms.program d.history.marks).lost
  pub turns : TakeTurns terms.program (state d.image) d.phase d.history.marks
  pub accepted : (standing_of terms.program d.history.marks).accepted ≡ d.accepted
  pub timed : IsTimed periods d.clock d.boots d.until
  pub boots : AreBootsTold periods d.boots terms.program d.history

module _ (go_on : HistoriesGoOn) (join : MarksJoinUp) (terms : Terms) (code : Bodies) where
  booted_standing : (past : Past) (at number : ℕ) →
      standing_of terms.program (past.marks ++ boot_at at number ∷ [])
      ≡ after_mark terms.program (standing_of terms.program past.marks) (boot_at at number)
  booted_standing past at number =
      (go_on terms past.readings past.marks (boot_at at number)).standing

  -- memory fits as before, whatever the attempt was
  boot_fits : (m : Memory) (reads : Reads) (phase : Phase) (past : Past) (at number : ℕ) →
      IsFit terms.program code m reads phase (standing_of terms.program past.marks) →
      IsFit terms.program code m reads Choose
      (standing_of terms.program (past.marks ++ boot_at at number ∷ []))
  boot_fits m reads phase past at number fit =
      let standing : Standing =
      after_mark terms.program (standing_of terms.program past.marks) (boot_at at number) in
      let booted : IsFit terms.program code m reads Choose standing = record {
        memory = fit.memory;
        stands = record {
          words = fit.stands.words;
          place = fit.stands.place;
          held = fit.stands.held;
        };
        waiting = record { few = fit.waiting.few; numbered = fit.waiting.numbered };
        place = fit.place;
        unit = fit.unit;
        attempt = tt;
      } in
      subst (IsFit terms.program code m reads Choose) (sym (booted_standing past at number)) booted

  -- and so do the held events
  boot_events : (s : State) (reads : List (List Reading)) (past : Past) (at number : ℕ) →
      EventsFit terms.program s (standing_of terms.program past.marks) reads →
      EventsFit terms.program s
      (standing_of terms.program (past.marks ++ boot_at at number ∷ [])) reads
  boot_events s reads past at number events =
      subst (λ (standing : Standing). EventsFit terms.program s standing reads)
      (sym (booted_standing past at number)) events

  -- the next boot is legal, where a lost posting tells none or this one
  pub boot_legal : (past : Past) (at boots : ℕ) → AreMarksBy terms past at →
      FollowsLost (standing_of terms.program past.marks)
      (standing_of terms.program past.marks).lost (boot_at at (boots + 1)) →
      (standing_of terms.program past.marks).boots ≡ boots →
      (standing_of terms.program past.marks).last_boot < at →
      IsLegalBy terms (with_mark past (boot_at at (boots + 1))) at
  boot_legal past at boots h follows counted later =
      let boot : Mark = boot_at at (boots + 1) in
      let standing : Standing = standing_of terms.program past.marks in
      let goes = go_on terms past.readings past.marks boot in
      let legal : IsLegalMark terms past.readings standing boot = record {
        serial = tt;
        postings = record { in_time = h.latest; follows = follows; order = tt };
        aborts = tt;
        boots = record { counted = ap (λ (n : ℕ). n + 1) (sym counted); later = later };
        end = tt;
      } in
      record {
        records = goes.records h.records tt;
        legal = goes.legal h.legal legal;
        booted = ap (λ (s : Standing). s.lost) goes.standing;
        latest = omega (arith, ap (λ (s : Standing). s.latest) goes.standing);
      }

  boot_first : (awaited : Option ℕ) (number : ℕ) → IsServedFirst awaited (Boot number)
  boot_first None number = tt
  boot_first (Some posting) number = tt

  -- it ends no task, and no task is under way behind it
  pub boot_turns : TurnsGoOn → (s : State) (phase : Phase) (marks : List Mark) (at number : ℕ) →
      TakeTurns terms.program s phase marks →
      TakeTurns terms.program s Choose (marks ++ boot_at at number ∷ [])
  boot_turns turns s phase marks at number h =
      turns_by turns go_on terms.program s s phase Choose marks (boot_at at number) h (record {
        mode = refl;
        split = λ split served. record {
          serves = λ ends. absurd ends;
          settled = served.settled;
          later = λ under. elim under [
            | inl task ↦ absurd task
            | inr unit ↦ served.later (inr unit)
          ];
        };
        buffi = λ buffi ends. absurd ends;
        first = boot_first (awaited_of marks) number;
        awaits = λ posting is.
            let waits = h.awaits posting is in
            record {
              mode = waits.mode;
              rests = record { chooses = refl; no_unit = waits.no_unit };
              due = waits.due;
            };
      })

  -- it is told at the end of its period
  boot_told : (periods : List ℕ) (past : Past) (at boots : ℕ) → boots < length periods →
      at ≡ sum (take (boots + 1) periods) → AreBootsTold periods boots terms.program past →
      AreBootsTold periods (boots + 1) terms.program
      (with_mark past (boot_at at (boots + 1)))
  boot_told periods past at boots low end h =
      let standing = booted_standing past at (boots + 1) in
      record {
        times =
            (join past.marks (boot_at at (boots + 1) ∷ [])).boots
            ∙ ap (λ (times : List ℕ). times ++ at ∷ []) h.times
            ∙ ap (λ (time : ℕ). take boots (ends_from 0 periods) ++ time ∷ []) end
            ∙ sym (take_ends boots periods low);
        counted = ap (λ (s : Standing). s.boots) standing ∙ ap (λ (n : ℕ). n + 1) h.counted;
        last = ap (λ (s : Standing). s.last_boot) standing ∙ end;
      }

  module _ (turns : TurnsGoOn) (periods : List ℕ) (d : Device) (some : ArePeriods periods) where
    pub cut_sound : IsSoundAtCut terms code periods d → d.until ≡ 1 →
        IsSound terms code periods (cut periods d)
    cut_sound h one =
        let at = d.clock + 1 in
        let low = boots_low periods d.clock d.boots d.until h.timed one in
        let end = ends_now periods d.clock d.boots d.until h.timed one in
        let later : (standing_of terms.program d.history.marks).last_boot < d.clock + 1 =
        omega (arith, h.boots.last, is_later periods d.clock d.boots d.until h.timed) in
        record {
          fit = boot_fits d.image (reads_of d) d.phase d.history at (d.boots + 1) h.fit;
          mode = h.mode;
          events =
              boot_events (state d.image) d.waiting.events d.history at (d.boots + 1) h.events;
          legal = boot_legal d.history at d.boots h.marks h.follows h.boots.counted later;
          turns =
              boot_turns turns (state d.image) d.phase d.history.marks at (d.boots + 1) h.turns;
          accepted =
              ap (λ (s : Standing). s.accepted) (booted_standing d.history at (d.boots + 1))
              ∙ h.accepted;
          timed = is_cut periods d.clock d.boots d.until some h.timed one;
          boots = boot_told periods d.history at d.boots low end h.boots;
        }

    -- where no posting is lost
    at_cut : IsSoundBy terms code periods (d.clock + 1) d → IsSoundAtCut terms code periods d
    at_cut h = record {
      fit = h.fit;
      mode = h.mode;
      events = h.events;
      marks = record {
        records = h.legal.records;
        legal = h.legal.legal;
        latest = h.legal.latest;
      };
      follows = subst (FollowsBoot terms d) (sym h.legal.booted) tt;
      turns = h.turns;
      accepted = h.accepted;
      timed = h.timed;
      boots = h.boots;
    }

    sound_by : (b : Bool) → (d.until == 1) ≡ b → IsSoundBy terms code periods (d.clock + 1) d →
        IsSound terms code periods (if b then cut periods d else passed d)
    sound_by true now h =
        cut_sound (at_cut h) (let one : d.until ≡ 1 = grind (arith, nat_tests) in one)
    sound_by false other h =
        let more : d.until ≢ 1 = grind (arith, nat_tests) in
        record {
          fit = h.fit;
          mode = h.mode;
          events = h.events;
          legal = h.legal;
          turns = h.turns;
          accepted = h.accepted;
          timed = passes periods d.clock d.boots d.until h.timed more;
          boots = h.boots;
        }

    pub sound_ticked : IsSoundBy terms code periods (d.clock + 1) d →
        IsSound terms code periods (ticked periods d)
    sound_ticked h = sound_by (d.until == 1) refl h
