-- A raised posting leaves a device paced: behind its answer the need is counted anew.
use Rattle.std.proofs.Common.{◌≡◌, ◌==◌, ℕ, ◌+◌, ◌≤◌, refl, sym, ap, subst, ◌∙◌, arith, List, Bool, true, false, if◌then◌else◌}
use Rattle.serial_log.specs.declared.mark.Mark.{Mark}
use Rattle.serial_log.specs.declared.posted.Answer.{Answer}
use Rattle.serial_log.specs.declared.posted.Answer.TheVariants.{Full}
use Rattle.serial_log.specs.declared.posted.Posted.{Posted}
use Rattle.serial_log.specs.declared.mark.MarkKind.TheVariants as kind
use Rattle.serial_log.specs.declared.script.Posting.{Posting}
use Rattle.serial_log.specs.Legal.{IsDoneWith}
use Rattle.serial_log.specs.Postings.{Terms}
use Rattle.serial_log.specs.Standing.{standing_of}
use Rattle.codegen.specs.Bodies.{program_code}
use Rattle.word_code.specs.Code.{Bodies}
use Rattle.coati_device.specs.declared.device.Device.{Device}
use Rattle.coati_device.specs.declared.hand.Hand.{Hand}
use Rattle.coati_device.specs.declared.hand.Hand.TheVariants.{Over}
use Rattle.coati_device.specs.Cursors.{answered, cursor_of, next_posting}
use Rattle.coati_device.specs.Laws.{Fits}
use Rattle.coati_device.specs.Raises.{Handles, IsHandStep, Raises, Ran, first_hand}
use Rattle.coati_device.specs.Raises.Handles.{takes, loses}
use Rattle.coati_device.specs.Raises.IsHandStep.{tops, fills, fills_last, begins_bottom, bottoms, accepts}
use Rattle.coati_device.specs.Raises.Raises.{fulls, handles}
use Rattle.coati_device.specs.Raises.Ran.{begins, goes_on}
use Rattle.coati_device.specs.Ticks.{cut, passed}
use Rattle.coati_pace.specs.Acts.{IsIdle}
use Rattle.coati_pace.specs.Effort.{bound, shape_of}
use Rattle.coati_pace.specs.Need.{need}
use Rattle.coati_pace.specs.Pace.{GoesOn, IsOnPace, Pace, marked}
use Rattle.coati_pace.specs.Pace.GoesOn.{answers, boots}
use Rattle.coati_pace.specs.Running.{pace_of}
use Rattle.coati_pace.specs.Running.{IsAct}
use Rattle.coati_pace.specs.Running.IsAct.{refuses}
use Rattle.coati_pace.proofs.Bounds.{bounded}
use Rattle.coati_pace.proofs.Paces.{paces_go_on}
use Rattle.device_pace.specs.Effort.{effort_of}
use Rattle.device_pace.specs.Running.{IsPaced, running_of}
use Rattle.device_pace.proofs.Ranges.{in_range}
use Rattle.device_pace.proofs.Standing.{stands_for}
use Rattle.device_pace.proofs.PacedSteps.{paced_on}

-- where a device needs nothing, its history shows that nothing is left to do
pub done_with : (terms : Terms) (d : Device) → Fits terms.program d →
    need (shape_of terms.program) terms.mode (effort_of d) ≡ 0 →
    IsDoneWith (standing_of terms.program d.history.marks)
done_with terms d fits none =
    let shape = shape_of terms.program in
    let idle : IsIdle (effort_of d) =
    (bounded shape terms.mode (effort_of d) (in_range terms.program d fits)).idle.0 none in
    let stands = stands_for terms.program d fits in
    record { place = stands.place idle.place; rest = stands.held idle.held }

-- time passes in a handler, and no mark is told
record Passes (old new : Device) : Type 0 where
  clock : old.clock ≤ new.clock
  marks : new.history.marks ≡ old.history.marks

-- a step of a handler, before its time
record Same (old new : Device) : Type 0 where
  clock : new.clock ≡ old.clock
  marks : new.history.marks ≡ old.history.marks

not_changed : (d : Device) → Same d d
not_changed d = record { clock = refl; marks = refl }

hand_step : (code : Bodies) (event : ℕ) (hand next : Hand) (old new : Device) →
    IsHandStep code event hand old next new → Same old new
hand_step code event hand next old new step = elim step [
  | tops before after words changed turn top run is to ↦ rw is (not_changed old)
  | fills message part image fill last wrote is to ↦ rw is (record { clock = refl; marks = refl })
  | fills_last message part image fill last split wrote is to ↦
      rw is (record { clock = refl; marks = refl })
  | begins_bottom message part image cpu fill last buffi wrote start is to ↦
      rw is (record { clock = refl; marks = refl })
  | bottoms before after image turn bottom run is to ↦
      rw is (record { clock = refl; marks = refl })
  | accepts image accept wrote is to ↦ rw is (record { clock = refl; marks = refl })
]

passes_on : (start d mid : Device) → Passes start d → Same d mid → Passes start mid
passes_on start d mid so_far step = record {
  clock = let from = so_far.clock in let now = step.clock in omega (arith, from, now);
  marks = step.marks ∙ so_far.marks;
}

module _ (code : Bodies) (event : ℕ) (first : Hand) (start : Device) where
  ran_passes : {hand : Hand} {d : Device} → Ran code event first start hand d → Passes start d
  ran_passes begins = record { clock = omega arith; marks = refl }
  ran_passes (goes_on {hand} {next} {d} {mid} ran step other goes) =
      let more = passes_on start d mid (ran_passes ran) (hand_step code event hand next d mid step)
      in record {
        clock = let from = more.clock in omega (arith, from);
        marks = more.marks;
      }

  handled : (decided : Device) (answer : Answer) →
      Handles code event first start decided answer → Passes start decided
  handled decided answer (takes hand d ran step is) =
      passes_on start d decided (ran_passes ran) (hand_step code event hand Over d decided step)
  handled decided answer (loses hand next d ran step other lost is) =
      passes_on start d decided (ran_passes ran) (hand_step code event hand next d decided step)

-- the posting that a device raises next, as it is answered
abbrev raised_by : List Posting → Device → ℕ → Answer → Posted
raised_by postings old device answer = record {
  device = device;
  index = (cursor_of old.cursors device).done + 1;
  event = (next_posting postings old device).event;
  argument = (next_posting postings old device).argument;
  from = old.clock;
  answer = answer;
}

module _ (terms : Terms) (old : Device) (paced : IsPaced terms old) where
  abbrev most : ℕ
  most = bound (shape_of terms.program)

  abbrev pace_at : Device → Pace
  pace_at d = pace_of (shape_of terms.program) terms.mode (running_of d)

  -- a device that fits goes on by what its history does
  goes_to : (from : Pace) (new : Device) → IsOnPace terms.program most from →
      GoesOn most from (pace_at new) → Fits terms.program new → IsPaced terms new
  goes_to from new ok act fits = record {
    ranges = in_range terms.program new fits;
    pace = paces_go_on terms.program most from (pace_at new) (omega arith) ok act
        (done_with terms new fits);
  }

  needs_few : (new : Device) → Fits terms.program new →
      need (shape_of terms.program) terms.mode (effort_of new) ≤ most
  needs_few new fits =
      (bounded (shape_of terms.program) terms.mode (effort_of new)
      (in_range terms.program new fits)).most

  module _ (posted : Posted) (from_now : posted.from ≡ old.clock) (d : Device)
      (later : old.clock ≤ d.clock)
      (marks : d.history.marks ≡ marked old.history.marks (d.clock + 1) (kind.Posted posted)) where
    -- without a cut
    answered_on : Fits terms.program (passed d) → IsPaced terms (passed d)
    answered_on fits =
        goes_to (pace_at old) (passed d) paced.pace
        (answers posted from_now (omega (arith, later)) (needs_few (passed d) fits) marks) fits

    -- with a cut: nothing is said of what lies between
    abbrev between : Pace
    between = record { clock = d.clock + 1; need = 1; marks = d.history.marks }

    cut_off : (periods : List ℕ) → Fits terms.program (cut periods d) →
        IsPaced terms (cut periods d)
    cut_off periods fits =
        let mid : IsOnPace terms.program most between =
        paces_go_on terms.program most (pace_at old) between (omega arith) paced.pace
        (answers posted from_now (omega (arith, later)) (omega arith) marks)
        (λ none. absurd (omega (arith, none))) in
        goes_to between (cut periods d) mid
        (boots (d.boots + 1) refl (needs_few (cut periods d) fits) refl) fits

    ticked_on : (periods : List ℕ) (b : Bool) →
        Fits terms.program (if b then cut periods d else passed d) →
        IsPaced terms (if b then cut periods d else passed d)
    ticked_on periods true fits = cut_off periods fits
    ticked_on periods false fits = answered_on fits

  pub raise_paces : (periods : List ℕ) (postings : List Posting) (device : ℕ) (new : Device)
      (answer : Answer) → Fits terms.program new →
      Raises terms.program (program_code terms.program) periods postings device old new answer →
      IsPaced terms new
  raise_paces periods postings device new answer fits (fulls full refused is) =
      paced_on terms old new paced
      (subst (λ (d : Device). IsAct (shape_of terms.program) terms.mode (running_of old)
      (running_of d)) (sym is)
      (refuses (raised_by postings old device Full) refl refl refl refl refl)) fits
  raise_paces periods postings device new answer fits
      (handles cpu decided room start came is) =
      let posting = next_posting postings old device in
      let d = answered postings device posting old.clock (decided.clock + 1) answer decided in
      let went = handled (program_code terms.program) posting.event
      (first_hand terms.program cpu) old decided answer came in
      subst (IsPaced terms) (sym is)
      (ticked_on (record (raised_by postings old device answer) {
        index = (cursor_of decided.cursors device).done + 1;
      }) refl d went.clock
      (ap (λ (before : List Mark). marked before (decided.clock + 1) (kind.Posted (record
      (raised_by postings old device answer) {
        index = (cursor_of decided.cursors device).done + 1;
      }))) went.marks) periods (d.until == 1)
      (subst (Fits terms.program) is fits))
