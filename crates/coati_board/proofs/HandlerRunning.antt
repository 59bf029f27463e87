-- A step of the machine in the bottom half of a handler, and the write that accepts its posting.
use Rattle.std.proofs.Common.{◌≡◌, ◌≢◌, Bool, ℕ, ◌+◌, ◌==◌, List, length, true, false, refl, sym, ap, subst, ◌∙◌, arith}
use Rattle.std.proofs.lemmas.Bool.Decides.{nat_tests}
use Rattle.event_buffer.specs.TurnLaws.{accept_change}
use Rattle.nv_memory.specs.Seats.{Memory}
use Rattle.nv_memory.specs.State.{State, state}
use Rattle.nv_memory.specs.Words.{mode}
use Rattle.nv_memory.proofs.Looks.{test_other, test_same}
use Rattle.word_code.specs.Code.{Bodies}
use Rattle.word_cpu.specs.declared.cpu.Cpu.{Cpu}
use Rattle.word_cpu.specs.declared.turn.Turn.{Turn}
use Rattle.word_cpu.specs.Meaning.{Meaning, Shows}
use Rattle.word_cpu.specs.Turning.{IsStep}
use Rattle.word_cpu.proofs.Shown.{shown_step}
use Rattle.coati_device.specs.declared.device.Device.{Device}
use Rattle.coati_device.specs.declared.hand.Hand.TheVariants.{Accept, Over}
use Rattle.coati_device.specs.HandlerView.{handler_view}
use Rattle.coati_device.specs.Raises.{IsHandStep, is_last_part, waits_held}
use Rattle.coati_device.specs.Raises.IsHandStep.{accepts}
use Rattle.coati_device.specs.TaskView.{HasWritten}
use Rattle.coati_device.specs.Waits.{Waits, begun, waits_after, with_made}
use Rattle.coati_board.specs.Handlers.{is_end}
use Rattle.coati_board.specs.declared.handler_view.HandlerView.{HandlerView}

-- what a handler's view of an image means
abbrev view_meaning : Meaning HandlerView
view_meaning = record {
  words = λ v. handler_view.words v.image.now;
  begun = λ v word value part. handler_view.begun v.image.now word value part;
  loaded = λ old word new. (new.image.ghost_name ≡ old.image.ghost_name)
      × handler_view.loaded old.image.now word new.image.now;
  stored = λ old word value part new is_last. (new.image.ghost_name ≡ old.image.ghost_name)
      × handler_view.stored old.image.now word value part new.image.now is_last;
}

-- it shows the image's memory
view_shows : Shows view_meaning handler_view (λ (view : HandlerView). view.image.now)
view_shows = record {
  words = λ view. refl;
  begun = λ view word value part. (λ is. is, λ is. is);
  loaded = λ old new word is. is.1;
  stored = λ old new word value part is_last is. is.1;
}

-- what a step of the bottom half comes to
abbrev pub HasStepped : Bodies → Cpu → Cpu → Device → Device → Bool → Type 0
HasStepped code before after old new ends =
    (image : Memory) × (turn : Turn)
    × IsStep handler_view code before after old.image image turn
    × (new ≡ record old { image = image; waiting = waits_after old.waiting turn })
    × (ends ≡ is_end turn)

-- a step on the view is one of the handler
pub bottom_stepped : (code : Bodies) (d : Device) (before after : Cpu) (old new : HandlerView)
    (turn seen : Turn) (waits : Waits) (ends : Bool) →
    IsStep view_meaning code before after old new turn → old.image.now ≡ d.image → turn ≡ seen →
    waits ≡ waits_after d.waiting seen → ends ≡ is_end seen →
    HasStepped code before after d (record d { image = new.image.now; waiting = waits }) ends
bottom_stepped code d before after old new turn seen waits ends step image_is turn_is waits_is
    ends_is = (
      new.image.now,
      seen,
      subst (λ (m : Memory). IsStep handler_view code before after m new.image.now seen) image_is
          (subst (λ (t : Turn).
          IsStep handler_view code before after old.image.now new.image.now t) turn_is
          (shown_step view_meaning handler_view (λ (view : HandlerView). view.image.now)
          view_shows before after old new code turn step)),
      rw waits_is refl,
      ends_is,
    )

-- the posting is accepted, in either mode
pub accepted_so : (d : Device) (image : Memory) (waits : Waits) (count : ℕ) →
    HasWritten d.image (accept_change (state d.image)) image → count ≡ d.accepted + 1 →
    waits ≡ waits_held (state d.image) d.waiting →
    (code : Bodies) (event : ℕ) → IsHandStep code event Accept d Over
    (record d { image = image; accepted = count; waiting = waits })
accepted_so d image waits count wrote counted waits_is code event =
    accepts image refl wrote (rw (counted, waits_is) refl) refl

pub held_in_buffi : (d : Device) (waits : Waits) → (mode (state d.image) == 1) ≡ true →
    waits ≡ with_made d.waiting → waits ≡ waits_held (state d.image) d.waiting
held_in_buffi d waits buffi is = rw buffi is

pub none_in_split : (d : Device) → (mode (state d.image) == 1) ≡ false →
    d.waiting ≡ waits_held (state d.image) d.waiting
none_in_split d split = rw split refl

-- which part of a posting it is
pub last_by : (message given : List ℕ) (part : ℕ) → given ≡ message → part ≡ length given + 1 →
    is_last_part message part ≡ true
last_by message given part is same =
    test_same part (length message + 1) (same ∙ ap (λ (list : List ℕ). length list + 1) is)

pub not_last_by : (message given : List ℕ) (part : ℕ) → given ≡ message →
    part ≢ length given + 1 → is_last_part message part ≡ false
not_last_by message given part is other =
    test_other part (length message + 1)
    (λ same. other (same ∙ ap (λ (list : List ℕ). length list + 1) (sym is)))

-- and which mode
pub buffi_by : (s : State) → (mode s == 1) ≡ true → mode s ≡ 1
buffi_by s test = grind (arith, nat_tests)

pub split_by : (s : State) → (mode s == 1) ≡ false → mode s ≢ 1
split_by s test = λ same. grind (arith, nat_tests)

-- behind the last part the bottom half begins
pub begun_behind : (d mid : Device) (waits : Waits) (image : Memory) →
    mid ≡ record d { image = image } → waits ≡ begun mid.waiting →
    record mid { waiting = waits } ≡ record d { image = image; waiting = begun d.waiting }
begun_behind d mid waits image same is = rw (is, same) refl
