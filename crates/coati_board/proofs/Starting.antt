-- A board before its first step.
use Rattle.std.proofs.Common.{◌≡◌, ℕ, zero, suc, ◌+◌, ◌<◌, ◌≤◌, List, [], length, refl, sym, ap, subst, arith}
use Rattle.coati_word.specs.declared.mode.Mode.{Mode}
use Rattle.task_syntax.specs.declared.program.Program.{Program}
use Rattle.task_check.specs.Accepted.{IsAccepted}
use Rattle.task_check.specs.Sizes.{HasSizes}
use Rattle.coati_word.specs.declared.reading.Reading.{Reading}
use Rattle.serial_log.specs.declared.mark.Mark.{Mark}
use Rattle.serial_log.specs.declared.script.Posting.{Posting}
use Rattle.serial_log.specs.declared.script.Script.{Script}
use Rattle.coati_device.specs.declared.device.Device.{Device}
use Rattle.coati_device.specs.Cursors.{AreCursors, HasRaised, cursor_of, first_cursor}
use Rattle.coati_device.specs.Laws.{FreshDevicesAreSound, IsFresh}
use Rattle.coati_device.specs.Waits.{count_all}
use Rattle.device_pace.specs.Laws.{FreshDevicesArePaced}
use Rattle.coati_device.proofs.CursorMoves.{counts_all, none_skipped, skipped_few, skips_none}
use Rattle.coati_board.specs.Board.{IsBoard, terms_of}
use Rattle.coati_board.specs.Cursors.{first_cursors}
use Rattle.coati_board.specs.Served.{IsScript}

-- each device has raised none of its postings
raised_none : (postings : List Posting) (device : ℕ) →
    HasRaised postings [] device (first_cursor postings device)
raised_none postings device = record {
  parts = sym (skips_none device postings);
  within = skipped_few device postings;
  there = none_skipped device postings;
  done = refl;
  left = sym (counts_all device postings);
}

first_at : (postings : List Posting) (device : ℕ) → device < 8 →
    cursor_of (first_cursors postings) device ≡ first_cursor postings device
first_at postings zero low = refl
first_at postings (suc zero) low = refl
first_at postings (suc (suc zero)) low = refl
first_at postings (suc (suc (suc zero))) low = refl
first_at postings (suc (suc (suc (suc zero)))) low = refl
first_at postings (suc (suc (suc (suc (suc zero))))) low = refl
first_at postings (suc (suc (suc (suc (suc (suc zero)))))) low = refl
first_at postings (suc (suc (suc (suc (suc (suc (suc zero))))))) low = refl
first_at postings (suc (suc (suc (suc (suc (suc (suc (suc more)))))))) low = absurd (omega arith)

are_first : (postings : List Posting) → AreCursors postings [] (first_cursors postings)
are_first postings = record {
  eight = refl;
  each = λ device low.
      subst (HasRaised postings [] device) (sym (first_at postings device low))
      (raised_none postings device);
}

-- it is sound
pub opened_board : (program : Program) (mode : Mode) (script : Script) (d : Device) →
    IsAccepted program → HasSizes program → IsScript program script →
    IsFresh program mode script.power d → d.cursors ≡ first_cursors script.postings → d.spare ≡ 0 →
    length script.power + 1 ≤ d.history.mark_room → FreshDevicesAreSound →
    FreshDevicesArePaced → IsBoard program mode script d
opened_board program mode script d accepted sizes scripted fresh cursors no_spare enough law paces =
    let clock = fresh.clock in
    let steps = fresh.steps in
    let boots = fresh.boots in
    let readings : length d.history.readings ≡ 0 = ap (length {A = Reading}) fresh.readings in
    let attempt : length d.attempt.items ≡ 0 = ap (length {A = Reading}) fresh.attempt in
    let unit : length d.unit.items ≡ 0 = ap (length {A = Reading}) fresh.unit in
    let events : count_all d.waiting.events ≡ 0 = ap count_all fresh.events in
    let made : length d.waiting.made ≡ 0 = ap (length {A = Reading}) fresh.made in
    let finished = fresh.finished in
    let counted = fresh.accepted in record {
      accepted = accepted;
      sizes = sizes;
      scripted = scripted;
      sound = law (terms_of program mode) script.power d scripted.periods sizes fresh;
      paced = paces (terms_of program mode) script.power d scripted.periods sizes fresh;
      cursors =
          subst (AreCursors script.postings d.history.marks) (sym cursors)
          (subst (λ (marks : List Mark). AreCursors script.postings marks
          (first_cursors script.postings))
          (sym fresh.marks) (are_first script.postings));
      steps = omega arith;
      counted = omega arith;
      finished = omega arith;
      limit = omega arith;
      time = omega arith;
      few = omega arith;
      room =
          λ open_. record {
            marks = omega arith;
            attempt = omega arith;
            unit = omega arith;
            waiting = omega arith;
            places = omega arith;
            records = omega arith;
            few = omega arith;
          };
    }
