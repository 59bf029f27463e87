use Rattle.std.proofs.Common.{ℕ, List, length, sym, ap, ◌∙◌, subst}
use Rattle.coati_word.specs.declared.mode.Mode.{Mode}
use Rattle.coati_replay.specs.Conditions.{terms_of}
use Rattle.serial_log.specs.declared.mark.Mark.{Mark}
use Rattle.serial_log.specs.SerialRun.{stand_of}
use Rattle.serial_log.specs.Standing.{rest_of}
use Rattle.trace_out.specs.BoardText.{history_text}
use Rattle.trace_out.specs.Printed.{PrintedText}
use Rattle.trace_out.specs.ShownRun.{shown_of}
use Rattle.coati_top.proofs.laws.runs_replay_serially.Goals as goal

pub returns : goal.returns
returns c mode first input run has =
    let program = run.program in
    let past = run.device.history in
    let before = has.made.closed.before in
    let ending = has.made.end in
    let at = run.device.clock in
    let store = (stand_of program past).store in
    let held = length (rest_of program past.marks) in
    let printed = shown_of program mode before past.readings ending store held in
    let range = c.runs_tell_numbers_in_range.ensures mode first run has.asked has.made in
    let says = c.runs_say_what_they_show.ensures program mode before past.readings at ending store held range in
    let text =
    has.text ∙ ap (λ (m : Mode). history_text program m past.marks past.readings store held) has.made.mode_is
    ∙ ap (λ (marks : List Mark). history_text program mode marks past.readings store held) has.made.closed.last in
    record {
      program = program;
      printed = printed;
      says = record { source = has.source; text = subst (λ (t : List ℕ). PrintedText program t printed) (sym text) says };
      serial = c.legal_runs_show_serial_texts.ensures (terms_of program mode) past before at ending has.made.legal
          (record { last = has.made.closed.last; kept = range.kept });
    }
