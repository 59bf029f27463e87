use Rattle.coati_top.specs.Divided.{second_part, source_part}
use Rattle.coati_top.proofs.laws.runs_tell_numbers_in_range.Goals as goal

pub returns : goal.returns
returns c mode input run asked made =
    let program = run.program in
    let script = run.script in
    let spelled = asked.source.source in
    let limits = c.scripts_are_within_the_limits.ensures in
    c.runs_tell_numbers_in_range.ensures mode run made.closed.before
    (record {
      start = made.start;
      opened = made.opened;
      end = made.end;
      ran = made.ran;
      limit = made.limit;
      in_turn = made.in_turn;
      legal = made.legal;
      last = made.closed.last;
      only = made.closed.only;
    })
    (record {
      accepted = asked.source.accepted;
      formed = c.spelled_programs_are_well_formed.ensures (source_part input) spelled.tokens program spelled.read spelled.spelled;
      words = c.spelled_programs_are_of_words.ensures (source_part input) spelled.tokens program spelled.read spelled.spelled;
      within = limits.within program (second_part input) script asked.trace;
      script = limits.numbers program (second_part input) script asked.trace;
    })
