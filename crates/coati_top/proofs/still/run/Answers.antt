use Rattle.std.proofs.Common.{◌≡◌, ◌∙◌, true, false, sym}
use Rattle.coati_io.specs.Writing.{output_edge}
use Rattle.coati_top.specs.Call.{input_edge}
use Rattle.coati_top.specs.Words.{reads}
use Rattle.coati_top.proofs.Explaining.{ended_answer, ended_too_large, read_nothing, read_whole}
use Rattle.coati_top.proofs.still.run.Goals as goal

pub returns-then-not-reads-clause-ended : goal.returns-then-not-reads-clause-ended
returns-then-not-reads-clause-ended g c =
    let input = input_edge g.S.Source.left g.S.Source.faults c.args.input.now c.args.input.now in
    let does : reads c.args.command ≡ false = sym c.reads.ensures ∙ c.if-not-reads.true in
    ended_answer _ _ _ _ _ (read_nothing c.args.command input does) _ c.answer.ensures

pub returns-in-Ok-clause-ended : goal.returns-in-Ok-clause-ended
returns-in-Ok-clause-ended g c =
    let input = input_edge g.S.Source.left g.S.Source.faults c.args.input.now c.read_all.new.src in
    let does : reads c.args.command ≡ true = sym c.reads.ensures ∙ c.if-not-reads.false in
    ended_answer _ _ _ _ _ (read_whole c.args.command input _ does c.in-Ok.ensures.whole) _ (rw c.deref.ensures.value at c.answer-in-Ok.ensures)

pub returns-in-Err-TooLarge-clause-ended : goal.returns-in-Err-TooLarge-clause-ended
returns-in-Err-TooLarge-clause-ended g c =
    let input = input_edge g.S.Source.left g.S.Source.faults c.args.input.now c.read_all.new.src in
    let output = output_edge g.K.Sink.taken g.K.Sink.faults g.K.Sink.spare c.args.output.now c.deliver.new.output in
    let does : reads c.args.command ≡ true = sym c.reads.ensures ∙ c.if-not-reads.false in
    rw c.without_board-in-Err-TooLarge.ensures.status
    (ended_too_large c.args.command input output c.without_board-in-Err-TooLarge.result.board c.deliver.result does (rw c.in-Err-TooLarge.field-0-is at c.in-Err-TooLarge.ensures.stopped) c.deliver.ensures c.without_board-in-Err-TooLarge.ensures.board)
