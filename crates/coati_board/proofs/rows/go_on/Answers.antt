use Rattle.std.proofs.Common.{sym, subst}
use Rattle.word_code.specs.Code.{Bodies}
use Rattle.coati_device.specs.Rows.{IsRow}
use Rattle.coati_board.specs.Ready.{Runs}
use Rattle.coati_board.proofs.HeldPostings.{ended_at_head, few_held}
use Rattle.coati_board.proofs.Machines.{runs_of}
use Rattle.coati_board.proofs.rows.go_on.Goals as goal

pub run-requires-clause-runs : goal.run-requires-clause-runs
run-requires-clause-runs c =
    let d = c.args.device.now in
    subst (λ (code : Bodies). Runs code d) (sym c.requires.code)
    (runs_of c.args.checked.now d c.in-Run.field-0 c.in-Run.field-1 c.requires.ready.fit
    c.in-Run.is
    (c.rows_keep_fit.ensures.runs c.args.checked.now d c.in-Run.field-0 c.in-Run.field-1
    c.requires.ready.accepted c.requires.ready.fit c.in-Run.is))

pub end_bottom_half-requires-clause-ends : goal.end_bottom_half-requires-clause-ends
end_bottom_half-requires-clause-ends c =
    let at =
    ended_at_head c.args.checked.now c.args.device.now c.requires.ready.fit c.in-EndBottom.is in
    record { phase = c.in-EndBottom.is; clear = c.requires.clear; events = at }

pub end_bottom_half-requires-clause-few : goal.end_bottom_half-requires-clause-few
end_bottom_half-requires-clause-few c =
    few_held c.args.checked.now c.args.device.now c.requires.ready.fit c.requires.ready.numbered

pub returns-in-EndBottom : goal.returns-in-EndBottom
returns-in-EndBottom c = c.end_bottom_half.ensures c.args.checked.now _

pub returns-in-Run : goal.returns-in-Run
returns-in-Run c =
    subst (λ (code : Bodies). IsRow c.args.checked.now code c.args.device.now c.run.new.device)
    c.requires.code (c.run.ensures c.args.checked.now)

pub drain-requires-clause-few : goal.drain-requires-clause-few
drain-requires-clause-few c =
    few_held c.args.checked.now c.args.device.now c.requires.ready.fit c.requires.ready.numbered

pub drain-requires-in-End-clause-few : goal.drain-requires-in-End-clause-few
drain-requires-in-End-clause-few c =
    few_held c.args.checked.now c.args.device.now c.requires.ready.fit c.requires.ready.numbered

pub returns-in-Choose : goal.returns-in-Choose
returns-in-Choose c = c.drain.ensures _

pub returns-in-End : goal.returns-in-End
returns-in-End c = c.drain-in-End.ensures _

pub returns-in-End-2 : goal.returns-in-End-2
returns-in-End-2 c = c.end.ensures _
