use Rattle.std.proofs.Common.{sym, subst}
use Rattle.std.proofs.lemmas.Result.{err_from_is_err_and}
use Rattle.serial_log.specs.declared.script.Script.{Script}
use Rattle.task_syntax.specs.declared.program.Program.{Program}
use Rattle.coati_top.specs.Answer.{AsksFor}
use Rattle.coati_top.specs.Divided.{second_part}
use Rattle.coati_top.proofs.Scripts.{is_script}
use Rattle.coati_top.proofs.SourcesRefused.{no_run}
use Rattle.coati_top.proofs.served.run_of.Goals as goal

pub run_script-requires-clause-script : goal.run_script-requires-clause-script
run_script-requires-clause-script c =
    let program = c.in_ok-checked.checked in
    let script = c.in_ok-script.script in
    let second = second_part c.args.input.now in
    let trace = c.in_ok-script.ensures.trace in
    let limits = c.scripts_are_within_the_limits.ensures in
    is_script program script (limits.within program second script trace) (limits.numbers program second script trace)

pub run_script-requires-clause-steps : goal.run_script-requires-clause-steps
run_script-requires-clause-steps c =
    (c.scripts_are_within_the_limits.ensures.within c.in_ok-checked.checked (second_part c.args.input.now) c.in_ok-script.script
    c.in_ok-script.ensures.trace).run

pub returns-in_err-checked-clause-unserved : goal.returns-in_err-checked-clause-unserved
returns-in_err-checked-clause-unserved c =
    let p = err_from_is_err_and c.from_residual.result c.from_residual.ensures.1 in
    rw (p.1, p.2) (no_run c.args.input.now c.in_err-checked.field-0.0 c.in_err-checked.ensures.unserved)

pub returns-clause-asked : goal.returns-clause-asked
returns-clause-asked c =
    let input = c.args.input.now in
    let program = c.in_ok-checked.checked in
    let run = c.in_ok-run_script.field-0 in
    let made = c.in_ok-run_script.ensures in
    let asks : AsksFor input program c.in_ok-script.script =
    record { source = c.in_ok-checked.ensures.source; trace = c.in_ok-script.ensures.trace } in
    let same_script : AsksFor input program run.script =
    subst (λ (s : Script). AsksFor input program s) (sym made.script) asks in
    subst (λ (p : Program). AsksFor input p run.script) (sym made.program) same_script
