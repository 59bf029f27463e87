use Rattle.std.proofs.Common.{◌≡◌}
use Rattle.std.specs.Prelude.{IfOk, Result, Ok, Err}
use Rattle.coati_word.specs.declared.mode.Mode.{Mode}
use Rattle.coati_word.specs.declared.memory.OutOfMemory.{OutOfMemory}
use Rattle.task_syntax.specs.declared.program.Program.{Program}
use Rattle.serial_log.specs.declared.printed.Printed.{Printed}
use Rattle.coati_replay.specs.declared.verdict.Verdict.{Verdict}
use Rattle.coati_replay.specs.declared.verdict.Verdict.TheVariants.{Serial, Differs}
use Rattle.coati_replay.specs.Laws.{VerdictsAreUnique}
use Rattle.coati_replay.specs.Verdicts.{IsVerdict}
use Rattle.coati_replay.proofs.text.replay.Goals as goal

-- a text with this verdict is told no other
told-alone : VerdictsAreUnique → (program : Program) (mode : Mode) (printed : Printed) (one : Verdict) (told : Result Verdict OutOfMemory) → IfOk told (IsVerdict program mode printed) →
    IsVerdict program mode printed one → IfOk told (λ verdict. verdict ≡ one)
told-alone unique program mode printed one (Ok verdict) is one_is = unique program mode printed verdict one is one_is
told-alone unique program mode printed one (Err refused) is one_is = tt

pub returns-clause-serial : goal.returns-clause-serial
returns-clause-serial c = told-alone c.verdicts_are_unique.ensures c.args.checked.now c.args.mode c.args.printed.now Serial c.verdict_of.result c.verdict_of.ensures

pub returns-clause-differs : goal.returns-clause-differs
returns-clause-differs c = λ number. told-alone c.verdicts_are_unique.ensures c.args.checked.now c.args.mode c.args.printed.now (Differs number) c.verdict_of.result c.verdict_of.ensures
