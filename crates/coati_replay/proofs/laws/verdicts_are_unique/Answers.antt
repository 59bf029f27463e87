use Rattle.std.proofs.Common.{◌≡◌, refl, ap}
use Rattle.coati_word.specs.declared.mode.Mode.{Mode}
use Rattle.task_syntax.specs.declared.program.Program.{Program}
use Rattle.serial_log.specs.declared.printed.Printed.{Printed}
use Rattle.coati_replay.specs.declared.verdict.Verdict.{Verdict}
use Rattle.coati_replay.specs.declared.verdict.Verdict.TheVariants.{Serial, Differs}
use Rattle.coati_replay.specs.Verdicts.{IsVerdict}
use Rattle.coati_replay.proofs.Coming.{not-both, one-number}
use Rattle.coati_replay.proofs.laws.verdicts_are_unique.Goals as goal

unique : (program : Program) (mode : Mode) (printed : Printed) (one other : Verdict) → IsVerdict program mode printed one → IsVerdict program mode printed other → one ≡ other
unique program mode printed Serial Serial first second = refl
unique program mode printed Serial (Differs number) first second = absurd (not-both program mode printed number first second)
unique program mode printed (Differs number) Serial first second = absurd (not-both program mode printed number second first)
unique program mode printed (Differs one) (Differs other) first second = ap (λ n. Differs n) (one-number program mode printed one other first second)

pub returns : goal.returns
returns c = unique
