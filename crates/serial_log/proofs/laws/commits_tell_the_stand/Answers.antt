use Rattle.std.proofs.Common.{◌≡◌, ◌∙◌, sym, refl}
use Rattle.serial_log.specs.SerialRun.{stand_of}
use Rattle.serial_log.proofs.SerialRuns.{runs_serially}
use Rattle.serial_log.proofs.laws.commits_tell_the_stand.Goals as goal

pub returns : goal.returns
returns c = λ terms one other first second accepted records.
    let same : stand_of terms.program one ≡ stand_of terms.program other = rw (accepted, records) refl in
    sym (runs_serially terms one first.marks).stand ∙ same ∙ (runs_serially terms other second.marks).stand
