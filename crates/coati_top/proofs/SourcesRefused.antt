-- A source at fault is refused by each command that reads one.
use Rattle.std.proofs.Common.{ℕ, List}
use Rattle.coati_word.specs.declared.mode.Mode.{Mode}
use Rattle.coati_top.specs.Refused.{IsUnserved, RefusesReplay, RefusesRun, RefusesSource}
use Rattle.coati_top.specs.declared.refusal.Refusal.TheVariants as refusal
use Rattle.coati_top.specs.declared.refusal.Unserved.{Unserved}
use Rattle.coati_top.specs.declared.refusal.Unserved.TheVariants as unserved

-- it makes no run
pub no_run : (input : List ℕ) (why : Unserved) → IsUnserved (RefusesSource input) why → IsUnserved (RefusesRun input) why
no_run input (unserved.Refused (refusal.Source fault)) cause = cause
no_run input (unserved.Refused other) cause = absurd cause
no_run input unserved.OutOfMemory cause = tt

-- and has no verdict
pub no_verdict : (mode : Mode) (input : List ℕ) (why : Unserved) → IsUnserved (RefusesSource input) why → IsUnserved (RefusesReplay mode input) why
no_verdict mode input (unserved.Refused (refusal.Source fault)) cause = cause
no_verdict mode input (unserved.Refused other) cause = absurd cause
no_verdict mode input unserved.OutOfMemory cause = tt
