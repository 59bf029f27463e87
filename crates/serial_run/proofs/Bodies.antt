-- How a body ends, behind its statements.
use Rattle.std.proofs.Common.{◌≡◌}
use Rattle.std.specs.Prelude.{Option, Some, None, unwrap_or}
use Rattle.coati_word.specs.declared.ending.Ending.{Ending}
use Rattle.coati_word.specs.declared.ending.Ending.TheVariants.{Done}
use Rattle.task_syntax.specs.Expressions.{Locals}
use Rattle.task_syntax.specs.Statements.{ending_of}
use Rattle.serial_run.specs.Moments.{Moment, behind, end_of}
use Rattle.serial_run.specs.Ways.{way_of}
use Rattle.serial_run.proofs.Steps.{behind-ends, end_of-ends}

pub ending-is : (ending : Option Ending) (locals : Locals) (m : Moment) → end_of (ending_of (way_of ending locals)) m ≡ unwrap_or ending Done
ending-is None locals m = end_of-ends Done m
ending-is (Some ending) locals m = end_of-ends ending m

pub moment-is : (ending : Option Ending) (locals : Locals) (m : Moment) → behind (ending_of (way_of ending locals)) m ≡ m
moment-is None locals m = behind-ends Done m
moment-is (Some ending) locals m = behind-ends ending m
