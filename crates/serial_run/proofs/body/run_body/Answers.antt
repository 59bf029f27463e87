use Rattle.serial_run.specs.Locals.{locals_of}
use Rattle.serial_run.specs.Runs.{moment_of}
use Rattle.serial_run.proofs.Steps.{behind-chain, end_of-chain}
use Rattle.serial_run.proofs.Bodies.{ending-is, moment-is}
use Rattle.serial_run.proofs.body.run_body.Goals as goal

pub returns-clause-ending : goal.returns-clause-ending
returns-clause-ending c =
    rw (end_of-chain, ← c.in_ok-ending.ensures.way, ← c.in_ok-ending.ensures.moment, ending-is c.in_ok-ending.ending (locals_of c.statements.new.locals) (moment_of c.statements.new.run)) c.unwrap_or.ensures

pub returns-clause-moment : goal.returns-clause-moment
returns-clause-moment c =
    rw (behind-chain, ← c.in_ok-ending.ensures.way, moment-is c.in_ok-ending.ending (locals_of c.statements.new.locals)) c.in_ok-ending.ensures.moment
