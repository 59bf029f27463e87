use Rattle.std.proofs.Common.{length}
use Rattle.serial_log.specs.Standing.{opening, after_mark}
use Rattle.serial_log.specs.Legal.{IsLegalMark}
use Rattle.serial_log.proofs.Records.{records_push}
use Rattle.serial_log.proofs.Walks.{walk_push, each_push}
use Rattle.serial_log.proofs.laws.histories_go_on.Goals as goal

pub returns : goal.returns
returns c = λ terms all marks mark. record {
  standing = walk_push (after_mark terms.program) (opening terms.program) marks mark;
  legal = λ each last. each_push (after_mark terms.program) (IsLegalMark terms all) (opening terms.program) marks mark each last;
  records = λ within last. records_push marks mark (length all) within last;
}
