use Rattle.serial_log.specs.Standing.{opening}
use Rattle.serial_log.proofs.Kept.{entries_kept, marks_kept}
use Rattle.serial_log.proofs.laws.records_keep_readings.Goals as goal

pub returns-clause-records : goal.returns-clause-records
returns-clause-records c = entries_kept

pub returns-clause-marks : goal.returns-clause-marks
returns-clause-marks c = λ terms all more marks within each. marks_kept terms all more (opening terms.program) marks within each
