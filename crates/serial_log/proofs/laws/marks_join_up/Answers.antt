use Rattle.std.proofs.lemmas.Grind.{flat_map-append}
use Rattle.serial_log.specs.Marks.{entries_by, raised_by, accepted_by, boot_times_by}
use Rattle.serial_log.proofs.laws.marks_join_up.Goals as goal

pub returns : goal.returns
returns c = λ first more. record {
  records = λ all. flat_map-append (λ mark. entries_by mark.kind all) first more;
  raised = flat_map-append (λ mark. raised_by mark.kind) first more;
  accepted = flat_map-append (λ mark. accepted_by mark.kind) first more;
  boots = flat_map-append (λ mark. boot_times_by mark.at mark.kind) first more;
}
