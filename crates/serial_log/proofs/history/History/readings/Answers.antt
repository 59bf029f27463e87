use Rattle.std.proofs.Common.{◌≡◌, ◌≤◌, ◌+◌, length, arith, ap}
use Rattle.std.specs.List.{Any}
use Rattle.serial_log.specs.declared.mark.MarkKind.TheVariants.{Commit}
use Rattle.serial_log.specs.History.{Past}
use Rattle.serial_log.proofs.Records.{record_there}
use Rattle.serial_log.proofs.history.History.readings.Goals as goal

pub slice_bounds-result-end : goal.slice_bounds-result-end
slice_bounds-result-end c =
    let r = c.args.committed.now in
    let same : c.self.inside.marks.items ≡ c.args.self.now.marks = ap (λ (p : Past). p.marks) c.self.view_is in
    let stands : Any (λ mark. mark.kind ≡ Commit r) c.self.inside.marks.items = rw same c.requires in
    let there : r.reads_from + r.reads_len ≤ length c.self.inside.readings.items = record_there c.self.inside.marks.items (length c.self.inside.readings.items) r stands c.self.invariant.records in
    omega (arith, there, c.deref.ensures.len)
