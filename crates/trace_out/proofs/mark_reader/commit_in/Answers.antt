use Rattle.std.proofs.Common.{◌≡◌, ◌++◌, ◌≤◌, length, ap, sym, arith, Some}
use Rattle.std.specs.Prelude.{codes}
use Rattle.std.proofs.lemmas.List.{length-append}
use Rattle.trace_out.specs.LineReading.{record_at}
use Rattle.trace_out.specs.Shown.{count_text, unit_text}
use Rattle.trace_out.proofs.UnitReads.{record_at-parts}
use Rattle.trace_out.proofs.mark_reader.commit_in.Goals as goal

pub overflow_cast-reads_len : goal.overflow_cast-reads_len
overflow_cast-reads_len c =
    let committed = c.in-Some.committed in
    let reads = c.in-Some.text.now in
    let here : record_at c.args.checked.now c.args.from c.args.text.now ≡ Some
    (committed, reads) = sym c.in-Some.ensures in
    let at = record_at-parts c.args.checked.now c.args.from c.args.text.now
    (committed, reads) here in
    let few : length c.in-Some-2.readings ≤ length reads =
    rw c.in-Some-2.is at c.in_ok-readings.ensures.few in
    let tail = count_text committed committed.unit ++ (codes " reads" ++ reads) in
    omega (
      arith,
      ap length at.spelled,
      length-append (unit_text c.args.checked.now committed.unit) tail,
      length-append (count_text committed committed.unit) (codes " reads" ++ reads),
      few,
    )

pub returns-in-Some-2-clause-few : goal.returns-in-Some-2-clause-few
returns-in-Some-2-clause-few c =
    let committed = c.in-Some.committed in
    let reads = c.in-Some.text.now in
    let here : record_at c.args.checked.now c.args.from c.args.text.now ≡ Some
    (committed, reads) = sym c.in-Some.ensures in
    let at = record_at-parts c.args.checked.now c.args.from c.args.text.now
    (committed, reads) here in
    let few : length c.in-Some-2.readings ≤ length reads =
    rw c.in-Some-2.is at c.in_ok-readings.ensures.few in
    let tail = count_text committed committed.unit ++ (codes " reads" ++ reads) in
    omega (
      arith,
      ap length at.spelled,
      length-append (unit_text c.args.checked.now committed.unit) tail,
      length-append (count_text committed committed.unit) (codes " reads" ++ reads),
      few,
    )
