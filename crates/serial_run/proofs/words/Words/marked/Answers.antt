use Rattle.std.proofs.Common.{◌≡◌, arith}
use Rattle.serial_run.specs.Runs.{marks_of}
use Rattle.serial_run.specs.Touched.{marked_below}
use Rattle.serial_run.proofs.Rising.{tells-below, marks-past}
use Rattle.serial_run.proofs.words.Words.marked.Goals as goal

pub returns : goal.returns
returns c =
    let marks = c.args.marks.now in
    let all : c.loop-word.word ≡ c.args.count = omega arith in
    let told : c.loop-word.items.items ≡ marked_below c.loop-word.word (marks_of marks) = c.loop-word.invariant in
    rw (told, all) (tells-below c.args.count (marks_of marks) (λ word past. marks-past marks word (omega (arith, past, c.requires))))
