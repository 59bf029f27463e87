-- Records whose readings are there.
use Rattle.std.proofs.Common.{◌≡◌, ℕ, zero, suc, ◌+◌, ◌<◌, ◌≤◌, List, [], ◌∷◌, ◌++◌, length, get_or, subst, arith}
use Rattle.std.specs.List.{Any}
use Rattle.serial_log.specs.declared.mark.Mark.{Mark}
use Rattle.serial_log.specs.declared.mark.MarkKind.{MarkKind}
use Rattle.serial_log.specs.declared.mark.MarkKind.TheVariants.{Boot, Posted, Done, Commit, Abort, End}
use Rattle.serial_log.specs.declared.record.Record.{Record}
use Rattle.serial_log.specs.History.{IsRecordIn, AreRecordsIn}

record_more : (kind : MarkKind) (n m : ℕ) → n ≤ m → IsRecordIn n kind → IsRecordIn m kind
record_more (Boot number) n m le within = tt
record_more (Posted posted) n m le within = tt
record_more (Done task) n m le within = tt
record_more (Commit committed) n m le within = omega arith
record_more (Abort aborted) n m le within = tt
record_more (End end) n m le within = tt

-- more readings lose none
pub records_more : (marks : List Mark) (n m : ℕ) → n ≤ m → AreRecordsIn n marks → AreRecordsIn m marks
records_more [] n m le within = tt
records_more (mark ∷ more) n m le within = (record_more mark.kind n m le within.0, records_more more n m le within.1)

pub records_push : (marks : List Mark) (mark : Mark) (n : ℕ) → AreRecordsIn n marks → IsRecordIn n mark.kind → AreRecordsIn n (marks ++ mark ∷ [])
records_push [] mark n within last = (last, tt)
records_push (first ∷ more) mark n within last = (within.0, records_push more mark n within.1 last)

record_at : (marks : List Mark) (n k : ℕ) (mark : Mark) → k < length marks → get_or marks k mark ≡ mark → AreRecordsIn n marks → IsRecordIn n mark.kind
record_at [] n k mark below is within = absurd (omega arith)
record_at (first ∷ more) n zero mark below is within = subst (λ (m : Mark). IsRecordIn n m.kind) is within.0
record_at (first ∷ more) n (suc k) mark below is within = record_at more n k mark (omega arith) is within.1

-- a record that stands in a Commit mark has its readings there
pub record_there : (marks : List Mark) (n : ℕ) (r : Record) → Any (λ mark. mark.kind ≡ Commit r) marks → AreRecordsIn n marks → r.reads_from + r.reads_len ≤ n
record_there marks n r (k, mark, below, is, commit) within = subst (IsRecordIn n) commit (record_at marks n k mark below is within)
