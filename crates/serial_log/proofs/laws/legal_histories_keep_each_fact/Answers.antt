use Rattle.serial_log.specs.Standing.{opening, after_mark}
use Rattle.serial_log.specs.Postings.{KeepsPostings}
use Rattle.serial_log.specs.Aborts.{KeepsAborts}
use Rattle.serial_log.specs.Boots.{KeepsBoots}
use Rattle.serial_log.specs.Legal.{IsLegalMark}
use Rattle.serial_log.proofs.Walks.{each_so}
use Rattle.serial_log.proofs.SerialRuns.{runs_serially}
use Rattle.serial_log.proofs.laws.legal_histories_keep_each_fact.Goals as goal

pub returns : goal.returns
returns c = λ terms past legal.
    let step = after_mark terms.program in
    let first = opening terms.program in
    let asked = IsLegalMark terms past.readings in
    let serial = runs_serially terms past legal.marks in
    record {
      serial = serial.serial;
      stand = serial.stand;
      postings = record {
        each = each_so step asked (KeepsPostings terms) (λ s mark one. one.postings) first past.marks legal.marks;
        booted = legal.booted;
      };
      aborts = each_so step asked (λ s mark. KeepsAborts terms s mark.kind) (λ s mark one. one.aborts) first past.marks legal.marks;
      boots = each_so step asked (λ s mark. KeepsBoots s mark.at mark.kind) (λ s mark one. one.boots) first past.marks legal.marks;
    }
