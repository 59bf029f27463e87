use Rattle.std.proofs.Common.{Option, None, ℕ}
use Rattle.serial_log.specs.declared.mark.Mark.{Mark}
use Rattle.serial_log.specs.Standing.{opening, after_mark}
use Rattle.serial_log.specs.Progresses.{awaited_by, IsServedFirst, none_settled, settled_after, ServesSettled, ServesAll}
use Rattle.serial_log.proofs.Walks.{walk_push, each_push}
use Rattle.serial_log.proofs.laws.turns_go_on.Goals as goal

pub returns : goal.returns
returns c = λ program marks mark.
    let step : Option ℕ → Mark → Option ℕ = λ awaited one. awaited_by awaited one.kind in
    record {
      awaited = walk_push step None marks mark;
      aborts = λ each last. each_push step (λ awaited one. IsServedFirst awaited one.kind) None marks mark each last;
      settled = walk_push (settled_after program) (none_settled program) marks mark;
      split = λ each last. each_push (settled_after program) ServesSettled (none_settled program) marks mark each last;
      buffi = λ each last. each_push (after_mark program) ServesAll (opening program) marks mark each last;
    }
