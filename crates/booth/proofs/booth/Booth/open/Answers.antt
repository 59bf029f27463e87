use Rattle.std.proofs.Common.{rules}
use Rattle.booth.specs.Views.{IsCut}
use Rattle.booth.proofs.Keeping.{fresh_is_booth}
use Rattle.booth.proofs.booth.Booth.open.Goals as goal

pub invariant_of-booth : goal.invariant_of-booth
invariant_of-booth g c =
    let r = c.requires in
    let cut : IsCut g.A.Ledger.parts g.F.Ledger.parts g.L.Ledger.parts g.S.Ledger.parts
    g.E.Ledger.parts = search rules in (
      fresh_is_booth _ _ _ c.args.board _ _ _ _ _ r.opened r.room c.open-accepted.ensures.total
          c.open-full.ensures.total c.open-lost.ensures.total c.open-steps.ensures.total
          c.open-ends.ensures.total,
      cut,
    )
