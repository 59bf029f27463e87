use Rattle.std.proofs.Common.{◌∙◌, ap, sym, true≢false}
use Rattle.task_cost.specs.declared.limits.Bounds.{Bounds}
use Rattle.coati_replay.specs.Shown.{shown_by}
use Rattle.coati_replay.proofs.Stepping.{behind-head, bound-differs, mode-differs}
use Rattle.coati_replay.proofs.text.verdict_of.Goals as goal

pub returns-then-not-are_same : goal.returns-then-not-are_same
returns-then-not-are_same c =
    mode-differs c.args.checked.now c.args.mode c.args.printed.now (λ same. true≢false (sym (c.are_same.ensures.1 same) ∙ c.if-not-are_same.true))

pub returns-then-printed-bounds : goal.returns-then-printed-bounds
returns-then-printed-bounds c =
    bound-differs c.args.checked.now c.args.mode c.args.printed.now (c.are_same.ensures.0 c.if-not-are_same.false)
    (λ same. c.if-printed-bounds.true (same ∙ sym (ap (λ (bounds : Bounds). bounds.b) c.bounds-bounds.ensures)))

pub lines-requires-clause-come : goal.lines-requires-clause-come
lines-requires-clause-come c =
    behind-head c.args.checked.now c.args.mode c.args.printed.now (shown_by c.in_ok-progress.progress) c.in_ok-progress.ensures.opening (c.are_same.ensures.0 c.if-not-are_same.false)
    (c.if-printed-bounds.false ∙ ap (λ (bounds : Bounds). bounds.b) c.bounds-bounds.ensures)
