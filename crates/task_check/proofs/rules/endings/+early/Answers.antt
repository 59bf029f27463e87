use Rattle.std.proofs.Common.{◌≡◌, ◌∙◌, ◌+◌, ℕ, List, drop, get_or, sym, ap, Bool, arith}
use Rattle.std.specs.Prelude.{Option, ◌&&◌}
use Rattle.task_syntax.specs.declared.statement.Stmt.{Stmt}
use Rattle.task_syntax.specs.declared.statement.Stmt.TheVariants.{If}
use Rattle.task_check.specs.Endings.{early_in, early_in_block, is_last}
use Rattle.task_check.specs.Least.{lesser, least}
use Rattle.task_check.proofs.LeastParts.{lesser_assoc}
use Rattle.task_check.proofs.EndingParts.{least-early_if_else, least-early_drop}
use Rattle.task_check.proofs.rules.endings.+early.Goals as goal

pub early_in-returns-in-Some : goal.early_in-returns-in-Some
early_in-returns-in-Some t c =
    let shape = c.in-If.is ∙ ap (λ (o : Option (List Stmt)). If c.in-If.field-0 c.in-If.block o) c.in-Some.is in
    rw shape (rw c.lesser.ensures (rw c.early_in_block-block.ensures (rw c.early_in_block.ensures (rw c.as_slice.ensures (rw c.as_slice-in-Some.ensures (sym (least-early_if_else c.args.kind c.in-If.field-0 c.in-If.block c.in-Some.other c.args.last)))))))

pub early_in_block-loop-index-preserved : goal.early_in_block-loop-index-preserved
early_in_block-loop-index-preserved t c =
    let kind = c.args.kind in
    let block = c.args.block.now in
    let index = c.loop-index.index in
    let last = c.args.last in
    let found = c.loop-index.found in
    let statement = c.index-block-index.result in
    let rest : Option ℕ = least (early_in_block kind (drop (index + 1) block) last) in
    let last_here : Bool = last && is_last (drop (index + 1) block) in
    let early : c.early_in.result ≡ least (early_in kind (get_or block index statement) last_here) =
    c.early_in.ensures ∙ ap (λ (s : Stmt). least (early_in kind s c.is_last_of_body-last.result)) c.index-block-index.is ∙ ap (λ (b : Bool). least (early_in kind (get_or block index statement) b)) c.is_last_of_body-last.ensures in
    ap (λ (f : Option ℕ). lesser f rest) c.lesser-found.ensures
    ∙ lesser_assoc found c.early_in.result rest
    ∙ ap (λ (e : Option ℕ). lesser found (lesser e rest)) early
    ∙ ap (lesser found) (sym (least-early_drop kind block index statement last (omega arith)))
    ∙ c.loop-index.invariant
