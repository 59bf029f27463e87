use Rattle.std.proofs.Common.{sym, subst, ◌≡◌}
use Rattle.task_check.specs.Measures.{IsFirstLeastOf, first_least, too_long, too_long_places}
use Rattle.task_check.proofs.BodyParts.{of_bodies}
use Rattle.task_check.proofs.SizeParts.{sizes_join, IsFirstLeastOf_first_least}
use Rattle.task_check.proofs.rules.measures.first_too_long.Goals as goal

pub returns : goal.returns
returns c =
    let program = c.args.program.now in
    let found : c.nearer.result ≡ first_least (too_long_places program) =
    rw c.nearer.ensures (rw c.too_long_units-tasks.ensures (rw c.too_long_events.ensures (rw c.as_slice.ensures (rw c.as_slice-2.ensures (sym (of_bodies (too_long program) _ _ sizes_join program)))))) in
    subst (IsFirstLeastOf (too_long_places program)) (sym found) (IsFirstLeastOf_first_least (too_long_places program))
