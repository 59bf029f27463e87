-- Each part stays in its range.
use Rattle.std.proofs.Common.{◌≤◌, arith}
use Rattle.coati_word.specs.declared.mode.Mode.{Mode}
use Rattle.coati_pace.specs.declared.effort.Shape.{Shape}
use Rattle.coati_pace.specs.declared.effort.Effort.{Effort}
use Rattle.coati_pace.specs.Effort.{IsEffort, bound}
use Rattle.coati_pace.specs.Need.{need}
use Rattle.coati_pace.specs.Acts.{IsRestart, IsStep}
use Rattle.coati_pace.specs.Acts.IsStep.{applies, applies_below, cleans, starts, runs, ends, prepares, empties_entry, starts_bottom, runs_bottom, ends_bottom, prepares_event, commits_event, aborts, drops, prepares_drain, prepares_below, drains, drains_below}
use Rattle.coati_pace.specs.Acts.IsRestart.{progresses, boots, accepts, loses}
use Rattle.coati_pace.specs.Laws.{KeepsRanges}
use Rattle.coati_pace.proofs.Bounds.{bounded}

step_keeps : (s : Shape) (m : Mode) (old new : Effort) → IsEffort s old → IsStep s m old new →
    IsEffort s new
step_keeps s m old new ok (applies w f h c o p b n less few was is) =
    let at = rw was at ok in
    rw is record { writes = omega (arith, at.writes, less); held = at.held; stage = few }
step_keeps s m old new ok (applies_below w f h p d b n less was is) =
    let at = rw was at ok in
    rw is record { writes = omega (arith, at.writes, less); held = at.held; stage = tt }
step_keeps s m old new ok (cleans h c l p b n none there less was is) =
    let at = rw was at ok in
    rw is record { writes = at.writes; held = at.held; stage = omega (arith, at.stage, less) }
step_keeps s m old new ok (starts h c l p b none there few was is) =
    let at = rw was at ok in
    rw is record { writes = at.writes; held = at.held; stage = few }
step_keeps s m old new ok (runs h l less p few was is) =
    let at = rw was at ok in
    rw is record { writes = at.writes; held = at.held; stage = omega (arith, at.stage, few) }
step_keeps s m old new ok (ends h l p d b was is) =
    let at = rw was at ok in
    rw is record { writes = at.writes; held = at.held; stage = tt }
step_keeps s m old new ok (prepares h p b none was is) =
    let at = rw was at ok in
    rw is record { writes = at.writes; held = at.held; stage = tt }
step_keeps s m old new ok (empties_entry h c o p mode outside clean was is) =
    let at = rw was at ok in
    rw is record { writes = at.writes; held = at.held; stage = clean }
step_keeps s m old new ok (starts_bottom h c l p mode outside few was is) =
    let at = rw was at ok in
    rw is record { writes = at.writes; held = at.held; stage = few }
step_keeps s m old new ok (runs_bottom h l less p few was is) =
    let at = rw was at ok in
    rw is record { writes = at.writes; held = at.held; stage = omega (arith, at.stage, few) }
step_keeps s m old new ok (ends_bottom h l p b was is) =
    let at = rw was at ok in
    rw is record { writes = at.writes; held = at.held; stage = tt }
step_keeps s m old new ok (prepares_event h p was is) =
    let at = rw was at ok in
    rw is record { writes = at.writes; held = at.held; stage = tt }
step_keeps s m old new ok (commits_event h w c p b mode few clean was is) =
    let at = rw was at ok in
    rw is record { writes = omega (arith, few); held = omega (arith, at.held); stage = clean }
step_keeps s m old new ok (aborts h w c o b n mode few clean was is) =
    let at = rw was at ok in
    rw is record { writes = few; held = at.held; stage = clean }
step_keeps s m old new ok (drops h w c p d b n mode few clean was is) =
    let at = rw was at ok in
    rw is record { writes = few; held = at.held; stage = clean }
step_keeps s m old new ok (prepares_drain h c o p mode clean was is) =
    let at = rw was at ok in
    rw is record { writes = at.writes; held = at.held; stage = clean }
step_keeps s m old new ok (prepares_below h p d mode was is) =
    let at = rw was at ok in
    rw is record { writes = at.writes; held = at.held; stage = tt }
step_keeps s m old new ok (drains h w c o p b mode few clean was is) =
    let at = rw was at ok in
    rw is record { writes = omega (arith, few); held = omega (arith, at.held); stage = clean }
step_keeps s m old new ok (drains_below h w p d b mode few was is) =
    let at = rw was at ok in
    rw is record { writes = omega (arith, few); held = omega (arith, at.held); stage = tt }

restart_keeps : (s : Shape) (m : Mode) (old new : Effort) → IsEffort s old →
    IsRestart s m old new → IsEffort s new
restart_keeps s m old new ok (progresses h w c p q b n none few clean was is) =
    let at = rw was at ok in
    rw is record { writes = few; held = at.held; stage = clean }
restart_keeps s m old new ok (boots c b clean is) =
    rw is record { writes = ok.writes; held = ok.held; stage = clean }
restart_keeps s m old new ok (accepts stage room within is) =
    rw is record { writes = ok.writes; held = room; stage = within }
restart_keeps s m old new ok (loses stage within is) =
    rw is record { writes = ok.writes; held = ok.held; stage = within }

pub acts_keep : (s : Shape) (m : Mode) (old new : Effort) → IsEffort s old →
    KeepsRanges s m old new
acts_keep s m old new ok = record {
  step = step_keeps s m old new ok;
  restart = restart_keeps s m old new ok;
}

pub restarts_within : (s : Shape) (m : Mode) (old new : Effort) → IsEffort s old →
    IsRestart s m old new → need s m new ≤ bound s
restarts_within s m old new ok act = (bounded s m new (restart_keeps s m old new ok act)).most
