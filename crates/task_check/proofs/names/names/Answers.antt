use Rattle.std.proofs.Common.{◌≡◌, sym, subst, ◌∙◌, ap}
use Rattle.task_check.specs.declared.found.Found.{Found}
use Rattle.task_check.specs.Found.{found_among}
use Rattle.task_check.specs.Least.{IsLeastOf}
use Rattle.task_check.specs.Mentions.{globals_part, mentions}
use Rattle.task_check.specs.NameRules.{twice_named_places, unknown_places, wrong_kind_places}
use Rattle.task_check.specs.Walk.{behind}
use Rattle.task_check.proofs.LeastParts.{IsLeastOf_least}
use Rattle.task_check.proofs.Walking.{program-found}
use Rattle.task_check.proofs.names.names.Goals as goal

pub returns-clause-twice_named : goal.returns-clause-twice_named
returns-clause-twice_named c =
    let program = c.args.program.now in
    let found : c.bodies.new.walk.found ≡ found_among (mentions program) =
    program-found program c.globals.new.walk c.bodies.new.walk (c.in_ok-globals.ensures ∙ ap (behind (globals_part program)) c.new-walk.ensures) c.in_ok-bodies.ensures in
    subst (λ (f : Found). IsLeastOf (twice_named_places program) f.twice_named) (sym found) (IsLeastOf_least (twice_named_places program))

pub returns-clause-unknown : goal.returns-clause-unknown
returns-clause-unknown c =
    let program = c.args.program.now in
    let found : c.bodies.new.walk.found ≡ found_among (mentions program) =
    program-found program c.globals.new.walk c.bodies.new.walk (c.in_ok-globals.ensures ∙ ap (behind (globals_part program)) c.new-walk.ensures) c.in_ok-bodies.ensures in
    subst (λ (f : Found). IsLeastOf (unknown_places program) f.unknown) (sym found) (IsLeastOf_least (unknown_places program))

pub returns-clause-wrong_kind : goal.returns-clause-wrong_kind
returns-clause-wrong_kind c =
    let program = c.args.program.now in
    let found : c.bodies.new.walk.found ≡ found_among (mentions program) =
    program-found program c.globals.new.walk c.bodies.new.walk (c.in_ok-globals.ensures ∙ ap (behind (globals_part program)) c.new-walk.ensures) c.in_ok-bodies.ensures in
    subst (λ (f : Found). IsLeastOf (wrong_kind_places program) f.wrong_kind) (sym found) (IsLeastOf_least (wrong_kind_places program))
