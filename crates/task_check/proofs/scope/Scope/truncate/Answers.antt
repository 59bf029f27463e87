use Rattle.std.proofs.Common.{ap, ◌∙◌, map, take}
use Rattle.task_check.proofs.ScopeNames.{name_of, named_take}
use Rattle.task_check.proofs.scope.Scope.truncate.Goals as goal

pub returns : goal.returns
returns c =
    ap (map name_of) c.truncate.ensures.entries ∙ named_take c.args.count c.self.inside.names.entries
    ∙ ap (take c.args.count) c.self.view_is
