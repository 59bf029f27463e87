use Rattle.std.proofs.Common.{ap, ◌∙◌, sym}
use Rattle.std.specs.Map.{lookup}
use Rattle.std.specs.Str.{bytes_eq}
use Rattle.task_check.proofs.ScopeNames.{lookup_named}
use Rattle.task_check.proofs.scope.Scope.meaning_of.Goals as goal

pub returns : goal.returns
returns c =
    let name = c.args.name.now in
    let entries = c.self.inside.names.entries in
    c.copied.ensures ∙ c.get.ensures.value ∙ ap (λ text. lookup (λ key. bytes_eq text key.now) entries) c.as_slice.ensures
    ∙ sym (lookup_named (bytes_eq name) entries) ∙ ap (lookup (bytes_eq name)) c.self.view_is
