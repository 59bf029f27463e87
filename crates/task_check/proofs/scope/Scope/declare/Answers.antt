use Rattle.std.proofs.Common.{◌≡◌, ap, ◌∙◌, map, None, rules, arith}
use Rattle.std.specs.Map.{lookup}
use Rattle.std.specs.Str.{bytes_eq}
use Rattle.std.proofs.lemmas.Grind.{common_steps}
use Rattle.indexmap.specs.IndexMap.{insert_entry}
use Rattle.task_check.specs.Scope.{with_name}
use Rattle.task_check.proofs.ScopeNames.{name_of, inserted}
use Rattle.task_check.proofs.scope.Scope.declare.Goals as goal

pub returns : goal.returns
returns c =
    let entries = c.self.inside.names.entries in
    let key = c.as_slice.result in
    let known : lookup (bytes_eq c.args.name.now) c.args.self.now ≡ None = grind (arith, common_steps) in
    let none : lookup (bytes_eq key.now) (map name_of entries) ≡ None = ap (λ text. lookup (bytes_eq text) (map name_of entries)) c.as_slice.ensures ∙ ap (lookup (bytes_eq c.args.name.now)) c.self.view_is ∙ known in
    let added : c.insert.new.self.entries ≡ insert_entry (λ a b. bytes_eq a.now b.now) entries key c.args.meaning = search rules in
    ap (map name_of) added ∙ inserted entries key c.args.meaning none ∙ ap (λ text. with_name (map name_of entries) text c.args.meaning) c.as_slice.ensures
    ∙ ap (λ scope. with_name scope c.args.name.now c.args.meaning) c.self.view_is
