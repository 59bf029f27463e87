-- Names that are found among variables.
use Rattle.std.proofs.Common.{◌≡◌, ℕ, ◌+◌, List, [], ◌∷◌, true, false, refl}
use Rattle.std.specs.Prelude.{is_some, Some, if◌then◌else◌, ◌||◌}
use Rattle.std.specs.List.{list_any}
use Rattle.std.specs.Str.{bytes_eq}
use Rattle.task_syntax.specs.declared.program.Var.{Var}
use Rattle.task_syntax.specs.Names.{words_from, count_of}

pub is_some-words_from : (first : ℕ) (vars : List Var) (name : List ℕ) → is_some (words_from first vars name) ≡ list_any (λ (var : Var). bytes_eq var.name.text name) vars
is_some-words_from first [] name = refl
is_some-words_from first (var ∷ vars) name =
    let rest = is_some-words_from (first + count_of var.length) vars name in
    elim (bytes_eq var.name.text name) as (λ v. is_some (if v then Some (record { first = first; length = var.length }) else words_from (first + count_of var.length) vars name) ≡ (v || list_any (λ (w : Var). bytes_eq w.name.text name) vars)) [
      | true ↦ refl
      | false ↦ rest
    ]
