-- What the variables of a program hold at first.
use Rattle.std.proofs.Common.{◌≡◌, ℕ, ◌+◌, ◌-◌, List, [], ◌∷◌, ◌++◌, length, take, refl, ap, ◌∙◌, arith, length-append, add-one, All, Some}
use Rattle.std.specs.Prelude.{flat_map, replicate, slice_get}
use Rattle.std.proofs.Math.Seq.{take-suc}
use Rattle.std.proofs.lemmas.List.{length-replicate}
use Rattle.std.proofs.lemmas.List.Elements.{All-head, All-tail}
use Rattle.std.proofs.lemmas.Option.{get_or_from_slice_get, slice_get_within}
use Rattle.task_check.specs.Sizes.{GivenFits}
use Rattle.task_syntax.specs.declared.program.Var.{Var}
use Rattle.task_syntax.specs.Names.{count_of, first_values, given_values, word_count}

first_count : (var : Var) → GivenFits var → length (first_values var) ≡ count_of var.length
first_count var fits =
    let given = given_values var.init in
    let rest = count_of var.length - length given in
    omega (arith, length-append given (replicate rest 0), length-replicate {A = ℕ} rest 0)

-- each variable word has a value
pub opening_count : (vars : List Var) → All GivenFits vars →
    length (flat_map first_values vars) ≡ word_count vars
opening_count [] fit = refl
opening_count (var ∷ vars) fit =
    omega (
      arith,
      length-append (first_values var) (flat_map first_values vars),
      first_count var (All-head GivenFits var vars fit),
      opening_count vars (All-tail GivenFits var vars fit),
    )

-- the values of one word more
pub one_more : (values : List ℕ) (i value : ℕ) → slice_get values i ≡ Some value →
    take (i + 1) values ≡ take i values ++ value ∷ []
one_more values i value found =
    rw add-one (take-suc values i value (slice_get_within values i value found)
    ∙ ap (λ (v : ℕ). take i values ++ v ∷ []) (get_or_from_slice_get values i value value found))
