-- The values of words and the texts of variables, one after another.
use Rattle.std.proofs.Common.{◌≡◌, ℕ, suc, ◌+◌, ◌-◌, ◌<◌, ◌≤◌, List, [], ◌∷◌, ◌++◌, length, drop, get_or, refl, sym, ap, ◌∙◌}
use Rattle.std.proofs.Common.{add-one, append_assoc, arith, drop-cons}
use Rattle.std.specs.Prelude.{codes, decimal}
use Rattle.task_syntax.specs.Course.{Store}
use Rattle.task_syntax.specs.declared.program.Var.{Var}
use Rattle.task_syntax.specs.Names.{count_of, word_count}
use Rattle.trace_out.specs.BoardText.{value_texts, variable_text, variable_texts}

-- the first of the words that are left, and the others
values_left : (at left : ℕ) (store : Store) (more after : ℕ) → left ≡ suc more → after ≡ suc at →
    value_texts at left store ≡ (codes " " ++ decimal (store at)) ++ value_texts after more store
values_left at left store more after left_is after_is =
    let rest : List ℕ = value_texts (suc at) more store in
    rw (left_is, after_is) (sym (append_assoc (codes " ") (decimal (store at)) rest))

-- the value of the next word of so many, and those of the words behind it
pub one_value_more : (first count index value : ℕ) (store : Store) →
    index < count → value ≡ store (first + index) →
    value_texts (first + index) (count - index) store
    ≡ (codes " " ++ decimal value) ++ value_texts (first + (index + 1)) (count - (index + 1)) store
one_value_more first count index value store within is =
    rw is (values_left (first + index) (count - index) store (count - (index + 1)) (first + (index + 1)) (omega arith) (omega arith))

-- behind the last word there are no values
pub no_value_more : (first count index : ℕ) (store : Store) → count ≤ index → value_texts (first + index) (count - index) store ≡ []
no_value_more first count index store over =
    let none : count - index ≡ 0 = omega (arith, over) in
    rw none refl

-- the text of the next variable of these, and those of the variables behind it
pub one_variable_more : (vars : List Var) (index first count : ℕ) (store : Store) (var : Var) → index < length vars → var ≡ get_or vars index var
    → count ≡ count_of var.length
    → variable_texts first (drop index vars) store ≡ variable_text first var store ++ variable_texts (first + count) (drop (index + 1) vars) store
one_variable_more vars index first count store var within is count_is =
    rw (add-one index, count_is)
    (ap (λ (left : List Var). variable_texts first left store) (drop-cons vars index var within ∙ ap (λ (item : Var). item ∷ drop (suc index) vars) (sym is)))

-- and its words
pub one_variables_words : (vars : List Var) (index count : ℕ) (var : Var) → index < length vars → var ≡ get_or vars index var → count ≡ count_of var.length
    → word_count (drop index vars) ≡ count + word_count (drop (index + 1) vars)
one_variables_words vars index count var within is count_is =
    rw (add-one index, count_is)
    (ap word_count (drop-cons vars index var within ∙ ap (λ (item : Var). item ∷ drop (suc index) vars) (sym is)))
