-- The words of variables, counted up to the greatest u32.
use Rattle.std.proofs.Common.{◌≡◌, ℕ, ◌+◌, ◌<◌, ◌≤◌, List, ◌∷◌, ◌++◌, length, get_or, drop, ap, sym, ◌∙◌, arith}
use Rattle.std.specs.Prelude.{Option, min, nat_le}
use Rattle.std.proofs.lemmas.List.{drop_more, drop_all}
use Rattle.task_syntax.specs.Names.{count_of}
use Rattle.task_syntax.specs.declared.program.Var.{Var}
use Rattle.task_check.specs.Counts.{words_above}
use Rattle.task_check.specs.Least.{least, lesser, unless}
use Rattle.task_check.proofs.LeastParts.{least-append, lesser_assoc, lesser-none}

-- what is found so far, joined with what the rest has behind so many words, is what the whole has
pub record FoundSoFar (vars rest : List Var) (words : ℕ) (found : Option ℕ) : Type 0 where
  pub before : ℕ
  pub counted : words ≡ min before 4294967295
  pub whole : lesser found (least (words_above before rest)) ≡ least (words_above 0 vars)

-- a sum that stands still is at most 256 where the whole one is
within-words : (before count : ℕ) → nat_le (min (min before 4294967295 + count) 4294967295) 256 ≡ nat_le (before + count) 256
within-words before count = grind arith

words-from : (vars : List Var) (i before : ℕ) (var : Var) → i < length vars → var ≡ get_or vars i var
    → words_above before (drop i vars) ≡ unless (nat_le (before + count_of var.length) 256) var.name.at ++ words_above (before + count_of var.length) (drop (i + 1) vars)
words-from vars i before var within is = ap (words_above before) (drop_more vars i var within ∙ ap (λ first. first ∷ drop (i + 1) vars) (sym is))

pub found-from : (vars : List Var) (i : ℕ) (var : Var) (words next : ℕ) (found now : Option ℕ) → i < length vars → var ≡ get_or vars i var → FoundSoFar vars (drop i vars) words found
    → next ≡ min (words + count_of var.length) 4294967295 → now ≡ lesser found (least (unless (nat_le next 256) var.name.at)) → FoundSoFar vars (drop (i + 1) vars) next now
found-from vars i var words next found now within is so_far next_is now_is =
    let before = so_far.before in
    let count = count_of var.length in
    let rest = words_above (before + count) (drop (i + 1) vars) in
    let here = unless (nat_le (before + count) 256) var.name.at in
    let test : nat_le next 256 ≡ nat_le (before + count) 256 =
    ap (λ w. nat_le w 256) next_is ∙ ap (λ w. nat_le (min (w + count) 4294967295) 256) so_far.counted ∙ within-words before count in
    record {
      before = before + count;
      counted = omega (arith, so_far.counted, next_is);
      whole =
          ap (λ f. lesser f (least rest)) (now_is ∙ ap (λ t. lesser found (least (unless t var.name.at))) test) ∙ lesser_assoc found (least here) (least rest)
          ∙ ap (lesser found) (sym (least-append here rest) ∙ ap least (sym (words-from vars i before var within is))) ∙ so_far.whole;
    }

pub found-past : (vars : List Var) (i words : ℕ) (found : Option ℕ) → length vars ≤ i → FoundSoFar vars (drop i vars) words found → found ≡ least (words_above 0 vars)
found-past vars i words found past so_far = sym (lesser-none found) ∙ ap (λ rest. lesser found (least (words_above so_far.before rest))) (sym (drop_all i vars past)) ∙ so_far.whole
