-- A table of the places of words in a log.
use Rattle.std.proofs.Common.{◌≡◌, ℕ, ◌+◌, ◌<◌, refl, ap, sym, ◌∙◌, add-one, inl, inr, List, length, get_or, Some, None, Option, slice_get, get_or-set_same, get_or-set_other, length-set}
use Rattle.std.proofs.Math.ListN.{replicate, set}
use Rattle.std.proofs.lemmas.Bool.{cases_eq}
use Rattle.std.proofs.lemmas.List.{get_or-replicate, length-replicate}
use Rattle.std.proofs.lemmas.Option.{get_or_from_slice_get, slice_get-get_or}
use Rattle.nv_memory.specs.Logs.{index_of}
use Rattle.nv_memory.proofs.Looks.{test_other, test_same}

pub table_start : (size word : ℕ) (none : Option ℕ) → none ≡ None → word < size → slice_get (replicate size none) word ≡ Some None
table_start size word none is l =
    slice_get-get_or (replicate size none) word None (rw (length-replicate size none) l) ∙ ap Some (get_or-replicate size word none None l ∙ is)

pub table_more : (table : List (Option ℕ)) (num : ℕ → ℕ) (i at word : ℕ) → length table ≡ 256 → at < 256 → at ≡ num i → word < 256
    → slice_get table word ≡ Some (index_of num i word) → slice_get (set table at (Some i)) word ≡ Some (index_of num (i + 1) word)
table_more table num i at word long low is l so_far =
    let size : length (set table at (Some i)) ≡ 256 = length-set table at (Some i) ∙ long in
    slice_get-get_or (set table at (Some i)) word None (rw size l)
    ∙ ap Some (rw add-one (elim (cases_eq word at) [
      | inl q ↦ ap (λ (w : ℕ). get_or (set table at (Some i)) w None) q
          ∙ get_or-set_same table at (Some i) None (rw long low)
          ∙ sym (let same : num i ≡ word = sym is ∙ sym q in rw (test_same (num i) word same) refl)
      | inr n ↦ get_or-set_other table at word (Some i) None n
          ∙ get_or_from_slice_get table word (index_of num i word) None so_far
          ∙ sym (rw (test_other (num i) word (λ e. n (sym (is ∙ e)))) refl)
    ]))
